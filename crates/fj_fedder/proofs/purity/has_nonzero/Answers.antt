use Rattle.std.proofs.Common.{◌≡◌, ◌≢◌, ◌<◌, ◌↔◌, ℕ, Bool, true, false, IsTrue, List, length, get_or, All, Any, MatchBool, refl, subst, rules, tests}
use Rattle.std.specs.List.{HoldsAt, AllWithin}
use Rattle.std.specs.FinMap.{empty}
use Rattle.std.proofs.lemmas.Iterator.{cases_from_any, YieldsList-from_slice}
use Rattle.std.proofs.lemmas.List.{get_or_default}
use Rattle.std.proofs.lemmas.List.Elements.{All-from_all_within}
use Rattle.fj_theory.specs.Evaluation.{value}
use Rattle.fj_theory.specs.Polynomial.{Polynomial}
use Rattle.fj_fedder.proofs.purity.has_nonzero.Goals as goal

none_nonzero : (V : Polynomial → ℕ) (M : List Polynomial) → All (λ g. V g ≡ 0) M → Any (λ g. V g ≢ 0) M → ⊥
none_nonzero V M all some = some.4 (subst (λ h. V h ≡ 0) some.3 (all some.0 some.1 some.2))

-- the two answers of the search, as the clause has them
as_clause : (V : Polynomial → ℕ) (r : Bool) (M : List Polynomial) → MatchBool r ((k : ℕ) × (k < length M) × HoldsAt (λ g. V g ≢ 0) M k) (AllWithin (λ g. V g ≡ 0) M 0 (length M))
    → IsTrue r ↔ Any (λ g. V g ≢ 0) M
as_clause V true M found = (λ t. let x = get_or M found.0 empty in (found.0, x, found.1, get_or_default M found.0 x empty found.1, found.2 empty), λ some. refl)
as_clause V false M none = (λ t. cc, λ some. absurd (none_nonzero V M (All-from_all_within (λ g. V g ≡ 0) M none) some))

pub returns : goal.returns
returns g c =
    let xs = c.args.list.now in
    let V : Polynomial → ℕ = λ h. value g.K.Coeff.field h c.args.at.now in
    let found = cases_from_any _ _ _ (λ (h : Polynomial). V h ≢ 0) (λ (h : Polynomial). V h ≡ 0) c.any.ensures.ran (YieldsList-from_slice xs cc) (λ x q k. search (rules, tests)) (λ x q k. search (rules, tests)) in
    as_clause V c.any.result xs found
