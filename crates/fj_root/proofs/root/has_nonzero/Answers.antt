use Rattle.std.proofs.Common.{◌≡◌, ◌≢◌, ◌<◌, ℕ, Bool, true, false, List, length, get_or, All, Any, MatchBool, rules, tests}
use Rattle.std.specs.List.{HoldsAt, AllWithin}
use Rattle.std.specs.FinMap.{empty}
use Rattle.std.proofs.lemmas.Iterator.{cases_from_any, YieldsList-from_slice}
use Rattle.std.proofs.lemmas.List.{get_or_default}
use Rattle.std.proofs.lemmas.List.Elements.{All-from_all_within}
use Rattle.fj_coeff.specs.Field.{Field}
use Rattle.fj_theory.specs.Polynomial.{Polynomial, IsPolynomial}
use Rattle.fj_root.proofs.root.has_nonzero.Goals as goal

-- the two answers of the search, as the clause has them
as_clause : (F : Field) (r : Bool) (M : List Polynomial) → MatchBool r ((k : ℕ) × (k < length M) × HoldsAt (λ g. IsPolynomial F g × (g ≢ empty)) M k) (AllWithin (λ g. g ≡ empty) M 0 (length M))
    → MatchBool r (Any (λ g. IsPolynomial F g × (g ≢ empty)) M) (All (λ g. g ≡ empty) M)
as_clause F true M found = let x = get_or M found.0 empty in (found.0, x, found.1, get_or_default M found.0 x empty found.1, found.2 empty)
as_clause F false M none = All-from_all_within (λ g. g ≡ empty) M none

pub returns : goal.returns
returns g c =
    let xs = c.args.list.now in
    let F = g.K.Coeff.field in
    let found = cases_from_any _ _ _ (λ (h : Polynomial). IsPolynomial F h × (h ≢ empty)) (λ (h : Polynomial). h ≡ empty) c.any.ensures.ran (YieldsList-from_slice xs cc) (λ x q k. search (rules, tests)) (λ x q k. search (rules, tests)) in
    as_clause F c.any.result xs found
