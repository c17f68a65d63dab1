use Rattle.std.proofs.Common.{◌≡◌, ◌↔◌, ◌<◌, ℕ, Bool, true, false, IsTrue, List, length, All, MatchBool, refl, sym, subst, rules, tests}
use Rattle.std.specs.List.{HoldsAt, AllWithin}
use Rattle.std.specs.FinMap.{empty}
use Rattle.std.proofs.lemmas.Iterator.{cases_from_all, YieldsList-from_slice}
use Rattle.std.proofs.lemmas.List.Elements.{All-from_all_within}
use Rattle.fj_theory.specs.Polynomial.{Polynomial}
use Rattle.fj_theory.specs.Evaluation.{value}
use Rattle.fj_ideal.proofs.ReducedBasis.{zeros_of_members}
use Rattle.fj_ideal.proofs.ideal.Ideal.vanishes_at.Goals as goal

-- the two answers of the test of all, as a proposition
as_zero : {A : Type 0} (P : A → Type 0) (none : A) (r : Bool) (M : List A) → MatchBool r (AllWithin P M 0 (length M)) ((k : ℕ) × (k < length M) × HoldsAt (λ g. P g → ⊥) M k)
    → IsTrue r ↔ All P M
as_zero P none true M all = (λ t. All-from_all_within P M all, λ a. refl)
as_zero P none false M found = (λ t. cc, λ a. absurd (found.2 none (a found.0 none found.1)))

pub returns-clause-members : goal.returns-clause-members
returns-clause-members g c =
    let F = g.K.Coeff.field in
    let xs = c.members.result.now in
    let IsZero : Polynomial → Type 0 = λ h. value F h c.args.at.now ≡ 0 in
    let found = cases_from_all _ _ _ IsZero (λ h. IsZero h → ⊥) c.all.ensures.ran (YieldsList-from_slice xs cc) (λ x q k. search (rules, tests)) (λ x q k. search (rules, tests)) in
    let law = as_zero IsZero empty c.all.result xs found in
    (λ t. record { each = subst (All IsZero) c.members.ensures.value (law.0 t) }, λ z. law.1 (subst (All IsZero) (sym c.members.ensures.value) z.each))

pub returns-clause-given : goal.returns-clause-given
returns-clause-given g c =
    let law = zeros_of_members g.met.K.Coeff.lawful c.members.ensures.ideal c.len.ensures.point in
    let zero = returns-clause-members g c in
    (λ t. law.0 (zero.0 t), λ z. zero.1 (law.1 z))
