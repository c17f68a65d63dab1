use Rattle.std.proofs.Common.{◌≡◌, ◌<◌, ℕ, Bool, true, false, IsTrue, List, length, get_or, Any, Some, MatchBool, rules, tests}
use Rattle.std.specs.List.{HoldsAt, AllWithin}
use Rattle.std.specs.FinMap.{empty}
use Rattle.std.proofs.lemmas.Iterator.{cases_from_any, YieldsList-from_slice}
use Rattle.std.proofs.lemmas.List.{get_or_default}
use Rattle.fj_theory.specs.Polynomial.{Polynomial, degree}
use Rattle.fj_fedder.proofs.purity.has_constant.Goals as goal

-- what the search found, as the clause has it
found_as : (r : Bool) (M : List Polynomial) → MatchBool r ((k : ℕ) × (k < length M) × HoldsAt (λ g. degree g ≡ Some 0) M k) (AllWithin (λ g. Unit {0}) M 0 (length M)) → IsTrue r → Any (λ g. degree g ≡ Some 0) M
found_as true M found t = let x = get_or M found.0 empty in (found.0, x, found.1, get_or_default M found.0 x empty found.1, found.2 empty)
found_as false M none t = cc

pub returns : goal.returns
returns g c =
    let found = cases_from_any _ _ _ (λ (h : Polynomial). degree h ≡ Some 0) (λ (h : Polynomial). Unit {0}) c.any.ensures.ran (YieldsList-from_slice c.args.list.now cc) (λ x q k. search (rules, tests)) (λ x q k. search (rules, tests)) in
    found_as c.any.result c.args.list.now found
