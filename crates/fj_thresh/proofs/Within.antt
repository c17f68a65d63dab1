-- What the tests of an ideal tell: that it is proper, and that f is in it.
use Rattle.std.proofs.Common.{◌≡◌, ◌↔◌, Bool, true, false, true≢false, IsTrue, List, Option, None, Some, sym, ◌∙◌}
use Rattle.std.specs.Option.{MatchOption, is_some}
use Rattle.fj_coeff.specs.Field.{Field}
use Rattle.fj_theory.specs.Exponents.{origin}
use Rattle.fj_theory.specs.Ideal.{Member}
use Rattle.fj_theory.specs.Polynomial.{Polynomial, term}
use Rattle.fj_thresh.specs.Answer.{IsProperWith}

-- Where something is found, it is there.
found_there : (M : Type 0) {X : Type 0} (R : X → Type 0) (o : Option X) → MatchOption o (M → ⊥) (λ x. M × R x) → is_some o ≡ true → M
found_there M R None h some = absurd (true≢false (sym some))
found_there M R (Some x) h some = h.0

pub within_told : (F : Field) (J : List Polynomial) (f : Polynomial) (unit : Bool) → IsTrue unit ↔ Member F J (term 1 origin) → unit ≡ false
    → {X : Type 0} (R : X → Type 0) (found : Option X) → MatchOption found (Member F J f → ⊥) (λ x. Member F J f × R x) → is_some found ≡ true → IsProperWith F J f
within_told F J f unit test fails R found h some = record {
  proper = λ one. true≢false (sym (test.1 one) ∙ fails);
  member = found_there (Member F J f) R found h some;
}
