-- The lead of a polynomial: its parts, and where there is one.
use Rattle.std.proofs.Common.{◌≡◌, ◌≢◌, ℕ, ◌<◌, List, [], ◌∷◌, Some, None, Option, true, is_some, slice_get, unwrap_or, refl, sym, ap, ◌∙◌, subst}
use Rattle.std.specs.Option.{option_map}
use Rattle.std.specs.FinMap.{empty, len-empty}
use Rattle.std.proofs.lemmas.Option.{none-some}
use Rattle.std.proofs.lemmas.List.{nil_from_length}
use Rattle.std.specs.Ordering.{nat_cmp}
use Rattle.std.specs.Cmp.Lexicographic.{slice_cmp}
use Rattle.fj_coeff.specs.Field.{Field}
use Rattle.fj_theory.specs.Exponents.{origin}
use Rattle.fj_theory.specs.MonomialOrder.{IsMonomialOrder}
use Rattle.fj_theory.specs.Polynomial.{Polynomial, IsPolynomial, terms_falling, lead}
use Rattle.fj_theory.specs.Lead.{lead_exponents, lead_coefficient}
use Rattle.fj_theory.proofs.Lead.{lead_coefficient-nonzero}
use Rattle.fj_theory.proofs.Polynomial.{IsPolynomial-empty}
use Rattle.fj_theory.proofs.Terms.{length-terms_falling, from_entries-terms_falling}
use Rattle.fj_poly.proofs.Polynomials.{polynomial_of}

-- The lead as exponents and coefficient.
pub lead-parts : (key : List ℕ → List ℕ) (f : Polynomial) (t : List ℕ × ℕ) → lead key f ≡ Some t → (lead_exponents key f ≡ t.0) × (lead_coefficient key f ≡ t.1)
unfolding lead_exponents lead_coefficient
lead-parts key f t e = (ap (λ o. (unwrap_or {T = List ℕ × ℕ} o (origin, 0)).0) e, ap (λ o. (unwrap_or {T = List ℕ × ℕ} o (origin, 0)).1) e)

pub some_from_map : {A B : Type 0} (f : A → B) (o : Option A) (r : Option B) → option_map f o ≡ r → is_some r ≡ true → is_some o ≡ true
some_from_map f (Some x) r e h = refl
some_from_map f None r e h = absurd (let z = ap is_some e in cc)

-- A polynomial that isn't zero has a lead.
pub lead-some : {F : Field} {key : List ℕ → List ℕ} (O : IsMonomialOrder key) {f : Polynomial} → IsPolynomial F f → f ≢ empty → is_some (lead key f) ≡ true
unfolding lead
lead-some {key = key} O {f} P some = go (terms_falling key f) refl
  where
    go : (ts : List (List ℕ × ℕ)) → terms_falling key f ≡ ts → is_some (slice_get ts 0) ≡ true
    go [] e = absurd (some (sym (from_entries-terms_falling O P) ∙ ap polynomial_of e))
    go (t ∷ ts) e = refl

-- A polynomial without a lead is zero.
pub lead-none : {F : Field} {key : List ℕ → List ℕ} (O : IsMonomialOrder key) {f : Polynomial} → IsPolynomial F f → lead key f ≡ None → f ≡ empty
unfolding lead
lead-none {key = key} O {f} P e = go (terms_falling key f) refl
  where
    go : (ts : List (List ℕ × ℕ)) → terms_falling key f ≡ ts → f ≡ empty
    go [] k = sym (from_entries-terms_falling O P) ∙ ap polynomial_of k
    go (t ∷ ts) k = absurd (let z : None ≡ Some t = sym e ∙ ap (λ us. slice_get us 0) k in none-some t z)

-- A polynomial with a lead isn't zero, and its leading coefficient isn't.
pub some-lead : (F : Field) {key : List ℕ → List ℕ} (O : IsMonomialOrder key) {f : Polynomial} {t : List ℕ × ℕ} → lead key f ≡ Some t → f ≢ empty
unfolding lead
some-lead F {key} O {f} {t} is e =
    let nothing : terms_falling key empty ≡ [] = nil_from_length (terms_falling key empty) (length-terms_falling O (IsPolynomial-empty F) ∙ len-empty (slice_cmp nat_cmp) ℕ) in
    let none : None ≡ Some t = sym (ap (lead key) e ∙ ap (λ ts. slice_get ts 0) nothing) ∙ is in
    none-some t none

pub lead-positive : {F : Field} {key : List ℕ → List ℕ} (O : IsMonomialOrder key) {f : Polynomial} → IsPolynomial F f → {t : List ℕ × ℕ} → lead key f ≡ Some t → 0 < t.1
lead-positive {F} {key} O {f} P {t} is = subst (λ x. 0 < x) (lead-parts key f t is).1 (lead_coefficient-nonzero O P (some-lead F O is))
