-- A term put behind a falling list of terms.
use Rattle.std.proofs.Common.{◌≡◌, ◌≢◌, ℕ, ◌<◌, List, [], ◌∷◌, ◌++◌, length, All, sym, ap, ◌∙◌, subst, arith}
use Rattle.std.specs.declared.cmp.Ordering.TheVariants.{Greater}
use Rattle.fj_coeff.specs.Field.{Field, IsField}
use Rattle.fj_theory.specs.MonomialOrder.{compare_by, IsMonomialOrder}
use Rattle.fj_theory.specs.Polynomial.{Polynomial, IsFalling, terms_falling, sum, term}
use Rattle.fj_poly.specs.Terms.{AreTerms}
use Rattle.fj_poly.proofs.Falling.{falling-push, terms-append}
use Rattle.fj_poly.proofs.Polynomials.{polynomial_of, polynomial_of-term, sum-append}
use Rattle.fj_poly.proofs.View.{terms_falling-polynomial_of}

-- What the list is then.
pub record Pushed (F : Field) (key : List ℕ → List ℕ) (ts : List (List ℕ × ℕ)) (t : List ℕ × ℕ) (f : Polynomial) : Type 0 where
  pub falls : IsFalling key (ts ++ t ∷ [])
  pub terms : AreTerms F (ts ++ t ∷ [])
  pub value : polynomial_of (ts ++ t ∷ []) ≡ sum F f (term t.1 t.0)
  pub listed : terms_falling key (polynomial_of (ts ++ t ∷ [])) ≡ terms_falling key f ++ t ∷ []

pub pushed : {F : Field} {key : List ℕ → List ℕ} (L : IsField F) (O : IsMonomialOrder key) (ts : List (List ℕ × ℕ)) (t : List ℕ × ℕ) {f : Polynomial}
    → IsFalling key ts → AreTerms F ts → polynomial_of ts ≡ f → length t.0 ≡ 8 → t.1 ≢ 0 → t.1 < F.size
    → All (λ s. compare_by key s.0 t.0 ≡ Greater) (terms_falling key f) → Pushed F key ts t f
pushed {F} {key} L O ts t {f} falling are seen eight nonzero small below =
    let own : terms_falling key f ≡ ts = ap (terms_falling key) (sym seen) ∙ terms_falling-polynomial_of O F ts falling are in
    let positive : 0 < t.1 = omega arith in
    let falls : IsFalling key (ts ++ t ∷ []) = falling-push key ts t falling (subst (All (λ s. compare_by key s.0 t.0 ≡ Greater)) own below) in
    let all : AreTerms F (ts ++ t ∷ []) = terms-append F ts (t ∷ []) are ((eight, positive, small), tt) in
    record {
      falls = falls;
      terms = all;
      value = sum-append L key ts (t ∷ []) falls all ∙ ap (λ p. sum F p (polynomial_of (t ∷ []))) seen ∙ ap (sum F f) (polynomial_of-term L t.0 t.1 positive);
      listed = terms_falling-polynomial_of O F (ts ++ t ∷ []) falls all ∙ ap (λ us. us ++ t ∷ []) (sym own);
    }
