-- The terms of a polynomial tell whether it has the eighth variable.
use Rattle.std.proofs.Common.{◌≡◌, ◌≢◌, ◌↔◌, ℕ, ◌+◌, ◌<◌, ◌≤◌, List, Bool, true, false, cond, Some, Result, Ok, IfOk, take, length, get_or, filter, ◌++◌, ◌∷◌, [], All, refl, sym, ap, ap₂, ◌∙◌, subst, add-one, arith, append-nil}
use Rattle.std.specs.FinMap.{get}
use Rattle.std.proofs.Math.Seq.{take-suc}
use Rattle.std.proofs.lemmas.List.Elements.{filter-append}
use Rattle.fj_coeff.specs.Field.{Field, IsField}
use Rattle.fj_theory.specs.Exponents.{origin}
use Rattle.fj_theory.specs.MonomialOrder.{IsMonomialOrder}
use Rattle.fj_theory.specs.PointIdeal.{UsesFirst, variable_exponents}
use Rattle.fj_theory.specs.Polynomial.{Polynomial, IsPolynomial, coefficient, difference, negation, sum, term, terms_falling}
use Rattle.fj_theory.proofs.Polynomial.{get-coefficient, coefficient-Some}
use Rattle.fj_theory.proofs.Terms.{find_All, find-terms_falling, terms_falling-get}
use Rattle.fj_theory.proofs.UsesFirst.{UsesFirst-from_exponents}
use Rattle.fj_groebner.specs.Elimination.{eighth_variable, lacks_eighth, without_eighth}
use Rattle.fj_groebner.proofs.Elimination.{lacks_eighth-Decides}
use Rattle.fj_elim.specs.Lists.{one_less_eighth}

module _ {key : List ℕ → List ℕ} (K : IsMonomialOrder key) {F : Field} {f : Polynomial} (P : IsPolynomial F f) where
  -- No term has it.
  pub UsesFirst-terms : All (λ t. get_or t.0 7 0 ≡ 0) (terms_falling key f) → UsesFirst 7 f
  UsesFirst-terms all =
      UsesFirst-from_exponents P (λ i h l a p.
      let seven : 7 ≡ i = omega (arith, h, l) in
      subst (λ k. get_or a k 0 ≡ 0) seven (find_All (λ t. get_or t.0 7 0 ≡ 0) (terms_falling key f) a (coefficient f a) all (find-terms_falling K P a ∙ get-coefficient f a p)))

  -- A term has it.
  pub UsesFirst-term_refused : (i : ℕ) (d t : List ℕ × ℕ) → i < length (terms_falling key f) → get_or (terms_falling key f) i d ≡ t → get_or t.0 7 0 ≢ 0 → UsesFirst 7 f → ⊥
  UsesFirst-term_refused i d t h e some uses =
      let at : get f t.0 ≡ Some t.1 = subst (λ u. get f u.0 ≡ Some u.1) e (terms_falling-get K P i d h) in
      let c = coefficient-Some f t.0 t.1 at in
      let n = P.nonzero t.0 t.1 at in
      some (uses.later t.0 (omega (arith, c, n)) 7 (omega arith))

-- The eighth variable, and 1 less it.
pub eighth_exponents : (e : List ℕ) → e ≡ 0 ∷ 0 ∷ 0 ∷ 0 ∷ 0 ∷ 0 ∷ 0 ∷ 1 ∷ [] → e ≡ variable_exponents 7
unfolding variable_exponents origin
eighth_exponents e h = h

pub eighth_variable-is : (n : ℕ) (e : List ℕ) → n ≡ 1 → e ≡ variable_exponents 7 → term n e ≡ eighth_variable
unfolding eighth_variable
eighth_variable-is n e h a = ap₂ term h a

pub one_less_eighth-is : (F : Field) (u t : Polynomial) → u ≡ term 1 origin → t ≡ eighth_variable → sum F u (negation F t) ≡ one_less_eighth F
unfolding one_less_eighth difference
one_less_eighth-is F u t e h = ap₂ (λ x y. sum F x (negation F y)) e h

pub value_of_ok : {A E : Type 0} (r : Result A E) (x : A) (P : A → Type 0) → r ≡ Ok x → IfOk r P → P x
value_of_ok r x P e h = let Q : Result _ _ → Type 0 = λ u. IfOk u P in subst Q e h

pub without_eighth-nil : without_eighth [] ≡ []
unfolding without_eighth
without_eighth-nil = refl

-- One polynomial more is looked at.
module _ {F : Field} (L : IsField F) (G : List Polynomial) (i : ℕ) (g : Polynomial) (l : i < length G) (at : g ≡ get_or G i g) (P : IsPolynomial F g) where
  taken : take (i + 1) G ≡ take i G ++ g ∷ []
  taken = ap (λ n. take n G) (add-one i) ∙ take-suc G i g l ∙ ap (λ h. take i G ++ h ∷ []) (sym at)

  filtered : (b : Bool) → lacks_eighth g ≡ b → without_eighth (take (i + 1) G) ≡ without_eighth (take i G) ++ cond b (g ∷ []) []
  unfolding without_eighth
  filtered b e = ap (filter lacks_eighth) taken ∙ filter-append lacks_eighth (take i G) (g ∷ []) ∙ ap (λ t. filter lacks_eighth (take i G) ++ cond t (g ∷ []) []) e

  pub without_eighth-kept : UsesFirst 7 g → without_eighth (take (i + 1) G) ≡ without_eighth (take i G) ++ g ∷ []
  without_eighth-kept u = filtered true ((lacks_eighth-Decides L P).1 u)

  pub without_eighth-dropped : (UsesFirst 7 g → ⊥) → without_eighth (take (i + 1) G) ≡ without_eighth (take i G)
  without_eighth-dropped u = by (lacks_eighth g) refl
    where
      by : (b : Bool) → lacks_eighth g ≡ b → without_eighth (take (i + 1) G) ≡ without_eighth (take i G)
      by true e = absurd (u ((lacks_eighth-Decides L P).0 e))
      by false e = filtered false e ∙ append-nil (without_eighth (take i G))
