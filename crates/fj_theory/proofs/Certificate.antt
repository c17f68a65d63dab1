-- Sums of products of the polynomials at equal places, gathered one after another.
use Rattle.std.proofs.Common.{◌≡◌, ℕ, suc, ◌+◌, ◌≤◌, List, [], ◌∷◌, length, map, drop, All, Contains, Some, option_map, slice_get, refl, sym, ap, ap₂, ◌∙◌, subst, add-one}
use Rattle.std.specs.FinMap.{empty, from_entries}
use Rattle.std.proofs.Math.Seq.{drop-cons}
use Rattle.std.proofs.lemmas.List.{drop_all}
use Rattle.std.proofs.lemmas.Option.{slice_get_within, get_or_from_slice_get, slice_get-map, same_Some}
use Rattle.std.proofs.lemmas.List.Elements.{All-head, All-tail, All-drop, All-map, All-weaker}
use Rattle.fj_coeff.specs.Field.{Field, IsField, primes}
use Rattle.fj_coeff.specs.PrimeField.{prime_field}
use Rattle.fj_coeff.specs.PrimeFieldLaws.{IsField-prime_field}
use Rattle.fj_theory.specs.Ideal.{list_combination}
use Rattle.fj_theory.specs.Polynomial.{Polynomial, IsPolynomial, sum, product, power, term, with_coefficients, negation}
use Rattle.fj_theory.specs.Plain.{PlainPolynomial, polynomial, HasRanksBelow}
use Rattle.fj_theory.specs.Certificate.{AllRanksBelow, IsResidue}
use Rattle.fj_theory.proofs.Polynomial.{IsPolynomial-empty, IsPolynomial-sum}
use Rattle.fj_theory.proofs.Product.{IsPolynomial-product}
use Rattle.fj_theory.proofs.PolynomialRing.{IsPolynomial-negation, IsPolynomial-power, sum_comm, sum_empty, sum_assoc, sum_negation}
use Rattle.fj_theory.proofs.Plain.{IsPolynomial-polynomial}

module _ {F : Field} (L : IsField F) where
  pub IsPolynomial-combination : (fs gs : List Polynomial) → All (IsPolynomial F) fs → All (IsPolynomial F) gs → IsPolynomial F (list_combination F fs gs)
  unfolding list_combination
  IsPolynomial-combination [] gs P Q = IsPolynomial-empty F
  IsPolynomial-combination (f ∷ fs) [] P Q = IsPolynomial-empty F
  IsPolynomial-combination (f ∷ fs) (g ∷ gs) P Q =
      IsPolynomial-sum L (IsPolynomial-product L (All-head (IsPolynomial F) f fs P) (All-head (IsPolynomial F) g gs Q)) (IsPolynomial-combination fs gs (All-tail (IsPolynomial F) f fs P) (All-tail (IsPolynomial F) g gs Q))

  combination-cons : (f g : Polynomial) (fs gs : List Polynomial) → list_combination F (f ∷ fs) (g ∷ gs) ≡ sum F (product F f g) (list_combination F fs gs)
  unfolding list_combination
  combination-cons f g fs gs = refl

  combination-nil : (gs : List Polynomial) → list_combination F [] gs ≡ empty
  unfolding list_combination
  combination-nil gs = refl

  drop_at : (fs : List Polynomial) (i : ℕ) (f : Polynomial) → slice_get fs i ≡ Some f → drop i fs ≡ f ∷ drop (suc i) fs
  drop_at fs i f found = drop-cons fs i f (slice_get_within fs i f found) ∙ ap (λ g. g ∷ drop (suc i) fs) (get_or_from_slice_get fs i f f found)

  element_at : (P : Polynomial → Type 0) (fs : List Polynomial) (i : ℕ) (f : Polynomial) → slice_get fs i ≡ Some f → All P fs → P f
  element_at P fs i f found all = subst P (get_or_from_slice_get fs i f f found) (all i f (slice_get_within fs i f found))

  -- One product more.
  pub combination_more : (fs gs : List Polynomial) → All (IsPolynomial F) fs → All (IsPolynomial F) gs → (i : ℕ) (f g : Polynomial) → slice_get fs i ≡ Some f → slice_get gs i ≡ Some g
      → (old new whole : Polynomial) → IsPolynomial F old
      → sum F old (list_combination F (drop i fs) (drop i gs)) ≡ whole
      → new ≡ sum F old (product F f g)
      → IsPolynomial F new × (sum F new (list_combination F (drop (i + 1) fs) (drop (i + 1) gs)) ≡ whole)
  combination_more fs gs P Q i f g at_f at_g old new whole O before is =
      let one : IsPolynomial F (product F f g) = IsPolynomial-product L (element_at (IsPolynomial F) fs i f at_f P) (element_at (IsPolynomial F) gs i g at_g Q) in
      let later : Polynomial = list_combination F (drop (suc i) fs) (drop (suc i) gs) in
      let rest : IsPolynomial F later = IsPolynomial-combination (drop (suc i) fs) (drop (suc i) gs) (All-drop (IsPolynomial F) (suc i) fs P) (All-drop (IsPolynomial F) (suc i) gs Q) in
      let split : list_combination F (drop i fs) (drop i gs) ≡ sum F (product F f g) later = ap₂ (list_combination F) (drop_at fs i f at_f) (drop_at gs i g at_g) ∙ combination-cons f g (drop (suc i) fs) (drop (suc i) gs) in (
        subst (IsPolynomial F) (sym is) (IsPolynomial-sum L O one),
        ap (λ n. sum F new (list_combination F (drop n fs) (drop n gs))) (add-one i) ∙ ap (λ h. sum F h later) is ∙ sum_assoc L O one rest ∙ ap (sum F old) (sym split) ∙ before,
      )

  -- All products.
  pub combination_all : (fs gs : List Polynomial) (i : ℕ) → length fs ≤ i → (now whole : Polynomial) → IsPolynomial F now → sum F now (list_combination F (drop i fs) (drop i gs)) ≡ whole → now ≡ whole
  combination_all fs gs i short now whole P before =
      sym (sum_empty L P) ∙ ap (sum F now) (sym (ap (λ hs. list_combination F hs (drop i gs)) (drop_all i fs short) ∙ combination-nil (drop i gs))) ∙ before

  -- Two polynomials are equal exactly where their difference is zero.
  pub equal_from_difference : {f g : Polynomial} → IsPolynomial F f → IsPolynomial F g → sum F g (negation F f) ≡ empty → f ≡ g
  equal_from_difference {f} {g} P Q none =
      let N = IsPolynomial-negation L P in
      sym (sum_empty L P) ∙ ap (sum F f) (sym none) ∙ sym (sum_assoc L P Q N) ∙ ap (λ h. sum F h (negation F f)) (sum_comm L P Q) ∙ sum_assoc L Q P N ∙ ap (sum F g) (sum_negation L P) ∙ sum_empty L Q

  pub difference_of_equal : {f g : Polynomial} → IsPolynomial F f → f ≡ g → sum F g (negation F f) ≡ empty
  difference_of_equal {f} {g} P same = ap (λ h. sum F h (negation F f)) (sym same) ∙ sum_negation L P

module _ {p : ℕ} (prime : Contains primes p) where
  pub IsPolynomial-list : (fs : List PlainPolynomial) → AllRanksBelow p fs → All (IsPolynomial (prime_field p)) (map polynomial fs)
  IsPolynomial-list fs ranks = All-map (IsPolynomial (prime_field p)) polynomial fs (All-weaker (HasRanksBelow p) (λ f. IsPolynomial (prime_field p) (polynomial f)) (λ f R. IsPolynomial-polynomial prime f R) fs ranks)

  pub IsPolynomial-powers : (q : ℕ) (fs : List PlainPolynomial) → AllRanksBelow p fs → All (IsPolynomial (prime_field p)) (map (λ f. power (prime_field p) (polynomial f) q) fs)
  IsPolynomial-powers q fs ranks =
      All-map (IsPolynomial (prime_field p)) (λ f. power (prime_field p) (polynomial f) q) fs
      (All-weaker (HasRanksBelow p) (λ f. IsPolynomial (prime_field p) (power (prime_field p) (polynomial f) q)) (λ f R. IsPolynomial-power (IsField-prime_field p prime) (IsPolynomial-polynomial prime f R) q) fs ranks)

-- What stands at a place of a list that was made of another.
pub slice_get_map : {X Y : Type 0} (f : X → Y) (xs : List X) (i : ℕ) (x : X) → slice_get xs i ≡ Some x → slice_get (map f xs) i ≡ Some (f x)
slice_get_map f xs i x found = slice_get-map f xs i ∙ ap (option_map f) found

-- A residue is the polynomial of its one term.
pub residue_term : (q : ℕ) (f : PlainPolynomial) (t : List ℕ × ℕ) → IsResidue q f → slice_get f.terms 0 ≡ Some t → term t.1 t.0 ≡ polynomial f
unfolding term with_coefficients
residue_term q f t R found =
    let one : List ℕ × ℕ = (R.exponents, 1) in
    let same : one ≡ t = same_Some one t (ap (λ ts. slice_get ts 0) (sym R.monomial) ∙ found) in
    let made : term 1 R.exponents ≡ from_entries (one ∷ []) = refl in
    ap (λ (u : List ℕ × ℕ). term u.1 u.0) (sym same) ∙ made ∙ ap from_entries (sym R.monomial)
