-- The trace of polynomials: the part at the greatest residue. The part at a is the trace of the multiple by x^(top - a).
use Rattle.std.proofs.Common.{◌≡◌, ℕ, zero, suc, ◌-◌, ◌^◌, ◌<◌, true, List, [], ◌∷◌, length, replicate, All, Contains, refl, sym, ap, ◌∙◌, arith}
use Rattle.std.proofs.lemmas.Bool.{and_from, le-leb}
use Rattle.std.proofs.lemmas.List.{length-replicate}
use Rattle.std.proofs.lemmas.List.Elements.{All-nil, All-cons, All-head, All-tail}
use Rattle.fj_coeff.specs.Field.{Field, IsField}
use Rattle.fj_algebra.specs.Splitting as ring
use Rattle.fj_theory.specs.Exponents.{IsExponents, plus, minus, times, divides}
use Rattle.fj_theory.specs.Polynomial.{coefficient, term, product}
use Rattle.fj_theory.specs.PartTerms.{iterated_root}
use Rattle.fj_theory.specs.Splitting.{top_residue}
use Rattle.fj_theory.proofs.Exponents.{IsExponents-plus, IsExponents-minus, IsExponents-times, plus_comm, plus_assoc, plus-minus}
use Rattle.fj_theory.proofs.Field.{zero_below, one_below}
use Rattle.fj_theory.proofs.Polynomial.{coefficient_below, polynomial_equal}
use Rattle.fj_theory.proofs.PolynomialRing.{PolynomialOver, polynomial_ring, map_mul, over_equal}
use Rattle.fj_theory.proofs.Monomial.{coefficient-product_term_plus}
use Rattle.fj_theory.proofs.Frobenius.{power_positive}
use Rattle.fj_theory.proofs.PartsRing.{polynomial-Parts, residue_listed, residue_exponents, residue_below, map_basis, coefficient-part}

replicate_below : (n q : ℕ) → 0 < q → All (λ k. k < q) (replicate n (q - 1))
replicate_below zero q h = All-nil (λ k. k < q)
replicate_below (suc n) q h = All-cons (λ k. k < q) (q - 1) (replicate n (q - 1)) (omega arith) (replicate_below n q h)

divides_replicate : (n q : ℕ) (a : List ℕ) → length a ≡ n → All (λ k. k < q) a → divides a (replicate n (q - 1)) ≡ true
unfolding divides
divides_replicate n q [] e below = refl
divides_replicate zero q (k ∷ a) e below = absurd (omega arith)
divides_replicate (suc n) q (k ∷ a) e below =
    let first = All-head (λ k. k < q) k a below in
    and_from _ _ (le-leb k (q - 1) (omega arith)) (divides_replicate n q a (omega arith) (All-tail (λ k. k < q) k a below))

pub IsExponents-top_residue : (q : ℕ) → IsExponents (top_residue q)
unfolding top_residue
IsExponents-top_residue q = record { eight = length-replicate 8 (q - 1) }

pub top_residue-below : (q : ℕ) → 0 < q → All (λ k. k < q) (top_residue q)
unfolding top_residue
top_residue-below q h = replicate_below 8 q h

-- Each residue divides the greatest one.
residue_divides : (q : ℕ) {a : List ℕ} → IsExponents a → All (λ k. k < q) a → divides a (top_residue q) ≡ true
unfolding top_residue
residue_divides q {a} A below = divides_replicate 8 q a A.eight below

module _ {F : Field} (L : IsField F) (e : ℕ) where
  -- The part at a is the trace of the multiple by x^(top - a).
  mirrored : (h : PolynomialOver F) (a : List ℕ) → Contains (polynomial-Parts L e).residues a
      → (polynomial-Parts L e).part ((polynomial_ring L).mul ((polynomial-Parts L e).basis (minus (top_residue (F.characteristic ^ e)) a)) h) (top_residue (F.characteristic ^ e)) ≡ (polynomial-Parts L e).part h a
  mirrored h a listed =
      let q : ℕ = F.characteristic ^ e in
      let top : List ℕ = top_residue q in
      let P = polynomial-Parts L e in
      let A = residue_exponents L e listed in
      let below = residue_below L e listed in
      let T = IsExponents-top_residue q in
      let M = IsExponents-minus T A in
      let x = (polynomial_ring L).mul (P.basis (minus top a)) h in
      over_equal _ _ (polynomial_equal (P.part x top).is_polynomial (P.part h a).is_polynomial (λ b B.
      let shifted : plus (times q b) top ≡ plus (minus top a) (plus (times q b) a) =
      ap (plus (times q b)) (sym (plus-minus A T (residue_divides q A below)) ∙ plus_comm a (minus top a))
      ∙ plus_comm (times q b) (plus (minus top a) a) ∙ plus_assoc (minus top a) a (times q b) ∙ ap (plus (minus top a)) (plus_comm a (times q b)) in
      let E = IsExponents-plus (IsExponents-times q B) A in
      let c = coefficient_below h.is_polynomial (zero_below L) (plus (times q b) a) in
      coefficient-part L e x T (top_residue-below q (power_positive L e)) B
      ∙ ap (iterated_root F e) (ap (λ f. coefficient f (plus (times q b) top)) (map_mul L _ h ∙ ap (λ f. product F f h.map) (map_basis L e M)) ∙ ap (coefficient (product F (term 1 (minus top a)) h.map)) shifted
      ∙ coefficient-product_term_plus L h.is_polynomial 1 (one_below L) M E ∙ L.mul_comm 1 _ (one_below L) c ∙ L.mul_one _ c)
      ∙ sym (coefficient-part L e h A below B)))

  -- The ring of polynomials with its trace.
  pub polynomial-Trace : ring.Trace (polynomial-Parts L e)
  polynomial-Trace = record {
    top = top_residue (F.characteristic ^ e);
    top_listed = residue_listed L e (IsExponents-top_residue (F.characteristic ^ e)) (top_residue-below (F.characteristic ^ e) (power_positive L e));
    mirror = λ a. minus (top_residue (F.characteristic ^ e)) a;
    mirrored = mirrored;
  }

  pub top_is : polynomial-Trace.top ≡ top_residue (F.characteristic ^ e)
  unfolding polynomial-Trace
  top_is = refl
