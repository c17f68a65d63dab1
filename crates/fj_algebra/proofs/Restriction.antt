-- The part of a polynomial in a face of the monomials, as in some of the variables.
use Rattle.std.proofs.Common.{◌≡◌, ℕ, zero, suc, List, [], ◌∷◌, All, refl, sym, ap, ap₂, ◌∙◌, subst}
use Rattle.std.proofs.lemmas.List.Elements.{All-head, All-tail}
use Rattle.fj_algebra.specs.Ideal.{Member, combination}
use Rattle.fj_algebra.specs.Polynomial.{OrderedPolynomials, Supported}
use Rattle.fj_algebra.specs.StrictSteps.{IsFace, IsRestriction}
use Rattle.fj_algebra.proofs.Ring.{zero_mul, zero_add, add_mul}
use Rattle.fj_algebra.proofs.Ideal.{Member-zero, Member-add, Member-mul, Member-same, Member-head, Member-tail}
use Rattle.fj_algebra.proofs.Polynomial.{coefficient_outside, Supported-zero, Supported-add, Supported-term, Supported-multiple, term_induction}

module _ {K M A : Type 0} (P : OrderedPolynomials K M A) {V : M → Type 0} (face : IsFace P.monomials V) where
  open P use {coefficient, term, ring.{zero as 𝟘, add, mul}, field.ring as scalars, monomials.{times}}

  -- Each polynomial has one.
  pub restriction : (f : A) → (g : A) × IsRestriction P.polynomials V f g
  restriction f =
      term_induction P (λ _. Unit {0}) (λ f. (g : A) × IsRestriction P.polynomials V f g)
      (𝟘, record { within = Supported-zero P.polynomials V; is = λ a _. refl }) (λ c a f _ g. go c a f g (face.decided a)) f
      (record { within = λ _ _. tt {0} })
    where
      go : (c : K) (a : M) (f : A) → (g : A) × IsRestriction P.polynomials V f g → Dec (V a) → (g : A) × IsRestriction P.polynomials V (add (term c a) f) g
      go c a f (g, is) (yes v) = (
        add (term c a) g,
        record {
          within = Supported-add P.polynomials (Supported-term P c a v) is.within;
          is = λ b w. P.coefficient_add (term c a) g b
              ∙ ap (scalars.add (coefficient (term c a) b)) (is.is b w) ∙ sym (P.coefficient_add (term c a) f b);
        },
      )
      go c a f (g, is) (no n) = (
        g,
        record {
          within = is.within;
          is = λ b w. is.is b w
              ∙ sym (P.coefficient_add (term c a) f b
              ∙ ap (λ u. scalars.add u (coefficient f b)) (P.coefficient_other c a b (λ e. n (subst V (sym e) w))) ∙ zero_add scalars (coefficient f b));
        },
      )

  restriction_unique : {f g h : A} → IsRestriction P.polynomials V f g → IsRestriction P.polynomials V f h → g ≡ h
  restriction_unique {f} {g} {h} u v =
      P.equal g h (λ a. elim
      (face.decided a) [
        | yes w ↦ u.is a w ∙ sym (v.is a w)
        | no n ↦ coefficient_outside P.polynomials u.within a n
            ∙ sym (coefficient_outside P.polynomials v.within a n)
      ])

  restriction_sum : {f f' g g' : A} → IsRestriction P.polynomials V f g → IsRestriction P.polynomials V f' g' →
      IsRestriction P.polynomials V (add f f') (add g g')
  restriction_sum {f} {f'} {g} {g'} u v =
      record {
        within = Supported-add P.polynomials u.within v.within;
        is = λ a w. P.coefficient_add g g' a ∙ ap₂ scalars.add (u.is a w) (v.is a w)
            ∙ sym (P.coefficient_add f f' a);
      }

  restriction_zero : IsRestriction P.polynomials V 𝟘 𝟘
  restriction_zero = record { within = Supported-zero P.polynomials V; is = λ a _. refl }

  restriction_term : {f g : A} (c : K) (a : M) → V a → IsRestriction P.polynomials V f g → IsRestriction P.polynomials V (mul (term c a) f) (mul (term c a) g)
  restriction_term {f} {g} c a v u =
      record { within = Supported-multiple P.polynomials c a (λ b w. face.product a b v w) u.within; is = λ b w. go b w (P.monomials.quotient a b) }
    where
      go : (b : M) → V b → Dec ((q : M) × (times a q ≡ b)) → coefficient (mul (term c a) g) b ≡ coefficient (mul (term c a) f) b
      go b w (yes (q, e)) =
          ap (coefficient (mul (term c a) g)) (sym e) ∙ P.coefficient_multiple c a g q
          ∙ ap (scalars.mul c) (u.is q (face.factor q a (subst V (sym e ∙ P.monomials.times_comm a q) w)))
          ∙ sym (ap (coefficient (mul (term c a) f)) (sym e) ∙ P.coefficient_multiple c a f q)
      go b w (no n) =
          P.coefficient_no_multiple c a g b (λ d. n (d.quotient, d.product))
          ∙ sym (P.coefficient_no_multiple c a f b (λ d. n (d.quotient, d.product)))

  restriction_product : {f g h : A} → Supported P.polynomials V h → IsRestriction P.polynomials V f g → IsRestriction P.polynomials V (mul h f) (mul h g)
  restriction_product {f} {g} {h} s u = term_induction P V (λ h. IsRestriction P.polynomials V (mul h f) (mul h g))
      (subst (λ v. IsRestriction P.polynomials V v (mul 𝟘 g)) (sym (zero_mul P.ring f))
      (subst (IsRestriction P.polynomials V 𝟘) (sym (zero_mul P.ring g)) restriction_zero))
      (λ c a h v w. subst (λ k. IsRestriction P.polynomials V k (mul (add (term c a) h) g)) (sym (add_mul P.ring (term c a) h f))
      (subst (IsRestriction P.polynomials V (add (mul (term c a) f) (mul h f))) (sym (add_mul P.ring (term c a) h g))
      (restriction_sum (restriction_term c a v u) w)))
      h s

  -- The restriction of a member of an ideal that is generated in the face is a member.
  pub restriction_member : {L : List A} {f g : A} → All (Supported P.polynomials V) L → Member P.ring L f → IsRestriction P.polynomials V f g →
      Member P.ring L g
  restriction_member {L} {f} {g} inside m u = go (of_combination m.cofactors L inside)
    where
      go : (h : A) × IsRestriction P.polynomials V (combination P.ring m.cofactors L) h × Member P.ring L h → Member P.ring L g
      go (h, v, w) = Member-same (restriction_unique u (subst (λ f. IsRestriction P.polynomials V f h) (sym m.is) v)) w

      of_combination : (c : ℕ → A) (L : List A) → All (Supported P.polynomials V) L →
          (h : A) × IsRestriction P.polynomials V (combination P.ring c L) h × Member P.ring L h
      of_combination c [] inside = (𝟘, restriction_zero, Member-zero [])
      of_combination c (x ∷ L) inside =
          let first = restriction (c zero) in
          let later = of_combination (λ j. c (suc j)) L (All-tail (Supported P.polynomials V) x L inside) in
          let product = restriction_product (All-head (Supported P.polynomials V) x L inside) first.1 in (
            add (mul x first.0) later.0,
            restriction_sum (subst (λ f. IsRestriction P.polynomials V f (mul x first.0)) (P.ring.mul_comm x (c zero)) product) later.1,
            Member-add (Member-same (P.ring.mul_comm x first.0) (Member-mul first.0 (Member-head x L))) (Member-tail later.2),
          )
