-- One polynomial: it cancels in a quotient of its multiples, and where it is monic it is the reduced basis of its ideal.
use Rattle.std.proofs.Common.{◌≡◌, ◌≢◌, ℕ, zero, suc, ◌^◌, ◌-◌, List, [], ◌∷◌, Contains, sym, ap, ap₂, ◌∙◌, subst, arith}
use Rattle.std.specs.FinMap.{empty}
use Rattle.std.proofs.lemmas.List.Elements.{All-cons, All-head, All-nil}
use Rattle.fj_coeff.specs.Field.{Field, IsField}
use Rattle.fj_algebra.specs.Polynomial as abstract
use Rattle.fj_algebra.proofs.ExactDivision.{covers_single}
use Rattle.fj_algebra.proofs.Ideal as ring_laws
use Rattle.fj_algebra.proofs.Leads.{coefficient_product, lead_product, product_cancel}
use Rattle.fj_algebra.proofs.Polynomial.{lead_from_monic, lead_nonzero}
use Rattle.fj_theory.specs.Colon.{IsColon}
use Rattle.fj_theory.specs.Exponents.{origin}
use Rattle.fj_theory.specs.Ideal.{ArePolynomials, Member, multiples}
use Rattle.fj_theory.specs.Lead.{lead_coefficient}
use Rattle.fj_theory.specs.MonomialOrder.{IsMonomialOrder}
use Rattle.fj_theory.specs.Polynomial.{Polynomial, IsPolynomial, power, product, term}
use Rattle.fj_theory.proofs.Fedder.{power_one}
use Rattle.fj_theory.proofs.Field.{Element, characteristic_large}
use Rattle.fj_theory.proofs.Ideal.{Member-head, Member-multiples, Member-multiples_split}
use Rattle.fj_theory.proofs.IdealBridge.{ArePolynomials-single, InRing-cons, InRing-nil, IsPolynomial-one, Member_polynomial, over}
use Rattle.fj_theory.proofs.Keys.{grevlex_key-IsMonomialOrder}
use Rattle.fj_theory.proofs.Lead.{lead_at}
use Rattle.fj_theory.proofs.OrderedPolynomials.{Exponents, ordered_polynomials, polynomials}
use Rattle.fj_theory.proofs.PolynomialRing.{PolynomialOver, IsPolynomial-power, map_mul, map_zero, over_equal, power_suc, power_zero, product_comm}
use Rattle.fj_groebner.specs.ReducedBasis.{IsReducedBasis}
use Rattle.fj_groebner.proofs.ReducedBasis.{IsMonic-from_lead, IsReducedBasis_map, IsReducedBasis-one, lead-from_IsMonic}

module _ {F : Field} (L : IsField F) where
  -- The characteristic follows a number.
  pub characteristic-suc : {p : ℕ} → p ≡ F.characteristic → F.characteristic ^ 1 ≡ suc (p - 1)
  characteristic-suc {p} e = let large = characteristic_large L in let first = power_one F.characteristic in omega (arith, e, large, first)

  -- A polynomial that isn't zero cancels.
  cancels : {f x y : Polynomial} → IsPolynomial F f → IsPolynomial F x → IsPolynomial F y → f ≢ empty → product F f x ≡ product F f y → x ≡ y
  unfolding ordered_polynomials polynomials
  cancels P X Y some e =
      ap (λ h. h.map) (product_cancel (ordered_polynomials L grevlex_key-IsMonomialOrder) {g = over P} (λ z. some (ap (λ h. h.map) z ∙ map_zero L)) (over X) (over Y)
      (over_equal _ _ (map_mul L (over P) (over X) ∙ e ∙ sym (map_mul L (over P) (over Y)))))

  -- The quotient of f M by f is (M), for f not zero.
  pub IsColon-multiples : {f : Polynomial} → IsPolynomial F f → f ≢ empty → {M : List Polynomial} → ArePolynomials F M → IsColon F (multiples F f M) (f ∷ []) M
  IsColon-multiples {f} P some {M} A = record {
    polynomials = A;
    members = λ h H. (
      λ m. record {
        each = All-cons (λ g. Member F (multiples F f M) (product F h g)) f []
            (subst (Member F (multiples F f M)) (product_comm L P H) (Member-multiples L P A m)) (All-nil (λ g. Member F (multiples F f M) (product F h g)));
      },
      λ c.
          let split = Member-multiples_split L P A (All-head (λ g. Member F (multiples F f M) (product F h g)) f [] c.each) in
          subst (Member F M) (sym (cancels P H (Member_polynomial L A split.1) some (product_comm L P H ∙ split.2))) split.1,
    );
  }

  -- The quotient of (f^n) by (f), n positive.
  pub IsColon-power : {f : Polynomial} → IsPolynomial F f → f ≢ empty → (k n : ℕ) → n ≡ suc k → IsColon F (power F f n ∷ []) (f ∷ []) (power F f k ∷ [])
  IsColon-power {f} P some k n e =
      subst (λ g. IsColon F (g ∷ []) (f ∷ []) (power F f k ∷ [])) (sym (ap (power F f) e ∙ power_suc L P k))
      (IsColon-multiples P some (ArePolynomials-single (IsPolynomial-power L P k)))

  module _ {key : List ℕ → List ℕ} (K : IsMonomialOrder key) where
    abbrev order : abstract.OrderedPolynomials (Element F) Exponents (PolynomialOver F)
    order = ordered_polynomials L K

    -- The product of monic polynomials is monic, and so are powers.
    monic-product : {f g : Polynomial} → IsPolynomial F f → IsPolynomial F g → lead_coefficient key f ≡ 1 → lead_coefficient key g ≡ 1 → lead_coefficient key (product F f g) ≡ 1
    unfolding ordered_polynomials
    monic-product P Q m n =
        let u = IsMonic-from_lead K L (over P) m in
        let v = IsMonic-from_lead K L (over Q) n in
        let leads = lead_product order (lead_from_monic order u) (lead_from_monic order v) in
        let coefficient = coefficient_product order (lead_from_monic order u) (lead_from_monic order v) in
        ap (lead_coefficient key) (sym (map_mul L (over P) (over Q)))
        ∙ lead-from_IsMonic K L (record { monic = coefficient ∙ ap₂ order.field.ring.mul u.monic v.monic ∙ order.field.ring.mul_one order.field.ring.one; top = leads.top })

    pub monic-power : {f : Polynomial} → IsPolynomial F f → lead_coefficient key f ≡ 1 → (k : ℕ) → lead_coefficient key (power F f k) ≡ 1
    monic-power P m zero =
        let A = ArePolynomials-single (IsPolynomial-one L) in
        let unit = (IsReducedBasis-one K L A).1 (Member-head L A) in
        ap (lead_coefficient key) (power_zero L P) ∙ All-head (λ g. lead_coefficient key g ≡ 1) (term 1 origin) [] unit.monic
    monic-power P m (suc k) = ap (lead_coefficient key) (power_suc L P k) ∙ monic-product P (IsPolynomial-power L P k) m (monic-power P m k)

    -- A monic polynomial is the reduced basis of its ideal.
    pub IsReducedBasis-monic : {f : Polynomial} → IsPolynomial F f → lead_coefficient key f ≡ 1 → IsReducedBasis F key (f ∷ []) (f ∷ [])
    unfolding ordered_polynomials polynomials
    IsReducedBasis-monic {f} P m =
        let X = InRing-cons P InRing-nil in
        let u = IsMonic-from_lead K L (over P) m in
        IsReducedBasis_map K L X X (record {
          members = ring_laws.Inside-refl (over P ∷ []);
          monic = record { lead = λ g c. (lead_at K P, subst (λ h. abstract.IsMonic order h (lead_at K P)) (sym (of_single g c)) u) };
          rising = λ i j d l k. absurd (omega (arith, l, k));
          reduced = λ i j d l k. absurd (omega (arith, l, k));
          covers = covers_single order (lead_nonzero order (lead_from_monic order u));
        })
      where
        of_single : (g : PolynomialOver F) → Contains (over P ∷ []) g → g ≡ over P
        of_single g (zero, l, e) = sym e
        of_single g (suc n, l, e) = absurd (omega (arith, l))
