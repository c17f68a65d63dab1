-- The value at a point is a ring map from the polynomials to the field.
use Rattle.std.proofs.Common.{◌≡◌, ℕ, zero, suc, ◌+◌, ◌<◌, List, [], ◌∷◌, length, get_or, replicate, All, refl, sym, ap, ap₂, ◌∙◌, subst, arith}
use Rattle.std.specs.FinMap.{empty, entries}
use Rattle.std.proofs.lemmas.List.Elements.{All-head, All-tail, All-weaker}
use Rattle.fj_coeff.specs.Field as field
use Rattle.fj_coeff.specs.Field.{Field, IsField}
use Rattle.fj_algebra.specs.Ring.{CommutativeRing, RingMap}
use Rattle.fj_algebra.proofs.Ring.{product_laws, keeps_neg, add_mul}
use Rattle.fj_algebra.proofs.Lists.{All-map_back}
use Rattle.fj_algebra.proofs.Ideal.{Member-vanishes}
use Rattle.fj_algebra.proofs.Sum.{sum_over-map, sum_over-mul, sum_over-mul_right}
use Rattle.fj_algebra.proofs.Power.{power-add, power-RingMap}
use Rattle.fj_theory.specs.Exponents.{IsExponents, origin, plus}
use Rattle.fj_theory.specs.Polynomial.{Polynomial, IsPolynomial, coefficient, support, sum, negation, product, power, term}
use Rattle.fj_theory.specs.Ideal.{ArePolynomials, Member, Inside}
use Rattle.fj_theory.specs.Evaluation.{IsPoint, monomial_value, value, IsZeroOf}
use Rattle.fj_theory.proofs.Field.{Element, element, rank_element, element_zero, element_one, element_mul, zero_below, one_below, rank_zero, rank_one, rank_add, rank_mul, rank_neg}
use Rattle.fj_theory.proofs.FormalSum.{weigh, IsAdditive}
use Rattle.fj_theory.proofs.Polynomial.{coefficient_below, IsPolynomial-empty, IsPolynomial-term, IsPolynomial-sum}
use Rattle.fj_theory.proofs.Product.{K, terms, terms_exponents, entries_coefficients, sum_over_each, total_over_below, element-total_over, weigh-sum, weigh-product, IsPolynomial-product}
use Rattle.fj_theory.proofs.PolynomialRing.{PolynomialOver, polynomial_ring, map_zero, map_one, map_add, map_neg, map_mul, map_power, weigh-empty, weigh-term, IsPolynomial-negation, IsPolynomial-power}
use Rattle.fj_theory.proofs.Monomial.{power_below, element_power, rank_power}
use Rattle.fj_theory.proofs.IdealBridge.{over, in_ring, Member_over, Member_polynomial, IsPolynomial-one}

interchange : {A : Type 0} (R : CommutativeRing A) (u v s t : A) → R.mul (R.mul u v) (R.mul s t) ≡ R.mul (R.mul u s) (R.mul v t)
interchange R u v s t = simp product_laws

module _ {F : Field} (L : IsField F) where
  pub monomial_value_below : (a point : List ℕ) → All (λ x. x < F.size) point → monomial_value F a point < F.size
  unfolding monomial_value
  monomial_value_below [] point all = one_below L
  monomial_value_below (k ∷ a) [] all = L.mul_below _ _ (power_below L 0 k (zero_below L)) (monomial_value_below a [] all)
  monomial_value_below (k ∷ a) (x ∷ point) all = L.mul_below _ _ (power_below L x k (All-head (λ x. x < F.size) x point all)) (monomial_value_below a point (All-tail (λ x. x < F.size) x point all))

  -- One coordinate's part in the value of a product of monomials.
  step : (x j k : ℕ) (m n w : ℕ) → x < F.size → m < F.size → n < F.size → w < F.size → element L w ≡ (K L).mul (element L m) (element L n)
      → element L (F.mul (field.power F x (j + k)) w) ≡ (K L).mul (element L (F.mul (field.power F x j) m)) (element L (F.mul (field.power F x k) n))
  step x j k m n w hx hm hn hw e =
      let power : (i : ℕ) → field.power F x i < F.size = λ i. power_below L x i hx in
      element_mul L _ w (power (j + k)) hw
      ∙ ap₂ (K L).mul (element_power L x (j + k) hx ∙ power-add (K L) (element L x) j k ∙ sym (ap₂ (K L).mul (element_power L x j hx) (element_power L x k hx))) e
      ∙ interchange (K L) _ _ _ _
      ∙ sym (ap₂ (K L).mul (element_mul L _ m (power j) hm) (element_mul L _ n (power k) hn))

  element-monomial_value-plus : (a b point : List ℕ) → length a ≡ length b → All (λ x. x < F.size) point
      → element L (monomial_value F (plus a b) point) ≡ (K L).mul (element L (monomial_value F a point)) (element L (monomial_value F b point))
  unfolding monomial_value plus
  element-monomial_value-plus [] [] point e all = element_one L ∙ sym (ap₂ (K L).mul (element_one L) (element_one L) ∙ (K L).mul_one (K L).one)
  element-monomial_value-plus [] (k ∷ b) point e all = absurd (omega arith)
  element-monomial_value-plus (j ∷ a) [] point e all = absurd (omega arith)
  element-monomial_value-plus (j ∷ a) (k ∷ b) [] e all =
      step 0 j k _ _ _ (zero_below L) (monomial_value_below a [] all) (monomial_value_below b [] all) (monomial_value_below (plus a b) [] all) (element-monomial_value-plus a b [] (omega arith) all)
  element-monomial_value-plus (j ∷ a) (k ∷ b) (x ∷ point) e all =
      let rest = All-tail (λ x. x < F.size) x point all in
      step x j k _ _ _ (All-head (λ x. x < F.size) x point all) (monomial_value_below a point rest) (monomial_value_below b point rest) (monomial_value_below (plus a b) point rest) (element-monomial_value-plus a b point (omega arith) rest)

  pub monomial_value-zeros : (n : ℕ) (point : List ℕ) → monomial_value F (replicate n 0) point ≡ 1
  unfolding monomial_value field.power
  monomial_value-zeros zero point = refl
  monomial_value-zeros (suc n) [] = ap (F.mul 1) (monomial_value-zeros n []) ∙ L.mul_one 1 (one_below L)
  monomial_value-zeros (suc n) (x ∷ point) = ap (F.mul 1) (monomial_value-zeros n point) ∙ L.mul_one 1 (one_below L)

  pub monomial_value-origin : (point : List ℕ) → monomial_value F origin point ≡ 1
  unfolding origin
  monomial_value-origin point = monomial_value-zeros 8 point

  module _ {point : List ℕ} (at : IsPoint F point) where
    monomial_below : (a : List ℕ) → monomial_value F a point < F.size
    monomial_below a = monomial_value_below a point at.below

    -- The value of a term as an element of the field.
    weight : List ℕ → Element F → Element F
    weight a x = (K L).mul x (element L (monomial_value F a point))

    weight-IsAdditive : IsAdditive (K L) (K L) weight
    unfolding weight
    weight-IsAdditive = record { keeps_add = λ a x y. add_mul (K L) x y _ }

    terms_below : {f : Polynomial} → IsPolynomial F f → (a : List ℕ) → F.mul (coefficient f a) (monomial_value F a point) < F.size
    terms_below P a = L.mul_below _ _ (coefficient_below P (zero_below L) a) (monomial_below a)

    pub value_below : {f : Polynomial} → IsPolynomial F f → value F f point < F.size
    unfolding value
    value_below {f} P = total_over_below L (λ a. F.mul (coefficient f a) (monomial_value F a point)) (terms_below P) (support f)

    -- The value as the sum of the values of the terms.
    element-value : {f : Polynomial} → IsPolynomial F f → element L (value F f point) ≡ weigh (K L) weight (terms L f)
    unfolding value weight
    element-value {f} P =
        let term_value : List ℕ → ℕ = λ a. F.mul (coefficient f a) (monomial_value F a point) in
        element-total_over L term_value (terms_below P) (support f)
        ∙ sum_over-map (K L) (λ b. element L (term_value b)) (λ e. e.0) (entries f)
        ∙ sum_over_each (K L) (λ e. element L (term_value e.0)) (λ e. weight e.0 (element L e.1)) (entries f)
        (λ k d h.
        let e = get_or (entries f) k d in
        element_mul L _ _ (coefficient_below P (zero_below L) e.0) (monomial_below e.0) ∙ ap (λ c. (K L).mul (element L c) (element L (monomial_value F e.0 point))) (entries_coefficients f k d h))
        ∙ sym (sum_over-map (K L) (λ e. weight e.0 e.1) (λ e. (e.0, element L e.1)) (entries f))

    from_elements : {m n : ℕ} → m < F.size → n < F.size → element L m ≡ element L n → m ≡ n
    from_elements {m} {n} hm hn e = sym (rank_element L m hm) ∙ ap (λ x. x.rank) e ∙ rank_element L n hn

    -- The value of a product of monomials is the product of their values.
    pub monomial_value-plus : {a b : List ℕ} → IsExponents a → IsExponents b → monomial_value F (plus a b) point ≡ F.mul (monomial_value F a point) (monomial_value F b point)
    monomial_value-plus {a} {b} A B =
        from_elements (monomial_below (plus a b)) (L.mul_below _ _ (monomial_below a) (monomial_below b))
        (element-monomial_value-plus a b point (A.eight ∙ sym B.eight) at.below ∙ sym (element_mul L _ _ (monomial_below a) (monomial_below b)))

    weight_product : {a b : List ℕ} (x y : Element F) → IsExponents a → IsExponents b → weight (plus a b) ((K L).mul x y) ≡ (K L).mul (weight a x) (weight b y)
    unfolding weight
    weight_product {a} {b} x y A B = ap ((K L).mul ((K L).mul x y)) (element-monomial_value-plus a b point (A.eight ∙ sym B.eight) at.below) ∙ interchange (K L) _ _ _ _

    -- The value is a ring map.
    pub value-RingMap : RingMap (polynomial_ring L) (K L) (λ f. element L (value F f.map point))
    value-RingMap = record {
      keeps_zero = element-value (polynomial_ring L).zero.is_polynomial ∙ ap (λ f. weigh (K L) weight (terms L f)) (map_zero L) ∙ weigh-empty L weight-IsAdditive;
      keeps_one = element-value (polynomial_ring L).one.is_polynomial ∙ ap (λ f. weigh (K L) weight (terms L f)) (map_one L) ∙ one_weight;
      keeps_add = λ f g. element-value ((polynomial_ring L).add f g).is_polynomial ∙ ap (λ f. weigh (K L) weight (terms L f)) (map_add L f g)
          ∙ weigh-sum L f.is_polynomial g.is_polynomial weight-IsAdditive ∙ sym (ap₂ (K L).add (element-value f.is_polynomial) (element-value g.is_polynomial));
      keeps_mul = λ f g. element-value ((polynomial_ring L).mul f g).is_polynomial ∙ ap (λ f. weigh (K L) weight (terms L f)) (map_mul L f g) ∙ weigh_products f g
          ∙ sym (ap₂ (K L).mul (element-value f.is_polynomial) (element-value g.is_polynomial));
    }
      where
        one_weight : weigh (K L) weight (terms L (term 1 origin)) ≡ (K L).one
        one_weight = weigh-term L weight-IsAdditive 1 origin ∙ unfold weight in (ap₂ (K L).mul (element_one L) (ap (element L) (monomial_value-origin point) ∙ element_one L) ∙ (K L).mul_one (K L).one)

        weigh_products : (f g : PolynomialOver F) → weigh (K L) weight (terms L (product F f.map g.map)) ≡ (K L).mul (weigh (K L) weight (terms L f.map)) (weigh (K L) weight (terms L g.map))
        weigh_products f g =
            weigh-product L f.is_polynomial g.is_polynomial weight-IsAdditive
            ∙ sum_over_each (K L) _ (λ e. (K L).mul (weight e.0 e.1) (weigh (K L) weight (terms L g.map))) (terms L f.map)
            (λ k d h.
            let e = get_or (terms L f.map) k d in
            sum_over_each (K L) _ (λ t. (K L).mul (weight e.0 e.1) (weight t.0 t.1)) (terms L g.map)
            (λ j c i. weight_product _ _ (terms_exponents L f.is_polynomial k d h) (terms_exponents L g.is_polynomial j c i))
            ∙ sum_over-mul (K L) (weight e.0 e.1) (λ t. weight t.0 t.1) (terms L g.map))
            ∙ sum_over-mul_right (K L) (weigh (K L) weight (terms L g.map)) (λ e. weight e.0 e.1) (terms L f.map)

    pub value-empty : value F empty point ≡ 0
    value-empty = rank value-RingMap.keeps_zero
      where
        rank : element L (value F (polynomial_ring L).zero.map point) ≡ (K L).zero → value F empty point ≡ 0
        rank e =
            sym (rank_element L _ (value_below (IsPolynomial-empty F))) ∙ ap (λ f. (element L (value F f point)).rank) (sym (map_zero L)) ∙ ap (λ x. x.rank) e ∙ rank_zero L

    pub value-one : value F (term 1 origin) point ≡ 1
    value-one =
        sym (rank_element L _ (value_below (IsPolynomial-one L))) ∙ ap (λ f. (element L (value F f point)).rank) (sym (map_one L)) ∙ ap (λ x. x.rank) value-RingMap.keeps_one ∙ rank_one L

    pub value-term : (c : ℕ) {a : List ℕ} → c < F.size → IsExponents a → value F (term c a) point ≡ F.mul c (monomial_value F a point)
    value-term c {a} h A =
        from_elements (value_below (IsPolynomial-term c h A)) (L.mul_below c _ h (monomial_below a))
        (element-value (IsPolynomial-term c h A) ∙ weigh-term L weight-IsAdditive c a ∙ unfold weight in sym (element_mul L c _ h (monomial_below a)))

    module _ {f : Polynomial} (P : IsPolynomial F f) where
      pub value-negation : value F (negation F f) point ≡ F.neg (value F f point)
      value-negation =
          sym (rank_element L _ (value_below (IsPolynomial-negation L P))) ∙ ap (λ h. (element L (value F h point)).rank) (sym (map_neg L (over P)))
          ∙ ap (λ x. x.rank) (keeps_neg value-RingMap (over P)) ∙ rank_neg L _ ∙ ap F.neg (rank_element L _ (value_below P))

      pub value-power : (k : ℕ) → value F (power F f k) point ≡ field.power F (value F f point) k
      value-power k =
          sym (rank_element L _ (value_below (IsPolynomial-power L P k))) ∙ ap (λ h. (element L (value F h point)).rank) (sym (map_power L (over P) k))
          ∙ ap (λ x. x.rank) (power-RingMap value-RingMap (over P) k) ∙ rank_power L _ k ∙ ap (λ c. field.power F c k) (rank_element L _ (value_below P))

      module _ {g : Polynomial} (Q : IsPolynomial F g) where
        pub value-sum : value F (sum F f g) point ≡ F.add (value F f point) (value F g point)
        value-sum =
            sym (rank_element L _ (value_below (IsPolynomial-sum L P Q))) ∙ ap (λ h. (element L (value F h point)).rank) (sym (map_add L (over P) (over Q)))
            ∙ ap (λ x. x.rank) (value-RingMap.keeps_add (over P) (over Q)) ∙ rank_add L _ _ ∙ ap₂ F.add (rank_element L _ (value_below P)) (rank_element L _ (value_below Q))

        pub value-product : value F (product F f g) point ≡ F.mul (value F f point) (value F g point)
        value-product =
            sym (rank_element L _ (value_below (IsPolynomial-product L P Q))) ∙ ap (λ h. (element L (value F h point)).rank) (sym (map_mul L (over P) (over Q)))
            ∙ ap (λ x. x.rank) (value-RingMap.keeps_mul (over P) (over Q)) ∙ rank_mul L _ _ ∙ ap₂ F.mul (rank_element L _ (value_below P)) (rank_element L _ (value_below Q))

    -- Where the list is zero at the point, each member is.
    pub Member-IsZeroOf : {M : List Polynomial} {h : Polynomial} → ArePolynomials F M → IsZeroOf F M point → Member F M h → value F h point ≡ 0
    Member-IsZeroOf {M} P zeros H =
        let X = in_ring P in
        let A = Member_polynomial L P H in
        let each : All (λ g. element L (value F g.map point) ≡ (K L).zero) X.list =
        All-map_back (λ g. element L (value F g point) ≡ (K L).zero) (λ f. f.map) X.list
        (subst (All (λ g. element L (value F g point) ≡ (K L).zero)) (sym X.are)
        (All-weaker (λ g. value F g point ≡ 0) (λ g. element L (value F g point) ≡ (K L).zero) (λ g e. ap (element L) e ∙ element_zero L) M zeros.each)) in
        from_elements (value_below A) (zero_below L) (Member-vanishes value-RingMap each (Member_over L X A H) ∙ sym (element_zero L))

    pub Inside-IsZeroOf : {M N : List Polynomial} → ArePolynomials F N → Inside F M N → IsZeroOf F N point → IsZeroOf F M point
    Inside-IsZeroOf {M} {N} Q I zeros = record { each = All-weaker (Member F N) (λ g. value F g point ≡ 0) (λ g H. Member-IsZeroOf Q zeros H) M I.each }
