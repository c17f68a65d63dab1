-- The coefficients of the powers of a variable.
use Rattle.std.proofs.Common.{◌≡◌, ℕ, zero, suc, ◌+◌, ◌<◌, ◌≤◌, ◌-◌, List, [], ◌∷◌, All, ◌⊎◌, inl, inr, sym, ap, ap₂, ◌∙◌, subst, arith, max, zero-add, suc-add}
use Rattle.std.proofs.lemmas.List.Elements.{All-head, All-tail}
use native.Mathlib.Decide.{ℕ_discrete}
use Rattle.fj_algebra.specs.Ring.{CommutativeRing, subtract}
use Rattle.fj_algebra.specs.Ideal.{Member, combination}
use Rattle.fj_algebra.specs.Order.{Monomials, Divides}
use Rattle.fj_algebra.specs.Polynomial.{OrderedPolynomials}
use Rattle.fj_algebra.specs.Variable.{monomial_power, Variable, Lacks, IsPowerCoefficient}
use Rattle.fj_algebra.proofs.Ring.{ring_laws, add_zero, zero_add, zero_mul, one_mul, add_mul, subtract_self}
use Rattle.fj_algebra.proofs.Ideal.{Member-zero, Member-add, Member-mul, Member-same, Member-head, Member-tail, Member-subtract}
use Rattle.fj_algebra.proofs.Order.{times_cancel, times_left_comm, one_times}
use Rattle.fj_algebra.proofs.Polynomial.{same_monomial, coefficient_zero, coefficient_subtract, coefficient_outside, Supported-zero, Supported-add, Supported-subtract, Supported-term, Supported-multiple, term_induction}

pub monomial_power-add : {M : Type 0} (monomials : Monomials M) (a : M) (j k : ℕ) →
    monomial_power monomials a (j + k) ≡ monomials.times (monomial_power monomials a j) (monomial_power monomials a k)
unfolding monomial_power
monomial_power-add monomials a zero k = ap (monomial_power monomials a) (zero-add k) ∙ sym (one_times monomials (monomial_power monomials a k))
monomial_power-add monomials a (suc j) k =
    ap (monomial_power monomials a) (suc-add j k) ∙ ap (monomials.times a) (monomial_power-add monomials a j k)
    ∙ sym (monomials.times_assoc a (monomial_power monomials a j) (monomial_power monomials a k))

module _ {M : Type 0} {monomials : Monomials M} (t : Variable monomials) where
  open monomials use {one, times}
  open t use {exponent, rest, variable}

  exponent_one : exponent one ≡ 0
  exponent_one = let e = t.exponent_times one one in let f = ap exponent (monomials.times_one one) in omega (arith, e, f)

  exponent_power : (k : ℕ) → exponent (monomial_power monomials variable k) ≡ k
  unfolding monomial_power
  exponent_power zero = exponent_one
  exponent_power (suc k) =
      let e = t.exponent_times variable (monomial_power monomials variable k) in let f = exponent_power k in let g = t.exponent_variable in omega
      (arith, e, f, g)

  -- The exponent of a product with a power of the variable.
  pub exponent_shifted : (k : ℕ) (a : M) → exponent (times (monomial_power monomials variable k) a) ≡ k + exponent a
  exponent_shifted k a = let e = t.exponent_times (monomial_power monomials variable k) a in let f = exponent_power k in omega (arith, e, f)

  pub exponent_divides : (a b : M) → Divides monomials a b → exponent b ≡ 0 → exponent a ≡ 0
  exponent_divides a b d e = let f = t.exponent_times a d.quotient in let g = ap exponent d.product in omega (arith, e, f, g)

module _ {K M A : Type 0} (P : OrderedPolynomials K M A) (t : Variable P.monomials) where
  open P use {coefficient, term, ring.{zero as 𝟘, one as 𝟙, add, neg, mul}, field.ring as scalars, monomials.{one, times}, order}
  open t use {exponent, rest, variable}

  -- The power of the variable.
  abbrev power : ℕ → M
  power k = monomial_power P.monomials variable k

  -- The rest is the only monomial without the variable whose product with the power is the monomial.
  rest_unique : (k : ℕ) (a b : M) → exponent b ≡ 0 → times (power k) b ≡ a → (exponent a ≡ k) × (rest a ≡ b)
  rest_unique k a b e h =
      let f : exponent a ≡ k = omega (arith, ap exponent h, exponent_shifted t k b) in
      (f, times_cancel order (power k) (rest a) b (ap (λ k. times (power k) (rest a)) (sym f) ∙ t.split a ∙ sym h))

  -- Each polynomial has a coefficient at each power.
  pub power_coefficient : (k : ℕ) (f : A) → (g : A) × IsPowerCoefficient P.polynomials t k f g
  power_coefficient k f = term_induction P (λ _. Unit {0}) (λ f. (g : A) × IsPowerCoefficient P.polynomials t k f g) (
    𝟘,
    record {
      lacks = Supported-zero P.polynomials _;
      is = λ a _. coefficient_zero P.polynomials a
          ∙ sym (coefficient_zero P.polynomials (times (power k) a));
    },
  )
      (λ c a f _ g. go c a f g (ℕ_discrete (exponent a) k)) f (record { within = λ _ _. tt {0} })
    where
      go : (c : K) (a : M) (f : A) → (g : A) × IsPowerCoefficient P.polynomials t k f g → Dec (exponent a ≡ k) →
          (g : A) × IsPowerCoefficient P.polynomials t k (add (term c a) f) g
      go c a f (g, is) (yes e) = (
        add (term c (rest a)) g,
        record { lacks = Supported-add P.polynomials (Supported-term P c (rest a) (t.exponent_rest a)) is.lacks; is = at },
      )
        where
          moved : times (power k) (rest a) ≡ a
          moved = ap (λ k. times (power k) (rest a)) (sym e) ∙ t.split a

          one_term : (b : M) → exponent b ≡ 0 → coefficient (term c (rest a)) b ≡ coefficient (term c a) (times (power k) b)
          one_term b z = elim (same_monomial P (rest a) b) [
            | yes s ↦ subst (λ b. coefficient (term c (rest a)) b ≡ coefficient (term c a) (times (power k) b)) s
                (P.coefficient_same c (rest a) ∙ sym (ap (coefficient (term c a)) moved ∙ P.coefficient_same c a))
            | no n ↦ P.coefficient_other c (rest a) b n ∙ sym (P.coefficient_other c a (times (power k) b) (λ s. n ((rest_unique k a b z (sym s)).1)))
          ]

          at : (b : M) → exponent b ≡ 0 → coefficient (add (term c (rest a)) g) b ≡ coefficient (add (term c a) f) (times (power k) b)
          at b z =
              P.coefficient_add (term c (rest a)) g b ∙ ap₂ scalars.add (one_term b z) (is.is b z)
              ∙ sym (P.coefficient_add (term c a) f (times (power k) b))
      go c a f (g, is) (no n) = (
        g,
        record {
          lacks = is.lacks;
          is = λ b z. is.is b z
              ∙ sym (P.coefficient_add (term c a) f (times (power k) b)
              ∙ ap (λ u. scalars.add u (coefficient f (times (power k) b)))
              (P.coefficient_other c a (times (power k) b) (λ s. n ((rest_unique k a b z (sym s)).0)))
              ∙ zero_add scalars (coefficient f (times (power k) b)));
        },
      )

  -- It is the only one.
  pub power_coefficient_unique : {k : ℕ} {f g h : A} → IsPowerCoefficient P.polynomials t k f g → IsPowerCoefficient P.polynomials t k f h → g ≡ h
  power_coefficient_unique {k} {f} {g} {h} u v = P.equal g h (λ a. go a (ℕ_discrete (exponent a) 0))
    where
      go : (a : M) → Dec (exponent a ≡ 0) → coefficient g a ≡ coefficient h a
      go a (yes z) = u.is a z ∙ sym (v.is a z)
      go a (no n) = coefficient_outside P.polynomials u.lacks a n ∙ sym (coefficient_outside P.polynomials v.lacks a n)

  -- f is zero where all its coefficients at the powers of the variable are zero.
  pub zero_from_coefficients : (f : A) → ((k : ℕ) → IsPowerCoefficient P.polynomials t k f 𝟘) → f ≡ 𝟘
  zero_from_coefficients f all =
      P.equal f 𝟘 (λ a. sym ((all (exponent a)).is (rest a) (t.exponent_rest a) ∙ ap (coefficient f) (t.split a))
      ∙ coefficient_zero P.polynomials (rest a) ∙ sym (coefficient_zero P.polynomials a))

  pub coefficient_of_sum : {k : ℕ} {f f' g g' : A} → IsPowerCoefficient P.polynomials t k f g → IsPowerCoefficient P.polynomials t k f' g' →
      IsPowerCoefficient P.polynomials t k (add f f') (add g g')
  coefficient_of_sum {k} {f} {f'} {g} {g'} u v =
      record {
        lacks = Supported-add P.polynomials u.lacks v.lacks;
        is = λ a z. P.coefficient_add g g' a ∙ ap₂ scalars.add (u.is a z) (v.is a z)
            ∙ sym (P.coefficient_add f f' (times (power k) a));
      }

  pub coefficient_of_difference : {k : ℕ} {f f' g g' : A} → IsPowerCoefficient P.polynomials t k f g → IsPowerCoefficient P.polynomials t k f' g' →
      IsPowerCoefficient P.polynomials t k (subtract P.ring f f') (subtract P.ring g g')
  coefficient_of_difference {k} {f} {f'} {g} {g'} u v =
      record {
        lacks = Supported-subtract P.polynomials u.lacks v.lacks;
        is = λ a z. coefficient_subtract P.polynomials g g' a
            ∙ ap₂ (subtract scalars) (u.is a z) (v.is a z) ∙ sym (coefficient_subtract P.polynomials f f' (times (power k) a));
      }

  pub coefficient_of_zero : (k : ℕ) → IsPowerCoefficient P.polynomials t k 𝟘 𝟘
  coefficient_of_zero k =
      record {
        lacks = Supported-zero P.polynomials _;
        is = λ a z. coefficient_zero P.polynomials a
            ∙ sym (coefficient_zero P.polynomials (times (power k) a));
      }

  -- A polynomial without the variable is its own coefficient at the power 0, and the others are zero.
  pub coefficient_of_lacking : {f : A} → Lacks P.polynomials t f → IsPowerCoefficient P.polynomials t 0 f f
  unfolding monomial_power
  coefficient_of_lacking {f} l = record { lacks = l; is = λ a z. ap (coefficient f) (sym (one_times P.monomials a)) }

  pub no_coefficient_of_lacking : {f : A} (k : ℕ) → Lacks P.polynomials t f → IsPowerCoefficient P.polynomials t (suc k) f 𝟘
  no_coefficient_of_lacking {f} k l = record {
    lacks = Supported-zero P.polynomials _;
    is = λ a z. coefficient_zero P.polynomials a
        ∙ sym (coefficient_outside P.polynomials l (times (power (suc k)) a) (λ e. let s = exponent_shifted t (suc k) a in omega (arith, e, s)));
  }

  -- The multiple by a power of the variable moves the coefficients.
  pub coefficient_of_shift : {f g : A} (k j : ℕ) → IsPowerCoefficient P.polynomials t k f g →
      IsPowerCoefficient P.polynomials t (j + k) (mul (term scalars.one (power j)) f) g
  coefficient_of_shift {f} {g} k j u =
      record {
        lacks = u.lacks;
        is = λ a z. u.is a z
            ∙ sym (ap (coefficient (mul (term scalars.one (power j)) f)) (sums j k a) ∙ P.coefficient_multiple scalars.one (power j) f (times (power k) a)
            ∙ one_mul scalars (coefficient f (times (power k) a)));
      }
    where
      sums : (j k : ℕ) (a : M) → times (power (j + k)) a ≡ times (power j) (times (power k) a)
      sums j k a = ap (λ b. times b a) (monomial_power-add P.monomials variable j k) ∙ P.monomials.times_assoc (power j) (power k) a

  pub no_coefficient_of_shift : {f : A} (k j : ℕ) → k < j → IsPowerCoefficient P.polynomials t k (mul (term scalars.one (power j)) f) 𝟘
  no_coefficient_of_shift {f} k j l = record {
    lacks = Supported-zero P.polynomials _;
    is = λ a z. coefficient_zero P.polynomials a
        ∙ sym (P.coefficient_no_multiple scalars.one (power j) f (times (power k) a) (λ d. high a z d));
  }
    where
      high : (a : M) → exponent a ≡ 0 → Divides P.monomials (power j) (times (power k) a) → ⊥
      high a z d = let e = exponent_shifted t j d.quotient in let f = ap exponent d.product in let g = exponent_shifted t k a in omega (arith, e, f, g, z)

  -- Multiples by polynomials without the variable.
  pub coefficient_of_product : {k : ℕ} {f g h : A} → Lacks P.polynomials t h → IsPowerCoefficient P.polynomials t k f g →
      IsPowerCoefficient P.polynomials t k (mul h f) (mul h g)
  coefficient_of_product {k} {f} {g} {h} l u = term_induction P (λ a. exponent a ≡ 0) (λ h. IsPowerCoefficient P.polynomials t k (mul h f) (mul h g))
      (subst (λ v. IsPowerCoefficient P.polynomials t k v (mul 𝟘 g)) (sym (zero_mul P.ring f))
      (subst (IsPowerCoefficient P.polynomials t k 𝟘) (sym (zero_mul P.ring g)) (coefficient_of_zero k)))
      (λ c a h e v. subst (λ w. IsPowerCoefficient P.polynomials t k w (mul (add (term c a) h) g)) (sym (add_mul P.ring (term c a) h f))
      (subst (IsPowerCoefficient P.polynomials t k (add (mul (term c a) f) (mul h f))) (sym (add_mul P.ring (term c a) h g))
      (coefficient_of_sum (one_term c a e) v)))
      h l
    where
      one_term : (c : K) (a : M) → exponent a ≡ 0 → IsPowerCoefficient P.polynomials t k (mul (term c a) f) (mul (term c a) g)
      one_term c a e =
          record {
            lacks = Supported-multiple P.polynomials c a (λ b z. t.exponent_times a b ∙ (omega (arith, e, z))) u.lacks;
            is = λ b z. go b z (P.monomials.quotient a b);
          }
        where
          go : (b : M) → exponent b ≡ 0 → Dec ((q : M) × (times a q ≡ b)) →
              coefficient (mul (term c a) g) b ≡ coefficient (mul (term c a) f) (times (power k) b)
          go b z (yes (q, s)) =
              ap (coefficient (mul (term c a) g)) (sym s) ∙ P.coefficient_multiple c a g q
              ∙ ap (scalars.mul c) (u.is q (omega (arith, t.exponent_times a q, ap exponent s, z)))
              ∙ sym (ap (coefficient (mul (term c a) f)) (ap (times (power k)) (sym s) ∙ times_left_comm P.monomials (power k) a q)
              ∙ P.coefficient_multiple c a f (times (power k) q))
          go b z (no n) =
              P.coefficient_no_multiple c a g b (λ d. n (d.quotient, d.product))
              ∙ sym (P.coefficient_no_multiple c a f (times (power k) b) (λ d. n (rest d.quotient, back d)))
            where
              back : (d : Divides P.monomials a (times (power k) b)) → times a (rest d.quotient) ≡ b
              back d =
                  times_cancel order (power k) (times a (rest d.quotient)) b
                  (times_left_comm P.monomials (power k) a (rest d.quotient) ∙ ap (λ j. times a (times (power j) (rest d.quotient))) (sym height)
                  ∙ ap (times a) (t.split d.quotient) ∙ d.product)
                where
                  height : exponent d.quotient ≡ k
                  height = omega (arith, t.exponent_times a d.quotient, ap exponent d.product, exponent_shifted t k b, e, z)

  -- From some power on all coefficients are zero.
  pub coefficients_end : (f : A) → (n : ℕ) × ((k : ℕ) → n ≤ k → IsPowerCoefficient P.polynomials t k f 𝟘)
  coefficients_end f =
      term_induction P (λ _. Unit {0}) (λ f. (n : ℕ) × ((k : ℕ) → n ≤ k → IsPowerCoefficient P.polynomials t k f 𝟘)) (0, λ k _. coefficient_of_zero k)
      (λ c a f _ ends. (
        max (suc (exponent a)) ends.0,
        λ k l. subst (IsPowerCoefficient P.polynomials t k (add (term c a) f)) (add_zero P.ring 𝟘)
            (coefficient_of_sum (past c a k (omega arith)) (ends.1 k (omega arith))),
      )) f (record { within = λ _ _. tt {0} })
    where
      past : (c : K) (a : M) (k : ℕ) → exponent a < k → IsPowerCoefficient P.polynomials t k (term c a) 𝟘
      past c a k l =
          record {
            lacks = Supported-zero P.polynomials _;
            is = λ b z. coefficient_zero P.polynomials b
                ∙ sym (P.coefficient_other c a (times (power k) b) (λ e. let s = exponent_shifted t k b in omega (arith, ap exponent e, s)));
          }

  -- A member of the ideal of a list without the variable has its coefficients in the ideal.
  pub coefficient_member : {k : ℕ} {L : List A} {f g : A} → All (Lacks P.polynomials t) L → Member P.ring L f →
      IsPowerCoefficient P.polynomials t k f g → Member P.ring L g
  coefficient_member {k} {L} {f} {g} lacks m u = go (of_combination m.cofactors L lacks)
    where
      go : (h : A) × IsPowerCoefficient P.polynomials t k (combination P.ring m.cofactors L) h × Member P.ring L h → Member P.ring L g
      go (h, v, w) = Member-same (power_coefficient_unique u (subst (λ f. IsPowerCoefficient P.polynomials t k f h) (sym m.is) v)) w

      of_combination : (c : ℕ → A) (L : List A) → All (Lacks P.polynomials t) L →
          (h : A) × IsPowerCoefficient P.polynomials t k (combination P.ring c L) h × Member P.ring L h
      of_combination c [] lacks = (𝟘, coefficient_of_zero k, Member-zero [])
      of_combination c (x ∷ L) lacks =
          let first = power_coefficient k (c zero) in
          let later = of_combination (λ j. c (suc j)) L (All-tail (Lacks P.polynomials t) x L lacks) in
          let product = coefficient_of_product (All-head (Lacks P.polynomials t) x L lacks) first.1 in (
            add (mul x first.0) later.0,
            coefficient_of_sum (subst (λ f. IsPowerCoefficient P.polynomials t k f (mul x first.0)) (P.ring.mul_comm x (c zero)) product) later.1,
            Member-add (Member-same (P.ring.mul_comm x first.0) (Member-mul first.0 (Member-head x L))) (Member-tail later.2),
          )

  -- the coefficients of a power of the variable times a polynomial without it
  module _ (n : ℕ) {g : A} (lacks : Lacks P.polynomials t g) where
    at_power : IsPowerCoefficient P.polynomials t n (mul (term scalars.one (power n)) g) g
    at_power =
        subst (λ k. IsPowerCoefficient P.polynomials t k (mul (term scalars.one (power n)) g) g) (omega arith)
        (coefficient_of_shift 0 n (coefficient_of_lacking lacks))

    above_power : (k : ℕ) → n < k → IsPowerCoefficient P.polynomials t k (mul (term scalars.one (power n)) g) 𝟘
    above_power k l =
        subst (λ k. IsPowerCoefficient P.polynomials t k (mul (term scalars.one (power n)) g) 𝟘) (omega arith)
        (coefficient_of_shift (suc (k - suc n)) n (no_coefficient_of_lacking (k - suc n) lacks))

    at_any_power : {L : List A} → Member P.ring L g → (k : ℕ) →
        (h : A) × IsPowerCoefficient P.polynomials t k (mul (term scalars.one (power n)) g) h × Member P.ring L h
    at_any_power {L} m k = go (compare_numbers k n)
      where
        compare_numbers : (i j : ℕ) → (i < j) ⊎ ((i ≡ j) ⊎ (j < i))
        compare_numbers i j = grind arith

        go : (k < n) ⊎ ((k ≡ n) ⊎ (n < k)) → (h : A) × IsPowerCoefficient P.polynomials t k (mul (term scalars.one (power n)) g) h × Member P.ring L h
        go (inl l) = (𝟘, no_coefficient_of_shift k n l, Member-zero L)
        go (inr (inl e)) = (g, subst (λ k. IsPowerCoefficient P.polynomials t k (mul (term scalars.one (power n)) g) g) (sym e) at_power, m)
        go (inr (inr l)) = (𝟘, above_power k l, Member-zero L)

  from_below : {L : List A} (n : ℕ) (f : A) → ((k : ℕ) → n ≤ k → IsPowerCoefficient P.polynomials t k f 𝟘) →
      ((k : ℕ) (g : A) → IsPowerCoefficient P.polynomials t k f g → Member P.ring L g) → Member P.ring L f
  from_below {L} zero f ends all = Member-same (zero_from_coefficients f (λ k. ends k (omega arith))) (Member-zero L)
  from_below {L} (suc n) f ends all =
      Member-same (restore P.ring f multiple)
      (Member-add (from_below n (subtract P.ring f multiple) ends' all') (Member-mul (term scalars.one (power n)) (all n g u)))
    where
      g : A
      g = (power_coefficient n f).0

      u : IsPowerCoefficient P.polynomials t n f g
      u = (power_coefficient n f).1

      multiple : A
      multiple = mul (term scalars.one (power n)) g

      restore : {A : Type 0} (R : CommutativeRing A) (f t : A) → f ≡ R.add (subtract R f t) t
      restore R f t = simp ring_laws

      ends' : (k : ℕ) → n ≤ k → IsPowerCoefficient P.polynomials t k (subtract P.ring f multiple) 𝟘
      ends' k l = elim (ℕ_discrete n k) [
        | yes e ↦ subst (λ k. IsPowerCoefficient P.polynomials t k (subtract P.ring f multiple) 𝟘) e
            (subst (IsPowerCoefficient P.polynomials t n (subtract P.ring f multiple)) (subtract_self P.ring g)
            (coefficient_of_difference u (at_power n u.lacks)))
        | no m ↦ subst (IsPowerCoefficient P.polynomials t k (subtract P.ring f multiple)) (subtract_self P.ring 𝟘)
            (coefficient_of_difference (ends k (omega arith)) (above_power n u.lacks k (omega arith)))
      ]

      all' : (k : ℕ) (h : A) → IsPowerCoefficient P.polynomials t k (subtract P.ring f multiple) h → Member P.ring L h
      all' k h v =
          let first = power_coefficient k f in
          let second = at_any_power n u.lacks (all n g u) k in
          Member-same (power_coefficient_unique v (coefficient_of_difference first.1 second.1)) (Member-subtract (all k first.0 first.1) second.2)

  -- A polynomial all of whose coefficients at powers of the variable are in an ideal is in it.
  pub member_from_coefficients : {L : List A} (f : A) → ((k : ℕ) (g : A) → IsPowerCoefficient P.polynomials t k f g → Member P.ring L g) → Member P.ring L f
  member_from_coefficients f all = let ends = coefficients_end f in from_below ends.0 f ends.1 all
