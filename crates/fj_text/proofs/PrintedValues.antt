-- The values that printed terms and polynomials are read as.
use Rattle.std.proofs.Common.{◌≡◌, ℕ, zero, suc, ◌+◌, ◌*◌, ◌%◌, ◌<◌, ◌≤◌, false, eqb, List, [], ◌∷◌, ◌++◌, length, map, replicate, set, get_or, refl, sym, ap, ap₂, subst, ◌∙◌, arith, decimal, inl, inr}
use Rattle.std.specs.Prelude.{sum as sum_of}
use Rattle.std.proofs.Math.Nat.{mod-eq_of_lt}
use Rattle.std.proofs.lemmas.Bool.{cases_Bool, eqb-true, ne_eqb}
use Rattle.std.proofs.lemmas.List.{length-append, length-replicate, length-set}
use Rattle.fj_coeff.specs.Field.{Field, IsField}
use Rattle.fj_coeff.specs.PrimeFieldLaws.{prime_bounds}
use Rattle.fj_theory.specs.Exponents.{IsExponents, origin, plus, times, total}
use Rattle.fj_theory.specs.PointIdeal.{variable_exponents}
use Rattle.fj_theory.specs.Polynomial.{Polynomial, IsTerm, term}
use Rattle.fj_theory.proofs.Exponents.{cons_same, IsExponents-origin, IsExponents-plus, IsExponents-times, origin_plus, plus_assoc, total-cons, total-plus_exponents, total-times, total_origin}
use Rattle.fj_theory.proofs.Field.{one_below}
use Rattle.fj_text.specs.declared.scope.Meaning.{Meaning}
use Rattle.fj_text.specs.declared.scope.Meaning.TheVariants as meanings
use Rattle.fj_text.specs.Expression.{Answer, times_factor}
use Rattle.fj_text.specs.State.{State}
use Rattle.fj_text.proofs.PrintedTokens.{Spelled}
use Rattle.fj_text.proofs.PrintedPieces.{factor_tokens, number_tokens, parted, powers_tokens, term_tokens}
use Rattle.fj_text.proofs.PrintedReading.{AreTurned, IsFactor, IsReadTerm, LacksSign, factors_term, number_factor, power_factor, times_turned}
use Rattle.fj_text.proofs.SmallPolynomials.{power_within_small, product_within}

-- ---- exponents

-- exponents of the variables from a place on
abbrev spread : ℕ → List ℕ → List ℕ
spread i exponents = replicate i 0 ++ exponents

spread_zero : (i : ℕ) (es : List ℕ) → spread i (0 ∷ es) ≡ spread (suc i) es
spread_zero zero es = refl
spread_zero (suc i) es = ap (λ s. 0 ∷ s) (spread_zero i es)

zeros_plus : (e m : ℕ) (es : List ℕ) → length es ≡ m → plus (map (λ x. e * x) (replicate m 0)) es ≡ es
unfolding plus
zeros_plus e zero [] h = refl
zeros_plus e zero (x ∷ es) h = absurd (omega arith)
zeros_plus e (suc m) [] h = absurd (omega arith)
zeros_plus e (suc m) (x ∷ es) h = cons_same (omega arith) (zeros_plus e m es (omega arith))

spread_more : (i e n : ℕ) (es : List ℕ) → i + suc (length es) ≡ n → plus (map (λ x. e * x) (set (replicate n 0) i 1)) (spread (suc i) es) ≡ spread i (e ∷ es)
unfolding plus
spread_more i e zero es h = absurd (omega arith)
spread_more zero e (suc m) es h = cons_same (omega arith) (zeros_plus e m es (omega arith))
spread_more (suc i) e (suc m) es h = cons_same (omega arith) (spread_more i e m es (omega arith))

-- the power of a variable, and the variables behind it
variable_and_later : (i e : ℕ) (es : List ℕ) → i + suc (length es) ≡ 8 → plus (times e (variable_exponents i)) (spread (suc i) es) ≡ spread i (e ∷ es)
unfolding times variable_exponents origin
variable_and_later i e es h = spread_more i e 8 es h

IsExponents-variable : (i : ℕ) → IsExponents (variable_exponents i)
unfolding variable_exponents origin
IsExponents-variable i = record { eight = length-set (0 ∷ 0 ∷ 0 ∷ 0 ∷ 0 ∷ 0 ∷ 0 ∷ 0 ∷ []) i 1 }

total_zeros : (n : ℕ) → total (replicate n 0) ≡ 0
total_zeros zero = refl
total_zeros (suc n) = total-cons 0 (replicate n 0) ∙ (let none = total_zeros n in omega arith)

total_unit : (n i : ℕ) → i < n → total (set (replicate n 0) i 1) ≡ 1
total_unit zero i inside = absurd (omega arith)
total_unit (suc n) zero inside = total-cons 1 (replicate n 0) ∙ (let none = total_zeros n in omega arith)
total_unit (suc n) (suc i) inside = total-cons 0 (set (replicate n 0) i 1) ∙ (let one = total_unit n i (omega arith) in omega arith)

total_variable : (i : ℕ) → i < 8 → total (variable_exponents i) ≡ 1
unfolding variable_exponents origin
total_variable i inside = total_unit 8 i inside

-- a list without an entry above zero
abbrev IsZeros : List ℕ → Type 0
IsZeros es = (k : ℕ) → get_or es k 0 ≡ 0

spread_zeros : (i : ℕ) (es : List ℕ) → IsZeros es → IsZeros (spread i es)
spread_zeros zero es zeros k = zeros k
spread_zeros (suc i) es zeros zero = refl
spread_zeros (suc i) es zeros (suc k) = spread_zeros i es zeros k

length-spread : (i : ℕ) (es : List ℕ) → length (spread i es) ≡ i + length es
length-spread i es = length-append (replicate i 0) es ∙ ap (λ n. n + length es) (length-replicate i 0)

nothing_added : (a b : List ℕ) → length a ≡ length b → IsZeros b → plus a b ≡ a
unfolding plus
nothing_added [] b h zeros = refl
nothing_added (x ∷ a) [] h zeros = absurd (omega arith)
nothing_added (x ∷ a) (y ∷ b) h zeros = cons_same (let none = zeros 0 in omega arith) (nothing_added a b (omega arith) (λ k. zeros (suc k)))

-- ---- terms

module _ {F : Field} (L : IsField F) (meaning : List ℕ → Meaning) (inside : State → Answer Polynomial) where
  -- These tokens are read as a factor that takes the exponents a to a + b.
  pub record IsMonomialFactor (tokens : List Spelled) (a b : List ℕ) : Type 0 where
    pub exponents : IsExponents b
    pub low : total (plus a b) ≤ 1000
    pub factor : IsFactor F meaning inside tokens (term 1 b)

  -- These factors take the exponents a to c.
  abbrev pub AreFactors : List ℕ → List (List Spelled) → List ℕ → Type 0
  AreFactors a [] c = a ≡ c
  AreFactors a (tokens ∷ pieces) c = (b : List ℕ) × IsMonomialFactor tokens a b × AreFactors (plus a b) pieces c

  factors_turned : (rank : ℕ) → 0 < rank → rank < F.size → (a : List ℕ) → IsExponents a → (pieces : List (List Spelled)) (c : List ℕ) → AreFactors a pieces c
      → AreTurned (times_factor F meaning inside) 42 (LacksSign 94) (term rank a) pieces (term rank c)
  factors_turned rank nonzero below a A [] c h = ap (term rank) h
  factors_turned rank nonzero below a A (tokens ∷ pieces) c h =
      let b = h.0 in
      let C = IsExponents-plus A (h.1).exponents in (
        term rank (plus a b),
        times_turned F meaning inside (term rank a) (term 1 b) (term rank (plus a b)) tokens (h.1).factor (product_within L rank a b nonzero below A (h.1).exponents C (h.1).low),
        factors_turned rank nonzero below (plus a b) C pieces c h.2,
      )

  -- The names from place i on stand for the variables from there on.
  abbrev pub AreVariables : ℕ → List (List ℕ) → Type 0
  AreVariables i names = (k : ℕ) → k < length names → meaning (get_or names k []) ≡ meanings.Variable (i + k)

  -- The exponents past the names are zero.
  abbrev pub IsNamed : List (List ℕ) → List ℕ → Type 0
  IsNamed names exponents = (k : ℕ) → length names ≤ k → get_or exponents k 0 ≡ 0

  powers_factors : (names : List (List ℕ)) (es : List ℕ) (i : ℕ) (a : List ℕ) → IsExponents a → i + length es ≡ 8 → total a + sum_of es ≤ 1000 → AreVariables i names → IsNamed names es
      → AreFactors a (powers_tokens names es) (plus a (spread i es))
  powers_factors [] es i a A size low known named =
      sym (nothing_added a (spread i es) (A.eight ∙ sym (length-spread i es ∙ size)) (spread_zeros i es (λ k. named k (omega arith))))
  powers_factors (name ∷ names) [] i a A size low known named = sym (nothing_added a (spread i []) (A.eight ∙ sym (length-spread i [] ∙ size)) (spread_zeros i [] (λ k. refl)))
  powers_factors (name ∷ names) (zero ∷ es) i a A size low known named =
      let whole = total-cons 0 es in
      subst (λ c. AreFactors a (powers_tokens names es) c) (ap (plus a) (sym (spread_zero i es)))
      (powers_factors names es (suc i) a A (omega arith) (omega arith) (λ k inner. known (suc k) (omega arith) ∙ ap (λ n. meanings.Variable n) (omega arith)) (λ k past. named (suc k) (omega arith)))
  powers_factors (name ∷ names) (suc e ∷ es) i a A size low known named =
      let v = variable_exponents i in
      let V = IsExponents-variable i in
      let b = times (suc e) v in
      let B = IsExponents-times (suc e) V in
      let whole = total-cons (suc e) es in
      let degree : total b ≡ suc e = total-times (suc e) v ∙ ap (λ n. suc e * n) (total_variable i (omega arith)) ∙ (omega arith) in
      let added = total-plus_exponents A B in
      let some : eqb (suc e) 0 ≡ false = ne_eqb (suc e) 0 (λ none. absurd (omega arith)) in
      rw some (
        b,
        record {
          exponents = B;
          low = omega (arith, added, degree, whole, low);
          factor = power_factor F meaning inside name i (suc e) (term 1 b) (known 0 (omega arith) ∙ ap (λ n. meanings.Variable n) (omega arith)) (omega (arith, whole, low)) (power_within_small L e v V (omega (arith, total-times (suc e) v, degree, whole, low)));
        },
        subst (λ c. AreFactors (plus a b) (powers_tokens names es) c) (plus_assoc a b (spread (suc i) es) ∙ ap (plus a) (variable_and_later i (suc e) es (omega arith)))
            (powers_factors names es (suc i) (plus a b) (IsExponents-plus A B) (omega arith) (omega (arith, added, degree, whole, low))
            (λ k inner. known (suc k) (omega arith) ∙ ap (λ n. meanings.Variable n) (omega arith)) (λ k past. named (suc k) (omega arith))),
      )

  term_by : (rank : ℕ) → 0 < rank → rank < F.characteristic → (a : List ℕ) (powers : List (List Spelled)) → AreFactors origin powers a → IsReadTerm F meaning inside (parted 42 (factor_tokens rank powers)) (term rank a)
  term_by rank nonzero below a [] h =
      let bounds = prime_bounds F.characteristic L.prime in
      let value : term (rank % F.characteristic) origin ≡ term rank a = ap₂ term (mod-eq_of_lt below) h in
      factors_term F meaning inside (number_tokens rank) [] (term (rank % F.characteristic) origin) (term rank a) (number_factor F meaning inside rank (length (decimal rank)) (omega (arith, bounds.1))) value
  term_by rank nonzero below a (power ∷ powers) h =
      let b = h.0 in
      let fits : rank < F.size = omega (arith, L.characteristic_fits) in
      let bounds = prime_bounds F.characteristic L.prime in
      elim (cases_Bool (eqb rank 1)) [
        | inl one ↦ rw one (
            let later : AreFactors b powers a = subst (λ c. AreFactors c powers a) (origin_plus (h.1).exponents) h.2 in
            let turned = factors_turned 1 (omega arith) (one_below L) b (h.1).exponents powers a later in
            factors_term F meaning inside power powers (term 1 b) (term rank a) (h.1).factor
            (subst (λ r. AreTurned (times_factor F meaning inside) 42 (LacksSign 94) (term 1 b) powers (term r a)) (sym (eqb-true rank 1 one)) turned))
        | inr other ↦ rw other (
            let turned = factors_turned rank nonzero fits origin IsExponents-origin (power ∷ powers) a h in
            factors_term F meaning inside (number_tokens rank) (power ∷ powers) (term (rank % F.characteristic) origin) (term rank a) (number_factor F meaning inside rank (length (decimal rank)) (omega (arith, bounds.1)))
            (subst (λ r. AreTurned (times_factor F meaning inside) 42 (LacksSign 94) (term r origin) (power ∷ powers) (term rank a)) (sym (mod-eq_of_lt below)) turned))
      ]

  -- A term in the variables with these names, of degree at most 1,000 and with a rank below the characteristic.
  pub record IsPrintable (names : List (List ℕ)) (t : List ℕ × ℕ) : Type 0 where
    pub is_term : IsTerm F t
    pub rank : t.1 < F.characteristic
    pub low : total t.0 ≤ 1000
    pub named : IsNamed names t.0

  pub term_read : (names : List (List ℕ)) → AreVariables 0 names → (t : List ℕ × ℕ) → IsPrintable names t → IsReadTerm F meaning inside (term_tokens names t) (term t.1 t.0)
  term_read names known t P =
      let T = P.is_term in
      let factors = powers_factors names t.0 0 origin IsExponents-origin (omega (arith, (T.exponents).eight)) (let none = total_origin in omega (arith, P.low)) known P.named in
      term_by t.1 T.nonzero P.rank t.0 (powers_tokens names t.0) (subst (λ c. AreFactors origin (powers_tokens names t.0) c) (origin_plus T.exponents) factors)
