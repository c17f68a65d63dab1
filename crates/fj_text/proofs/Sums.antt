-- Sums of exponent lists: each term of the k-th power of a polynomial is a sum of k of its terms, so that the powers of
-- few terms have few terms.
use Rattle.std.proofs.Common.{ℕ, zero, suc, ◌≤◌, List, [], ◌∷◌, ◌++◌, length, map, All, inl, inr, sym, ap, ◌∙◌, subst, arith, ⊎_elim}
use Rattle.std.specs.FinMap.{entries, len, len-entries}
use Rattle.std.specs.List.{flat_map}
use Rattle.std.proofs.lemmas.List.{length-map, length-append}
use Rattle.std.proofs.lemmas.List.Elements.{All-nil, All-cons, All-head, All-tail, All-append, All-map, All-weaker}
use Rattle.fj_coeff.specs.Field.{Field, IsField}
use Rattle.fj_algebra.specs.StrictSteps.{monomial_count}
use Rattle.fj_theory.specs.Exponents.{IsExponents, origin, plus}
use Rattle.fj_theory.specs.Polynomial.{Polynomial, IsPolynomial, convolution, power, product, support, term}
use Rattle.fj_theory.proofs.Exponents.{IsExponents-origin, IsExponents-plus, plus_left_comm}
use Rattle.fj_theory.proofs.Polynomial.{support-with_coefficients, support_exponents}
use Rattle.fj_theory.proofs.PolynomialRing.{IsPolynomial-power, power_suc, power_zero}
use Rattle.fj_text.proofs.Members.{Has, has_left, has_right, has_either, has_mapped, moved_from, own_members, len_among}

-- The sums of k members of a list, each of which may be taken several times.
unfoldable pub sums : ℕ → List (List ℕ) → List (List ℕ)
sums zero us = origin ∷ []
sums (suc k) [] = []
sums (suc k) (a ∷ us) = map (plus a) (sums k (a ∷ us)) ++ sums (suc k) us

-- A member more.
sum_more : (k : ℕ) (us : List (List ℕ)) (a b : List ℕ) → Has us a → Has (sums k us) b → Has (sums (suc k) us) (plus a b)
unfolding Has sums
sum_more k [] a b h s = absurd h
sum_more k (x ∷ us) a b (inl e) s =
    has_left (map (plus x) (sums k (x ∷ us))) (sums (suc k) us) (plus a b) (subst (λ y. Has (map (plus x) (sums k (x ∷ us))) (plus y b)) e (has_mapped (plus x) (sums k (x ∷ us)) b s))
sum_more zero (x ∷ us) a b (inr h) s =
    has_right (map (plus x) (sums 0 (x ∷ us))) (sums 1 us) (plus a b) (sum_more 0 us a b h s)
sum_more (suc k) (x ∷ us) a b (inr h) s =
    ⊎_elim
    (λ l. let c = moved_from x (sums k (x ∷ us)) b l in
    has_left (map (plus x) (sums (suc k) (x ∷ us))) (sums (suc (suc k)) us) (plus a b)
    (subst (Has (map (plus x) (sums (suc k) (x ∷ us)))) (plus_left_comm x a c.0 ∙ ap (plus a) c.2) (has_mapped (plus x) (sums (suc k) (x ∷ us)) (plus a c.0) (sum_more k (x ∷ us) a c.0 (inr h) c.1))))
    (λ r. has_right (map (plus x) (sums (suc k) (x ∷ us))) (sums (suc (suc k)) us) (plus a b) (sum_more (suc k) us a b h r))
    (has_either (map (plus x) (sums k (x ∷ us))) (sums (suc k) us) b s)

module _ (k : ℕ) (us : List (List ℕ)) where
  one_row : (b : List ℕ) → Has us b → (cs : List (List ℕ)) → All (Has (sums k us)) cs → All (Has (sums (suc k) us)) (map (plus b) cs)
  one_row b h cs all =
      All-map (Has (sums (suc k) us)) (plus b) cs (All-weaker (Has (sums k us)) (λ c. Has (sums (suc k) us) (plus b c)) (λ c s. sum_more k us b c h s) cs all)

  rows : (bs cs : List (List ℕ)) → All (Has us) bs → All (Has (sums k us)) cs → All (Has (sums (suc k) us)) (flat_map (λ b. map (plus b) cs) bs)
  rows [] cs from all = All-nil (Has (sums (suc k) us))
  rows (b ∷ bs) cs from all =
      All-append (Has (sums (suc k) us)) (map (plus b) cs) (flat_map (λ b. map (plus b) cs) bs) (one_row b (All-head (Has us) b bs from) cs all) (rows bs cs (All-tail (Has us) b bs from) all)

-- Of t + 1 exponent lists there are at most C(t + k, t) sums of k.
few_sums : (k t : ℕ) (us : List (List ℕ)) → length us ≤ suc t → length (sums k us) ≤ monomial_count t k
unfolding sums monomial_count
few_sums zero zero us h = omega arith
few_sums zero (suc t) us h = omega arith
few_sums (suc k) t [] h = omega arith
few_sums (suc k) zero (a ∷ []) h =
    let before = few_sums k zero (a ∷ []) h in
    let whole = length-append (map (plus a) (sums k (a ∷ []))) [] in
    let moved = length-map (sums k (a ∷ [])) (plus a) in
    omega (arith, before, whole, moved)
few_sums (suc k) zero (a ∷ b ∷ us) h = absurd (omega arith)
few_sums (suc k) (suc t) (a ∷ us) h =
    let rest = few_sums (suc k) t us (omega arith) in
    let before = few_sums k (suc t) (a ∷ us) h in
    let whole = length-append (map (plus a) (sums k (a ∷ us))) (sums (suc k) us) in
    let moved = length-map (sums k (a ∷ us)) (plus a) in
    omega (arith, rest, before, whole, moved)

sums_exponents : (k : ℕ) (us : List (List ℕ)) → All IsExponents us → All IsExponents (sums k us)
unfolding sums
sums_exponents zero us all = All-cons IsExponents origin [] IsExponents-origin (All-nil IsExponents)
sums_exponents (suc k) [] all = All-nil IsExponents
sums_exponents (suc k) (a ∷ us) all =
    let first = All-head IsExponents a us all in
    All-append IsExponents (map (plus a) (sums k (a ∷ us))) (sums (suc k) us)
    (All-map IsExponents (plus a) (sums k (a ∷ us)) (All-weaker IsExponents (λ b. IsExponents (plus a b)) (λ b B. IsExponents-plus first B) (sums k (a ∷ us)) (sums_exponents k (a ∷ us) all)))
    (sums_exponents (suc k) us (All-tail IsExponents a us all))

module _ {F : Field} (L : IsField F) {f : Polynomial} (P : IsPolynomial F f) where
  pub power_in_sums : (k : ℕ) → All (Has (sums k (support f))) (support (power F f k))
  unfolding Has sums product term
  power_in_sums zero =
      subst (λ g. All (Has (origin ∷ [])) (support g)) (sym (power_zero L P))
      (support-with_coefficients (λ _. 1) (Has (origin ∷ [])) (origin ∷ []) (own_members (origin ∷ [])))
  power_in_sums (suc k) =
      subst (λ g. All (Has (sums (suc k) (support f))) (support g)) (sym (power_suc L P k))
      (support-with_coefficients (convolution F f (power F f k)) (Has (sums (suc k) (support f))) (flat_map (λ b. map (plus b) (support (power F f k))) (support f))
      (rows k (support f) (support f) (support (power F f k)) (own_members (support f)) (power_in_sums k)))

  -- The k-th power of t + 1 terms has at most C(t + k, t) terms.
  pub len-power_of_few : (t : ℕ) → len f ≤ suc t → (k : ℕ) → len (power F f k) ≤ monomial_count t k
  len-power_of_few t few k =
      let all = length-map (entries f) (λ e. e.0) in
      let count = len-entries f in
      let sums_many = few_sums k t (support f) (omega (arith, all, count, few)) in
      let among = len_among L (IsPolynomial-power L P k) (sums k (support f)) (sums_exponents k (support f) (support_exponents P)) (power_in_sums k) in
      omega (arith, sums_many, among)
