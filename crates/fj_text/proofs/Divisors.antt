-- The divisors of a monomial: where all terms of a polynomial divide m, those of its k-th power divide m^k, so that it has
-- at most as many terms as m^k has divisors.
use Rattle.std.proofs.Common.{◌≡◌, ℕ, zero, suc, ◌+◌, ◌*◌, ◌<◌, ◌≤◌, IsTrue, true, max, Some, slice_get, List, [], ◌∷◌, ◌++◌, length, map, drop, get_or, All, ◌⊎◌, inl, refl, sym, ap, ◌∙◌, subst, arith, ⊎_elim, mul_assoc, mul_comm}
use Rattle.std.specs.FinMap.{len}
use Rattle.std.specs.List.{list_any}
use Rattle.std.proofs.Math.Nat.{eq-or-lt_of_le, mul-le-mul_right}
use Rattle.std.proofs.lemmas.Bool.{and_parts, and_from, leb-true, le-leb}
use Rattle.std.proofs.lemmas.Cmp.{eq_by_cmp_equiv, nat_list_cmp_total}
use Rattle.std.proofs.lemmas.Map.Made.{All-is_member}
use Rattle.std.proofs.lemmas.Option.{none-some, same_Some, slice_get-get_or}
use Rattle.std.proofs.lemmas.List.{length-map, length-append, drop_more}
use Rattle.std.proofs.lemmas.List.Elements.{All-nil, All-cons, All-head, All-tail, All-append, All-map, All-weaker}
use Rattle.fj_coeff.specs.Field.{Field, IsField}
use Rattle.fj_theory.specs.Exponents.{IsExponents, divides, least_common_multiple, origin, plus, times}
use Rattle.fj_theory.specs.MonomialOrder.{IsMonomialOrder}
use Rattle.fj_theory.specs.Polynomial.{Polynomial, IsPolynomial, coefficient, power, support, terms_falling}
use Rattle.fj_theory.proofs.Exponents.{IsExponents-times, divides_trans, origin_divides, times_suc}
use Rattle.fj_theory.proofs.FormalSum.{same}
use Rattle.fj_theory.proofs.Polynomial.{support_exponents, support_found}
use Rattle.fj_theory.proofs.PolynomialRing.{IsPolynomial-power}
use Rattle.fj_theory.proofs.Terms.{find-terms_falling, find_All}
use Rattle.fj_text.specs.Divisors.{divisor_count}
use Rattle.fj_text.proofs.Members.{Has, has_all, has_left, has_right, has_mapped, len_among}
use Rattle.fj_text.proofs.Sums.{sums, power_in_sums}

-- The lists with a first entry from 0 to x before these lists.
unfoldable counted : ℕ → List (List ℕ) → List (List ℕ)
counted zero ds = map (λ d. 0 ∷ d) ds
counted (suc x) ds = map (λ d. suc x ∷ d) ds ++ counted x ds

-- The exponent lists of the divisors.
unfoldable divisors : List ℕ → List (List ℕ)
divisors [] = [] ∷ []
divisors (x ∷ a) = counted x (divisors a)

length-counted : (x : ℕ) (ds : List (List ℕ)) → length (counted x ds) ≡ suc x * length ds
unfolding counted
length-counted zero ds = let all = length-map ds (λ (d : List ℕ). 0 ∷ d) in omega (arith, all)
length-counted (suc x) ds =
    let rest = length-counted x ds in
    let whole = length-append (map (λ d. suc x ∷ d) ds) (counted x ds) in
    let first = length-map ds (λ (d : List ℕ). suc x ∷ d) in
    let more : suc (suc x) * length ds ≡ length ds + suc x * length ds = omega arith in
    omega (arith, rest, whole, first, more)

length-divisors : (m : List ℕ) → length (divisors m) ≡ divisor_count m
unfolding divisors divisor_count
length-divisors [] = refl
length-divisors (x ∷ a) = length-counted x (divisors a) ∙ ap (λ n. suc x * n) (length-divisors a)

has_counted : (x y : ℕ) (ds : List (List ℕ)) (d : List ℕ) → y ≤ x → Has ds d → Has (counted x ds) (y ∷ d)
unfolding counted
has_counted zero zero ds d h m = has_mapped (λ e. 0 ∷ e) ds d m
has_counted zero (suc y) ds d h m = absurd (omega arith)
has_counted (suc x) y ds d h m =
    ⊎_elim
    (λ e. has_left (map (λ e. suc x ∷ e) ds) (counted x ds) (y ∷ d) (subst (λ z. Has (map (λ e. suc x ∷ e) ds) (z ∷ d)) (sym e) (has_mapped (λ e. suc x ∷ e) ds d m)))
    (λ l. has_right (map (λ e. suc x ∷ e) ds) (counted x ds) (y ∷ d) (has_counted x y ds d (omega arith) m))
    (eq-or-lt_of_le h)

has_divisor : (a m : List ℕ) → length a ≡ length m → divides a m ≡ true → Has (divisors m) a
unfolding divisors divides Has
has_divisor [] [] e h = inl refl
has_divisor [] (x ∷ m) e h = absurd (omega arith)
has_divisor (y ∷ a) [] e h = absurd (omega arith)
has_divisor (y ∷ a) (x ∷ m) e h = let p = and_parts _ _ h in has_counted x y (divisors m) a (leb-true y x p.0) (has_divisor a m (omega arith) p.1)

-- They have as many entries.
abbrev AsLong : ℕ → List ℕ → Type 0
AsLong n d = length d ≡ n

counted_long : (x n : ℕ) (ds : List (List ℕ)) → All (AsLong n) ds → All (AsLong (suc n)) (counted x ds)
unfolding counted
counted_long zero n ds all = All-map (AsLong (suc n)) (λ d. 0 ∷ d) ds (All-weaker (AsLong n) (λ d. AsLong (suc n) (0 ∷ d)) (λ d e. ap suc e) ds all)
counted_long (suc x) n ds all =
    All-append (AsLong (suc n)) (map (λ d. suc x ∷ d) ds) (counted x ds)
    (All-map (AsLong (suc n)) (λ d. suc x ∷ d) ds (All-weaker (AsLong n) (λ d. AsLong (suc n) (suc x ∷ d)) (λ d e. ap suc e) ds all)) (counted_long x n ds all)

divisors_long : (m : List ℕ) → All (AsLong (length m)) (divisors m)
unfolding divisors
divisors_long [] = All-cons (AsLong 0) [] [] refl (All-nil (AsLong 0))
divisors_long (x ∷ a) = counted_long x (length a) (divisors a) (divisors_long a)

-- A product of divisors divides the product.
plus_divides : (a b m n : List ℕ) → divides a m ≡ true → divides b n ≡ true → divides (plus a b) (plus m n) ≡ true
unfolding plus divides
plus_divides [] b m n h k = refl
plus_divides (x ∷ a) [] m n h k = refl
plus_divides (x ∷ a) (y ∷ b) [] n h k = absurd cc
plus_divides (x ∷ a) (y ∷ b) (u ∷ m) [] h k = absurd cc
plus_divides (x ∷ a) (y ∷ b) (u ∷ m) (v ∷ n) h k =
    let p = and_parts _ _ h in
    let q = and_parts _ _ k in
    let le = leb-true x u p.0 in
    let le' = leb-true y v q.0 in
    and_from _ _ (le-leb (x + y) (u + v) (omega arith)) (plus_divides a b m n p.1 q.1)

abbrev Divide : List ℕ → List ℕ → Type 0
Divide m a = divides a m ≡ true

sums_divide : {m : List ℕ} → IsExponents m → (k : ℕ) (us : List (List ℕ)) → All (Divide m) us → All (Divide (times k m)) (sums k us)
unfolding sums
sums_divide {m} M zero us all = All-cons (Divide (times 0 m)) origin [] (origin_divides (IsExponents-times 0 M)) (All-nil (Divide (times 0 m)))
sums_divide {m} M (suc k) [] all = All-nil (Divide (times (suc k) m))
sums_divide {m} M (suc k) (a ∷ us) all =
    All-append (Divide (times (suc k) m)) (map (plus a) (sums k (a ∷ us))) (sums (suc k) us)
    (All-map (Divide (times (suc k) m)) (plus a) (sums k (a ∷ us))
    (All-weaker (Divide (times k m)) (λ b. Divide (times (suc k) m) (plus a b))
    (λ b h. subst (λ n. divides (plus a b) n ≡ true) (sym (times_suc k m)) (plus_divides a b m (times k m) (All-head (Divide m) a us all) h)) (sums k (a ∷ us)) (sums_divide M k (a ∷ us) all)))
    (sums_divide M (suc k) us (All-tail (Divide m) a us all))

-- A lower power divides a higher one.
times_rise : (j k : ℕ) (m : List ℕ) → j ≤ k → divides (times j m) (times k m) ≡ true
unfolding times divides
times_rise j k [] h = refl
times_rise j k (x ∷ m) h = and_from _ _ (le-leb (j * x) (k * x) (mul-le-mul_right x h)) (times_rise j k m h)

module _ {F : Field} (L : IsField F) {f : Polynomial} (P : IsPolynomial F f) {m : List ℕ} (M : IsExponents m) (all : All (Divide m) (support f)) where
  -- The powers up to the k-th have at most as many terms as m^k has divisors.
  pub len-power_of_divisors : (j k : ℕ) → j ≤ k → len (power F f j) ≤ divisor_count (times k m)
  len-power_of_divisors j k h =
      let Q : IsPolynomial F (power F f j) = IsPolynomial-power L P j in
      let N : IsExponents (times k m) = IsExponents-times k M in
      let own : All (λ a. IsExponents a) (divisors (times k m)) = All-weaker (AsLong (length (times k m))) (λ a. IsExponents a) (λ a e. record { eight = e ∙ N.eight }) (divisors (times k m)) (divisors_long (times k m)) in
      let among = len_among L Q (divisors (times k m)) own (λ i d l.
      let A : IsExponents (get_or (support (power F f j)) i d) = support_exponents Q i d l in
      let low = has_all (Divide (times j m)) (sums j (support f)) _ (sums_divide M j (support f) all) (power_in_sums L P j i d l) in
      has_divisor _ (times k m) (A.eight ∙ sym N.eight) (divides_trans _ (times j m) (times k m) low (times_rise j k m h))) in
      omega (arith, among, length-divisors (times k m))

-- A common multiple of two monomials.
pub divides-lcm_left : (a b : List ℕ) → length a ≡ length b → divides a (least_common_multiple a b) ≡ true
unfolding least_common_multiple divides
divides-lcm_left [] b e = refl
divides-lcm_left (x ∷ a) [] e = absurd (omega arith)
divides-lcm_left (x ∷ a) (y ∷ b) e = and_from _ _ (le-leb x (max x y) (omega arith)) (divides-lcm_left a b (omega arith))

pub divides-lcm_right : (a b : List ℕ) → length a ≡ length b → divides b (least_common_multiple a b) ≡ true
unfolding least_common_multiple divides
divides-lcm_right [] [] e = refl
divides-lcm_right [] (y ∷ b) e = absurd (omega arith)
divides-lcm_right (x ∷ a) [] e = absurd (omega arith)
divides-lcm_right (x ∷ a) (y ∷ b) e = and_from _ _ (le-leb y (max x y) (omega arith)) (divides-lcm_right a b (omega arith))

-- The number of divisors, one variable after the other.
pub divisor_count-more : (k : ℕ) (a : List ℕ) (i count : ℕ) → i < length a
    → count * (get_or a i 0 * k + 1) * divisor_count (times k (drop (i + 1) a)) ≡ count * divisor_count (times k (drop i a))
unfolding divisor_count times
divisor_count-more k a i count l =
    let one : get_or a i 0 * k + 1 ≡ suc (k * get_or a i 0) = omega (arith, mul_comm k (get_or a i 0)) in
    mul_assoc count (get_or a i 0 * k + 1) _ ∙ ap (λ n. count * n) (ap (λ n. n * divisor_count (times k (drop (i + 1) a))) one ∙ sym (ap (λ b. divisor_count (times k b)) (drop_more a i 0 l)))

pub divisor_count-end : (k : ℕ) (a : List ℕ) (i : ℕ) → length a ≤ i → divisor_count (times k (drop i a)) ≡ 1
unfolding divisor_count times
divisor_count-end k [] zero l = refl
divisor_count-end k [] (suc i) l = refl
divisor_count-end k (x ∷ a) zero l = absurd (omega arith)
divisor_count-end k (x ∷ a) (suc i) l = divisor_count-end k a i (omega arith)

-- A monomial that the terms up to the i-th divide, and one more.
module _ (ts : List (List ℕ × ℕ)) (a : List ℕ) (i : ℕ) (u : List ℕ × ℕ) (n : List ℕ) where
  pub multiple-more : length a ≡ length u.0 → ((j : ℕ) (t : List ℕ × ℕ) → j < i → slice_get ts j ≡ Some t → IsTrue (divides t.0 a)) → slice_get ts i ≡ Some u
      → n ≡ least_common_multiple a u.0 → (j : ℕ) (t : List ℕ × ℕ) → j < i + 1 → slice_get ts j ≡ Some t → IsTrue (divides t.0 n)
  multiple-more long before at next j t h own =
      ⊎_elim
      (λ e. let same : u ≡ t = same_Some u t (sym at ∙ ap (slice_get ts) (sym e) ∙ own) in
      subst (λ v. divides v.0 n ≡ true) same (subst (λ b. divides u.0 b ≡ true) (sym next) (divides-lcm_right a u.0 long)))
      (λ l. divides_trans t.0 a n (before j t l own) (subst (λ b. divides a b ≡ true) (sym next) (divides-lcm_left a u.0 long)))
      (or_before (omega arith))
    where
      or_before : j ≤ i → (j ≡ i) ⊎ (j < i)
      or_before le = eq-or-lt_of_le le

pub within_list : (ts : List (List ℕ × ℕ)) (i : ℕ) (t : List ℕ × ℕ) → slice_get ts i ≡ Some t → i < length ts
within_list [] i t e = absurd (none-some t e)
within_list (u ∷ ts) zero t e = omega arith
within_list (u ∷ ts) (suc i) t e = let rest = within_list ts i t e in omega (arith, rest)

-- What all terms divide, each exponent list of the polynomial divides.
pub divide-support : {key : List ℕ → List ℕ} (O : IsMonomialOrder key) {F : Field} {f : Polynomial} → IsPolynomial F f → (m : List ℕ)
    → ((i : ℕ) (t : List ℕ × ℕ) → slice_get (terms_falling key f) i ≡ Some t → IsTrue (divides t.0 m)) → All (λ a. divides a m ≡ true) (support f)
divide-support {key} O {F} {f} P m h =
    All-weaker (λ b. list_any (same b) (support f) ≡ true) (λ b. divides b m ≡ true)
    (λ b e. find_All (λ t. divides t.0 m ≡ true) (terms_falling key f) b (coefficient f b) each (find-terms_falling O P b ∙ support_found f b e)) (support f)
    (All-is_member (eq_by_cmp_equiv nat_list_cmp_total) (support f))
  where
    each : All (λ t. divides t.0 m ≡ true) (terms_falling key f)
    each k d l = h k (get_or (terms_falling key f) k d) (slice_get-get_or (terms_falling key f) k d l)
