-- Comparing two exponent lists from the front of their keys.
use Rattle.std.proofs.Common.{◌≡◌, ◌≢◌, ℕ, zero, suc, ◌+◌, ◌-◌, ◌<◌, ◌≤◌, List, [], ◌∷◌, ◌++◌, length, take, sum, get_or, refl, sym, ◌∙◌, ap, arith, sub-one}
use Rattle.std.proofs.lemmas.List.{take_all}
use Rattle.std.proofs.lemmas.List.Sums.{sum_by_more}
use Rattle.std.specs.Ordering.{nat_cmp, ordering_then}
use Rattle.std.specs.Cmp.{nat_cmp_total, tied_itself}
use Rattle.std.specs.FinMap.{nat_cmp-IsAntisymmetric}
use Rattle.std.specs.Cmp.Lexicographic.{slice_cmp}
use Rattle.std.specs.declared.cmp.Ordering.{Ordering}
use Rattle.std.specs.declared.cmp.Ordering.TheVariants.{Less, Equal, Greater}
use Rattle.fj_theory.specs.MonomialOrder.{front_sums, lex_key, grlex_key, grevlex_key, elim_key, compare_by}

-- A common last entry decides nothing between lists of one length.
slice_cmp-append : (a b : List ℕ) → length a ≡ length b → slice_cmp nat_cmp (a ++ 0 ∷ []) (b ++ 0 ∷ []) ≡ slice_cmp nat_cmp a b
slice_cmp-append [] [] e = refl
slice_cmp-append [] (y ∷ b) e = absurd (omega arith)
slice_cmp-append (x ∷ a) [] e = absurd (omega arith)
slice_cmp-append (x ∷ a) (y ∷ b) e = ap (ordering_then (nat_cmp x y)) (slice_cmp-append a b (omega arith))

length-front_sums : (n : ℕ) (a : List ℕ) → length (front_sums n a) ≡ n
unfolding front_sums
length-front_sums zero a = refl
length-front_sums (suc n) a = ap suc (length-front_sums n a)

fronts : (n : ℕ) (a b : List ℕ) → slice_cmp nat_cmp (front_sums n a ++ 0 ∷ []) (front_sums n b ++ 0 ∷ []) ≡ compare_by (front_sums n) a b
fronts n a b = slice_cmp-append (front_sums n a) (front_sums n b) (length-front_sums n a ∙ sym (length-front_sums n b))

-- Lex is the lexicographic order of the exponent lists.
pub compare_by-lex : (a b : List ℕ) → length a ≡ length b → compare_by lex_key a b ≡ slice_cmp nat_cmp a b
unfolding lex_key
compare_by-lex a b e = slice_cmp-append a b e

-- Grlex takes the total first.
pub compare_by-grlex : (a b : List ℕ) → length a ≡ length b → compare_by grlex_key a b ≡ ordering_then (nat_cmp (sum a) (sum b)) (compare_by lex_key a b)
unfolding grlex_key
compare_by-grlex a b e = ap (ordering_then (nat_cmp (sum a) (sum b))) (sym (compare_by-lex a b e))

-- Grevlex is the order by the sums of the first exponents.
pub compare_by-grevlex : (a b : List ℕ) → compare_by grevlex_key a b ≡ compare_by (front_sums 8) a b
unfolding grevlex_key
compare_by-grevlex a b = fronts 8 a b

-- The elimination order takes the eighth exponent first.
pub compare_by-elim : (a b : List ℕ) → compare_by elim_key a b ≡ ordering_then (nat_cmp (get_or a 7 0) (get_or b 7 0)) (compare_by (front_sums 7) a b)
unfolding elim_key
compare_by-elim a b = ap (ordering_then (nat_cmp (get_or a 7 0) (get_or b 7 0))) (fronts 7 a b)

pub compare_front-none : (a b : List ℕ) → compare_by (front_sums 0) a b ≡ Equal
unfolding front_sums
compare_front-none a b = refl

-- One more sum is compared first.
pub compare_front-more : (count : ℕ) (a b : List ℕ) → 0 < count
    → compare_by (front_sums count) a b ≡ ordering_then (nat_cmp (sum (take count a)) (sum (take count b))) (compare_by (front_sums (count - 1)) a b)
unfolding front_sums
compare_front-more zero a b positive = absurd (omega arith)
compare_front-more (suc count) a b positive = rw sub-one refl

-- Two numbers that are equal decide nothing, and two that differ decide.
pub ordering_then-equal : (x y : ℕ) (s : Ordering) → x ≡ y → ordering_then (nat_cmp x y) s ≡ s
ordering_then-equal x y s e = ap (λ r. ordering_then r s) (ap (nat_cmp x) (sym e) ∙ tied_itself nat_cmp_total x)

decided : (r s : Ordering) → r ≢ Equal → ordering_then r s ≡ r
decided Less s differs = refl
decided Equal s differs = absurd (differs refl)
decided Greater s differs = refl

pub ordering_then-differing : (x y : ℕ) (s : Ordering) → x ≢ y → ordering_then (nat_cmp x y) s ≡ nat_cmp x y
ordering_then-differing x y s differs = decided (nat_cmp x y) s (λ e. differs (nat_cmp-IsAntisymmetric x y e))

pub sum-take-less : (count : ℕ) (a : List ℕ) → 0 < count → count ≤ length a
    → sum (take (count - 1) a) + get_or a (count - 1) 0 ≡ sum (take count a)
sum-take-less count a positive within =
    let next : count - 1 + 1 ≡ count = omega arith in
    sym (ap (λ k. sum (take k a)) (sym next) ∙ sum_by_more (λ x. x) a (count - 1) 0 (omega arith))
