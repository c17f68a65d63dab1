-- Exponent lists by quotient and residue modulo q, and the residues.
use Rattle.std.proofs.Common.{◌≡◌, ℕ, zero, suc, ◌+◌, ◌*◌, ◌/◌, ◌%◌, ◌<◌, ◌≤◌, Bool, true, false, cond, List, [], ◌∷◌, ◌++◌, length, map, flat_map, All, nat_cmp, Less, refl, sym, ap, ap₂, ◌∙◌, arith, mod-lt, T, ◌==◌, ◌||◌, is_eq, eqb-true}
use Rattle.std.specs.List.Sorted.{IsStrictlySortedBy}
use Rattle.std.specs.List.{list_any, range_with_len}
use Rattle.std.specs.Cmp.Lexicographic.{slice_cmp}
use Rattle.std.specs.Ordering.{ordering_then}
use Rattle.std.specs.FinMap.{entries, entries_sorted, is_sorted}
use Rattle.std.proofs.lemmas.Bool.{true≢false, eqb-false, or_left, or_right}
use Rattle.std.proofs.lemmas.List.Folds.{list_any-append}
use Rattle.std.proofs.lemmas.Cmp.{nat_list_cmp_total, nat_cmp_total, tied_itself}
use Rattle.std.proofs.lemmas.List.{length-map}
use Rattle.std.proofs.lemmas.List.Elements.{All-from_recursion, All-nil, All-cons, All-head, All-tail, All-append, All-map, All-weaker}
use Rattle.fj_theory.specs.Exponents.{IsExponents, plus, times, quotient_by, residue_by}
use Rattle.fj_theory.specs.MonomialOrder.{compare_by, lex_key, IsRising}
use Rattle.fj_theory.specs.Polynomial.{Polynomial, support, with_coefficients}
use Rattle.fj_theory.proofs.Exponents.{cons_same}
use Rattle.fj_theory.proofs.Polynomial.{coefficient-with_coefficients, support_listed, support-with_coefficients}
use Rattle.fj_theory.proofs.Product.{All_above, T_left, T_right, below_not_same, exponents_of}
use Rattle.fj_theory.proofs.FormalSum.{same}

quotient_residue : (q k : ℕ) → 0 < q → q * (k / q) + k % q ≡ k
quotient_residue q k h = omega arith

pub length-quotient_by : (q : ℕ) (a : List ℕ) → length (quotient_by q a) ≡ length a
unfolding quotient_by
length-quotient_by q a = length-map a (λ k. k / q)

pub length-residue_by : (q : ℕ) (a : List ℕ) → length (residue_by q a) ≡ length a
unfolding residue_by
length-residue_by q a = length-map a (λ k. k % q)

-- A list is q times its quotient plus its residue.
pub quotient-residue : (q : ℕ) (a : List ℕ) → 0 < q → plus (times q (quotient_by q a)) (residue_by q a) ≡ a
unfolding plus times quotient_by residue_by
quotient-residue q [] h = refl
quotient-residue q (k ∷ a) h = cons_same (quotient_residue q k h) (quotient-residue q a h)

pub residue_by-below : (q : ℕ) (a : List ℕ) → 0 < q → All (λ k. k < q) (residue_by q a)
unfolding residue_by
residue_by-below q [] h = All-nil (λ k. k < q)
residue_by-below q (k ∷ a) h = All-cons (λ j. j < q) (k % q) _ (mod-lt k h) (residue_by-below q a h)

pub IsExponents-quotient_by : (q : ℕ) {a : List ℕ} → IsExponents a → IsExponents (quotient_by q a)
IsExponents-quotient_by q {a} A = record { eight = length-quotient_by q a ∙ A.eight }

pub IsExponents-residue_by : (q : ℕ) {a : List ℕ} → IsExponents a → IsExponents (residue_by q a)
IsExponents-residue_by q {a} A = record { eight = length-residue_by q a ∙ A.eight }

residue_step : (q x y : ℕ) → y < q → (q * x + y) % q ≡ y
residue_step q x y h = grind arith

quotient_step : (q x y : ℕ) → y < q → (q * x + y) / q ≡ x
quotient_step q x y h = grind arith

-- The residue and the quotient are the only ones.
residue_by_lists : (q : ℕ) (b a : List ℕ) → length b ≡ length a → All (λ k. k < q) a → residue_by q (plus (times q b) a) ≡ a
unfolding plus times residue_by
residue_by_lists q [] [] e all = refl
residue_by_lists q [] (y ∷ a) e all = absurd (omega arith)
residue_by_lists q (x ∷ b) [] e all = absurd (omega arith)
residue_by_lists q (x ∷ b) (y ∷ a) e all = cons_same (residue_step q x y (All-head (λ k. k < q) y a all)) (residue_by_lists q b a (omega arith) (All-tail (λ k. k < q) y a all))

quotient_by_lists : (q : ℕ) (b a : List ℕ) → length b ≡ length a → All (λ k. k < q) a → quotient_by q (plus (times q b) a) ≡ b
unfolding plus times quotient_by
quotient_by_lists q [] [] e all = refl
quotient_by_lists q [] (y ∷ a) e all = absurd (omega arith)
quotient_by_lists q (x ∷ b) [] e all = absurd (omega arith)
quotient_by_lists q (x ∷ b) (y ∷ a) e all = cons_same (quotient_step q x y (All-head (λ k. k < q) y a all)) (quotient_by_lists q b a (omega arith) (All-tail (λ k. k < q) y a all))

pub residue_by-plus : (q : ℕ) {b a : List ℕ} → IsExponents b → IsExponents a → All (λ k. k < q) a → residue_by q (plus (times q b) a) ≡ a
residue_by-plus q {b} {a} B A = residue_by_lists q b a (B.eight ∙ sym A.eight)

pub quotient_by-plus : (q : ℕ) {b a : List ℕ} → IsExponents b → IsExponents a → All (λ k. k < q) a → quotient_by q (plus (times q b) a) ≡ b
quotient_by-plus q {b} {a} B A = quotient_by_lists q b a (B.eight ∙ sym A.eight)

-- No two lists are the same.
abbrev pub Distinct : List (List ℕ) → Type 0
Distinct [] = Unit {0}
Distinct (a ∷ more) = All (λ b. same a b ≡ false) more × Distinct more

zeros_compare : (a b : List ℕ) → length a ≡ length b → slice_cmp nat_cmp (a ++ 0 ∷ []) (b ++ 0 ∷ []) ≡ slice_cmp nat_cmp a b
zeros_compare [] [] e = refl
zeros_compare [] (y ∷ b) e = absurd (omega arith)
zeros_compare (x ∷ a) [] e = absurd (omega arith)
zeros_compare (x ∷ a) (y ∷ b) e = ap (ordering_then (nat_cmp x y)) (zeros_compare a b (omega arith))

-- Lex compares the exponent lists as lists of numbers.
pub compare_by-lex_key : {a b : List ℕ} → IsExponents a → IsExponents b → compare_by lex_key a b ≡ slice_cmp nat_cmp a b
unfolding lex_key
compare_by-lex_key {a} {b} A B = zeros_compare a b (A.eight ∙ sym B.eight)

-- Each list is less than all later ones.
abbrev pub Rises : List (List ℕ) → Type 0
Rises [] = Unit {0}
Rises (a ∷ more) = All (λ b. slice_cmp nat_cmp a b ≡ Less) more × Rises more

pub Rises-from_IsRising : (rs : List (List ℕ)) → All IsExponents rs → IsRising lex_key rs → Rises rs
Rises-from_IsRising [] all h = tt
Rises-from_IsRising (a ∷ []) all h = (All-nil (λ b. slice_cmp nat_cmp a b ≡ Less), tt)
Rises-from_IsRising (a ∷ b ∷ more) all h =
    let later = All-tail IsExponents a (b ∷ more) all in
    let rest = Rises-from_IsRising (b ∷ more) later h.1 in
    let first = sym (compare_by-lex_key (All-head IsExponents a (b ∷ more) all) (All-head IsExponents b more later)) ∙ h.0 in
    (All-cons (λ c. slice_cmp nat_cmp a c ≡ Less) b more first (All-weaker (λ c. slice_cmp nat_cmp b c ≡ Less) (λ c. slice_cmp nat_cmp a c ≡ Less) (λ c l. nat_list_cmp_total.trans a b c first l) more rest.0), rest)

pub IsRising-from_Rises : (rs : List (List ℕ)) → All IsExponents rs → Rises rs → IsRising lex_key rs
IsRising-from_Rises [] all h = tt
IsRising-from_Rises (a ∷ []) all h = tt
IsRising-from_Rises (a ∷ b ∷ more) all h =
    let later = All-tail IsExponents a (b ∷ more) all in
    (compare_by-lex_key (All-head IsExponents a (b ∷ more) all) (All-head IsExponents b more later) ∙ All-head (λ c. slice_cmp nat_cmp a c ≡ Less) b more h.0, IsRising-from_Rises (b ∷ more) later h.1)

Rises-from_IsStrictlySortedBy : (rs : List (List ℕ)) → IsStrictlySortedBy (slice_cmp nat_cmp) rs → Rises rs
unfolding IsStrictlySortedBy
Rises-from_IsStrictlySortedBy [] h = tt
Rises-from_IsStrictlySortedBy (a ∷ more) h = (All-from_recursion (λ b. slice_cmp nat_cmp a b ≡ Less) more h.0, Rises-from_IsStrictlySortedBy more h.1)

-- Exponent lists that rise as lists of numbers, as the keys of a map do, rise in Lex.
pub IsRising-from_IsStrictlySortedBy : (rs : List (List ℕ)) → All IsExponents rs → IsStrictlySortedBy (slice_cmp nat_cmp) rs → IsRising lex_key rs
IsRising-from_IsStrictlySortedBy rs all h = IsRising-from_Rises rs all (Rises-from_IsStrictlySortedBy rs h)

pub Distinct-from_Rises : (rs : List (List ℕ)) → Rises rs → Distinct rs
Distinct-from_Rises [] h = tt
Distinct-from_Rises (a ∷ more) h = (All-weaker (λ b. slice_cmp nat_cmp a b ≡ Less) (λ b. same a b ≡ false) (λ b l. below_not_same a b l) more h.0, Distinct-from_Rises more h.1)

Rises-from_sorted : {X : Type 0} (es : List (List ℕ × X)) → T (is_sorted (slice_cmp nat_cmp) es) → Rises (exponents_of es)
Rises-from_sorted [] h = tt
Rises-from_sorted {X} (e ∷ es) h =
    (All-map (λ b. slice_cmp nat_cmp e.0 b ≡ Less) (λ (d : List ℕ × X). d.0) es (All_above e.0 es (T_left _ _ h)), Rises-from_sorted es (T_right _ _ h))

-- The exponent lists of a polynomial rise.
pub Rises-support : (f : Polynomial) → Rises (support f)
Rises-support f = Rises-from_sorted (entries f) (entries_sorted f)

-- The lists of n numbers below q.
abbrev numbers_below : ℕ → List ℕ
numbers_below q = range_with_len 0 q

lists_below : ℕ → ℕ → List (List ℕ)
lists_below q zero = [] ∷ []
lists_below q (suc n) = flat_map (λ k. map (λ a. k ∷ a) (lists_below q n)) (numbers_below q)

-- The residues: the exponent lists with entries below q, in the order of Lex.
pub residues_below : ℕ → List (List ℕ)
residues_below q = support (with_coefficients (λ _. 1) (lists_below q 8))

pub Rises-residues_below : (q : ℕ) → Rises (residues_below q)
unfolding residues_below
Rises-residues_below q = Rises-support (with_coefficients (λ _. 1) (lists_below q 8))

in_range : (a n k : ℕ) → a ≤ k → k < a + n → list_any (λ j. k == j) (range_with_len a n) ≡ true
in_range a zero k h g = absurd (omega arith)
in_range a (suc n) k h g = by (k == a) refl (λ l. in_range (a + 1) n k l (omega arith))
  where
    by : (t : Bool) → (k == a) ≡ t → (a + 1 ≤ k → list_any (λ j. k == j) (range_with_len (a + 1) n) ≡ true)
        → (t || list_any (λ j. k == j) (range_with_len (a + 1) n)) ≡ true
    by true e later = refl
    by false e later = let apart = eqb-false k a e in later (omega arith)

same_cons : (k : ℕ) (b c : List ℕ) → same (k ∷ b) (k ∷ c) ≡ same b c
same_cons k b c = ap (λ r. is_eq (ordering_then r (slice_cmp nat_cmp b c))) (tied_itself nat_cmp_total k)

in_row : (k : ℕ) (b : List ℕ) (cs : List (List ℕ)) → list_any (same (k ∷ b)) (map (λ c. k ∷ c) cs) ≡ list_any (same b) cs
in_row k b [] = refl
in_row k b (c ∷ cs) = ap₂ ◌||◌ (same_cons k b c) (in_row k b cs)

in_rows : (k : ℕ) (b : List ℕ) (cs : List (List ℕ)) (js : List ℕ) → list_any (λ j. k == j) js ≡ true → list_any (same b) cs ≡ true
    → list_any (same (k ∷ b)) (flat_map (λ j. map (λ c. j ∷ c) cs) js) ≡ true
in_rows k b cs [] h g = absurd (true≢false (sym h))
in_rows k b cs (j ∷ js) h g =
    list_any-append (same (k ∷ b)) (map (λ c. j ∷ c) cs) (flat_map (λ i. map (λ c. i ∷ c) cs) js) ∙ by (k == j) refl h (λ l. in_rows k b cs js l g)
  where
    row : List ℕ → Bool
    row = same (k ∷ b)

    others : List (List ℕ)
    others = flat_map (λ i. map (λ c. i ∷ c) cs) js

    by : (t : Bool) → (k == j) ≡ t → (t || list_any (λ i. k == i) js) ≡ true → (list_any (λ i. k == i) js ≡ true → list_any row others ≡ true)
        → (list_any row (map (λ c. j ∷ c) cs) || list_any row others) ≡ true
    by true e l later = or_left _ _ (ap (λ i. list_any row (map (λ c. i ∷ c) cs)) (sym (eqb-true k j e)) ∙ in_row k b cs ∙ g)
    by false e l later = or_right _ _ (later l)

in_lists_below : (q n : ℕ) (a : List ℕ) → length a ≡ n → All (λ k. k < q) a → list_any (same a) (lists_below q n) ≡ true
unfolding lists_below
in_lists_below q zero [] e all = refl
in_lists_below q zero (k ∷ a) e all = absurd (omega arith)
in_lists_below q (suc n) [] e all = absurd (omega arith)
in_lists_below q (suc n) (k ∷ a) e all =
    in_rows k a (lists_below q n) (numbers_below q) (let h = All-head (λ j. j < q) k a all in in_range 0 q k (omega arith) (omega arith)) (in_lists_below q n a (omega arith) (All-tail (λ j. j < q) k a all))

-- Each exponent list with entries below q is a residue.
pub in_residues_below : (q : ℕ) {a : List ℕ} → IsExponents a → All (λ k. k < q) a → list_any (same a) (residues_below q) ≡ true
unfolding residues_below
in_residues_below q {a} A all =
    let c = coefficient-with_coefficients (λ _. 1) a (lists_below q 8) ∙ ap (λ t. cond t 1 0) (in_lists_below q 8 a A.eight all) in
    support_listed (with_coefficients (λ _. 1) (lists_below q 8)) a (omega arith)

lists_below_lengths : (q n : ℕ) → All (λ a. length a ≡ n) (lists_below q n)
unfolding lists_below
lists_below_lengths q zero = All-cons (λ a. length a ≡ 0) [] [] refl (All-nil (λ a. length a ≡ 0))
lists_below_lengths q (suc n) = rows (numbers_below q) (lists_below_lengths q n)
  where
    rows : (js : List ℕ) → All (λ a. length a ≡ n) (lists_below q n)
        → All (λ a. length a ≡ suc n) (flat_map (λ k. map (λ a. k ∷ a) (lists_below q n)) js)
    rows [] all = All-nil (λ a. length a ≡ suc n)
    rows (k ∷ js) all = All-append (λ a. length a ≡ suc n) (map (λ a. k ∷ a) (lists_below q n)) _ (All-map (λ a. length a ≡ suc n) (λ a. k ∷ a) (lists_below q n) (λ j d h. ap suc (all j d h))) (rows js all)

range_bounded : (a n : ℕ) → All (λ k. k < a + n) (range_with_len a n)
range_bounded a zero = All-nil (λ k. k < a + 0)
range_bounded a (suc n) = All-cons (λ k. k < a + suc n) a _ (omega arith) (All-weaker (λ k. k < a + 1 + n) (λ k. k < a + suc n) (λ k h. omega arith) _ (range_bounded (a + 1) n))

lists_below_entries : (q n : ℕ) → All (λ a. All (λ k. k < q) a) (lists_below q n)
unfolding lists_below
lists_below_entries q zero = All-cons (λ a. All (λ k. k < q) a) [] [] (All-nil (λ k. k < q)) (All-nil (λ a. All (λ k. k < q) a))
lists_below_entries q (suc n) = rows (numbers_below q) (All-weaker (λ k. k < 0 + q) (λ k. k < q) (λ k h. omega arith) _ (range_bounded 0 q)) (lists_below_entries q n)
  where
    rows : (js : List ℕ) → All (λ k. k < q) js → All (λ a. All (λ k. k < q) a) (lists_below q n)
        → All (λ a. All (λ k. k < q) a) (flat_map (λ k. map (λ a. k ∷ a) (lists_below q n)) js)
    rows [] g all = All-nil (λ a. All (λ k. k < q) a)
    rows (k ∷ js) g all =
        All-append (λ a. All (λ k. k < q) a) (map (λ a. k ∷ a) (lists_below q n)) _
        (All-map (λ a. All (λ k. k < q) a) (λ a. k ∷ a) (lists_below q n) (λ j d h. All-cons (λ i. i < q) k _ (All-head (λ i. i < q) k js g) (all j d h))) (rows js (All-tail (λ i. i < q) k js g) all)

pub residues_below-exponents : (q : ℕ) → All IsExponents (residues_below q)
unfolding residues_below
residues_below-exponents q =
    support-with_coefficients (λ _. 1) IsExponents (lists_below q 8) (All-weaker (λ a. length a ≡ 8) IsExponents (λ a e. record { eight = e }) (lists_below q 8) (lists_below_lengths q 8))

pub residues_below-entries : (q : ℕ) → All (λ a. All (λ k. k < q) a) (residues_below q)
unfolding residues_below
residues_below-entries q = support-with_coefficients (λ _. 1) (λ a. All (λ k. k < q) a) (lists_below q 8) (lists_below_entries q 8)
