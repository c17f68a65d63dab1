-- Packed exponents: what is packed is unpacked again, and where a map of packed exponents has its ranks.
use Rattle.std.proofs.Common.{◌≡◌, ℕ, zero, suc, ◌+◌, ◌*◌, ◌/◌, ◌%◌, ◌^◌, ◌<◌, ◌≤◌, Bool, true, false, cond, if◌then◌else◌, is_eq, List, [], ◌∷◌, ◌++◌, length, take, get_or, All, Some, None, unwrap_or, nat_cmp, refl, sym, ap, ap₂, ◌∙◌, subst, arith, add-one, append_assoc}
use Rattle.std.specs.Prelude.{fold}
use Rattle.std.specs.Map.{lookup, keys_of}
use Rattle.std.specs.List.{AllByRecursion}
use Rattle.std.specs.BTreeMap.{is_at}
use Rattle.std.specs.Ordering.{eq_by_cmp}
use Rattle.std.specs.Cmp.{unsigned_tied}
use Rattle.std.specs.Cmp.Lexicographic.{slice_cmp}
use Rattle.std.specs.declared.cmp.Ordering.TheVariants.{Less}
use Rattle.std.proofs.Math.Nat.{div-add-mod, pow-suc, pow-le-pow_right, mul-le-mul_left}
use Rattle.std.proofs.lemmas.Nat.{div-mul-add}
use Rattle.std.proofs.lemmas.Bool.{eqb-true, eq-eqb}
use Rattle.std.proofs.lemmas.Cmp.{nat_cmp_total, nat_list_cmp_total, tied_itself, eq_by_cmp_equiv}
use Rattle.std.proofs.lemmas.List.{append-nil, take_more}
use Rattle.std.proofs.lemmas.List.Elements.{All-head, All-tail}
use Rattle.fj_theory.specs.Digits.{value_of}
use Rattle.fj_theory.proofs.Digits.{value_of-push}
use Rattle.fj_theory.proofs.FormalSum.{same, same_true, same_false, same_itself}
use Rattle.fj_plain.specs.Packing.{digits_from, unpacked, unpacked_entries}
use Rattle.fj_plain.specs.Tallied.{rank_at}

-- Digits write their number.
value_of-digits_from : (count n : ℕ) → value_of (2 ^ 16) (digits_from count n) ≡ n
unfolding digits_from value_of
value_of-digits_from zero n = omega arith
value_of-digits_from (suc count) n =
    value_of-push (2 ^ 16) (n % 2 ^ 16) (digits_from count (n / 2 ^ 16))
    ∙ ap (λ m. 2 ^ 16 * m + n % 2 ^ 16) (value_of-digits_from count (n / 2 ^ 16))
    ∙ div-add-mod n (2 ^ 16)

pub value_of-unpacked : (n : ℕ) → value_of (2 ^ 16) (unpacked n) ≡ n
value_of-unpacked n = value_of-digits_from 7 n

-- A number has the digits that write it.
quotient_of_digit : (n d : ℕ) → d < 2 ^ 16 → (2 ^ 16 * n + d) / 2 ^ 16 ≡ n
quotient_of_digit n d small = let e : 2 ^ 16 * n + d ≡ n * 2 ^ 16 + d = omega arith in ap (λ m. m / 2 ^ 16) e ∙ div-mul-add n (2 ^ 16) d small

remainder_of_digit : (n d : ℕ) → d < 2 ^ 16 → (2 ^ 16 * n + d) % 2 ^ 16 ≡ d
remainder_of_digit n d small =
    let whole = div-add-mod (2 ^ 16 * n + d) (2 ^ 16) in
    let quotient = ap (λ m. 2 ^ 16 * m) (quotient_of_digit n d small) in
    omega arith

digits_from-fold : (count n : ℕ) (ds : List ℕ) → All (λ d. d < 2 ^ 16) ds → digits_from (count + length ds) (fold (λ m d. 2 ^ 16 * m + d) n ds) ≡ digits_from count n ++ ds
unfolding digits_from
digits_from-fold count n [] small = let e : count + 0 ≡ count = omega arith in ap (λ k. digits_from k n) e ∙ sym (append-nil (digits_from count n))
digits_from-fold count n (d ∷ ds) small =
    let e : count + length (d ∷ ds) ≡ suc count + length ds = omega arith in
    let low : d < 2 ^ 16 = All-head (λ d. d < 2 ^ 16) d ds small in
    ap (λ k. digits_from k (fold (λ m d. 2 ^ 16 * m + d) (2 ^ 16 * n + d) ds)) e
    ∙ digits_from-fold (suc count) (2 ^ 16 * n + d) ds (All-tail (λ d. d < 2 ^ 16) d ds small)
    ∙ ap₂ (λ m r. (digits_from count m ++ r ∷ []) ++ ds) (quotient_of_digit n d low) (remainder_of_digit n d low)
    ∙ append_assoc (digits_from count n) (d ∷ []) ds

pub unpacked-value_of : (a : List ℕ) → length a ≡ 8 → All (λ k. k < 2 ^ 16) a → unpacked (value_of (2 ^ 16) a) ≡ a
unfolding digits_from value_of
unpacked-value_of [] eight small = absurd (omega arith)
unpacked-value_of (d ∷ ds) eight small =
    let seven : 7 ≡ 0 + length ds = omega arith in
    let first : 2 ^ 16 * 0 + d ≡ d = omega arith in
    ap (λ k. digits_from k (fold (λ m d. 2 ^ 16 * m + d) (2 ^ 16 * 0 + d) ds)) seven
    ∙ digits_from-fold 0 (2 ^ 16 * 0 + d) ds (All-tail (λ k. k < 2 ^ 16) d ds small)
    ∙ ap (λ k. k ∷ ds) first

-- One digit more.
pub value_of-take : (a : List ℕ) (i : ℕ) → i < length a → 2 ^ 16 * value_of (2 ^ 16) (take i a) + get_or a i 0 ≡ value_of (2 ^ 16) (take (i + 1) a)
value_of-take a i h = sym (ap (value_of (2 ^ 16)) (take_more a i 0 h) ∙ value_of-push (2 ^ 16) (get_or a i 0) (take i a))

-- The digits so far write a number that leaves room for the others.
value_of-below : (a : List ℕ) (i : ℕ) → i ≤ length a → All (λ k. k < 2 ^ 16) a → value_of (2 ^ 16) (take i a) < (2 ^ 16) ^ i
unfolding value_of
value_of-below a zero h small = omega arith
value_of-below a (suc i) h small =
    let before : value_of (2 ^ 16) (take i a) < (2 ^ 16) ^ i = value_of-below a i (omega arith) small in
    let digit : get_or a i 0 < 2 ^ 16 = small i 0 (omega arith) in
    let more = value_of-take a i (omega arith) in
    let power : (2 ^ 16) ^ suc i ≡ (2 ^ 16) ^ i * 2 ^ 16 = pow-suc (2 ^ 16) i in
    let room : 2 ^ 16 * suc (value_of (2 ^ 16) (take i a)) ≤ 2 ^ 16 * (2 ^ 16) ^ i = mul-le-mul_left (2 ^ 16) before in
    subst (λ j. value_of (2 ^ 16) (take j a) < (2 ^ 16) ^ suc i) (add-one i) (omega arith)

-- What `packed` knows of the number so far.
pub record IsRoom (a : List ℕ) (i n : ℕ) : Type 0 where
  pub product : 2 ^ 16 * n < 2 ^ 128
  pub sum : 2 ^ 16 * n + get_or a i 0 < 2 ^ 128

pub room_for_digit : (a : List ℕ) (i : ℕ) → length a ≡ 8 → i < 8 → All (λ k. k < 2 ^ 16) a → IsRoom a i (value_of (2 ^ 16) (take i a))
room_for_digit a i eight inside small =
    let below : value_of (2 ^ 16) (take i a) < (2 ^ 16) ^ i = value_of-below a i (omega arith) small in
    let digit : get_or a i 0 < 2 ^ 16 = small i 0 (omega arith) in
    let seven : (2 ^ 16) ^ i ≤ (2 ^ 16) ^ 7 = pow-le-pow_right {n = 2 ^ 16} (omega arith) {i = i} {j = 7} (omega arith) in
    record { product = omega arith; sum = omega arith }

-- The rank at a packed number.
abbrev pub packed_rank : List (ℕ × ℕ) → ℕ → ℕ
packed_rank es n = unwrap_or (lookup (is_at (nat_cmp n)) es) 0

tied_true : (m n : ℕ) → eq_by_cmp nat_cmp m n ≡ true → m ≡ n
tied_true m n h = eqb-true m n (sym (unsigned_tied m n) ∙ h)

-- Where a map of packed exponents has the rank at a.
module _ (a : List ℕ) where
  abbrev number : ℕ
  number = value_of (2 ^ 16) a

  rank_at-entries : (es : List (ℕ × ℕ)) → rank_at (unpacked_entries es) a ≡ cond (same a (unpacked number)) (packed_rank es number) 0
  rank_at-entries [] = by (same a (unpacked number))
    where
      by : (t : Bool) → ◌≡◌ {A = ℕ} 0 (cond t 0 0)
      by true = refl
      by false = refl
  rank_at-entries (e ∷ es) = by (same a (unpacked e.0)) refl (eq_by_cmp nat_cmp number e.0) refl (rank_at-entries es)
    where
      is : same a (unpacked e.0) ≡ true → number ≡ e.0
      is h = ap (value_of (2 ^ 16)) (same_true a (unpacked e.0) h) ∙ value_of-unpacked e.0

      by : (t : Bool) → same a (unpacked e.0) ≡ t → (s : Bool) → eq_by_cmp nat_cmp number e.0 ≡ s
          → rank_at (unpacked_entries es) a ≡ cond (same a (unpacked number)) (packed_rank es number) 0
          → unwrap_or (cond t (Some e.1) (lookup (is_at (slice_cmp nat_cmp a)) (unpacked_entries es))) 0
          ≡ cond (same a (unpacked number)) (unwrap_or (cond s (Some e.1) (lookup (is_at (nat_cmp number)) es)) 0) 0
      by true h true k rest = sym (ap (λ b. cond b e.1 0) (ap (λ n. same a (unpacked n)) (is h) ∙ h))
      by true h false k rest = absurd (cc (sym k ∙ unsigned_tied number e.0 ∙ eq-eqb number e.0 (is h)))
      by false h true k rest =
          let other : same a (unpacked number) ≡ false = ap (λ n. same a (unpacked n)) (tied_true number e.0 k) ∙ h in
          rest ∙ ap (λ b. cond b (packed_rank es number) 0) other ∙ sym (ap (λ b. cond b e.1 0) other)
      by false h false k rest = rest

-- It has it at the packed number.
pub rank_at-unpacked : (es : List (ℕ × ℕ)) (n : ℕ) → rank_at (unpacked_entries es) (unpacked n) ≡ packed_rank es n
rank_at-unpacked es n =
    rank_at-entries (unpacked n) es
    ∙ ap (λ m. cond (same (unpacked n) (unpacked m)) (packed_rank es m) 0) (value_of-unpacked n)
    ∙ ap (λ b. cond b (packed_rank es n) 0) (same_itself (unpacked n))

-- The ranks are all zero where those at the packed numbers are.
pub unpacked_zeros : (es : List (ℕ × ℕ)) → ((n : ℕ) → packed_rank es n ≡ 0) → (a : List ℕ) → rank_at (unpacked_entries es) a ≡ 0
unpacked_zeros es none a = rank_at-entries a es ∙ by (value_of (2 ^ 16) a) (same a (unpacked (value_of (2 ^ 16) a)))
  where
    by : (n : ℕ) (t : Bool) → cond t (packed_rank es n) 0 ≡ 0
    by n true = none n
    by n false = refl

pub packed_zeros : (es : List (ℕ × ℕ)) → ((a : List ℕ) → rank_at (unpacked_entries es) a ≡ 0) → (n : ℕ) → packed_rank es n ≡ 0
packed_zeros es none n = sym (rank_at-unpacked es n) ∙ none (unpacked n)

-- A rank is added at packed exponents.
module _ (p rank n : ℕ) (old new : List (ℕ × ℕ)) (added : (k : ℕ) → packed_rank new k ≡ (if eq_by_cmp nat_cmp n k then (packed_rank old n + rank) % p else packed_rank old k)) where
  added_here : packed_rank new n ≡ (packed_rank old n + rank) % p
  added_here = added n ∙ ap (λ t. cond t ((packed_rank old n + rank) % p) (packed_rank old n)) (ap is_eq (tied_itself nat_cmp_total n))

  untied : (a : List ℕ) (m : ℕ) → a ≡ unpacked m → same (unpacked n) a ≡ false → eq_by_cmp nat_cmp n m ≡ false
  untied a m is apart = by (eq_by_cmp nat_cmp n m) refl
    where
      by : (t : Bool) → eq_by_cmp nat_cmp n m ≡ t → t ≡ false
      by false e = refl
      by true e = let same_true : same (unpacked n) a ≡ true = ap (same (unpacked n)) (is ∙ ap unpacked (sym (tied_true n m e))) ∙ same_itself (unpacked n) in cc

  added_elsewhere : (a : List ℕ) → same (unpacked n) a ≡ false → rank_at (unpacked_entries new) a ≡ rank_at (unpacked_entries old) a
  added_elsewhere a apart = rank_at-entries a new ∙ by (value_of (2 ^ 16) a) (same a (unpacked (value_of (2 ^ 16) a))) refl ∙ sym (rank_at-entries a old)
    where
      by : (m : ℕ) (t : Bool) → same a (unpacked m) ≡ t → cond t (packed_rank new m) 0 ≡ cond t (packed_rank old m) 0
      by m false e = refl
      by m true e = added m ∙ ap (λ t. cond t ((packed_rank old n + rank) % p) (packed_rank old m)) (untied a m (same_true a (unpacked m) e) apart)

  pub packed-add : (a : List ℕ) → rank_at (unpacked_entries new) a ≡ (if same (unpacked n) a then (rank_at (unpacked_entries old) (unpacked n) + rank) % p else rank_at (unpacked_entries old) a)
  packed-add a = by (same (unpacked n) a) refl
    where
      by : (t : Bool) → same (unpacked n) a ≡ t → rank_at (unpacked_entries new) a ≡ cond t ((rank_at (unpacked_entries old) (unpacked n) + rank) % p) (rank_at (unpacked_entries old) a)
      by true e =
          ap (rank_at (unpacked_entries new)) (sym (same_true (unpacked n) a e)) ∙ rank_at-unpacked new n ∙ added_here
          ∙ ap (λ r. (r + rank) % p) (sym (rank_at-unpacked old n))
      by false e = added_elsewhere a e

-- Reading packed entries from the front: the exponents of the first are those of no later one.
unpacked_apart : (m n : ℕ) → nat_cmp m n ≡ Less → same (unpacked m) (unpacked n) ≡ false
unpacked_apart m n less =
    same_false (unpacked m) (unpacked n)
    (λ e. let is : m ≡ n = sym (value_of-unpacked m) ∙ ap (value_of (2 ^ 16)) e ∙ value_of-unpacked n in
    let tied = tied_itself nat_cmp_total m in
    let apart : nat_cmp m m ≡ Less = ap (nat_cmp m) is ∙ less in cc)

lookup_later : (n : ℕ) (es : List (ℕ × ℕ)) → AllByRecursion (λ m. nat_cmp n m ≡ Less) (keys_of es) → lookup (is_at (slice_cmp nat_cmp (unpacked n))) (unpacked_entries es) ≡ None
lookup_later n [] later = refl
lookup_later n (e ∷ es) later =
    ap (λ t. cond t (Some e.1) (lookup (is_at (slice_cmp nat_cmp (unpacked n))) (unpacked_entries es))) (unpacked_apart n e.0 later.0) ∙ lookup_later n es later.1

-- The first entry goes to a map with what was read.
pub first_goes : (a : List ℕ) (e : ℕ × ℕ) (es : List (ℕ × ℕ)) (old new : List (List ℕ × ℕ)) → AllByRecursion (λ m. nat_cmp e.0 m ≡ Less) (keys_of es)
    → lookup (is_at (slice_cmp nat_cmp a)) new ≡ cond (same (unpacked e.0) a) (Some e.1) (lookup (is_at (slice_cmp nat_cmp a)) old)
    → unwrap_or (lookup (is_at (slice_cmp nat_cmp a)) (unpacked_entries es)) (rank_at new a) ≡ unwrap_or (lookup (is_at (slice_cmp nat_cmp a)) (unpacked_entries (e ∷ es))) (rank_at old a)
first_goes a e es old new later put = by (same a (unpacked e.0)) refl
  where
    turned : same (unpacked e.0) a ≡ same a (unpacked e.0)
    turned = (eq_by_cmp_equiv nat_list_cmp_total).symm (unpacked e.0) a

    by : (t : Bool) → same a (unpacked e.0) ≡ t
        → unwrap_or (lookup (is_at (slice_cmp nat_cmp a)) (unpacked_entries es)) (rank_at new a)
        ≡ unwrap_or (cond t (Some e.1) (lookup (is_at (slice_cmp nat_cmp a)) (unpacked_entries es))) (rank_at old a)
    by true h =
        let none : lookup (is_at (slice_cmp nat_cmp a)) (unpacked_entries es) ≡ None = subst (λ b. lookup (is_at (slice_cmp nat_cmp b)) (unpacked_entries es) ≡ None) (sym (same_true a (unpacked e.0) h)) (lookup_later e.0 es later) in
        ap (λ o. unwrap_or o (rank_at new a)) none ∙ ap (λ o. unwrap_or o 0) (put ∙ ap (λ t. cond t (Some e.1) (lookup (is_at (slice_cmp nat_cmp a)) old)) (turned ∙ h))
    by false h =
        ap (unwrap_or (lookup (is_at (slice_cmp nat_cmp a)) (unpacked_entries es)))
        (ap (λ o. unwrap_or o 0) (put ∙ ap (λ t. cond t (Some e.1) (lookup (is_at (slice_cmp nat_cmp a)) old)) (turned ∙ h)))
