-- The keys of Lex, Grlex, Grevlex and the elimination order are monomial orders.
use Rattle.std.proofs.Common.{◌≡◌, ℕ, zero, suc, ◌+◌, ◌≤◌, List, [], ◌∷◌, ◌++◌, length, take, slice_index, All, nat_cmp, refl, sym, ap, ap₂, ◌∙◌, arith, length-append, add_left_cancel, ⊎_elim, eq-or-lt_of_le, subst, take_all}
use Rattle.std.proofs.lemmas.List.{append_cancel_right}
use Rattle.std.proofs.lemmas.List.Elements.{All-nil, All-cons, All-append, All-weaker}
use Rattle.std.specs.Cmp.Lexicographic.{slice_cmp}
use Rattle.fj_theory.specs.Exponents.{IsExponents, total, plus}
use Rattle.fj_theory.specs.MonomialOrder.{compare_by, IsMonomialOrder, lex_key, grevlex_key, grlex_key, elim_key, front_sums}
use Rattle.fj_theory.proofs.MonomialOrder.{slice_cmp-plus}
use Rattle.fj_theory.proofs.Exponents.{cons_same, heads_same, tails_same, total-cons, total-plus}

-- The key of Lex has the exponents and a zero.
length_zero_after : (a : List ℕ) → length (a ++ 0 ∷ []) ≡ suc (length a)
length_zero_after a = length-append a (0 ∷ []) ∙ omega arith

plus_zero_after : (a b : List ℕ) → length a ≡ length b → plus a b ++ 0 ∷ [] ≡ plus (a ++ 0 ∷ []) (b ++ 0 ∷ [])
unfolding plus
plus_zero_after [] [] e = refl
plus_zero_after [] (y ∷ b) e = absurd (omega arith)
plus_zero_after (x ∷ a) [] e = absurd (omega arith)
plus_zero_after (x ∷ a) (y ∷ b) e = ap (λ c. (x + y) ∷ c) (plus_zero_after a b (omega arith))

entries_bounded : (a : List ℕ) → All (λ k. k ≤ total a) a
entries_bounded [] = All-nil (λ k. k ≤ 0)
entries_bounded (x ∷ a) =
    let t = total-cons x a in
    All-cons (λ k. k ≤ total (x ∷ a)) x a (omega arith) (All-weaker (λ k. k ≤ total a) (λ k. k ≤ total (x ∷ a)) (λ k h. omega arith) a (entries_bounded a))

All_zero_after : (t : ℕ) (a : List ℕ) → All (λ k. k ≤ t) a → All (λ k. k ≤ t) (a ++ 0 ∷ [])
All_zero_after t a all = All-append (λ k. k ≤ t) a (0 ∷ []) all (All-cons (λ k. k ≤ t) 0 [] (omega arith) (All-nil (λ k. k ≤ t)))

-- Sums of the first entries.
length-front_sums : (n : ℕ) (a : List ℕ) → length (front_sums n a) ≡ n
unfolding front_sums
length-front_sums zero a = refl
length-front_sums (suc n) a = ap suc (length-front_sums n a)

total-take : (n : ℕ) (a : List ℕ) → total (take n a) ≤ total a
total-take zero a = omega arith
total-take (suc n) [] = omega arith
total-take (suc n) (x ∷ a) = omega (arith, total-take n a, total-cons x a, total-cons x (take n a))

front_sums_bounded : (n : ℕ) (a : List ℕ) → All (λ k. k ≤ total a) (front_sums n a)
unfolding front_sums
front_sums_bounded zero a = All-nil (λ k. k ≤ total a)
front_sums_bounded (suc n) a = All-cons (λ k. k ≤ total a) _ _ (total-take (suc n) a) (front_sums_bounded n a)

take-plus : (n : ℕ) (a b : List ℕ) → take n (plus a b) ≡ plus (take n a) (take n b)
unfolding plus
take-plus zero a b = refl
take-plus (suc n) [] b = refl
take-plus (suc n) (x ∷ a) [] = refl
take-plus (suc n) (x ∷ a) (y ∷ b) = ap (λ c. (x + y) ∷ c) (take-plus n a b)

length_takes : (n : ℕ) (a b : List ℕ) → length a ≡ length b → length (take n a) ≡ length (take n b)
length_takes zero a b e = refl
length_takes (suc n) [] [] e = refl
length_takes (suc n) [] (y ∷ b) e = absurd (omega arith)
length_takes (suc n) (x ∷ a) [] e = absurd (omega arith)
length_takes (suc n) (x ∷ a) (y ∷ b) e = ap suc (length_takes n a b (omega arith))

front_sums-plus : (n : ℕ) (a b : List ℕ) → length a ≡ length b → front_sums n (plus a b) ≡ plus (front_sums n a) (front_sums n b)
unfolding front_sums plus
front_sums-plus zero a b e = refl
front_sums-plus (suc n) a b e = cons_same (ap total (take-plus (suc n) a b) ∙ total-plus _ _ (length_takes (suc n) a b e)) (front_sums-plus n a b e)

-- The sums of the first k entries for each k up to n.
front_sum_same : (n : ℕ) (a b : List ℕ) → front_sums n a ≡ front_sums n b → (k : ℕ) → k ≤ n → total (take k a) ≡ total (take k b)
unfolding front_sums
front_sum_same zero a b e zero h = refl
front_sum_same zero a b e (suc k) h = absurd (omega arith)
front_sum_same (suc n) a b e k h =
    ⊎_elim (λ (f : k ≡ suc n). subst (λ j. total (take j a) ≡ total (take j b)) (sym f) (heads_same e)) (λ l. front_sum_same n a b (tails_same e) k (omega arith)) (eq-or-lt_of_le h)

lists_from_sums : (n : ℕ) (a b : List ℕ) → ((k : ℕ) → k ≤ n → total (take k a) ≡ total (take k b)) → length a ≡ length b → take n a ≡ take n b
lists_from_sums zero a b s e = refl
lists_from_sums (suc n) [] [] s e = refl
lists_from_sums (suc n) [] (y ∷ b) s e = absurd (omega arith)
lists_from_sums (suc n) (x ∷ a) [] s e = absurd (omega arith)
lists_from_sums (suc n) (x ∷ a) (y ∷ b) s e =
    let first : x ≡ y = omega (arith, s 1 (omega arith)) in
    cons_same first (lists_from_sums n a b (λ k h. add_left_cancel x (sym (total-cons x (take k a)) ∙ s (suc k) (omega arith) ∙ total-cons y (take k b) ∙ ap (λ z. z + total (take k b)) (sym first))) (omega arith))

-- Where the key of a product is the sum of the keys, products keep the order.
kept_from_sums : (key : List ℕ → List ℕ) → ((a : List ℕ) → IsExponents a → length (key a) ≡ 9)
    → ((a b : List ℕ) → IsExponents a → IsExponents b → key (plus a b) ≡ plus (key a) (key b))
    → (a b c : List ℕ) → IsExponents a → IsExponents b → IsExponents c → compare_by key (plus a c) (plus b c) ≡ compare_by key a b
kept_from_sums key nine sums a b c A B C =
    ap₂ (slice_cmp nat_cmp) (sums a c A C) (sums b c B C)
    ∙ slice_cmp-plus (key a) (key b) (key c) (nine a A ∙ sym (nine c C)) (nine b B ∙ sym (nine c C))

-- Lex, Grlex, Grevlex and the elimination order.
pub lex_key-IsMonomialOrder : IsMonomialOrder lex_key
unfolding lex_key
lex_key-IsMonomialOrder = record {
  nine = λ a A. length_zero_after a ∙ ap suc A.eight;
  bounded = λ a A. All_zero_after (total a) a (entries_bounded a);
  injective = λ a b A B e. append_cancel_right a b (0 ∷ []) e;
  kept = kept_from_sums lex_key (λ a A. length_zero_after a ∙ ap suc A.eight) (λ a b A B. plus_zero_after a b (A.eight ∙ sym B.eight));
}

pub grlex_key-IsMonomialOrder : IsMonomialOrder grlex_key
unfolding grlex_key plus
grlex_key-IsMonomialOrder = record {
  nine = λ a A. ap suc A.eight;
  bounded = λ a A. All-cons (λ k. k ≤ total a) (total a) a (omega arith) (entries_bounded a);
  injective = λ a b A B e. tails_same e;
  kept = kept_from_sums grlex_key (λ a A. ap suc A.eight) (λ a b A B. cons_same (total-plus a b (A.eight ∙ sym B.eight)) refl);
}

length_front_sums_zero : (n : ℕ) (a : List ℕ) → length (front_sums n a ++ 0 ∷ []) ≡ suc n
length_front_sums_zero n a = length_zero_after (front_sums n a) ∙ ap suc (length-front_sums n a)

front_sums_zero_bounded : (n : ℕ) (a : List ℕ) → All (λ k. k ≤ total a) (front_sums n a ++ 0 ∷ [])
front_sums_zero_bounded n a = All_zero_after (total a) (front_sums n a) (front_sums_bounded n a)

front_sums_zero_take : (n : ℕ) (a b : List ℕ) → length a ≡ length b → front_sums n a ++ 0 ∷ [] ≡ front_sums n b ++ 0 ∷ [] → take n a ≡ take n b
front_sums_zero_take n a b e f = lists_from_sums n a b (front_sum_same n a b (append_cancel_right (front_sums n a) (front_sums n b) (0 ∷ []) f)) e

front_sums_zero-plus : (n : ℕ) (a b : List ℕ) → length a ≡ length b
    → front_sums n (plus a b) ++ 0 ∷ [] ≡ plus (front_sums n a ++ 0 ∷ []) (front_sums n b ++ 0 ∷ [])
front_sums_zero-plus n a b e =
    ap (λ c. c ++ 0 ∷ []) (front_sums-plus n a b e)
    ∙ plus_zero_after (front_sums n a) (front_sums n b) (length-front_sums n a ∙ sym (length-front_sums n b))

pub grevlex_key-IsMonomialOrder : IsMonomialOrder grevlex_key
unfolding grevlex_key
grevlex_key-IsMonomialOrder = record {
  nine = λ a A. length_front_sums_zero 8 a;
  bounded = λ a A. front_sums_zero_bounded 8 a;
  injective = λ a b A B e. sym (take_all 8 a (omega (arith, A.eight))) ∙ front_sums_zero_take 8 a b (A.eight ∙ sym B.eight) e
      ∙ take_all 8 b (omega (arith, B.eight));
  kept = kept_from_sums grevlex_key (λ a A. length_front_sums_zero 8 a) (λ a b A B. front_sums_zero-plus 8 a b (A.eight ∙ sym B.eight));
}

-- The exponent of a product at a place.
pub index-plus : (a b : List ℕ) (i : ℕ) → length a ≡ length b → slice_index (plus a b) i ≡ slice_index a i + slice_index b i
unfolding plus
index-plus [] [] i e = omega arith
index-plus [] (y ∷ b) i e = absurd (omega arith)
index-plus (x ∷ a) [] i e = absurd (omega arith)
index-plus (x ∷ a) (y ∷ b) zero e = refl
index-plus (x ∷ a) (y ∷ b) (suc i) e = index-plus a b i (omega arith)

index_bounded : (a : List ℕ) (i : ℕ) → slice_index a i ≤ total a
index_bounded [] i = omega arith
index_bounded (x ∷ a) zero = omega (arith, total-cons x a)
index_bounded (x ∷ a) (suc i) = omega (arith, index_bounded a i, total-cons x a)

take_one_more : (n : ℕ) (a b : List ℕ) → length a ≡ suc n → length b ≡ suc n → take n a ≡ take n b → slice_index a n ≡ slice_index b n → a ≡ b
take_one_more n [] b e f t s = absurd (omega arith)
take_one_more n (x ∷ a) [] e f t s = absurd (omega arith)
take_one_more zero (x ∷ []) (y ∷ []) e f t s = cons_same s refl
take_one_more zero (x ∷ []) (y ∷ v ∷ b) e f t s = absurd (omega arith)
take_one_more zero (x ∷ u ∷ a) (y ∷ b) e f t s = absurd (omega arith)
take_one_more (suc n) (x ∷ a) (y ∷ b) e f t s = cons_same (heads_same t) (take_one_more n a b (omega arith) (omega arith) (tails_same t) s)

pub elim_key-IsMonomialOrder : IsMonomialOrder elim_key
unfolding elim_key plus
elim_key-IsMonomialOrder = record {
  nine = λ a A. ap suc (length_front_sums_zero 7 a);
  bounded = λ a A. All-cons (λ k. k ≤ total a) (slice_index a 7) (front_sums 7 a ++ 0 ∷ []) (index_bounded a 7) (front_sums_zero_bounded 7 a);
  injective = λ a b A B e. take_one_more 7 a b A.eight B.eight (front_sums_zero_take 7 a b (A.eight ∙ sym B.eight) (tails_same e)) (heads_same e);
  kept = kept_from_sums elim_key (λ a A. ap suc (length_front_sums_zero 7 a)) (λ a b A B. cons_same (index-plus a b 7 (A.eight ∙ sym B.eight)) (front_sums_zero-plus 7 a b (A.eight ∙ sym B.eight)));
}

-- An order that eliminates the variable x_i: its exponent decides, and then Lex.
unfoldable pub first_key : ℕ → List ℕ → List ℕ
first_key i a = slice_index a i ∷ a

pub first_key-IsMonomialOrder : (i : ℕ) → IsMonomialOrder (first_key i)
unfolding first_key plus
first_key-IsMonomialOrder i = record {
  nine = λ a A. ap suc A.eight;
  bounded = λ a A. All-cons (λ k. k ≤ total a) (slice_index a i) a (index_bounded a i) (entries_bounded a);
  injective = λ a b A B e. tails_same e;
  kept = kept_from_sums (first_key i) (λ a A. ap suc A.eight) (λ a b A B. cons_same (index-plus a b i (A.eight ∙ sym B.eight)) refl);
}
