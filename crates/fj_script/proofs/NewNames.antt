-- Names with a new one behind them.
use Rattle.std.proofs.Common.{◌≡◌, ◌≢◌, ℕ, zero, suc, ◌+◌, ◌<◌, ◌≤◌, true, cond, ltb, List, [], ◌∷◌, ◌++◌, length, get_or, Some, None, ap, ◌∙◌, arith, inl, inr, ◌⊎◌, ⊎_elim}
use Rattle.std.specs.List.{AllPairs, position_or_len}
use Rattle.std.specs.Str.{bytes_eq}
use Rattle.std.proofs.lemmas.Bool.{cases_Bool, lt-ltb, ltb-true, ltb-false}
use Rattle.std.proofs.lemmas.List.{get_or_append_left, get_or-append-add, length-append}
use Rattle.std.proofs.lemmas.List.Elements.{All-append, All-cons, All-nil}
use Rattle.std.proofs.lemmas.Slice.Eq.{bytes_eq-Decides}
use Rattle.fj_text.specs.Word.{AreNames, IsWord, place_of}

module _ (word : List ℕ) where
  first : (names : List (List ℕ)) (i : ℕ) (d : List ℕ) → i < length names → bytes_eq (get_or names i d) word ≡ true → position_or_len (λ name. bytes_eq name word) names < length names
  first [] i d inside e = absurd (omega arith)
  first (x ∷ names) zero d inside e = rw e (omega arith)
  first (x ∷ names) (suc i) d inside e =
      elim (cases_Bool (bytes_eq x word)) [
        | inl here ↦ rw here (omega arith)
        | inr there ↦ rw there (let more = first names i d (omega arith) e in omega (arith, more))
      ]

  -- a word that is none of the names is unlike each
  pub unlike : (names : List (List ℕ)) → None ≡ place_of names word → (i : ℕ) (d : List ℕ) → i < length names → get_or names i d ≢ word
  unlike names none i d inside same =
      let here = first names i d inside ((bytes_eq-Decides _ _).1 same) in
      let found : place_of names word ≡ Some (position_or_len (λ name. bytes_eq name word) names) = ap (λ b. cond b (Some (position_or_len (λ name. bytes_eq name word) names)) None) (lt-ltb _ _ here) in
      absurd cc

lt_or_le : (a b : ℕ) → (a < b) ⊎ (b ≤ a)
lt_or_le a b = elim (cases_Bool (ltb a b)) [ inl h ↦ inl (ltb-true a b h) | inr h ↦ inr (ltb-false a b h) ]

pub pairs_more : {X : Type 0} (R : X → X → Type 0) (xs : List X) (y : X) → AllPairs R xs → ((i : ℕ) (d : X) → i < length xs → R (get_or xs i d) y) → AllPairs R (xs ++ y ∷ [])
pairs_more {X} R xs y pairs last i j d less inside =
    let all = length-append xs (y ∷ []) in
    let left = get_or_append_left xs (y ∷ []) d i (omega (arith, all, less, inside)) in
    ⊎_elim (λ (before : j < length xs). rw (left, get_or_append_left xs (y ∷ []) d j before) (pairs i j d less before))
    (λ (behind : length xs ≤ j).
    let here : j ≡ length xs + 0 = omega (arith, all, inside, behind) in
    let right : get_or (xs ++ y ∷ []) j d ≡ y = ap (λ k. get_or (xs ++ y ∷ []) k d) here ∙ get_or-append-add xs (y ∷ []) 0 d in
    rw (left, right) (last i d (omega (arith, less, here))))
    (lt_or_le j (length xs))

pub names_more : (names : List (List ℕ)) (word : List ℕ) → AreNames names → IsWord word → None ≡ place_of names word → length names < 7 → AreNames (names ++ word ∷ [])
names_more names word h is new few = record {
  few = omega (arith, length-append names (word ∷ []));
  words = All-append IsWord names (word ∷ []) h.words (All-cons IsWord word [] is (All-nil IsWord));
  distinct = pairs_more (λ a b. a ≢ b) names word h.distinct (unlike word names new);
}
