-- The place of a word among names, as a loop looks for it.
use Rattle.std.proofs.Common.{◌≡◌, ℕ, zero, suc, ◌<◌, true, false, cond, List, [], ◌∷◌, length, map, get_or, Some, None, sym, ap, arith}
use Rattle.std.specs.Str.{bytes_eq}
use Rattle.std.proofs.lemmas.Bool.{lt-ltb, le-ltb}
use Rattle.std.proofs.lemmas.List.Sums.{position_or_len_is}
use Rattle.fj_text.specs.Word.{place_of}

-- none of the names before i is the word
abbrev pub IsPassed : List (List ℕ) → List ℕ → ℕ → Type 0
IsPassed names word i = (k : ℕ) → k < i → bytes_eq (get_or names k []) word ≡ false

pub place_found : (names : List (List ℕ)) (word : List ℕ) (i : ℕ) → i < length names → IsPassed names word i → bytes_eq (get_or names i []) word ≡ true → Some i ≡ place_of names word
place_found names word i inside passed here =
    let at = position_or_len_is (λ name. bytes_eq name word) names i [] (omega arith) passed (λ _. here) in
    rw at (sym (ap (λ b. cond b (Some i) None) (lt-ltb i (length names) inside)))

pub place_missing : (names : List (List ℕ)) (word : List ℕ) → IsPassed names word (length names) → None ≡ place_of names word
place_missing names word passed =
    let at = position_or_len_is (λ name. bytes_eq name word) names (length names) [] (omega arith) passed (λ beyond. absurd (omega arith)) in
    rw at (sym (ap (λ b. cond b (Some (length names)) None) (le-ltb (length names) (length names) (omega arith))))

-- what is seen at a place of a list, as f sees its items
pub seen_at : {X Y : Type 0} (f : X → Y) (xs : List X) (i : ℕ) (x : X) (d : Y) → i < length xs → x ≡ get_or xs i x → get_or (map f xs) i d ≡ f x
seen_at f [] i x d inside at = absurd (omega arith)
seen_at f (y ∷ xs) zero x d inside at = ap f (sym at)
seen_at f (y ∷ xs) (suc i) x d inside at = seen_at f xs i x d (omega arith) at
