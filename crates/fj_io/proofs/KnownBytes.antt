-- Known bytes over reads and writes.
use Rattle.std.proofs.Common.{ℕ, ◌≡◌, ◌+◌, List, [], ◌++◌, Some, None, Option, ◌≤◌, take, append_assoc, append-nil, subst, ◌∙◌, ap, sym, drop, length, arith}
use Rattle.std.proofs.Math.Seq.{take-append_seam}
use Rattle.std.proofs.lemmas.List.{length-take, take-append-drop, drop-drop, drop_all, nil_from_length}
use Rattle.std.specs.Io.KnownBytes.{Appends, Keeps, Consumes}

-- one piece after another
pub appends_more : (a b c : Option (List ℕ)) (x y : List ℕ) → Appends a b x → Appends b c y → Appends a c (x ++ y)
appends_more None b c x y h k = tt
appends_more (Some a) None c x y h k = absurd h
appends_more (Some a) (Some b) None x y h k = absurd k
appends_more (Some a) (Some b) (Some c) x y h k = k ∙ ap (λ s. s ++ y) h ∙ append_assoc a x y

-- and then nothing
pub appends_keeps : (a b c : Option (List ℕ)) (x : List ℕ) → Appends a b x → Keeps b c → Appends a c x
appends_keeps None b c x h k = tt
appends_keeps (Some a) None c x h k = absurd h
appends_keeps (Some a) (Some b) None x h k = absurd k
appends_keeps (Some a) (Some b) (Some c) x h k = k ∙ h

-- and then none of some bytes
pub appends_none : (a b c : Option (List ℕ)) (x y : List ℕ) (n : ℕ) → Appends a b x → Appends b c (take n y) → n ≤ 0 → Appends a c x
appends_none a b c x y n h k z =
    subst (λ s. Appends a c s) (ap (λ s. x ++ s) (ap (λ m. take m y) (let e : n ≡ 0 = omega arith in e)) ∙ append-nil x) (appends_more a b c x (take n y) h k)

-- what a read gave and what it left are what was left before
pub given_and_left : (bytes into left given : List ℕ) (at n : ℕ) → left ≡ drop at bytes → given ≡ take n (drop at bytes) → n ≤ length (drop at bytes)
    → left ≡ take n (given ++ drop n into) ++ drop (at + n) bytes
given_and_left bytes into left given at n is_left is_given within =
    let size : length given ≡ n = grind (arith, length-take) in
    let front : take n (given ++ drop n into) ≡ given = subst (λ m. take m (given ++ drop n into) ≡ given) size (take-append_seam given (drop n into)) in
    is_left ∙ sym (take-append-drop n (drop at bytes)) ∙ ap (λ xs. xs ++ drop n (drop at bytes)) (sym (front ∙ is_given))
    ∙ ap (λ xs. take n (given ++ drop n into) ++ xs) (drop-drop n at bytes)

-- where no byte is left, none is left after none
pub none_left : (bytes : List ℕ) (at n : ℕ) → n ≡ 0 → length (drop at bytes) ≡ 0 → drop (at + n) bytes ≡ []
none_left bytes at n e h = sym (drop-drop n at bytes) ∙ ap (λ xs. drop n xs) (nil_from_length (drop at bytes) h) ∙ drop_all n [] (omega arith)

-- one read after another
pub consumes_more : (a b c : Option (List ℕ)) (x y : List ℕ) → Consumes a b x → Consumes b c y → Consumes a c (x ++ y)
consumes_more None b c x y h k = tt
consumes_more (Some a) None c x y h k = absurd h
consumes_more (Some a) (Some b) None x y h k = absurd k
consumes_more (Some a) (Some b) (Some c) x y h k = h ∙ ap (λ s. x ++ s) k ∙ sym (append_assoc x y c)
