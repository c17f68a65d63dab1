-- The lines of one polynomial more.
use Rattle.std.proofs.Common.{◌≡◌, ℕ, zero, suc, ◌+◌, List, [], ◌∷◌, ◌++◌, sym, ap, ◌∙◌, add-one, arith}
use Rattle.std.specs.List.{flat_map, range_with_len}
use Rattle.std.proofs.lemmas.List.{flat_map_more}

range_more : (a n : ℕ) → range_with_len a (suc n) ≡ range_with_len a n ++ (a + n) ∷ []
range_more a zero = let same : a ≡ a + zero = omega arith in ap (λ x. x ∷ []) same
range_more a (suc n) = let same : a + 1 + n ≡ a + suc n = omega arith in ap (λ xs. a ∷ xs) (range_more (a + 1) n ∙ ap (λ x. range_with_len (a + 1) n ++ x ∷ []) same)

pub one_more : (f : ℕ → List ℕ) (before out new : List ℕ) (n : ℕ) → out ≡ before ++ flat_map f (range_with_len 1 n) → new ≡ out ++ f (n + 1) → new ≡ before ++ flat_map f (range_with_len 1 (n + 1))
one_more f before out new n so_far pushed =
    let same : n + 1 ≡ 1 + n = omega arith in
    pushed ∙ ap (λ o. o ++ f (n + 1)) so_far ∙ flat_map_more f before (range_with_len 1 n) (n + 1)
    ∙ ap (λ xs. before ++ flat_map f xs) (ap (λ x. range_with_len 1 n ++ x ∷ []) same ∙ sym (range_more 1 n) ∙ ap (range_with_len 1) (sym (add-one n)))
