-- Lists of one word and of two.
use Rattle.std.proofs.Common.{◌≡◌, [], ◌∷◌, ℕ, List, length, get_or, ap, refl, sym, ◌∙◌, arith}
use Rattle.std.proofs.lemmas.List.{length-map}
use Rattle.std.specs.Borrow.{Bor}
use Rattle.fj_shell.specs.Shell.{texts_of}

pub single : (words : List (Bor (List ℕ))) (default : Bor (List ℕ)) → length words ≡ 1 → texts_of words ≡ (get_or words 0 default).now ∷ []
single [] default one = absurd (omega arith)
single (w ∷ []) default one = refl
single (w ∷ v ∷ words) default one = absurd (omega arith)

pub pair : (words : List (Bor (List ℕ))) (default : Bor (List ℕ)) → length words ≡ 2 → texts_of words ≡ (get_or words 0 default).now ∷ (get_or words 1 default).now ∷ []
pair [] default two = absurd (omega arith)
pair (w ∷ []) default two = absurd (omega arith)
pair (w ∷ v ∷ []) default two = refl
pair (w ∷ v ∷ u ∷ words) default two = absurd (omega arith)

pub alone : (a b : List ℕ) → a ∷ [] ≡ b ∷ [] → a ≡ b
alone a b same = ap (λ words. get_or words 0 []) same

-- Two words that are two others.
pub both : (a b c d : List ℕ) → a ∷ b ∷ [] ≡ c ∷ d ∷ [] → (a ≡ c) × (b ≡ d)
both a b c d same = (ap (λ words. get_or words 0 []) same, ap (λ words. get_or words 1 []) same)

-- The number of words.
pub count : (words : List (Bor (List ℕ))) (texts : List (List ℕ)) → texts_of words ≡ texts → length words ≡ length texts
count words texts same = sym (length-map words (λ w. w.now)) ∙ ap length same
