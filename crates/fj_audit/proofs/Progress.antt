-- A list of auditors while a certificate is handed on: those before a place were shown it, the others are as before.
use Rattle.std.proofs.Common.{◌≡◌, ℕ, zero, suc, ◌+◌, ◌<◌, ◌≤◌, ◌∙◌, ap, refl, subst, arith, List, [], ◌∷◌, length, map, slice_index_or, slice_set, Result, Ok, Err, OnErr}
use Rattle.fj_plain.specs.declared.cert.Cert.{Cert}
use Rattle.fj_audit.specs.Account.{Account, Remains}
use Rattle.fj_audit.specs.Handing.{IsShown, AreShown, AreShownInPart}

-- what holds whatever the result is
pub on_err_always : {T E P : Type 0} (r : Result T E) → P → OnErr r P
on_err_always (Ok x) p = tt
on_err_always (Err e) p = p

module _ {X : Type 0} (f : X → Account) (c : Cert) where
  abbrev tail : List X → List X
  tail [] = []
  tail (x ∷ xs) = xs

  abbrev pub ShownUpTo : ℕ → List X → List X → Type 0
  ShownUpTo zero olds news = news ≡ olds
  ShownUpTo (suc i) [] news = ⊥
  ShownUpTo (suc i) (x ∷ xs) [] = ⊥
  ShownUpTo (suc i) (x ∷ xs) (y ∷ ys) = IsShown c (f x) (f y) × ShownUpTo i xs ys

  -- one more was shown
  shown_more : (i : ℕ) (olds news : List X) (a b : X) → ShownUpTo i olds news → i < length news → a ≡ slice_index_or news i a → IsShown c (f a) (f b) → ShownUpTo (suc i) olds (slice_set news i b)
  shown_more zero olds [] a b same lt at is = absurd (omega arith)
  shown_more zero [] (y ∷ ys) a b same lt at is = absurd (let e = ap length same in omega (arith, e))
  shown_more zero (x ∷ xs) (y ∷ ys) a b same lt at is = (subst (λ z. IsShown c (f z) (f b)) (at ∙ ap (λ l. slice_index_or l 0 a) same) is, ap (λ l. tail l) same)
  shown_more (suc i) [] news a b sofar lt at is = absurd sofar
  shown_more (suc i) (x ∷ xs) [] a b sofar lt at is = absurd sofar
  shown_more (suc i) (x ∷ xs) (y ∷ ys) a b sofar lt at is = (sofar.0, shown_more i xs ys a b sofar.1 (omega (arith, lt)) at is)

  pub shown_next : (i : ℕ) (olds news : List X) (a b : X) → ShownUpTo i olds news → i < length news → a ≡ slice_index_or news i a → IsShown c (f a) (f b) → ShownUpTo (i + 1) olds (slice_set news i b)
  shown_next i olds news a b sofar lt at is =
      let e : suc i ≡ i + 1 = omega arith in
      subst (λ n. ShownUpTo n olds (slice_set news i b)) e (shown_more i olds news a b sofar lt at is)

  where_same : (olds news : List X) → news ≡ olds → length news ≤ 0 → AreShown c (map f olds) (map f news)
  where_same [] [] e short = tt
  where_same [] (y ∷ ys) e short = absurd (omega (arith, short))
  where_same (x ∷ xs) [] e short = absurd (let h = ap length e in omega (arith, h))
  where_same (x ∷ xs) (y ∷ ys) e short = absurd (omega (arith, short))

  -- all were shown
  pub shown_all : (i : ℕ) (olds news : List X) → ShownUpTo i olds news → length news ≤ i → AreShown c (map f olds) (map f news)
  shown_all zero olds news same short = where_same olds news same short
  shown_all (suc i) [] news sofar short = absurd sofar
  shown_all (suc i) (x ∷ xs) [] sofar short = absurd sofar
  shown_all (suc i) (x ∷ xs) (y ∷ ys) sofar short = (sofar.0, shown_all i xs ys sofar.1 (omega (arith, short)))

  -- the next one remains, and memory was wanting
  pub shown_part : (i : ℕ) (olds news : List X) (a b : X) → ShownUpTo i olds news → i < length news → a ≡ slice_index_or news i a → Remains (f a) → f b ≡ f a → AreShownInPart c (map f olds) (map f (slice_set news i b))
  shown_part zero olds [] a b same lt at rem as_before = absurd (omega arith)
  shown_part zero [] (y ∷ ys) a b same lt at rem as_before = absurd (let e = ap length same in omega (arith, e))
  shown_part zero (x ∷ xs) (y ∷ ys) a b same lt at rem as_before =
      let head : a ≡ x = at ∙ ap (λ l. slice_index_or l 0 a) same in
      record {
        first = [];
        shown = [];
        rest = map f xs;
        wanting = f x;
        before_is = refl;
        now_is = ap (λ z. z ∷ map f ys) (as_before ∙ ap f head) ∙ ap (λ l. f x ∷ map f (tail l)) same;
        are_shown = tt;
        remains = subst (λ z. Remains (f z)) head rem;
      }
  shown_part (suc i) [] news a b sofar lt at rem as_before = absurd sofar
  shown_part (suc i) (x ∷ xs) [] a b sofar lt at rem as_before = absurd sofar
  shown_part (suc i) (x ∷ xs) (y ∷ ys) a b sofar lt at rem as_before =
      let later = shown_part i xs ys a b sofar.1 (omega (arith, lt)) at rem as_before in
      record {
        first = f x ∷ later.first;
        shown = f y ∷ later.shown;
        rest = later.rest;
        wanting = later.wanting;
        before_is = ap (λ l. f x ∷ l) later.before_is;
        now_is = ap (λ l. f y ∷ l) later.now_is;
        are_shown = (sofar.0, later.are_shown);
        remains = later.remains;
      }
