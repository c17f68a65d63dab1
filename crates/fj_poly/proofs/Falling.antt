-- Lists of terms that fall in a monomial order: pushing, replacing and leaving out a term.
use Rattle.std.proofs.Common.{◌≡◌, ℕ, zero, suc, ◌<◌, get_or, All, List, [], ◌∷◌, ◌++◌, length, sym, ap, ◌∙◌, arith}
use Rattle.std.proofs.lemmas.List.Elements.{All-head, All-tail}
use Rattle.std.specs.Ordering.{ordering_reverse}
use Rattle.std.specs.declared.cmp.Ordering.{Ordering}
use Rattle.std.specs.declared.cmp.Ordering.TheVariants.{Less, Equal, Greater}
use Rattle.std.specs.Cmp.{tied_itself}
use Rattle.fj_coeff.specs.Field.{Field}
use Rattle.fj_theory.specs.MonomialOrder.{compare_by}
use Rattle.fj_theory.proofs.MonomialOrder.{compare_by_total}
use Rattle.fj_theory.specs.Polynomial.{IsFalling}
use Rattle.fj_poly.specs.Terms.{AreTerms}

greater_back : (r s : Ordering) → r ≡ ordering_reverse s → s ≡ Greater → r ≡ Less
greater_back r Less e h = cc
greater_back r Equal e h = cc
greater_back r Greater e h = e

less_back : (r s : Ordering) → r ≡ ordering_reverse s → s ≡ Less → r ≡ Greater
less_back r Less e h = e
less_back r Equal e h = cc
less_back r Greater e h = cc

module _ (key : List ℕ → List ℕ) where
  -- Above and below are the two sides of one order.
  pub below_from_above : (a b : List ℕ) → compare_by key a b ≡ Greater → compare_by key b a ≡ Less
  below_from_above a b h = greater_back _ _ ((compare_by_total key).antisymm b a) h

  pub above_from_below : (a b : List ℕ) → compare_by key a b ≡ Less → compare_by key b a ≡ Greater
  above_from_below a b h = less_back _ _ ((compare_by_total key).antisymm b a) h

  pub above_trans : (a b c : List ℕ) → compare_by key a b ≡ Greater → compare_by key b c ≡ Greater → compare_by key a c ≡ Greater
  above_trans a b c h k = above_from_below c a ((compare_by_total key).trans c b a (below_from_above b c k) (below_from_above a b h))

  -- No exponent list is above itself.
  pub above_itself : (a b : List ℕ) → a ≡ b → compare_by key a b ≡ Greater → ⊥
  above_itself a b e h = let tied : compare_by key a b ≡ Equal = ap (compare_by key a) (sym e) ∙ tied_itself (compare_by_total key) a in cc

  -- So does a list without its first term.
  pub falling-tail : (s : List ℕ × ℕ) (ts : List (List ℕ × ℕ)) → IsFalling key (s ∷ ts) → IsFalling key ts
  falling-tail s [] h = tt
  falling-tail s (t ∷ ts) h = h.1

  -- What follows a term may be replaced by what falls behind it.
  pub falling-replace : (out : List (List ℕ × ℕ)) (s : List ℕ × ℕ) (xs ys : List (List ℕ × ℕ))
      → IsFalling key (out ++ s ∷ xs) → IsFalling key (s ∷ ys) → IsFalling key (out ++ s ∷ ys)
  falling-replace [] s xs ys h tail = tail
  falling-replace (r ∷ []) s xs ys h tail = (h.0, tail)
  falling-replace (r ∷ t ∷ out) s xs ys h tail = (h.0, falling-replace (t ∷ out) s xs ys h.1 tail)

  -- Only the exponents matter.
  pub falling-exponents : (out : List (List ℕ × ℕ)) (a : List ℕ) (c d : ℕ) (xs : List (List ℕ × ℕ))
      → IsFalling key (out ++ (a, c) ∷ xs) → IsFalling key (out ++ (a, d) ∷ xs)
  falling-exponents [] a c d [] h = tt
  falling-exponents [] a c d (x ∷ xs) h = h
  falling-exponents (r ∷ []) a c d [] h = h
  falling-exponents (r ∷ []) a c d (x ∷ xs) h = h
  falling-exponents (r ∷ t ∷ out) a c d xs h = (h.0, falling-exponents (t ∷ out) a c d xs h.1)

  -- A term may be left out.
  pub falling-without : (out : List (List ℕ × ℕ)) (s : List ℕ × ℕ) (xs : List (List ℕ × ℕ))
      → IsFalling key (out ++ s ∷ xs) → IsFalling key (out ++ xs)
  falling-without [] s xs h = falling-tail s xs h
  falling-without (r ∷ []) s [] h = tt
  falling-without (r ∷ []) s (x ∷ xs) h = (above_trans r.0 s.0 x.0 h.0 h.1.0, h.1.1)
  falling-without (r ∷ t ∷ out) s xs h = (h.0, falling-without (t ∷ out) s xs h.1)

  -- A front of a falling list falls.
  pub falling-front : (xs ys : List (List ℕ × ℕ)) → IsFalling key (xs ++ ys) → IsFalling key xs
  falling-front [] ys h = tt
  falling-front (x ∷ []) ys h = tt
  falling-front (x ∷ t ∷ xs) ys h = (h.0, falling-front (t ∷ xs) ys h.1)

  -- So does a back.
  pub falling-back : (xs ys : List (List ℕ × ℕ)) → IsFalling key (xs ++ ys) → IsFalling key ys
  falling-back [] ys h = h
  falling-back (x ∷ xs) ys h = falling-back xs ys (falling-tail x (xs ++ ys) h)

  -- A term below all others falls behind them.
  pub falling-push : (ts : List (List ℕ × ℕ)) (t : List ℕ × ℕ) → IsFalling key ts → All (λ s. compare_by key s.0 t.0 ≡ Greater) ts → IsFalling key (ts ++ t ∷ [])
  falling-push [] t h below = tt
  falling-push (s ∷ []) t h below = (All-head (λ s. compare_by key s.0 t.0 ≡ Greater) s [] below, tt)
  falling-push (s ∷ u ∷ ts) t h below = (h.0, falling-push (u ∷ ts) t h.1 (All-tail (λ s. compare_by key s.0 t.0 ≡ Greater) s (u ∷ ts) below))

  -- The first term is above each later one.
  falling-first : (t : List ℕ × ℕ) (ts : List (List ℕ × ℕ)) → IsFalling key (t ∷ ts) → (k : ℕ) (d : List ℕ × ℕ) → k < length ts → compare_by key t.0 (get_or ts k d).0 ≡ Greater
  falling-first t [] h k d l = absurd (omega arith)
  falling-first t (u ∷ ts) h zero d l = h.0
  falling-first t (u ∷ ts) h (suc k) d l = above_trans t.0 u.0 (get_or ts k d).0 h.0 (falling-first u ts h.1 k d (omega arith))

  -- A term is above each term at a later place.
  pub falling-places : (ts : List (List ℕ × ℕ)) → IsFalling key ts → (i j : ℕ) (d : List ℕ × ℕ) → i < j → j < length ts → compare_by key (get_or ts i d).0 (get_or ts j d).0 ≡ Greater
  falling-places [] h i j d less l = absurd (omega arith)
  falling-places (t ∷ ts) h i zero d less l = absurd (omega arith)
  falling-places (t ∷ ts) h zero (suc j) d less l = falling-first t ts h j d (omega arith)
  falling-places (t ∷ ts) h (suc i) (suc j) d less l = falling-places ts (falling-tail t ts h) i j d (omega arith) (omega arith)

-- The parts of a list of terms.
pub terms-front : (F : Field) (xs ys : List (List ℕ × ℕ)) → AreTerms F (xs ++ ys) → AreTerms F xs
terms-front F [] ys h = tt
terms-front F (x ∷ xs) ys h = (h.0, terms-front F xs ys h.1)

pub terms-back : (F : Field) (xs ys : List (List ℕ × ℕ)) → AreTerms F (xs ++ ys) → AreTerms F ys
terms-back F [] ys h = h
terms-back F (x ∷ xs) ys h = terms-back F xs ys h.1

pub terms-append : (F : Field) (xs ys : List (List ℕ × ℕ)) → AreTerms F xs → AreTerms F ys → AreTerms F (xs ++ ys)
terms-append F [] ys h k = k
terms-append F (x ∷ xs) ys h k = (h.0, terms-append F xs ys h.1 k)
