-- Looking up residues.
use Rattle.std.proofs.Common.{◌≡◌, ◌≢◌, ℕ, List, [], ◌∷◌, ◌++◌, true, false, refl, sym, ap, ◌∙◌, ◌<◌, length, OnOk, Result, Ok, Err}
use Rattle.std.specs.BTreeMap.{is_at}
use Rattle.std.specs.declared.cmp.Ordering.{Ordering}
use Rattle.std.specs.declared.cmp.Ordering.TheVariants.{Less, Equal, Greater}
use Rattle.std.specs.Ordering.{is_eq}
use Rattle.std.specs.Cmp.{tied_itself}
use Rattle.std.proofs.lemmas.Cmp.{nat_list_cmp_total}
use Rattle.std.proofs.lemmas.Map.Lookups.{exact_bytes}
use Rattle.fj_coeff.specs.Field.{Field, IsField}
use Rattle.fj_theory.specs.MonomialOrder.{IsMonomialOrder}
use Rattle.fj_theory.specs.Polynomial.{term, terms_falling}
use Rattle.fj_poly.proofs.Polynomials.{polynomial_of-term}
use Rattle.fj_poly.proofs.View.{terms_falling-polynomial_of}
use Rattle.fj_mono.specs.Monomial.{Monomial, same_monomial}
use Rattle.fj_root.specs.Groups.{lex}

-- Only equal monomials tie.
pub lex_exact : (a b : Monomial) → lex a b ≡ Equal → a ≡ b
lex_exact a b e = same_monomial a b (exact_bytes a.exponents b.exponents e)

-- Another residue is another key.
pub is_at_other : (a b : Monomial) → a ≢ b → is_at (lex b) a ≡ false
is_at_other a b apart = by (lex b a) refl
  where
    by : (o : Ordering) → lex b a ≡ o → is_at (lex b) a ≡ false
    by Less e = ap is_eq e
    by Equal e = absurd (apart (sym (lex_exact b a e)))
    by Greater e = ap is_eq e

-- A residue is its own key.
pub is_at_itself : (a : Monomial) → is_at (lex a) a ≡ true
is_at_itself a = ap is_eq (tied_itself nat_list_cmp_total a.exponents)

-- What holds holds where a call succeeded.
pub on_ok : {T E : Type 0} (r : Result T E) (P : Type 0) → P → OnOk r P
on_ok (Ok x) P p = p
on_ok (Err e) P p = tt

-- The terms of a single term.
pub terms_falling-term : {key : List ℕ → List ℕ} (O : IsMonomialOrder key) {F : Field} (L : IsField F) (a : List ℕ) (c : ℕ) → length a ≡ 8 → 0 < c → c < F.size
    → terms_falling key (term c a) ≡ (a, c) ∷ []
terms_falling-term {key} O {F} L a c eight positive below =
    ap (terms_falling key) (sym (polynomial_of-term L a c positive)) ∙ terms_falling-polynomial_of O F ((a, c) ∷ []) tt ((eight, positive, below), tt)

-- A list with a term at its end is not empty.
pub pushed_some : {A : Type 0} (xs : List A) (x : A) → xs ++ x ∷ [] ≢ []
pushed_some [] x e = cc
pushed_some (y ∷ xs) x e = cc
