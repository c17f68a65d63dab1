-- The eighth variable: its exponents, the order that eliminates it, and degree orders.
use Rattle.std.proofs.Common.{◌≡◌, ℕ, ◌<◌, List, length, get_or, set, take, sum, refl, sym, ◌∙◌, arith, take_all}
use Rattle.std.proofs.Common.{nat_cmp, Ordering, Less, Equal, Greater}
use Rattle.std.specs.Ordering.{ordering_then}
use Rattle.std.proofs.lemmas.List.Sums.{sum_by_more}
use Rattle.std.specs.Cmp.Lexicographic.{slice_cmp}
use Rattle.fj_algebra.specs.Variable as variable
use Rattle.fj_algebra.specs.StrictSteps.{IsDegreeOrder}
use Rattle.fj_theory.specs.Exponents.{origin, total}
use Rattle.fj_theory.specs.MonomialOrder.{elim_key, grevlex_key, front_sums}
use Rattle.fj_theory.proofs.Keys.{elim_key-IsMonomialOrder, grevlex_key-IsMonomialOrder}
use Rattle.fj_theory.proofs.OrderedPolynomials.{Exponents, monomials, monomial_order}
use Rattle.fj_theory.proofs.Variables.{variable_at, exponent_at, list_of_variable, first_less}

pub eighth : variable.Variable monomials
eighth = variable_at 7 (omega arith)

-- What the variable is on lists.
pub eighth_exponent : (a : Exponents) → eighth.exponent a ≡ get_or a.list 7 0
unfolding eighth
eighth_exponent a = exponent_at 7 _ a

pub eighth_list : eighth.variable.list ≡ set origin 7 1
unfolding eighth
eighth_list = list_of_variable 7 _

twice : (r o : Ordering) → ordering_then r (ordering_then r o) ≡ ordering_then r o
twice Less o = refl
twice Equal o = refl
twice Greater o = refl

moved : (x y u v s t : ℕ) (o : Ordering) → x ≡ 0 → y ≡ 0 → u ≡ s → v ≡ t → ordering_then (nat_cmp x y) (ordering_then (nat_cmp s t) o) ≡ Less →
    ordering_then (nat_cmp u v) (ordering_then (nat_cmp s t) o) ≡ Less
moved x y u v s t o ex ey eu ev h = rw (eu, ev) (twice (nat_cmp s t) o ∙ rw (ex, ey) at h)

seven : (a : List ℕ) → length a ≡ 8 → get_or a 7 0 ≡ 0 → sum (take 8 a) ≡ sum (take 7 a)
seven a l e = let more = sum_by_more (λ x. x) a 7 0 (omega arith) in omega (arith, more, e)

-- Elim eliminates the eighth variable.
pub elim_eliminates : variable.Eliminates (monomial_order elim_key-IsMonomialOrder) eighth
unfolding monomial_order elim_key
elim_eliminates = record { greater = λ a b h. record { is_less = first_less _ _ _ (less a b h) } }
  where
    less : (a b : Exponents) → eighth.exponent a < eighth.exponent b → get_or a.list 7 0 < get_or b.list 7 0
    less a b h = let x = eighth_exponent a in let y = eighth_exponent b in omega (arith, h, x, y)

-- Grevlex compares the monomials without the eighth variable as Elim does.
pub elim_grevlex_agree : variable.AgreeWithout eighth (monomial_order elim_key-IsMonomialOrder) (monomial_order grevlex_key-IsMonomialOrder)
unfolding monomial_order elim_key grevlex_key front_sums
elim_grevlex_agree = record { agree = λ a b y z h. record { is_less = change a b (sym (eighth_exponent a) ∙ y) (sym (eighth_exponent b) ∙ z) h.is_less } }
  where
    change : (a b : Exponents) → get_or a.list 7 0 ≡ 0 → get_or b.list 7 0 ≡ 0 → slice_cmp nat_cmp (elim_key a.list) (elim_key b.list) ≡ Less →
        slice_cmp nat_cmp (grevlex_key a.list) (grevlex_key b.list) ≡ Less
    change a b y z h = moved _ _ _ _ _ _ _ y z (seven a.list a.is_exponents.eight y) (seven b.list b.is_exponents.eight z) h

-- Grevlex is a degree order.
pub grevlex_degree : IsDegreeOrder (monomial_order grevlex_key-IsMonomialOrder) (λ a. total a.list)
unfolding monomial_order grevlex_key front_sums
grevlex_degree = record { lower = λ a b h. record { is_less = first_less _ _ _ (whole a b h) } }
  where
    whole : (a b : Exponents) → total a.list < total b.list → sum (take 8 a.list) < sum (take 8 b.list)
    whole a b h = let e = a.is_exponents.eight in let f = b.is_exponents.eight in rw (take_all 8 a.list (omega arith), take_all 8 b.list (omega arith)) h
