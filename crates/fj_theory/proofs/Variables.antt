-- The eight variables: the exponents of monomials at each of them.
use Rattle.std.proofs.Common.{◌≡◌, ℕ, zero, suc, ◌<◌, List, [], ◌∷◌, length, get_or, set, replicate, refl, sym, ap, ◌∙◌, arith, length-set}
use Rattle.std.proofs.Common.{nat_cmp, Ordering, Less}
use Rattle.std.specs.Ordering.{ordering_then}
use Rattle.std.proofs.lemmas.Bool.Decides.{nat_tests}
use Rattle.std.proofs.lemmas.List.{get_or-set_same}
use Rattle.fj_algebra.specs.Variable as variable
use Rattle.fj_algebra.specs.Variable.{monomial_power}
use Rattle.fj_theory.specs.Exponents.{IsExponents, origin, plus}
use Rattle.fj_theory.specs.PointIdeal.{variable_exponents}
use Rattle.fj_theory.proofs.Exponents.{cons_same, IsExponents-origin}
use Rattle.fj_theory.proofs.Keys.{first_key, first_key-IsMonomialOrder, index-plus}
use Rattle.fj_theory.proofs.OrderedPolynomials.{Exponents, exponents_equal, times, monomials, monomial_order}

-- The exponents of 1 in m variables.
abbrev zeros : ℕ → List ℕ
zeros m = replicate m 0

pub zeros_plus : (a : List ℕ) → plus (replicate (length a) 0) a ≡ a
unfolding plus
zeros_plus [] = refl
zeros_plus (k ∷ a) = cons_same (omega arith) (zeros_plus a)

zeros_twice : (m : ℕ) → plus (zeros m) (zeros m) ≡ zeros m
unfolding plus
zeros_twice zero = refl
zeros_twice (suc m) = cons_same refl (zeros_twice m)

zeros_with_zero : (m i : ℕ) → set (zeros m) i 0 ≡ zeros m
zeros_with_zero zero i = refl
zeros_with_zero (suc m) zero = refl
zeros_with_zero (suc m) (suc i) = cons_same refl (zeros_with_zero m i)

one_more : (m i k : ℕ) → plus (set (zeros m) i 1) (set (zeros m) i k) ≡ set (zeros m) i (suc k)
unfolding plus
one_more zero i k = refl
one_more (suc m) zero k = cons_same (omega arith) (zeros_twice m)
one_more (suc m) (suc i) k = cons_same refl (one_more m i k)

split_power : (a : List ℕ) (i : ℕ) → plus (set (zeros (length a)) i (get_or a i 0)) (set a i 0) ≡ a
unfolding plus
split_power [] i = refl
split_power (k ∷ a) zero = cons_same (omega arith) (zeros_plus a)
split_power (k ∷ a) (suc i) = cons_same (omega arith) (split_power a i)

-- The exponents of 1.
pub get_or-origin : (i : ℕ) → get_or origin i 0 ≡ 0
unfolding origin
get_or-origin i = get_or-zeros 8 i
  where
    get_or-zeros : (m i : ℕ) → get_or (zeros m) i 0 ≡ 0
    get_or-zeros zero i = refl
    get_or-zeros (suc m) zero = refl
    get_or-zeros (suc m) (suc i) = get_or-zeros m i

set_zero : (a : List ℕ) (i : ℕ) → get_or (set a i 0) i 0 ≡ 0
set_zero [] i = refl
set_zero (k ∷ a) zero = refl
set_zero (k ∷ a) (suc i) = set_zero a i

pub IsExponents-variable : (i : ℕ) → IsExponents (variable_exponents i)
unfolding variable_exponents
IsExponents-variable i = record { eight = length-set origin i 1 ∙ IsExponents-origin.eight }

rest : ℕ → Exponents → Exponents
rest i a = record { list = set a.list i 0; is_exponents = record { eight = length-set a.list i 0 ∙ a.is_exponents.eight } }

variable_of : ℕ → Exponents
variable_of i = record { list = variable_exponents i; is_exponents = IsExponents-variable i }

power_of : (i k : ℕ) → (monomial_power monomials (variable_of i) k).list ≡ set (zeros 8) i k
unfolding monomial_power monomials times variable_of variable_exponents origin
power_of i zero = sym (zeros_with_zero 8 i)
power_of i (suc k) = ap (plus (set (zeros 8) i 1)) (power_of i k) ∙ one_more 8 i k

-- The variable x_i. The variables are counted from 0.
pub variable_at : (i : ℕ) → i < 8 → variable.Variable monomials
unfolding monomials times variable_of rest variable_exponents
variable_at i h = record {
  variable = variable_of i;
  exponent = λ a. get_or a.list i 0;
  rest = rest i;
  exponent_times = λ a b. index-plus a.list b.list i (a.is_exponents.eight ∙ sym b.is_exponents.eight);
  exponent_variable = get_or-set_same origin i 1 0 (let e = IsExponents-origin.eight in omega (arith, h, e));
  exponent_rest = λ a. set_zero a.list i;
  split = λ a. exponents_equal _ a
      (ap (λ l. plus l (set a.list i 0)) (power_of i (get_or a.list i 0) ∙ ap (λ m. set (zeros m) i (get_or a.list i 0)) (sym a.is_exponents.eight)) ∙ split_power a.list i);
}

module _ (i : ℕ) (h : i < 8) where
  pub exponent_at : (a : Exponents) → (variable_at i h).exponent a ≡ get_or a.list i 0
  unfolding variable_at
  exponent_at a = refl

  pub list_of_variable : (variable_at i h).variable.list ≡ set origin i 1
  unfolding variable_at variable_of variable_exponents
  list_of_variable = refl

pub first_less : (x y : ℕ) (o : Ordering) → x < y → ordering_then (nat_cmp x y) o ≡ Less
first_less x y o h = ap (λ r. ordering_then r o) (less x y h)
  where
    less : (x y : ℕ) → x < y → nat_cmp x y ≡ Less
    less x y h = grind (arith, nat_tests)

-- The order in which the exponent decides first eliminates the variable.
pub first_key_eliminates : (i : ℕ) (h : i < 8) → variable.Eliminates (monomial_order (first_key-IsMonomialOrder i)) (variable_at i h)
unfolding monomial_order first_key variable_at
first_key_eliminates i h = record { greater = λ a b l. record { is_less = first_less _ _ _ l } }
