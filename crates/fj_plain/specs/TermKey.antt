-- Keys by which the terms of a list are compared.
use Rattle.std.specs.Prelude.{ℕ, ◌-◌, ◌^◌, List, [], ◌∷◌, sum, slice_index}
use Rattle.fj_plain.specs.declared.order_name.OrderName.{OrderName}
use Rattle.fj_plain.specs.declared.order_name.OrderName.TheVariants.{Lex, Grlex, Grevlex, Elim}

-- A key for each order. For Lex and Grlex greater keys are of greater exponent lists, for Grevlex and Elim of smaller
-- ones.
abbrev pub term_key : OrderName → List ℕ → List ℕ
term_key Lex a = slice_index a 0 ∷ slice_index a 1 ∷ slice_index a 2 ∷ slice_index a 3 ∷ slice_index a 4 ∷ slice_index a 5 ∷ slice_index a 6 ∷ slice_index a 7 ∷ 0 ∷ []
term_key Grlex a = sum a ∷ slice_index a 0 ∷ slice_index a 1 ∷ slice_index a 2 ∷ slice_index a 3 ∷ slice_index a 4 ∷ slice_index a 5 ∷ slice_index a 6 ∷ slice_index a 7 ∷ []
term_key Grevlex a =
    (2 ^ 41 - sum a) ∷ slice_index a 7 ∷ slice_index a 6 ∷ slice_index a 5 ∷ slice_index a 4 ∷ slice_index a 3 ∷ slice_index a 2 ∷ slice_index a 1 ∷ slice_index a 0 ∷ []
term_key Elim a =
    (2 ^ 64 - 1 - slice_index a 7) ∷ (2 ^ 41 - sum a) ∷ slice_index a 6 ∷ slice_index a 5 ∷ slice_index a 4 ∷ slice_index a 3 ∷ slice_index a 2 ∷ slice_index a 1 ∷ slice_index a 0 ∷ []
