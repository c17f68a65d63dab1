-- The rows of the table of monomial orders.
use Rattle.std.specs.Prelude.{ℕ, ◌==◌, if◌then◌else◌}
use Rattle.fj_plain.specs.declared.order_name.OrderName.{OrderName}
use Rattle.fj_plain.specs.declared.order_name.OrderName.TheVariants.{Lex, Grlex, Grevlex, Elim}

-- The rows from 0 are Lex, Grlex, Grevlex and Elim.
abbrev pub order_in_row : ℕ → OrderName
order_in_row row = if row == 0 then Lex else if row == 1 then Grlex else if row == 2 then Grevlex else Elim
