use Rattle.fj_theory.proofs.Keys.{lex_key-IsMonomialOrder, grlex_key-IsMonomialOrder, grevlex_key-IsMonomialOrder, elim_key-IsMonomialOrder}
use Rattle.fj_theory.proofs.polynomials.orders_of_keys.Goals as goal

pub returns : goal.returns
returns c = record { lex = lex_key-IsMonomialOrder; grlex = grlex_key-IsMonomialOrder; grevlex = grevlex_key-IsMonomialOrder; elimination = elim_key-IsMonomialOrder }
