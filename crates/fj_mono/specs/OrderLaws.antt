-- That the keys of the implemented orders are monomial orders.
use Rattle.fj_theory.specs.MonomialOrder.{IsMonomialOrder, lex_key, grlex_key, grevlex_key, elim_key}
use Rattle.fj_theory.proofs.Keys as keys

pub lex_key-IsMonomialOrder : IsMonomialOrder lex_key
lex_key-IsMonomialOrder = keys.lex_key-IsMonomialOrder

pub grevlex_key-IsMonomialOrder : IsMonomialOrder grevlex_key
grevlex_key-IsMonomialOrder = keys.grevlex_key-IsMonomialOrder

pub grlex_key-IsMonomialOrder : IsMonomialOrder grlex_key
grlex_key-IsMonomialOrder = keys.grlex_key-IsMonomialOrder

pub elim_key-IsMonomialOrder : IsMonomialOrder elim_key
elim_key-IsMonomialOrder = keys.elim_key-IsMonomialOrder
