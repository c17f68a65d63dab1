use Rattle.fj_groebner.proofs.DegreeOrder.{grlex_key-IsDegreeOrder, grevlex_key-IsDegreeOrder}
use Rattle.fj_groebner.proofs.bases.degree_orders.Goals as goal

pub returns : goal.returns
returns c = record { grlex = grlex_key-IsDegreeOrder; grevlex = grevlex_key-IsDegreeOrder }
