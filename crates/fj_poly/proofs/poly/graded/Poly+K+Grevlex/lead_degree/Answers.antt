use Rattle.std.proofs.Common.{Some, ap, ◌∙◌}
use Rattle.fj_poly.proofs.Graded.{degree-lead}
use Rattle.fj_poly.proofs.poly.graded.Poly+K+Grevlex.lead_degree.Goals as goal

pub returns-in_err-m-clause-value : goal.returns-in_err-m-clause-value
returns-in_err-m-clause-value g c = c.from_residual.ensures ∙ degree-lead g.met.K.Coeff.lawful c.in_err-m.ensures.polynomial _ c.in_err-m.ensures.lead

pub returns-clause-value : goal.returns-clause-value
returns-clause-value g c = ap Some c.total.ensures ∙ degree-lead g.met.K.Coeff.lawful c.in_ok-m.ensures.polynomial _ c.in_ok-m.ensures.lead
