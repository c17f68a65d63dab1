use Rattle.fj_testideal.specs.TestIdeal.{IsLeftLimit}
use Rattle.fj_chain.specs.Lists.{IsLastLeftList}
use Rattle.fj_session.proofs.Made.{limit_for}
use Rattle.fj_session.proofs.limits.left.Goals as goal

pub returns-clause-ideal : goal.returns-clause-ideal
returns-clause-ideal g c =
    limit_for g.met.K.Coeff.lawful (λ h T. IsLeftLimit g.K.Coeff.field h c.args.t.now T) (λ h L. IsLastLeftList g.K.Coeff.field h c.args.t.now L) c.in_ok-polynomial.ensures.value c.left_limit.result c.left_limit.ensures.value c.left_limit.ensures.ideal c.left_limit.ensures.list
