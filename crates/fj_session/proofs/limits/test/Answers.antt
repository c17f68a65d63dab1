use Rattle.fj_testideal.specs.TestIdeal.{IsTestIdeal}
use Rattle.fj_chain.specs.Lists.{IsLastTestList}
use Rattle.fj_session.proofs.Made.{limit_for}
use Rattle.fj_session.proofs.limits.test.Goals as goal

pub returns-clause-ideal : goal.returns-clause-ideal
returns-clause-ideal g c =
    limit_for g.met.K.Coeff.lawful (λ h T. IsTestIdeal g.K.Coeff.field h c.args.t.now T) (λ h L. IsLastTestList g.K.Coeff.field h c.args.t.now L) c.in_ok-polynomial.ensures.value c.test_ideal.result c.test_ideal.ensures.value c.test_ideal.ensures.ideal c.test_ideal.ensures.list
