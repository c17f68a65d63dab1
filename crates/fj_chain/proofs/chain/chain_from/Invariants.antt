use Rattle.std.proofs.Common.{[], ◌∷◌}
use Rattle.fj_ideal.specs.Reduced.{IsReduced}
use Rattle.fj_chain.specs.Lists.{PeriodsLeadTo}
use Rattle.fj_chain.proofs.chain.chain_from.Given as goal

-- no period before led back to the ideal that it started with
abbrev pub invariant-loop-periods : goal.invariant-loop-periods
invariant-loop-periods g l = PeriodsLeadTo g.K.Coeff.field l.f l.period (l.fn.first ∷ []) l.periods l.last.given × IsReduced g.K.Coeff.field l.last
