use Rattle.std.proofs.Common.{take}
use Rattle.fj_chain.specs.Lists.{IsMultipleList}
use Rattle.fj_chain.proofs.multiples.multiples.Given as goal

-- the multiples of the first polynomials are formed
abbrev pub invariant-loop-g : goal.invariant-loop-g
invariant-loop-g g l = IsMultipleList g.K.Coeff.field l.fn.k l.fn.f (take l.g-index l.list) l.multiples.items
