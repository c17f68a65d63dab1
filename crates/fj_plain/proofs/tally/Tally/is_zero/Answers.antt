use Rattle.std.proofs.Common.{◌∙◌, sym}
use Rattle.fj_plain.specs.Tallied.{by_exponents}
use Rattle.fj_plain.proofs.TalliedLemmas.{tallied-zeros, zeros_from_tallied}
use Rattle.fj_plain.proofs.tally.Tally.is_zero.Goals as goal

pub returns : goal.returns
returns c = (
  λ zero. sym c.self.view_is ∙ tallied-zeros (by_exponents c.self.inside.ranks) (c.are_zero.ensures.0 zero),
  λ none. c.are_zero.ensures.1 (zeros_from_tallied (by_exponents c.self.inside.ranks) (c.self.view_is ∙ none)),
)
