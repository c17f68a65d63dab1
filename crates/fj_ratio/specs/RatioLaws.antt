-- The laws that the comparisons of `Ratio` cite.
use Rattle.std.specs.Cmp.{IsTotalOrder}
use Rattle.fj_theory.specs.Fraction.{compare}
use Rattle.fj_theory.proofs.Fraction as fraction

pub compare-IsTotalOrder : IsTotalOrder compare
compare-IsTotalOrder = fraction.compare-IsTotalOrder
