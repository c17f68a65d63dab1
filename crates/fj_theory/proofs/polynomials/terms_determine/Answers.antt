use Rattle.std.proofs.lemmas.List.Elements.{All-weaker}
use Rattle.fj_theory.specs.Exponents.{IsExponents}
use Rattle.fj_theory.specs.Polynomial.{IsTerm}
use Rattle.fj_theory.proofs.Terms.{from_entries-terms_falling, terms_falling-from_entries}
use Rattle.fj_theory.proofs.polynomials.terms_determine.Goals as goal

pub returns : goal.returns
returns c = record {
  polynomial = λ key O F f. from_entries-terms_falling O f.is_polynomial;
  terms = λ key O F ts all falling. terms_falling-from_entries O ts (All-weaker (IsTerm F) (λ t. IsExponents t.0) (λ t T. T.exponents) ts all) falling;
}
