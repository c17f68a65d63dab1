use Rattle.fj_ratio.proofs.LowestTerms.{gcd_positive, divided}
use Rattle.fj_ratio.proofs.ratio.lowest_terms.Goals as goal

pub nonzero_div-result : goal.nonzero_div-result
nonzero_div-result c = gcd_positive _ _ _ c.requires c.gcd-divisor.ensures

pub nonzero_div-result-2 : goal.nonzero_div-result-2
nonzero_div-result-2 c = gcd_positive _ _ _ c.requires c.gcd-divisor.ensures

pub returns-clause-positive : goal.returns-clause-positive
returns-clause-positive c = (divided _ _ _ c.requires c.gcd-divisor.ensures).positive

pub returns-clause-lowest : goal.returns-clause-lowest
returns-clause-lowest c = (divided _ _ _ c.requires c.gcd-divisor.ensures).lowest

pub returns-clause-value : goal.returns-clause-value
returns-clause-value c = (divided _ _ _ c.requires c.gcd-divisor.ensures).value
