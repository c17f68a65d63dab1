use Rattle.fj_testideal.proofs.ChainLimit.{chain_rises, chain_falls}
use Rattle.fj_testideal.proofs.chains.chains_are_monotone.Goals as goal

pub returns : goal.returns
returns c F L f A period below = record {
  rises = λ lists last next chain follows. chain_rises L A period lists below chain follows;
  falls = λ lists last next chain follows. chain_falls L A period lists chain follows;
}
