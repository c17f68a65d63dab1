use Rattle.fj_testideal.proofs.ChainLimit.{chain_root_from_f, chain_root_from_one}
use Rattle.fj_testideal.proofs.chains.chains_are_roots.Goals as goal

pub returns : goal.returns
returns c F L f A period lists last = record {
  from_f = λ chain. chain_root_from_f L A period lists chain;
  from_one = λ chain. chain_root_from_one L A period lists chain;
}
