use Rattle.fj_testideal.proofs.Chain.{IsChain-push, Repeats-push}
use Rattle.fj_testideal.proofs.chains.chains_go_on.Goals as goal

pub returns : goal.returns
returns c F L f A period first P lists last next Q = record {
  chain = λ chain follows. IsChain-push L A period lists first last next P chain follows;
  strict = λ chain strict apart. Repeats-push L A period lists first last next P Q chain strict apart;
}
