use Rattle.fj_shell.proofs.Known.{prime_known}
use Rattle.fj_session.proofs.answering.prime_answer.Goals as goal

pub over_prime_field-requires-clause-prime : goal.over_prime_field-requires-clause-prime
over_prime_field-requires-clause-prime c = prime_known c.args.env.now c.args.asked.now c.requires
