use Rattle.std.proofs.Common.{◌≡◌, ◌/◌, ◌%◌, get_or, length, rules}
use Rattle.fj_mono.proofs.Split.{plus-times-quotients}
use Rattle.fj_mono.proofs.mono.Mono.split.Goals as goal

pub returns-clause-whole : goal.returns-clause-whole
returns-clause-whole c =
    let long : length c.args.self.now.exponents ≡ 8 = c.args.self.now.eight in
    plus-times-quotients _ _ _ _ (search rules) (search rules)
    (λ i below. let at : get_or c.map-quotient.result i 0 ≡ get_or c.args.self.now.exponents i 0 / c.args.q = search rules in at)
    (λ i below. let at : get_or c.map-residue.result i 0 ≡ get_or c.args.self.now.exponents i 0 % c.args.q = search rules in at)
