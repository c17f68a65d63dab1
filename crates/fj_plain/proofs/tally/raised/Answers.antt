use Rattle.std.proofs.Common.{◌≡◌, ◌+◌, ◌*◌, get_or, length, rules, ◌∙◌, sym}
use Rattle.fj_plain.proofs.Raised.{plus-times_entries}
use Rattle.fj_plain.proofs.tally.raised.Goals as goal

pub returns : goal.returns
returns c =
    let of_a : length c.args.a ≡ 8 = search rules in
    let of_b : length c.args.b ≡ 8 = search rules in
    let of_r : length c.from_fn.result ≡ 8 = search rules in
    plus-times_entries c.args.q c.args.a c.args.b c.from_fn.result (of_a ∙ sym of_b) (of_a ∙ sym of_r)
    (λ i below. let at : get_or c.from_fn.result i 0 ≡ get_or c.args.a i 0 + c.args.q * get_or c.args.b i 0 = search rules in at)
