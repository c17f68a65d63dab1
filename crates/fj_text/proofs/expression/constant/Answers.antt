use Rattle.std.proofs.Common.{◌≡◌, ◌∙◌, arith}
use Rattle.std.proofs.lemmas.Nat.{mod_below}
use Rattle.fj_coeff.specs.PrimeFieldLaws.{prime_bounds}
use Rattle.fj_text.proofs.expression.constant.Goals as goal

pub nonzero_rem-n : goal.nonzero_rem-n
nonzero_rem-n g c =
    let p : c.P.result ≡ g.K.Coeff.field.characteristic = c.P.ensures ∙ g.met.K.Coeff.characteristic_is in
    omega (arith, (prime_bounds _ g.met.K.Coeff.lawful.prime).0)

pub of_rank-requires : goal.of_rank-requires
of_rank-requires g c =
    let p : c.P.result ≡ g.K.Coeff.field.characteristic = c.P.ensures ∙ g.met.K.Coeff.characteristic_is in
    omega (arith, (prime_bounds _ g.met.K.Coeff.lawful.prime).0, g.met.K.Coeff.lawful.characteristic_fits, mod_below c.args.n c.P.result)
