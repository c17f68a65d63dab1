use Rattle.std.proofs.Common.{◌≡◌, ◌^◌, ap, ◌∙◌}
use Rattle.fj_coeff.specs.PrimeFieldLaws.{prime_power_fits}
use Rattle.fj_root.proofs.frobenius_power.frobenius_exponent.Goals as goal

pub pow-requires : goal.pow-requires
pow-requires g c =
    let p : c.P.result ≡ g.K.Coeff.field.characteristic = c.P.ensures ∙ g.met.K.Coeff.characteristic_is in
    rw p (prime_power_fits g.K.Coeff.field.characteristic c.args.e g.met.K.Coeff.lawful.prime c.requires)

pub returns : goal.returns
returns g c = c.pow.ensures ∙ ap (λ p. p ^ c.args.e) (c.P.ensures ∙ g.met.K.Coeff.characteristic_is)
