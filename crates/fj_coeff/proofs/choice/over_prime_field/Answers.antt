use Rattle.std.proofs.Common.{◌≢◌, refl}
use Rattle.std.proofs.lemmas.List.Elements.{All-contains, All-from_recursion}
use Rattle.fj_coeff.specs.Field.{primes}
use Rattle.fj_coeff.proofs.choice.over_prime_field.Goals as goal

-- A number that is none of the primes isn't in the table.
pub unreachable-requires : goal.unreachable-requires
unfolding primes
unreachable-requires g c =
    let none = All-from_recursion (λ q. c.args.p ≢ q) primes (c.if-p-eq2.false, (c.if-p-eq3.false, (c.if-p-eq5.false, (c.if-p-eq7.false, (c.if-p-eq11.false, (c.if-p-eq13.false, (c.if-p-eq17.false, (c.if-p-eq19.false, (c.if-p-eq23.false, (c.if-p-eq29.false, (c.if-p-eq31.false, tt))))))))))) in
    All-contains (λ q. c.args.p ≢ q) primes c.args.p none c.requires.prime refl
