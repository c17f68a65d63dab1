use Rattle.std.proofs.Common.{nat_eq}
use Rattle.std.proofs.lemmas.Bool.Decides.{Decides-eqb}
use Rattle.std.proofs.lemmas.List.Elements.{Decides-contains, contains_decides}
use Rattle.fj_coeff.specs.Field.{primes}
use Rattle.fj_coeff.specs.PrimeTest.{test_of_decided}
use Rattle.fj_coeff.proofs.table.is_prime.Goals as goal

pub returns-clause-in_table : goal.returns-clause-in_table
unfolding primes
returns-clause-in_table c =
    let cases = Decides-contains primes c.args.p c.contains.result (contains_decides nat_eq Decides-eqb primes c.args.p c.contains.result c.contains.ensures.cases) in
    cases

pub returns-clause-value : goal.returns-clause-value
unfolding primes
returns-clause-value c = test_of_decided c.contains.result c.args.p (returns-clause-in_table c)
