use Rattle.std.proofs.Common.{◌≡◌, length}
use Rattle.fj_theory.specs.Digits.{value_of}
use Rattle.fj_thresh.specs.Lists.{WriteNu}
use Rattle.fj_thresh.proofs.powers.greatest_power.Given as goal

-- the digits so far write nu at their number
abbrev pub invariant-digits : goal.invariant-digits
invariant-digits g l =
    let F = g.K.Coeff.field in
    record {
      written : WriteNu F l.f l.j.given l.digits.items;
      count : length l.digits.items ≡ l.counter;
      value : l.nu ≡ value_of F.characteristic l.digits.items;
    }
