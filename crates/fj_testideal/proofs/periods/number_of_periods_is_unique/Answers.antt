use Rattle.fj_testideal.specs.Chain.{IsRisingAfter, IsFallingAfter}
use Rattle.fj_testideal.proofs.NumberOfPeriods.{first_repeat-unique}
use Rattle.fj_testideal.proofs.periods.number_of_periods_is_unique.Goals as goal

pub returns : goal.returns
returns c F f period k l = record {
  rising = λ K M. first_repeat-unique (IsRisingAfter F f period) k l K M;
  falling = λ K M. first_repeat-unique (IsFallingAfter F f period) k l K M;
}
