use Rattle.fj_testideal.proofs.TestIdeal.{IsTestIdeal-unique, IsLeftLimit-unique, IsTestIdeal-SameValue, IsLeftLimit-SameValue, IsTestIdeal-SameIdeal, IsLeftLimit-SameIdeal}
use Rattle.fj_testideal.proofs.test_ideals.limits_are_unique.Goals as goal

pub returns : goal.returns
returns c F L f A = record {
  test_ideal = λ s t S T same I J. IsTestIdeal-unique (IsTestIdeal-SameValue s t same I) J;
  same_test_ideal = λ s t S T same I P E. IsTestIdeal-SameIdeal L A t (IsTestIdeal-SameValue s t same I) P E;
  left_limit = λ s t S T same I J. IsLeftLimit-unique (IsLeftLimit-SameValue s t same I) J;
  same_left_limit = λ s t S T same I P E. IsLeftLimit-SameIdeal L A t (IsLeftLimit-SameValue s t same I) P E;
}
