use Rattle.fj_groebner.proofs.Elimination.{IsDivision-IsExact}
use Rattle.fj_groebner.proofs.eliminations.division_of_multiples.Goals as goal

pub returns : goal.returns
returns c F L key K g h P nonzero m last D = IsDivision-IsExact L K P nonzero m D
