use Rattle.fj_theory.proofs.Colon.{IsMeet-unique, IsMeet-SameIdeal}
use Rattle.fj_theory.proofs.colons.meets_depend_on_ideals.Goals as goal

pub returns : goal.returns
returns c F L = record {
  unique = λ M N K K' S T. IsMeet-unique L S T;
  same = λ M M' N N' K K' P P' Q Q' B E G H S. IsMeet-SameIdeal L P P' Q Q' S.polynomials B E G H S;
}
