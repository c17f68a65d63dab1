use Rattle.fj_groebner.proofs.Elimination.{IsMeet-elimination, elimination_theorem, ArePolynomials-elimination}
use Rattle.fj_groebner.proofs.eliminations.elimination_gives_meet.Goals as goal

pub returns : goal.returns
returns c F L I J G A B lacks_I lacks_J basis =
    let theorem = elimination_theorem L (ArePolynomials-elimination L A B) basis in
    (IsMeet-elimination L A B basis lacks_I lacks_J, theorem.basis)
