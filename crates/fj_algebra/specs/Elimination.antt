-- Meets of ideals by elimination of a variable.
use Rattle.std.specs.Prelude.{List, ◌++◌}
use Rattle.fj_algebra.specs.Ring.{subtract}
use Rattle.fj_algebra.specs.Ideal.{multiples}
use Rattle.fj_algebra.specs.Polynomial.{PolynomialRing}
use Rattle.fj_algebra.specs.Variable.{Variable}

-- The list t I, (1 - t) J. The part of its ideal without the variable t is the meet of (I) and (J) (Cox, Little, O'Shea
-- 2015, chapter 4, section 3).
abbrev pub elimination_list : {K M A : Type 0} (P : PolynomialRing K M A) → Variable P.monomials → List A → List A → List A
elimination_list P t I J =
    multiples P.ring (P.term P.field.ring.one t.variable) I ++ multiples P.ring (subtract P.ring P.ring.one (P.term P.field.ring.one t.variable)) J
