-- Meets and quotients of ideals.
use Rattle.std.specs.Prelude.{List, All}
use Rattle.fj_algebra.specs.Ring.{CommutativeRing}
use Rattle.fj_algebra.specs.Ideal.{Member}

-- The members of (N) are the elements that are in (L) and in (M).
pub record Meet {A : Type 0} (R : CommutativeRing A) (L M N : List A) : Type 0 where
  pub left : (h : A) → Member R N h → Member R L h
  pub right : (h : A) → Member R N h → Member R M h
  pub both : (h : A) → Member R L h → Member R M h → Member R N h

-- h is in the quotient (L) : (M): h g is in (L) for each g in M.
pub record InColon {A : Type 0} (R : CommutativeRing A) (L M : List A) (h : A) : Type 0 where
  pub each : All (λ g. Member R L (R.mul h g)) M

-- The members of (N) are the elements of (L) : (M).
pub record Colon {A : Type 0} (R : CommutativeRing A) (L M N : List A) : Type 0 where
  pub sound : (h : A) → Member R N h → InColon R L M h
  pub complete : (h : A) → InColon R L M h → Member R N h
