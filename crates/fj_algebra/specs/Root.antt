-- Frobenius roots of ideals.
use Rattle.std.specs.Prelude.{ℕ, List, map, flat_map}
use Rattle.fj_algebra.specs.Ring.{CommutativeRing}
use Rattle.fj_algebra.specs.Ideal.{Inside}
use Rattle.fj_algebra.specs.Frobenius.{frobenius_power}
use Rattle.fj_algebra.specs.Parts.{Parts}

-- M is the root of L at q: the smallest ideal whose Frobenius power has L inside (Blickle, Mustata and Smith 2008, definition 2.2).
pub record Root {A : Type 0} (R : CommutativeRing A) (q : ℕ) (L M : List A) : Type 0 where
  pub inside : Inside R L (frobenius_power R q M)
  pub least : (N : List A) → Inside R L (frobenius_power R q N) → Inside R M N

-- All parts of all elements of the list.
abbrev pub all_parts : {A Residue : Type 0} {R : CommutativeRing A} {q : ℕ} → Parts R Residue q → List A → List A
all_parts P L = flat_map (λ h. map (P.part h) P.residues) L
