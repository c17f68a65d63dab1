-- Ideals of a commutative ring. A list of elements stands for the ideal that it generates.
use Rattle.std.specs.Prelude.{◌≡◌, ℕ, zero, suc, List, [], ◌∷◌, ◌++◌, map, All}
use Rattle.fj_algebra.specs.Ring.{CommutativeRing}

-- The combination of the list with the cofactors c 0, c 1, ..
abbrev pub combination : {A : Type 0} → CommutativeRing A → (ℕ → A) → List A → A
combination R c [] = R.zero
combination R c (g ∷ L) = R.add (R.mul (c zero) g) (combination R (λ j. c (suc j)) L)

-- h is in the ideal (L): it is a combination of the list.
pub record Member {A : Type 0} (R : CommutativeRing A) (L : List A) (h : A) : Type 0 where
  pub cofactors : ℕ → A
  pub is : h ≡ combination R cofactors L

-- (L) is inside (M): each element of the list L is in (M).
pub record Inside {A : Type 0} (R : CommutativeRing A) (L M : List A) : Type 0 where
  pub each : All (Member R M) L

-- (L) and (M) are one ideal.
pub record SameIdeal {A : Type 0} (R : CommutativeRing A) (L M : List A) : Type 0 where
  pub forth : Inside R L M
  pub back : Inside R M L

-- The list f L of the multiples f g, for g in L.
abbrev pub multiples : {A : Type 0} → CommutativeRing A → A → List A → List A
multiples R f L = map (R.mul f) L

-- The list of the products g h, for g in L and h in M. It generates the product of the ideals.
abbrev pub products : {A : Type 0} → CommutativeRing A → List A → List A → List A
products R [] M = []
products R (g ∷ L) M = multiples R g M ++ products R L M

-- The combination of the list with a list of cofactors. Cofactors past its end are zero.
abbrev pub list_combination : {A : Type 0} → CommutativeRing A → List A → List A → A
list_combination R [] L = R.zero
list_combination R (c ∷ cs) [] = R.zero
list_combination R (c ∷ cs) (g ∷ L) = R.add (R.mul c g) (list_combination R cs L)
