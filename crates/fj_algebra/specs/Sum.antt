-- Sums over lists in a commutative ring.
use Rattle.std.specs.Prelude.{List, [], ◌∷◌}
use Rattle.fj_algebra.specs.Ring.{CommutativeRing}

-- The sum of f x over the elements x of the list.
abbrev pub sum_over : {A X : Type 0} → CommutativeRing A → (X → A) → List X → A
sum_over R f [] = R.zero
sum_over R f (x ∷ xs) = R.add (f x) (sum_over R f xs)

-- The sum of the elements of the list.
abbrev pub sum_of : {A : Type 0} → CommutativeRing A → List A → A
sum_of R xs = sum_over R (λ x. x) xs
