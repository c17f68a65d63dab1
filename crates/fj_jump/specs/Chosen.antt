-- A list of rows that are chosen of a list, in order.
use Rattle.std.specs.Prelude.{◌≡◌, ◌⊎◌, List, [], ◌∷◌}

-- The members of ys are those that are chosen of xs: to each x in turn belongs the next y, or x is left out.
abbrev pub AreChosen : {X Y : Type 0} → (X → Type 0) → (X → Y → Type 0) → List X → List Y → Type 0
AreChosen IsLeftOut Belongs [] ys = ys ≡ []
AreChosen {X} {Y} IsLeftOut Belongs (x ∷ xs) ys =
    (IsLeftOut x × AreChosen IsLeftOut Belongs xs ys) ⊎ ((y : Y) × (rest : List Y) × (ys ≡ y ∷ rest) × Belongs x y × AreChosen IsLeftOut Belongs xs rest)
