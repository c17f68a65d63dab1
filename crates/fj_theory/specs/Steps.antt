-- Runs as lists of states.
use Rattle.std.specs.Prelude.{◌≡◌, List, [], ◌∷◌}

-- The states of the list follow the first state, each a step on from the one before, and end in the last one.
abbrev pub StepsTo : {S : Type 0} → (S → S → Type 0) → S → List S → S → Type 0
StepsTo Step first [] last = first ≡ last
StepsTo Step first (next ∷ states) last = Step first next × StepsTo Step next states last
