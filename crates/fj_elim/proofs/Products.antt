-- The products of the list of a meet, and which of them are too high.
use Rattle.std.proofs.Common.{◌≡◌, ◌⊎◌, inl, inr, List, ◌++◌, All, refl, subst}
use Rattle.std.proofs.lemmas.List.Elements.{All-contains}
use Rattle.fj_algebra.proofs.Lists.{All-append_left, All-append_right, All-map_back}
use Rattle.fj_coeff.specs.Field.{Field}
use Rattle.fj_theory.specs.Ideal.{multiples}
use Rattle.fj_theory.specs.Polynomial.{Polynomial, product}
use Rattle.fj_groebner.specs.Elimination.{eighth_variable, elimination_list}
use Rattle.fj_poly.specs.Limit.{IsHigh}
use Rattle.fj_ideal.specs.Lists.{AreLow}
use Rattle.fj_elim.specs.Lists.{IsHighInMeet, IsHighTimes, one_less_eighth}

module _ (F : Field) where
  -- Where no product with f is too high, no polynomial has one that is.
  low_times : (f : Polynomial) (M : List Polynomial) → AreLow (multiples F f M) → (L : List Polynomial) → IsHighTimes F f M L → ⊥
  low_times f M low L e = All-contains (λ g. IsHigh (product F f g) → ⊥) M e.g (All-map_back (λ h. IsHigh h → ⊥) (product F f) M low) e.there e.high

  pub elimination_list-is : (G H : List Polynomial) → elimination_list F G H ≡ multiples F eighth_variable G ++ multiples F (one_less_eighth F) H
  unfolding elimination_list one_less_eighth
  elimination_list-is G H = refl

  -- Where no product of the list is too high, no member has one that is.
  pub low_in_meet : (G H : List Polynomial) → AreLow (elimination_list F G H) → (L : List Polynomial) → IsHighInMeet F G H L → ⊥
  low_in_meet G H low L e = by (subst AreLow (elimination_list-is G H) low) e
    where
      by : AreLow (multiples F eighth_variable G ++ multiples F (one_less_eighth F) H) → IsHighTimes F eighth_variable G L ⊎ IsHighTimes F (one_less_eighth F) H L → ⊥
      by all (inl h) = low_times eighth_variable G (All-append_left (λ h. IsHigh h → ⊥) (multiples F eighth_variable G) (multiples F (one_less_eighth F) H) all) L h
      by all (inr h) = low_times (one_less_eighth F) H (All-append_right (λ h. IsHigh h → ⊥) (multiples F eighth_variable G) (multiples F (one_less_eighth F) H) all) L h
