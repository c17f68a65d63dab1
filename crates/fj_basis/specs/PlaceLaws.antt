-- That comparing lists of numbers that values have is an order of the values.
use Rattle.std.specs.Prelude.{ℕ, List}
use Rattle.std.specs.Cmp.{IsTotalOrder, IsEquivalence, IsPartialEquivalence, IsPartialOrder, partial_equiv_from_equiv, eq_by_cmp_equiv, on_total, partial_order_from_total}
use Rattle.std.specs.Cmp.Lexicographic.{slice_cmp, nat_list_cmp_total}
use Rattle.std.specs.Ordering.{as_partial_cmp, eq_by_cmp, nat_cmp, on}

module _ {K : Type 0} (f : K → List ℕ) where
  pub places_total : IsTotalOrder (on f (slice_cmp nat_cmp))
  places_total = on_total f nat_list_cmp_total

  pub places_equiv : IsEquivalence (eq_by_cmp (on f (slice_cmp nat_cmp)))
  places_equiv = eq_by_cmp_equiv places_total

  pub places_per : IsPartialEquivalence (eq_by_cmp (on f (slice_cmp nat_cmp)))
  places_per = partial_equiv_from_equiv places_equiv

  pub places_po : IsPartialOrder (eq_by_cmp (on f (slice_cmp nat_cmp))) (as_partial_cmp (on f (slice_cmp nat_cmp)))
  places_po = partial_order_from_total places_total
