-- How many of a list are out, from how many of it remain.
use Rattle.std.proofs.Common.{◌≡◌, ℕ, ◌-◌, ap, refl, arith, List, length, filter}
use Rattle.std.proofs.lemmas.List.Filters.{length-filter_both}
use Rattle.fj_audit.specs.Account.{Account}
use Rattle.fj_audit.specs.Handing.{remains, is_out}

module _ {X : Type 0} (f : X → Account) where
  pub dropped_count : (xs ys : List X) (m n : ℕ) → ys ≡ filter (λ a. remains (f a)) xs → m ≡ length xs → n ≡ length ys → m - n ≡ length (filter (λ a. is_out (f a)) xs)
  dropped_count xs ys m n kept all left =
      let both = length-filter_both (λ a. remains (f a)) (λ a. is_out (f a)) (λ x. refl) xs in
      let e = ap length kept in
      omega (arith, both, e, all, left)
