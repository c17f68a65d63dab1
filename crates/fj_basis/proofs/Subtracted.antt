-- Members at their places.
use Rattle.std.proofs.Common.{◌≡◌, ℕ, ◌<◌, List, length, get_or}
use Rattle.std.specs.FinMap.{empty}
use Rattle.std.proofs.lemmas.List.{get_or-map}
use Rattle.fj_groebner.specs.Division.{member_at}
use Rattle.fj_basis.specs.declared.members.Member.{Member}
use Rattle.fj_basis.specs.Members.{sugared, sugared_members}

module _ {K O : Type 0} where
  pub member_at-sugared : (members : List (Member K O)) (k : ℕ) (d : Member K O) → k < length members → member_at (sugared_members members) k ≡ sugared (get_or members k d)
  unfolding member_at
  member_at-sugared members k d l = get_or-map sugared members k d (record { polynomial = empty; sugar = 0 }) l
