-- A coefficient that is tested against zero.
use Rattle.std.proofs.Common.{◌≡◌, ℕ, ◌<◌, Bool, true, false, not, ◌==◌, sym, ◌∙◌, arith}
use Rattle.std.proofs.lemmas.Bool.{eqb-true, eqb-false, not-true, not-false}

-- A value differs from zero where its rank is positive.
pub positive_rank : (e : Bool) (r z : ℕ) → e ≡ (r == z) → z ≡ 0 → not e ≡ true → 0 < r
positive_rank e r z is zero differs = let h = eqb-false r z (sym is ∙ not-true e differs) in omega arith

pub zero_rank : (e : Bool) (r z : ℕ) → e ≡ (r == z) → z ≡ 0 → not e ≡ false → r ≡ 0
zero_rank e r z is zero same = eqb-true r z (sym is ∙ not-false e same) ∙ zero
