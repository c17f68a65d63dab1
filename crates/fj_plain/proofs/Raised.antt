-- The exponents of a term times a q-th power.
use Rattle.std.proofs.Common.{◌≡◌, ℕ, suc, ◌+◌, ◌*◌, ◌<◌, List, [], ◌∷◌, length, get_or, refl, arith}
use Rattle.fj_theory.specs.Exponents.{plus, times}

-- They are found entry by entry.
pub plus-times_entries : (q : ℕ) (a b r : List ℕ) → length a ≡ length b → length a ≡ length r
    → ((i : ℕ) → i < length a → get_or r i 0 ≡ get_or a i 0 + q * get_or b i 0)
    → r ≡ plus a (times q b)
unfolding plus times
plus-times_entries q [] b [] eb er each = refl
plus-times_entries q [] b (z ∷ r) eb er each = absurd (omega arith)
plus-times_entries q (x ∷ a) [] r eb er each = absurd (omega arith)
plus-times_entries q (x ∷ a) (y ∷ b) [] eb er each = absurd (omega arith)
plus-times_entries q (x ∷ a) (y ∷ b) (z ∷ r) eb er each =
    let head : z ≡ x + q * y = each 0 (omega arith) in
    let tail : r ≡ plus a (times q b) = plus-times_entries q a b r (omega arith) (omega arith) (λ i below. each (suc i) (omega arith)) in
    λ i. head i ∷ tail i
