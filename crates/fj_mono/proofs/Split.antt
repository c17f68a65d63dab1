-- Division of exponents by q with a residue.
use Rattle.std.proofs.Common.{add-one, ◌≡◌, ℕ, zero, suc, ◌+◌, ◌*◌, ◌/◌, ◌%◌, ◌<◌, List, [], ◌∷◌, length, get_or, refl, sym, ◌∙◌, ap, arith}
use Rattle.std.proofs.Math.Nat.{div-add-mod}
use Rattle.fj_theory.specs.Exponents.{plus, times}

-- A list is q times its quotients plus its residues.
pub plus-times-quotients : (q : ℕ) (a b r : List ℕ) → length a ≡ length b → length a ≡ length r
    → ((i : ℕ) → i < length a → get_or b i 0 ≡ get_or a i 0 / q)
    → ((i : ℕ) → i < length a → get_or r i 0 ≡ get_or a i 0 % q)
    → a ≡ plus (times q b) r
unfolding plus times
plus-times-quotients q [] [] r eb er quotient residue = refl
plus-times-quotients q [] (y ∷ b) r eb er quotient residue = absurd (omega arith)
plus-times-quotients q (x ∷ a) [] r eb er quotient residue = absurd (omega arith)
plus-times-quotients q (x ∷ a) (y ∷ b) [] eb er quotient residue = absurd (omega arith)
plus-times-quotients q (x ∷ a) (y ∷ b) (z ∷ r) eb er quotient residue =
    let at_y : y ≡ x / q = quotient 0 (omega arith) in
    let at_z : z ≡ x % q = residue 0 (omega arith) in
    let head : x ≡ q * y + z = rw (at_y, at_z) (sym (div-add-mod x q)) in
    let tail : a ≡ plus (times q b) r = plus-times-quotients q a b r (omega arith) (omega arith) (λ i below. quotient (suc i) (omega arith)) (λ i below. residue (suc i) (omega arith)) in
    λ i. head i ∷ tail i
