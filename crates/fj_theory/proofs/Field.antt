-- The elements of a field on ranks, as a commutative ring.
use Rattle.std.proofs.Common.{◌≡◌, ℕ, ◌<◌, ◌≤◌, Bool, true, false, cond, nat_lt, All, refl, sym, ap, ◌∙◌, arith}
use Rattle.std.proofs.lemmas.Bool.{ltb-true, lt-ltb}
use Rattle.std.proofs.lemmas.List.Elements.{All-from_recursion, All-contains}
use Rattle.fj_coeff.specs.Field.{Field, IsField, primes}
use Rattle.fj_algebra.specs.Ring.{CommutativeRing}
use native.Mathlib.Bridge.{le_prop}
use mathlib.Core.HLevel.{Σ_prop_path}

-- An element of a field: its rank.
pub record Element (F : Field) : Type 0 where
  pub rank : ℕ
  pub below : rank < F.size

pub element_equal : {F : Field} (x y : Element F) → x.rank ≡ y.rank → x ≡ y
element_equal {F} x y e =
    let pairs : ◌≡◌ {A = (k : ℕ) × (k < F.size)} (x.rank, x.below) (y.rank, y.below) = Σ_prop_path (λ k. le_prop) e in
    λ i. record { rank = (pairs i).0; below = (pairs i).1 }

primes_large : All (λ p. 2 ≤ p) primes
unfolding primes
primes_large = All-from_recursion (λ p. 2 ≤ p) primes (omega arith)

module _ {F : Field} (L : IsField F) where
  pub characteristic_large : 2 ≤ F.characteristic
  characteristic_large = All-contains (λ p. 2 ≤ p) primes F.characteristic primes_large L.prime

  pub zero_below : 0 < F.size
  zero_below = omega (arith, characteristic_large, L.characteristic_fits)

  pub one_below : 1 < F.size
  one_below = omega (arith, characteristic_large, L.characteristic_fits)

  clamp_below : (c : ℕ) (b : Bool) → nat_lt c F.size ≡ b → cond b c 0 < F.size
  clamp_below c true e = ltb-true c F.size e
  clamp_below c false e = zero_below

  -- The element of a rank. Numbers that are no rank go to zero.
  pub element : ℕ → Element F
  element c = record { rank = cond (nat_lt c F.size) c 0; below = clamp_below c (nat_lt c F.size) refl }

  pub rank_element : (c : ℕ) → c < F.size → (element c).rank ≡ c
  unfolding element
  rank_element c h = ap (λ b. cond b c 0) (lt-ltb c F.size h)

  pub element_rank : (x : Element F) → element x.rank ≡ x
  element_rank x = element_equal (element x.rank) x (rank_element x.rank x.below)

  -- The field as a ring.
  pub field_ring : CommutativeRing (Element F)
  field_ring = record {
    zero = record { rank = 0; below = zero_below };
    one = record { rank = 1; below = one_below };
    add = λ x y. record { rank = F.add x.rank y.rank; below = L.add_below x.rank y.rank x.below y.below };
    neg = λ x. record { rank = F.neg x.rank; below = L.neg_below x.rank x.below };
    mul = λ x y. record { rank = F.mul x.rank y.rank; below = L.mul_below x.rank y.rank x.below y.below };
    add_assoc = λ x y z. element_equal _ _ (L.add_assoc x.rank y.rank z.rank x.below y.below z.below);
    add_comm = λ x y. element_equal _ _ (L.add_comm x.rank y.rank x.below y.below);
    add_zero = λ x. element_equal _ _ (L.add_zero x.rank x.below);
    add_neg = λ x. element_equal _ _ (L.add_neg x.rank x.below);
    mul_assoc = λ x y z. element_equal _ _ (L.mul_assoc x.rank y.rank z.rank x.below y.below z.below);
    mul_comm = λ x y. element_equal _ _ (L.mul_comm x.rank y.rank x.below y.below);
    mul_one = λ x. element_equal _ _ (L.mul_one x.rank x.below);
    mul_add = λ x y z. element_equal _ _ (L.mul_add x.rank y.rank z.rank x.below y.below z.below);
  }

  pub rank_zero : field_ring.zero.rank ≡ 0
  unfolding field_ring
  rank_zero = refl

  pub rank_one : field_ring.one.rank ≡ 1
  unfolding field_ring
  rank_one = refl

  pub rank_add : (x y : Element F) → (field_ring.add x y).rank ≡ F.add x.rank y.rank
  unfolding field_ring
  rank_add x y = refl

  pub rank_neg : (x : Element F) → (field_ring.neg x).rank ≡ F.neg x.rank
  unfolding field_ring
  rank_neg x = refl

  pub rank_mul : (x y : Element F) → (field_ring.mul x y).rank ≡ F.mul x.rank y.rank
  unfolding field_ring
  rank_mul x y = refl

  pub element_zero : element 0 ≡ field_ring.zero
  element_zero = element_equal _ _ (rank_element 0 zero_below ∙ sym rank_zero)

  pub element_one : element 1 ≡ field_ring.one
  element_one = element_equal _ _ (rank_element 1 one_below ∙ sym rank_one)

  pub element_add : (c d : ℕ) → c < F.size → d < F.size → element (F.add c d) ≡ field_ring.add (element c) (element d)
  element_add c d h g = element_equal _ _ (rank_element _ (L.add_below c d h g) ∙ sym (rank_add _ _ ∙ (λ i. F.add (rank_element c h i) (rank_element d g i))))

  pub element_neg : (c : ℕ) → c < F.size → element (F.neg c) ≡ field_ring.neg (element c)
  element_neg c h = element_equal _ _ (rank_element _ (L.neg_below c h) ∙ sym (rank_neg _ ∙ ap F.neg (rank_element c h)))

  pub element_mul : (c d : ℕ) → c < F.size → d < F.size → element (F.mul c d) ≡ field_ring.mul (element c) (element d)
  element_mul c d h g = element_equal _ _ (rank_element _ (L.mul_below c d h g) ∙ sym (rank_mul _ _ ∙ (λ i. F.mul (rank_element c h i) (rank_element d g i))))
