-- The number of monomials of bounded degree rises with the degree.
use Rattle.std.proofs.Common.{◌≡◌, ℕ, zero, suc, ◌≤◌, true, leb, sym, subst, arith, ⊎_elim}
use Rattle.std.proofs.Math.Nat.{eq-or-lt_of_le}
use Rattle.std.proofs.lemmas.Bool.{leb-true}
use Rattle.fj_algebra.specs.StrictSteps.{monomial_count}

one_more : (t d : ℕ) → monomial_count t d ≤ monomial_count t (suc d)
unfolding monomial_count
one_more zero d = omega arith
one_more (suc t) d = omega arith

pub monomial_count-rises : (t d e : ℕ) → d ≤ e → monomial_count t d ≤ monomial_count t e
monomial_count-rises t d zero h = let none : d ≡ 0 = omega arith in subst (λ n. monomial_count t n ≤ monomial_count t 0) (sym none) (omega arith)
monomial_count-rises t d (suc e) h =
    ⊎_elim (λ same. subst (λ n. monomial_count t n ≤ monomial_count t (suc e)) (sym same) (omega arith))
    (λ less. let before = monomial_count-rises t d e (omega arith) in omega (arith, before, one_more t e)) (eq-or-lt_of_le h)

-- At most 1,000 monomials.
pub few : (t n d most : ℕ) → t ≡ n → monomial_count n most ≤ 1000 → leb d most ≡ true → monomial_count t d ≤ 1000
few t n d most e small h = let rises = monomial_count-rises n d most (leb-true d most h) in subst (λ k. monomial_count k d ≤ 1000) (sym e) (omega (arith, rises, small))
