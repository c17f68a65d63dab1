-- The number of monomials of bounded degree is a binomial coefficient.
use Rattle.std.proofs.Common.{◌≡◌, ℕ, zero, suc, ◌+◌, ◌*◌, ap, ap₂, ◌∙◌, arith}
use Rattle.fj_algebra.specs.StrictSteps.{monomial_count}
use Rattle.fj_testideal.specs.LeadLaws.{factorial}

distributed : (x y n d a b : ℕ) → (x + y) * ((suc n * a) * (suc d * b)) ≡ suc n * (x * (a * (suc d * b))) + suc d * (y * ((suc n * a) * b))
distributed x y n d a b = omega arith

collected : (n d w : ℕ) → suc n * w + suc d * w ≡ suc (suc (n + d)) * w
collected n d w = omega arith

-- C(n + D, n) n! D! = (n + D)!.
pub monomial_count-binomial : (n D : ℕ) → monomial_count n D * (factorial n * factorial D) ≡ factorial (n + D)
unfolding monomial_count factorial
monomial_count-binomial zero D = let one : 1 * (1 * factorial D) ≡ factorial D = omega arith in one ∙ ap factorial (omega arith)
monomial_count-binomial (suc n) zero = let one : 1 * ((suc n * factorial n) * 1) ≡ suc n * factorial n = omega arith in one ∙ ap factorial {x = suc n} (omega arith)
monomial_count-binomial (suc n) (suc D) =
    let left = monomial_count-binomial n (suc D) in
    let right = monomial_count-binomial (suc n) D in
    let same : suc n + D ≡ n + suc D = omega arith in
    let next : suc (suc (n + D)) ≡ suc (n + suc D) = omega arith in
    distributed (monomial_count n (suc D)) (monomial_count (suc n) D) n D (factorial n) (factorial D)
    ∙ ap₂ (λ u v. suc n * u + suc D * v) left (right ∙ ap factorial same)
    ∙ collected n D (factorial (n + suc D))
    ∙ ap (λ k. k * factorial (n + suc D)) next
    ∙ ap factorial {x = suc (n + suc D)} (omega arith)
