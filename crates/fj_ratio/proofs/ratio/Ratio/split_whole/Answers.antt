use Rattle.std.proofs.Common.{◌≡◌, ℕ, ◌+◌, ◌-◌, ◌*◌, ◌/◌, ◌≤◌, sym, ap₂, subst, refl, arith, ◌∙◌}
use Rattle.std.specs.Int.{IsGcd}
use Rattle.fj_theory.specs.Fraction.{Fraction, plus_whole}
use Rattle.fj_ratio.specs.FractionCode.{same_fraction}
use Rattle.fj_ratio.proofs.WholePart.{prime_to_rest, whole_below}
use Rattle.fj_ratio.proofs.ratio.Ratio.split_whole.Goals as goal

pub invariant_of-rest : goal.invariant_of-rest
invariant_of-rest c =
    let n = c.self.inside.num in
    let d = c.self.inside.den in
    subst (λ D. IsGcd (n - (n - 1) / D * D) d 1) (sym c.from-den.ensures) (prime_to_rest n d ((n - 1) / d) (whole_below n d) c.self.invariant)

pub returns-clause-sum : goal.returns-clause-sum
returns-clause-sum c =
    let n = c.self.inside.num in
    let D = c.from-den.result in
    let low = whole_below n D in
    let number = c.from.ensures in
    let den = c.from-den.ensures in
    let sum : n ≡ n - (n - 1) / D * D + (n - 1) / D * D = omega (arith, low) in
    sym c.self.view_is ∙ same_fraction _ _ (ap₂ (λ a b. (a, b)) (sum ∙ ap₂ (λ k e. n - (n - 1) / D * D + k * e) (sym number) den) refl)
