use Rattle.std.proofs.Common.{◌≡◌, ◌≤◌, ℕ, Option, Some, None, unwrap_or, refl, ap, ◌∙◌, arith}
use Rattle.fj_theory.specs.Polynomial.{Polynomial, degree}
use Rattle.fj_groebner.specs.Run.{given}
use Rattle.fj_groebner.specs.Division.{degree_limit}
use Rattle.fj_poly.specs.Limit.{IsHigh}
use Rattle.fj_poly.proofs.Limits.{degree_within}
use Rattle.fj_basis.proofs.sugar.sugar_of.Goals as goal

low : (f : Polynomial) → (IsHigh f → ⊥) → unwrap_or (degree f) 0 ≤ degree_limit
low f h = go (degree f) refl
  where
    go : (o : Option ℕ) → degree f ≡ o → unwrap_or o 0 ≤ degree_limit
    go None e = omega arith
    go (Some n) e = degree_within f e h

pub returns-clause-value : goal.returns-clause-value
unfolding given
returns-clause-value g c = c.unwrap_or.ensures ∙ ap (λ o. unwrap_or o 0) c.degree.ensures.value

pub returns-clause-low : goal.returns-clause-low
returns-clause-low g c =
    let is = c.unwrap_or.ensures ∙ ap (λ o. unwrap_or o 0) c.degree.ensures.value in
    let bound = low c.args.f.now c.degree.ensures.limit in
    omega (arith, is, bound)
