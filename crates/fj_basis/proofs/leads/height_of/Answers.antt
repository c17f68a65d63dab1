use Rattle.std.proofs.Common.{◌≡◌, ◌-◌, ◌*◌, ◌^◌, ◌<◌, ◌≤◌, ap, ◌∙◌, arith}
use Rattle.std.proofs.Math.Nat.{mod-eq_of_lt, pow-le-pow_right}
use Rattle.fj_basis.specs.Leads.{height}
use Rattle.fj_basis.proofs.leads.height_of.Goals as goal

pub returns-clause-value : goal.returns-clause-value
unfolding height
returns-clause-value c =
    let within : c.min.result ≤ 8 = omega (arith, c.min.ensures) in
    let high : 2 ^ c.min.result ≤ 2 ^ 8 = pow-le-pow_right {n = 2} (omega arith) within in
    let small : 1 * 2 ^ c.min.result < 2 ^ 64 = omega (arith, high) in
    let one : 1 * 2 ^ c.min.result - 1 ≡ 2 ^ c.min.result - 1 = omega arith in
    ap (λ x. x - 1) (mod-eq_of_lt small) ∙ one ∙ ap (λ k. 2 ^ k - 1) c.min.ensures
