use Rattle.std.proofs.Common.{◌<◌, ◌≤◌, length, map, subst, arith}
use Rattle.std.proofs.lemmas.List.{length-map}
use Rattle.std.proofs.lemmas.List.Elements.{All-map}
use Rattle.fj_theory.specs.Evaluation.{IsPoint}
use Rattle.fj_poly.proofs.poly.point.Point.len.Goals as goal

pub returns-clause-point : goal.returns-clause-point
returns-clause-point g c =
    let F = g.K.Coeff.field in
    let xs = c.self.inside.coordinates.items in
    let long = length-map xs g.K.Coeff.rank in
    let short : length xs ≤ 8 = c.self.invariant in
    let seen : IsPoint F (map g.K.Coeff.rank xs) = record {
      short = omega (arith, long, short);
      below = All-map (λ x. x < F.size) g.K.Coeff.rank xs (λ k d h. g.met.K.Coeff.rank_below _);
    } in
    subst (IsPoint F) c.self.view_is seen
