use Rattle.std.proofs.Common.{◌∷◌, ◌++◌, [], map, ap, ap₂, ◌∙◌}
use Rattle.std.specs.FinMap.{empty}
use Rattle.std.proofs.lemmas.List.{map_push, replicate_more}
use Rattle.fj_theory.specs.Plain.{HasRanksBelow, polynomial}
use Rattle.fj_basis.proofs.Gathered.{gathered_all}
use Rattle.fj_ideal.proofs.tables.zeros.Goals as goal

pub loop-preserved : goal.loop-preserved
loop-preserved g c = (
  ap (map polynomial) c.in_ok-push.ensures.items ∙ map_push polynomial _ _
      ∙ ap₂ (λ xs x. xs ++ x ∷ []) c.loop.invariant.0 (c.in_ok-to_plain.ensures.value ∙ c.zero.ensures) ∙ replicate_more c.loop.counter empty,
  gathered_all (HasRanksBelow g.K.Coeff.field.size) _ _ _ c.loop.invariant.1 c.in_ok-to_plain.ensures.ranks c.in_ok-push.ensures.items,
)
