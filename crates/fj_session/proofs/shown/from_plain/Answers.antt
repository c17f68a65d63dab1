use Rattle.std.proofs.Common.{◌≤◌, ◌^◌, ◌++◌, ◌∷◌, [], All, sym, ap, ◌∙◌}
use Rattle.fj_theory.specs.Exponents.{total}
use Rattle.fj_theory.specs.Plain.{HasRanksBelow, polynomial}
use Rattle.fj_session.proofs.Places.{at_place, map_next}
use Rattle.fj_session.proofs.shown.from_plain.Goals as goal

pub from_plain-requires-clause-ranks : goal.from_plain-requires-clause-ranks
from_plain-requires-clause-ranks g c = at_place (HasRanksBelow g.K.Coeff.field.size) c.args.list.now c.loop-place.place c.get.result.now c.requires.ranks c.get.ensures

pub from_plain-requires-clause-totals : goal.from_plain-requires-clause-totals
from_plain-requires-clause-totals g c = at_place (λ g. All (λ t. total t.0 ≤ 2 ^ 40) g.terms) c.args.list.now c.loop-place.place c.get.result.now c.requires.totals c.get.ensures

pub loop-place-preserved : goal.loop-place-preserved
loop-place-preserved g c =
    c.push.ensures.items ∙ rw c.in_ok-push.was (ap (λ h. c.loop-place.made.items ++ h ∷ []) c.in_ok-from_plain.ensures.value
    ∙ ap (λ L. L ++ polynomial c.get.result.now ∷ []) c.loop-place.invariant ∙ sym (map_next polynomial c.args.list.now c.loop-place.place c.get.result.now c.get.ensures))
