use Rattle.std.proofs.Common.{subst, sym}
use Rattle.fj_theory.specs.Certificate.{AllRanksBelow}
use Rattle.fj_theory.specs.Plain.{HasRanksBelow, polynomial}
use Rattle.fj_basis.proofs.Gathered.{gathered_all}
use Rattle.fj_frobenius.proofs.PlainParts.{gathered_part, gathered_parts, part_polynomial}
use Rattle.fj_frobenius.proofs.certificate.plain_parts.Goals as goal

pub loop-part-preserved : goal.loop-part-preserved
loop-part-preserved g c = (
  gathered_part polynomial part_polynomial c.args.found.now c.loop-part.part-index c.loop-part.plain.items c.push.new.self.items c.in_ok-to_plain.field-0 c.part-item.result
      c.loop-part-test.true c.part-item.is c.loop-part.invariant.0 c.in_ok-to_plain.ensures.value c.in_ok-push.ensures.items,
  gathered_all (HasRanksBelow g.K.Coeff.field.size) _ _ _ c.loop-part.invariant.1 c.in_ok-to_plain.ensures.ranks c.in_ok-push.ensures.items,
)

pub returns-clause-value : goal.returns-clause-value
returns-clause-value g c =
    gathered_parts polynomial part_polynomial c.args.found.now c.loop-part.part-index c.loop-part.plain.items c.of.result c.loop-part-test.false c.loop-part.invariant.0 c.of.ensures

pub returns-clause-ranks : goal.returns-clause-ranks
returns-clause-ranks g c = subst (AllRanksBelow g.K.Coeff.field.size) (sym c.of.ensures) c.loop-part.invariant.1
