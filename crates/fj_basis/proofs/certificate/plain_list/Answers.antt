use Rattle.std.proofs.Common.{◌≡◌, ◌≤◌, ◌^◌, subst, sym, ap, ◌∙◌, All}
use Rattle.fj_theory.specs.Exponents.{total}
use Rattle.fj_theory.specs.Plain.{polynomial, HasRanksBelow}
use Rattle.fj_theory.specs.Polynomial.{terms_falling}
use Rattle.fj_basis.specs.Outcome.{TermsFall, TotalsAreLow}
use Rattle.fj_basis.proofs.Gathered.{gathered_views, gathered_all}
use Rattle.fj_basis.proofs.certificate.plain_list.Goals as goal

pub loop-f-preserved : goal.loop-f-preserved
loop-f-preserved g c = (
  gathered_views polynomial _ _ _ c.args.list.now c.loop-f.f-index c.f-item.result c.loop-f-test.true c.f-item.is c.loop-f.invariant.0 c.in_ok-to_plain.ensures.value c.in_ok-push.ensures.items,
  gathered_all (HasRanksBelow g.K.Coeff.field.size) _ _ _ c.loop-f.invariant.1 c.in_ok-to_plain.ensures.ranks c.in_ok-push.ensures.items,
  gathered_all (λ h. h.terms ≡ terms_falling g.O.Order.key (polynomial h)) _ _ _ c.loop-f.invariant.2 (c.in_ok-to_plain.ensures.terms ∙ ap (terms_falling g.O.Order.key) (sym c.in_ok-to_plain.ensures.value)) c.in_ok-push.ensures.items,
  gathered_all (λ h. All (λ t. total t.0 ≤ 2 ^ 40) h.terms) _ _ _ c.loop-f.invariant.3 c.in_ok-to_plain.ensures.totals c.in_ok-push.ensures.items,
)

pub returns-clause-ranks : goal.returns-clause-ranks
returns-clause-ranks g c = subst (All (HasRanksBelow g.K.Coeff.field.size)) (sym c.of.ensures) c.loop-f.invariant.1

pub returns-clause-falling : goal.returns-clause-falling
returns-clause-falling g c = subst (TermsFall g.O.Order.key) (sym c.of.ensures) c.loop-f.invariant.2

pub returns-clause-totals : goal.returns-clause-totals
returns-clause-totals g c = subst TotalsAreLow (sym c.of.ensures) c.loop-f.invariant.3
