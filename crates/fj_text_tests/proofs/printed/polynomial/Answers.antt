use Rattle.std.proofs.Common.{◌≡◌, List, All, IfSome, sym, ap, subst}
use Rattle.std.specs.FinMap.{from_entries}
use Rattle.std.proofs.lemmas.List.Elements.{All-map}
use Rattle.fj_plain.specs.Terms.{entry, entries}
use Rattle.fj_theory.specs.Plain.{PlainPolynomial}
use Rattle.fj_theory.specs.PointIdeal.{UsesFirst}
use Rattle.fj_text.proofs.FirstVariables.{AreZeroFrom, uses_first}
use Rattle.fj_text_tests.proofs.printed.polynomial.Goals as goal

pub returns : goal.returns
returns g c =
    let same : c.expect.result.terms ≡ entries c.loop-x.list.items = subst (λ found. IfSome found (λ (f : PlainPolynomial). f.terms ≡ entries c.loop-x.list.items)) c.expect.ensures c.of.ensures.same in
    subst (λ ts. UsesFirst 3 (from_entries ts)) (sym same) (uses_first 3 (entries c.loop-x.list.items) (All-map (λ t. AreZeroFrom 3 t.0) entry c.loop-x.list.items c.loop-x.invariant))
