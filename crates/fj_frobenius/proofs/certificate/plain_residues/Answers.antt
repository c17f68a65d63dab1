use Rattle.std.proofs.Common.{◌≡◌, ◌∙◌, ap, subst, sym, arith}
use Rattle.fj_theory.specs.Certificate.{AllRanksBelow}
use Rattle.fj_theory.specs.MonomialOrder.{grevlex_key}
use Rattle.fj_theory.specs.Plain.{PlainPolynomial, HasRanksBelow, polynomial}
use Rattle.fj_theory.specs.Polynomial.{term, terms_falling}
use Rattle.fj_theory.proofs.Field.{one_below}
use Rattle.fj_theory.proofs.Keys.{grevlex_key-IsMonomialOrder}
use Rattle.fj_root.proofs.Groups.{terms_falling-term}
use Rattle.fj_basis.proofs.Gathered.{gathered_all}
use Rattle.fj_frobenius.proofs.PlainParts.{gathered_part, gathered_parts, residue_terms, residue_polynomial}
use Rattle.fj_frobenius.proofs.certificate.plain_residues.Goals as goal

pub loop-part-preserved : goal.loop-part-preserved
loop-part-preserved g c =
    let a = c.part-item.result.residue.exponents in
    let monomial : c.in_ok-monomial.monomial ≡ term 1 a = c.in_ok-monomial.ensures.value ∙ ap (λ r. term r a) c.one.ensures in
    let terms = c.in_ok-to_plain.ensures.terms ∙ ap (terms_falling grevlex_key) monomial
    ∙ terms_falling-term grevlex_key-IsMonomialOrder g.met.K.Coeff.lawful a 1 c.part-item.result.residue.eight (omega arith) (one_below g.met.K.Coeff.lawful) in (
      gathered_part (λ (f : PlainPolynomial). f.terms) residue_terms c.args.found.now c.loop-part.part-index c.loop-part.residues.items c.push.new.self.items c.in_ok-to_plain.field-0 c.part-item.result
          c.loop-part-test.true c.part-item.is c.loop-part.invariant.0 terms c.in_ok-push.ensures.items,
      gathered_part polynomial residue_polynomial c.args.found.now c.loop-part.part-index c.loop-part.residues.items c.push.new.self.items c.in_ok-to_plain.field-0 c.part-item.result
          c.loop-part-test.true c.part-item.is c.loop-part.invariant.1 (c.in_ok-to_plain.ensures.value ∙ monomial) c.in_ok-push.ensures.items,
      gathered_all (HasRanksBelow g.K.Coeff.field.size) _ _ _ c.loop-part.invariant.2 c.in_ok-to_plain.ensures.ranks c.in_ok-push.ensures.items,
    )

pub returns-clause-terms : goal.returns-clause-terms
returns-clause-terms g c =
    gathered_parts (λ (f : PlainPolynomial). f.terms) residue_terms c.args.found.now c.loop-part.part-index c.loop-part.residues.items c.of.result c.loop-part-test.false c.loop-part.invariant.0 c.of.ensures

pub returns-clause-value : goal.returns-clause-value
returns-clause-value g c =
    gathered_parts polynomial residue_polynomial c.args.found.now c.loop-part.part-index c.loop-part.residues.items c.of.result c.loop-part-test.false c.loop-part.invariant.1 c.of.ensures

pub returns-clause-ranks : goal.returns-clause-ranks
returns-clause-ranks g c = subst (AllRanksBelow g.K.Coeff.field.size) (sym c.of.ensures) c.loop-part.invariant.2
