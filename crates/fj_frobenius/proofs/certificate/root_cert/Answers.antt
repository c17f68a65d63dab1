use Rattle.std.proofs.Common.{◌^◌, ◌∙◌, List, map, ap, subst, subst₂, sym}
use Rattle.std.proofs.lemmas.List.{take_all}
use Rattle.fj_theory.specs.Certificate.{IsRootCertificate}
use Rattle.fj_theory.specs.Parts.{IsParts}
use Rattle.fj_theory.specs.Polynomial.{Polynomial}
use Rattle.fj_root.specs.Part.{parts_of}
use Rattle.fj_frobenius.proofs.PlainParts.{Aligned, Aligned-more, ArePlainParts, HasParts-from, IsRootCertificate-from, part_polynomial, residue_polynomial, residue_terms}
use Rattle.fj_frobenius.proofs.certificate.root_cert.Goals as goal

pub loop-f-preserved : goal.loop-f-preserved
loop-f-preserved g c =
    let F = g.K.Coeff.field in
    let q = F.characteristic ^ c.args.e in
    let prime = sym g.met.K.Coeff.size_is ∙ c.requires.prime ∙ g.met.K.Coeff.characteristic_is in
    let parts = parts_of c.in_ok-found.found.items in
    let residues = c.in_ok-plain_residues.field-0 in
    let plain = c.in_ok-plain_parts.field-0 in
    let terms = c.in_ok-plain_residues.ensures.terms ∙ ap (λ found. map residue_terms (parts_of found)) c.deref.ensures.value in
    let monomials = c.in_ok-plain_residues.ensures.value ∙ ap (λ found. map residue_polynomial (parts_of found)) c.deref.ensures.value in
    let polynomials = c.in_ok-plain_parts.ensures.value ∙ ap (λ found. map part_polynomial (parts_of found)) c.deref-in-loop-f.ensures.value in
    let here : ArePlainParts F.size F.characteristic q c.f-item.result residues plain = (
      c.in_ok-plain_residues.ensures.ranks,
      c.in_ok-plain_parts.ensures.ranks,
      λ h is. HasParts-from g.met.K.Coeff.lawful prime q h parts residues plain (subst (λ (f : Polynomial). IsParts F q f parts) (sym is) c.in_ok-found.ensures) terms monomials polynomials,
    ) in
    Aligned-more (ArePlainParts F.size F.characteristic q) c.args.list.now c.loop-f.f-index c.f-item.result c.loop-f-test.true c.f-item.is c.loop-f.residues.items c.push.new.self.items residues
    c.loop-f.part_rows.items c.push-in-loop-f.new.self.items plain c.loop-f.invariant here c.in_ok-push.ensures.items c.in_ok-push-2.ensures.items

pub returns-clause-holds : goal.returns-clause-holds
returns-clause-holds g c =
    let F = g.K.Coeff.field in
    let q = F.characteristic ^ c.args.e in
    let prime = sym g.met.K.Coeff.size_is ∙ c.requires.prime ∙ g.met.K.Coeff.characteristic_is in
    let all : Aligned (ArePlainParts F.size F.characteristic q) c.args.list.now c.loop-f.residues.items c.loop-f.part_rows.items =
    subst (λ (L : List Polynomial). Aligned (ArePlainParts F.size F.characteristic q) L c.loop-f.residues.items c.loop-f.part_rows.items) (take_all c.loop-f.f-index c.args.list.now c.loop-f-test.false) c.loop-f.invariant in
    subst₂ (IsRootCertificate c.P.result c.args.e c.in_ok-plain_list.field-0) (sym c.of.ensures) (sym c.of-2.ensures)
    (IsRootCertificate-from g.met.K.Coeff.lawful prime c.P.result (c.P.ensures ∙ g.met.K.Coeff.characteristic_is) c.args.e c.requires.exponent c.args.list.now c.in_ok-plain_list.field-0
    c.loop-f.residues.items c.loop-f.part_rows.items c.in_ok-plain_list.ensures.ranks c.in_ok-plain_list.ensures.value all)
