use Rattle.std.proofs.Common.{◌≡◌, List, map, ap, sym, subst, ◌∙◌}
use Rattle.fj_coeff.specs.Field.{Field}
use Rattle.fj_theory.specs.Plain.{polynomial}
use Rattle.fj_theory.specs.Polynomial.{Polynomial}
use Rattle.fj_groebner.specs.Rows.{AreRows}
use Rattle.fj_basis.proofs.Expressed.{IsExpressedBothWays-from}
use Rattle.fj_ideal.specs.Ideal.{IsIdeal}
use Rattle.fj_ideal.proofs.ReducedBasis.{SameIdeal-same_members}
use Rattle.fj_ideal.proofs.ideal.Ideal.same_cert.Goals as goal

moved : (F : Field) {L M G H : List Polynomial} (table : List (List Polynomial)) → L ≡ M → G ≡ H → AreRows F M H table → AreRows F L G table
moved F {M = M} {G = G} table e u all = subst (λ L. AreRows F L G table) (sym e) (subst (λ H. AreRows F M H table) (sym u) all)

pub rows_over-requires-clause-members : goal.rows_over-requires-clause-members
rows_over-requires-clause-members g c =
    let F = g.K.Coeff.field in
    let I : IsIdeal F c.args.self.now = subst (IsIdeal F) c.self.view_is c.self.invariant in
    let J : IsIdeal F c.args.o.now = subst (IsIdeal F) c.o.view_is c.o.invariant in
    (SameIdeal-same_members g.met.K.Coeff.lawful I J).0 c.requires.same

pub rows_over-requires-2-clause-members : goal.rows_over-requires-2-clause-members
rows_over-requires-2-clause-members g c =
    let F = g.K.Coeff.field in
    let I : IsIdeal F c.args.self.now = subst (IsIdeal F) c.self.view_is c.self.invariant in
    let J : IsIdeal F c.args.o.now = subst (IsIdeal F) c.o.view_is c.o.invariant in
    sym ((SameIdeal-same_members g.met.K.Coeff.lawful I J).0 c.requires.same)

pub returns-clause-holds : goal.returns-clause-holds
returns-clause-holds g c =
    let F = g.K.Coeff.field in
    let first : map polynomial c.in_ok-plain_list.field-0 ≡ c.args.self.now.given = c.in_ok-plain_list.ensures.value ∙ c.deref.ensures.value ∙ ap (λ J. J.given) c.self.view_is in
    let second : map polynomial c.in_ok-plain_list-2.field-0 ≡ c.args.o.now.given = c.in_ok-plain_list-2.ensures.value ∙ c.deref-2.ensures.value ∙ ap (λ J. J.given) c.o.view_is in
    IsExpressedBothWays-from g.met.K.Coeff.lawful c.P.result (c.P.ensures ∙ g.met.K.Coeff.characteristic_is) (sym g.met.K.Coeff.size_is ∙ c.requires.prime ∙ g.met.K.Coeff.characteristic_is)
    c.in_ok-plain_list.field-0 c.in_ok-plain_list-2.field-0 c.in_ok-rows_over.field-0 c.in_ok-rows_over-2.field-0 c.in_ok-plain_list.ensures.ranks c.in_ok-plain_list-2.ensures.ranks
    c.in_ok-rows_over.ensures.ranks c.in_ok-rows_over-2.ensures.ranks (moved F _ first second c.in_ok-rows_over.ensures.rows) (moved F _ second first c.in_ok-rows_over-2.ensures.rows)
