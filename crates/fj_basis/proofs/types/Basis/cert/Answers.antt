use Rattle.std.proofs.Common.{◌≡◌, List, map, sym, ◌∙◌, subst, subst₂, rules}
use Rattle.fj_coeff.specs.Field.{Field}
use Rattle.fj_theory.specs.Polynomial.{Polynomial}
use Rattle.fj_theory.specs.Plain.{polynomial}
use Rattle.fj_groebner.specs.Rows.{AreRows}
use Rattle.fj_basis.proofs.Expressed.{IsExpressedBothWays-from}
use Rattle.fj_basis.proofs.types.Basis.cert.Goals as goal

moved : (F : Field) {L M G H : List Polynomial} {rows table : List (List Polynomial)} → L ≡ M → G ≡ H → rows ≡ table → AreRows F M H table → AreRows F L G rows
moved F {M = M} {G = G} {rows = rows} e u v all = subst (λ L. AreRows F L G rows) (sym e) (subst₂ (AreRows F M) (sym u) (sym v) all)

pub returns-clause-holds : goal.returns-clause-holds
returns-clause-holds g c =
    let F = g.K.Coeff.field in
    let given : map polynomial c.in_ok-plain_list.field-0 ≡ c.args.list.now = c.in_ok-plain_list.ensures.value in
    let found : map polynomial c.in_ok-plain_list-2.field-0 ≡ c.args.self.now.members = first_of (search rules, cc) in
    let down : map (map polynomial) c.in_ok-plain_table.field-0 ≡ c.args.self.now.down = first_of (search rules, cc) in
    let up : map (map polynomial) c.in_ok-plain_table-2.field-0 ≡ c.args.self.now.up = first_of (search rules, cc) in
    IsExpressedBothWays-from g.met.K.Coeff.lawful c.P.result (c.P.ensures ∙ g.met.K.Coeff.characteristic_is) (sym g.met.K.Coeff.size_is ∙ c.requires.prime ∙ g.met.K.Coeff.characteristic_is)
    c.in_ok-plain_list.field-0 c.in_ok-plain_list-2.field-0 c.in_ok-plain_table.field-0 c.in_ok-plain_table-2.field-0 c.in_ok-plain_list.ensures.ranks c.in_ok-plain_list-2.ensures.ranks
    c.in_ok-plain_table.ensures.ranks c.in_ok-plain_table-2.ensures.ranks (moved F given found down c.requires.made.down) (moved F found given up c.requires.made.up)
