use Rattle.std.proofs.Common.{◌≡◌, ◌++◌, length, length-append, map, All, sym, ap, ◌∙◌, subst, subst₂, arith}
use Rattle.std.proofs.lemmas.List.{length-map}
use Rattle.fj_algebra.proofs.Lists.{All-map_back}
use Rattle.fj_groebner.specs.ReducedBasis.{IsReducedBasis}
use Rattle.fj_groebner.specs.Rows.{AreRows}
use Rattle.fj_groebner.specs.Division.{polynomials_of}
use Rattle.fj_groebner.proofs.Finishing.{IsFinished-IsReducedBasis}
use Rattle.fj_basis.specs.History.{AreMade}
use Rattle.fj_basis.specs.Members.{sugared_members}
use Rattle.fj_basis.proofs.MadeRows.{AreRows-formed, AreRows-long, AreRows-wide, polynomials-sugared}
use Rattle.fj_basis.proofs.buchberger.with_cofactors.Goals as goal

pub down_rows-requires-clause-finished : goal.down_rows-requires-clause-finished
down_rows-requires-clause-finished g c = (c.args.pairs, c.in_ok-found.ensures.value)

pub new-requires-clause-rows : goal.new-requires-clause-rows
new-requires-clause-rows g c =
    let F = g.K.Coeff.field in
    let run = c.in_ok-found.ensures.value in
    let G = sugared_members c.in_ok-found.found.members.items in
    let rows = map (λ row. row.items) c.in_ok-down.down.items in
    let down : AreRows F c.args.list.now (polynomials_of G) rows = c.in_ok-down.ensures.value in
    sym (length-map c.in_ok-down.down.items (λ row. row.items)) ∙ AreRows-long F c.args.list.now (polynomials_of G) rows down
    ∙ ap length (polynomials-sugared c.in_ok-found.found.members.items ∙ sym c.in_ok-members.ensures)

pub new-requires-clause-down : goal.new-requires-clause-down
new-requires-clause-down g c =
    let F = g.K.Coeff.field in
    let run = c.in_ok-found.ensures.value in
    let G = sugared_members c.in_ok-found.found.members.items in
    let rows = map (λ row. row.items) c.in_ok-down.down.items in
    let down : AreRows F c.args.list.now (polynomials_of G) rows = c.in_ok-down.ensures.value in
    let up = map (λ row. row.items) c.in_ok-found.found.up.items in
    subst (λ n. All (λ row. length row.items ≡ n) c.in_ok-down.down.items)
    (sym (AreRows-long F (polynomials_of G) c.args.list.now up run.up) ∙ length-map c.in_ok-found.found.up.items (λ row. row.items))
    (All-map_back (λ row. length row ≡ length c.args.list.now) (λ row. row.items) c.in_ok-down.down.items (AreRows-wide F c.args.list.now (polynomials_of G) rows down))

pub new-requires-clause-up : goal.new-requires-clause-up
new-requires-clause-up g c =
    let F = g.K.Coeff.field in
    let run = c.in_ok-found.ensures.value in
    let G = polynomials_of (sugared_members c.in_ok-found.found.members.items) in
    let up = map (λ row. row.items) c.in_ok-found.found.up.items in
    subst (λ n. All (λ row. length row.items ≡ n) c.in_ok-found.found.up.items) (ap length (polynomials-sugared c.in_ok-found.found.members.items ∙ sym c.in_ok-members.ensures))
    (All-map_back (λ row. length row ≡ length G) (λ row. row.items) c.in_ok-found.found.up.items (AreRows-wide F G c.args.list.now up run.up))

pub returns-clause-value : goal.returns-clause-value
returns-clause-value g c =
    let members = c.in_ok-found.found.members.items in
    record {
      basis = sugared_members members;
      finished = c.in_ok-found.ensures.value.finished;
      are = polynomials-sugared members ∙ sym c.in_ok-members.ensures ∙ sym c.new.ensures.members;
    }

pub returns-clause-reduced : goal.returns-clause-reduced
returns-clause-reduced g c =
    let run = c.in_ok-found.ensures.value in
    subst (IsReducedBasis g.K.Coeff.field g.O.Order.key c.args.list.now) (polynomials-sugared c.in_ok-found.found.members.items ∙ sym c.in_ok-members.ensures ∙ sym c.new.ensures.members)
    (IsFinished-IsReducedBasis g.met.O.Order.monomial_order g.met.K.Coeff.lawful run.given run.finished)

pub returns-clause-made : goal.returns-clause-made
returns-clause-made g c =
    let F = g.K.Coeff.field in
    let run = c.in_ok-found.ensures.value in
    let G = sugared_members c.in_ok-found.found.members.items in
    let rows = map (λ row. row.items) c.in_ok-down.down.items in
    let down : AreRows F c.args.list.now (polynomials_of G) rows = c.in_ok-down.ensures.value in
    let members = polynomials-sugared c.in_ok-found.found.members.items ∙ sym c.in_ok-members.ensures ∙ sym c.new.ensures.members in
    record {
      down = subst₂ (AreRows F c.args.list.now) members (sym c.new.ensures.down) down;
      up = subst₂ (λ fs table. AreRows F fs c.args.list.now table) members (sym c.new.ensures.up) run.up;
    }
