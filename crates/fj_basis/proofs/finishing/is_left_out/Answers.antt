use Rattle.std.proofs.Common.{◌≡◌, ◌&&◌, ◌||◌, not, nat_lt, sym, ap₂, ◌∙◌, arith, below_more}
use Rattle.std.proofs.lemmas.List.{length-map}
use Rattle.fj_theory.specs.Exponents.{divides}
use Rattle.fj_basis.specs.Members.{sugared, sugared_members}
use Rattle.fj_basis.proofs.FinishingActs.{leaves_out, left_out-found, left_out-none}
use Rattle.fj_basis.proofs.FinishingRows.{lead_at-sugared}
use Rattle.fj_basis.proofs.finishing.is_left_out.Goals as goal

pub loop-j-preserved : goal.loop-j-preserved
loop-j-preserved g c =
    let key = g.O.Order.key in
    let G = sugared_members c.args.members.now in
    let own = lead_at-sugared key c.args.members.now c.args.i c.index-members-i.result c.requires.place c.index-members-i.is ∙ sym c.lead-own.ensures in
    let other = lead_at-sugared key c.args.members.now c.loop-j.j c.index-members-j.result c.loop-j-test.true c.index-members-j.is ∙ sym c.lead.ensures in
    let test : leaves_out key G c.args.i c.loop-j.j ≡ c.makes_superfluous.result =
    ap₂ (λ x y. divides y x && (not (divides x y) || nat_lt c.loop-j.j c.args.i)) own other ∙ sym c.makes_superfluous.ensures in
    below_more _ _ c.loop-j.invariant (test ∙ c.if-makes_superfluous.false)

pub returns-then-makes_superfluous : goal.returns-then-makes_superfluous
returns-then-makes_superfluous g c =
    let key = g.O.Order.key in
    let G = sugared_members c.args.members.now in
    let own = lead_at-sugared key c.args.members.now c.args.i c.index-members-i.result c.requires.place c.index-members-i.is ∙ sym c.lead-own.ensures in
    let other = lead_at-sugared key c.args.members.now c.loop-j.j c.index-members-j.result c.loop-j-test.true c.index-members-j.is ∙ sym c.lead.ensures in
    let test : leaves_out key G c.args.i c.loop-j.j ≡ c.makes_superfluous.result =
    ap₂ (λ x y. divides y x && (not (divides x y) || nat_lt c.loop-j.j c.args.i)) own other ∙ sym c.makes_superfluous.ensures in
    let long = length-map c.args.members.now sugared in
    sym (left_out-found key G c.args.i c.loop-j.j (omega (arith, c.loop-j-test.true, long)) (test ∙ c.if-makes_superfluous.true))

pub returns : goal.returns
returns g c =
    let long = length-map c.args.members.now sugared in
    sym (left_out-none g.O.Order.key (sugared_members c.args.members.now) c.args.i (λ j l. c.loop-j.invariant j (omega (arith, l, long, c.loop-j-test.false))))
