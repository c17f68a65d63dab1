use Rattle.std.proofs.Common.{◌<◌, ◌≤◌, ℕ, All, arith, length}
use Rattle.std.proofs.lemmas.List.Elements.{All-weaker}
use Rattle.fj_shell.specs.Named.{places_in}
use Rattle.fj_session.proofs.Marks.{let_here, marked_from_let, marked_read, named_earlier}
use Rattle.fj_session.proofs.lets.mark_named.Goals as goal

pub mark_names-requires : goal.mark_names-requires
mark_names-requires c =
    let place = c.requires.place in
    All-weaker (λ j. j < c.args.place) (λ j. j < length c.args.marks.now.items) (λ j below. omega (arith, below, place)) (places_in c.in-Let.question) (named_earlier c.args.env.now c.requires.session (let_here c.get.ensures c.in-Let.is))

pub returns-in-Let : goal.returns-in-Let
returns-in-Let c =
    marked_from_let c.args.env.now c.requires.session (marked_read c.args.marks.now.items c.args.place c.index.result.now c.requires.place c.index.ensures c.if-not-index.false) (let_here c.get.ensures c.in-Let.is) c.mark_names.ensures
