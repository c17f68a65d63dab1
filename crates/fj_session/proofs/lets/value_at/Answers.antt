use Rattle.std.proofs.Common.{refl}
use Rattle.fj_shell.proofs.Lets.{let_answers}
use Rattle.fj_session.specs.Standing as standing
use Rattle.fj_session.proofs.Marks.{let_at, let_here}
use Rattle.fj_session.proofs.lets.value_at.Goals as goal

pub value_of-requires-clause-stated : goal.value_of-requires-clause-stated
value_of-requires-clause-stated g c = standing.named c.args.place (let_at c.args.names.now.env.now c.requires.session (let_here c.get.ensures c.in-Let.is)) refl

pub value_of-requires-clause-ideal : goal.value_of-requires-clause-ideal
value_of-requires-clause-ideal g c = let_answers c.args.names.now.env.now c.args.place (let_at c.args.names.now.env.now c.requires.session (let_here c.get.ensures c.in-Let.is))

pub value_of-requires-clause-at_hand : goal.value_of-requires-clause-at_hand
value_of-requires-clause-at_hand g c = c.requires.at_hand c.if-not-marked.false c.in-Let.budget c.in-Let.question (let_here c.get.ensures c.in-Let.is)
