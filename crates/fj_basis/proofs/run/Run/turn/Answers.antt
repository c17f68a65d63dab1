use Rattle.std.proofs.Common.{refl}
use Rattle.fj_basis.proofs.Turning.{after-removals}
use Rattle.fj_basis.proofs.run.Run.turn.Goals as goal

pub returns-clause-turn : goal.returns-clause-turn
returns-clause-turn g c = λ N turns after.
    after-removals c.treat_next.new.self (record { members = c.treat_next.new.self.members; pending = c.remove_spared.new.self; history = c.treat_next.new.self.history }) (c.in_ok-treat_next.ensures.turn N turns after) refl refl
    c.remove_spared.ensures
