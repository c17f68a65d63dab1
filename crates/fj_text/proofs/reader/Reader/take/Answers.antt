use Rattle.fj_text.proofs.Readers.{next-none, next-some, fewer}
use Rattle.fj_text.proofs.reader.Reader.take.Goals as goal

pub returns-in_err-t-clause-taken : goal.returns-in_err-t-clause-taken
returns-in_err-t-clause-taken c = let none = next-none _ c.self.inside.next c.self.inside.line.now c.self.inside.start c.self.inside.end c.self.view_is c.in_err-t.was in rw c.from_residual.ensures none

pub returns-clause-taken : goal.returns-clause-taken
returns-clause-taken c = next-some _ c.self.inside.next c.self.inside.line.now c.self.inside.start c.self.inside.end c.self.view_is _ c.in_ok-t.was _ c.token_from-self-inside.ensures.tokens

pub returns-clause-fewer : goal.returns-clause-fewer
returns-clause-fewer c = fewer _ c.self.inside.next c.self.inside.line.now c.self.inside.start c.self.inside.end c.self.view_is _ c.in_ok-t.was _ c.token_from-self-inside.ensures.tokens
