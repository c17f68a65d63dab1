use Rattle.fj_text.proofs.Readers.{is_bad-none, is_bad-some}
use Rattle.fj_text.proofs.reader.Reader.is_bad_next.Goals as goal

pub returns-in-Some : goal.returns-in-Some
returns-in-Some c = is_bad-some _ c.self.inside.next c.self.inside.line.now c.self.inside.start c.self.inside.end c.self.view_is _ c.in-Some.is _ c.is_bad.ensures

pub returns-in-None : goal.returns-in-None
returns-in-None c = is_bad-none _ c.self.inside.next c.self.inside.line.now c.self.inside.start c.self.inside.end c.self.view_is c.in-None.is
