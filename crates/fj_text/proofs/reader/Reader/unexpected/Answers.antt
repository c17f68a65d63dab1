use Rattle.fj_text.proofs.Readers.{unexpected-none, unexpected-some}
use Rattle.fj_text.proofs.reader.Reader.unexpected.Goals as goal

pub returns-in-Some : goal.returns-in-Some
returns-in-Some c = unexpected-some _ c.self.inside.next c.self.inside.line.now c.self.inside.start c.self.inside.end c.self.view_is _ c.in-Some.is _ c.blame.ensures

pub returns-in-None : goal.returns-in-None
returns-in-None c = unexpected-none _ c.self.inside.next c.self.inside.line.now c.self.inside.start c.self.inside.end c.self.view_is c.in-None.is
