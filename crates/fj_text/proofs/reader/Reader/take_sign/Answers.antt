use Rattle.std.proofs.Common.{refl, sym, ◌∙◌}
use Rattle.fj_text.proofs.Readers.{sign-none, sign-other, next-some, sign-taken, fewer-taken}
use Rattle.fj_text.proofs.reader.Reader.take_sign.Goals as goal

pub returns-in_default-clause-stays : goal.returns-in_default-clause-stays
returns-in_default-clause-stays c = (sign-none _ c.self.inside.next c.self.inside.line.now c.self.inside.start c.self.inside.end c.self.view_is c.in_default.is _, refl)

pub returns-then-not-is_the_sign-clause-stays : goal.returns-then-not-is_the_sign-clause-stays
returns-then-not-is_the_sign-clause-stays c = (
  sign-other _ c.self.inside.next c.self.inside.line.now c.self.inside.start c.self.inside.end c.self.view_is _ c.in-Some.is _ (sym c.is_the_sign.ensures ∙ c.if-not-is_the_sign.true),
  refl,
)

pub returns-clause-taken : goal.returns-clause-taken
returns-clause-taken c =
    sign-taken _ _ _ _ _ _ (next-some _ c.self.inside.next c.self.inside.line.now c.self.inside.start c.self.inside.end c.self.view_is _ c.in-Some.is _ refl) c.take-sign.ensures.taken (sym c.is_the_sign.ensures ∙ c.if-not-is_the_sign.false)

pub returns-clause-fewer : goal.returns-clause-fewer
returns-clause-fewer c =
    fewer-taken _ _ _ _ _ (next-some _ c.self.inside.next c.self.inside.line.now c.self.inside.start c.self.inside.end c.self.view_is _ c.in-Some.is _ refl) c.take-sign.ensures.taken c.take-sign.ensures.fewer
