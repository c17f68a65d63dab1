use Rattle.std.proofs.Common.{Err, Ok, sym, ap, ◌∙◌, subst}
use Rattle.fj_script.specs.Script as session
use Rattle.fj_script.specs.Seen.{IsReadingOf}
use Rattle.fj_session.proofs.program.generated_script.Goals as goal

pub unreachable-requires : goal.unreachable-requires
unreachable-requires c =
    let law = c.generated_is_accepted.ensures c.args.n c.requires.some c.requires.few in
    let bytes = c.deref.ensures.value ∙ c.in_ok-bytes.ensures in
    let reading = subst (λ fault. IsReadingOf (session.script c.deref.result.now) (Err fault)) c.in-Err-At.field-0-is c.in-Err-At.ensures in
    let same = sym law.accepted ∙ ap session.script (sym bytes) ∙ reading in
    cc
