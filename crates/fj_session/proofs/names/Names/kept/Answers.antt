use Rattle.std.proofs.Common.{◌∙◌, Some, sym}
use Rattle.std.proofs.lemmas.Option.{get_or_from_slice_get, same_Some}
use Rattle.fj_session.proofs.names.Names.kept.Goals as goal

pub returns : goal.returns
returns g c = (
  c.requires,
  same_Some _ _ (sym c.in-Some.is ∙ c.index.ensures ∙ get_or_from_slice_get c.args.self.now.lets.items c.args.j (Some c.requires.J) c.index.result.now c.requires.stands),
)
