use Rattle.std.proofs.Common.{rules, ◌∙◌}
use Rattle.std.proofs.lemmas.Fn.{filter_same}
use Rattle.fj_audit.proofs.Dropped.{dropped_count}
use Rattle.fj_audit.proofs.handing.sweep.Goals as goal

pub returns-clause-kept : goal.returns-clause-kept
returns-clause-kept g c = filter_same _ _ _ (λ x b f' k. search rules) _ _ c.retain.ensures.filtered

pub returns-clause-dropped : goal.returns-clause-dropped
returns-clause-dropped g c = dropped_count (λ b. (goal.Auditor-dyn g (b.vtable, b.value)).account b.value) _ _ _ _ (returns-clause-kept g c) (c.len-count.ensures ∙ c.args.auditors.now.ok.0) (c.len.ensures ∙ c.retain.new.self.ok.0)
