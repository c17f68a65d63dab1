use Rattle.std.proofs.Common.{Bool, ◌↔◌, IfOk, IsTrue, subst, sym}
use Rattle.fj_plain.specs.declared.cert.Cert.{Cert}
use Rattle.fj_plain.specs.Holds.{Holds}
use Rattle.fj_plain.proofs.cert.holds.Goals as goal

pub returns-in-Basis : goal.returns-in-Basis
returns-in-Basis c = subst (λ (d : Cert). IfOk c.express_each_other.result (λ (b : Bool). IsTrue b ↔ Holds d)) (sym c.in-Basis.is) c.express_each_other.ensures

pub returns-in-Same : goal.returns-in-Same
returns-in-Same c = subst (λ (d : Cert). IfOk c.express_each_other-in-Same.result (λ (b : Bool). IsTrue b ↔ Holds d)) (sym c.in-Same.is) c.express_each_other-in-Same.ensures

pub returns-in-Root : goal.returns-in-Root
returns-in-Root c = subst (λ (d : Cert). IfOk c.are_sums_of_parts.result (λ (b : Bool). IsTrue b ↔ Holds d)) (sym c.in-Root.is) c.are_sums_of_parts.ensures
