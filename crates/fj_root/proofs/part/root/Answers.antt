use Rattle.std.proofs.Common.{◌≡◌, ◌-◌, ◌+◌, ◌<◌, ℕ, suc, sym, ap, ◌∙◌, arith, refl}
use Rattle.fj_coeff.specs.Field.{Field}
use Rattle.fj_theory.specs.Parts.{iterated_root}
use Rattle.fj_root.proofs.part.root.Goals as goal

one_less : (F : Field) (e k c : ℕ) → k < e → iterated_root F (e - (k + 1)) (F.root c) ≡ iterated_root F (e - k) c
unfolding iterated_root
one_less F e k c more = let next : e - k ≡ suc (e - (k + 1)) = omega arith in rw next refl

none_left : (F : Field) (e k c : ℕ) → e - k ≡ 0 → iterated_root F (e - k) c ≡ c
unfolding iterated_root
none_left F e k c none = rw none refl

pub loop-preserved : goal.loop-preserved
loop-preserved g c =
    ap (iterated_root g.K.Coeff.field (c.args.e - (c.loop.counter + 1))) c.root-root.ensures
    ∙ one_less g.K.Coeff.field c.args.e c.loop.counter (g.K.Coeff.rank c.loop.root) (omega arith) ∙ c.loop.invariant

pub returns : goal.returns
returns g c = sym (none_left g.K.Coeff.field c.args.e c.loop.counter (g.K.Coeff.rank c.loop.root) (omega arith)) ∙ c.loop.invariant
