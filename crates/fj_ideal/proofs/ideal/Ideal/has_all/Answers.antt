use Rattle.std.proofs.Common.{◌≡◌, Option, Some, None, MatchOption, true, false, All, refl, sym, subst}
use Rattle.std.specs.Option.{is_some}
use Rattle.std.proofs.lemmas.List.{take_all}
use Rattle.fj_theory.specs.Ideal.{Inside, Member}
use Rattle.fj_ideal.proofs.Products.{All-take_more}
use Rattle.fj_ideal.proofs.ideal.Ideal.has_all.Goals as goal

found : {A : Type 0} (o : Option A) (N P : Type 0) (S : A → Type 0) → is_some o ≡ true → MatchOption o N (λ x. P × S x) → P
found None N P S e h = cc
found (Some x) N P S e h = h.0

not_found : {A : Type 0} (o : Option A) (N : Type 0) (S : A → Type 0) → is_some o ≡ false → MatchOption o N S → N
not_found None N S e h = h
not_found (Some x) N S e h = cc

pub loop-g-preserved : goal.loop-g-preserved
loop-g-preserved g c =
    All-take_more (Member g.K.Coeff.field c.args.self.now.given) c.args.list.now c.loop-g.g-index c.g-item.result c.loop-g-test.true c.g-item.is c.loop-g.invariant
    (found c.in_ok-member.field-0 _ _ _ c.if-is_none.ensures c.in_ok-member.ensures)

pub returns-then-is_none : goal.returns-then-is_none
returns-then-is_none g c = (
  λ t. cc,
  λ inside.
      absurd (not_found c.in_ok-member.field-0 _ _ c.if-is_none.ensures c.in_ok-member.ensures
      (subst (Member g.K.Coeff.field c.args.self.now.given) (sym c.g-item.is) (inside.each c.loop-g.g-index c.g-item.result c.loop-g-test.true))),
)

pub returns : goal.returns
returns g c =
    (λ t. record { each = subst (All (Member g.K.Coeff.field c.args.self.now.given)) (take_all c.loop-g.g-index c.args.list.now c.loop-g-test.false) c.loop-g.invariant }, λ inside. refl)
