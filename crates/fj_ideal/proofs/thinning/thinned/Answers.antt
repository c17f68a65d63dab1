use Rattle.std.proofs.Common.{◌≡◌, ◌≢◌, ◌+◌, ◌++◌, ◌∷◌, [], List, All, take, true≢false, sym, ap, ◌∙◌, subst}
use Rattle.std.proofs.lemmas.List.{take_all, take_more}
use Rattle.std.proofs.lemmas.List.Sorted.{All-permutation}
use Rattle.std.specs.FinMap.{empty}
use Rattle.fj_theory.specs.Ideal.{Member}
use Rattle.fj_theory.specs.Polynomial.{Polynomial}
use Rattle.fj_theory.proofs.Ideal.{Member-elements}
use Rattle.fj_ideal.specs.Congruent.{AreCongruent}
use Rattle.fj_ideal.proofs.Congruence.{IsThinned, SameIdeal-thinned, thinned_more, thinned_none, thinned_out}
use Rattle.fj_ideal.proofs.thinning.thinned.Goals as goal
use Rattle.fj_ideal.proofs.thinning.thinned.Goals.{then-not-is_zero+in_ok-push, else-not-is_zero}

pub loop-g-init : goal.loop-g-init
loop-g-init g c = subst (IsThinned g.K.Coeff.field c.args.list.now []) (sym c.new-few.ensures.items) (thinned_none g.K.Coeff.field c.args.list.now)

pub remainder-requires : goal.remainder-requires
remainder-requires g c = subst (All (λ f. f ≢ empty)) (sym c.deref.ensures.value) c.loop-g.invariant.nonzero

pub loop-g-preserved : goal.loop-g-preserved
loop-g-preserved g c =
    let F = g.K.Coeff.field in
    let L = g.met.K.Coeff.lawful in
    let i = c.loop-g.g-index in
    let list = c.args.list.now in
    let sorted : List Polynomial = c.deref-g-items.result.now in
    let rest = c.in_ok-rest.rest in
    let P = c.look_over.ensures in
    let all : All (Member F list) sorted =
    subst (All (Member F list)) (sym c.deref-g-items.ensures.value) (All-permutation (Member F list) list c.in_ok-sorted.sorted.items c.in_ok-sorted.ensures (Member-elements L P)) in
    let member : Member F list c.g-item.result = subst (Member F list) (sym c.g-item.is) (all i c.g-item.result c.loop-g-test.true) in
    let congruent : AreCongruent F c.loop-g.few.items c.g-item.result rest =
    subst (λ (M : List Polynomial). AreCongruent F M c.g-item.result rest) c.deref.ensures.value c.in_ok-rest.ensures in
    let more : take (i + 1) sorted ≡ take i sorted ++ c.g-item.result ∷ [] =
    take_more sorted i c.g-item.result c.loop-g-test.true ∙ ap (λ h. take i sorted ++ h ∷ []) (sym c.g-item.is) in
    let zero = c.is_zero.ensures.zero in
    subst (λ (done : List Polynomial). IsThinned F list done c.if-not-is_zero.few.items) (sym more)
    (elim c.if-not-is_zero.branch [
      | then-not-is_zero+in_ok-push w ↦
          subst (IsThinned F list (take i sorted ++ c.g-item.result ∷ [])) (sym (ap (λ v. v.items) w.few-is ∙ w.in_ok-push.ensures.items))
          (thinned_more L P c.loop-g.invariant member congruent c.is_zero.ensures.polynomial (λ e. true≢false (sym (zero.1 e) ∙ w.if-not-is_zero.true)))
      | else-not-is_zero w ↦
          subst (IsThinned F list (take i sorted ++ c.g-item.result ∷ [])) (sym (ap (λ v. v.items) w.few-is))
          (thinned_out L P c.loop-g.invariant member congruent (zero.0 w.if-not-is_zero.false))
    ])

pub returns : goal.returns
returns g c =
    let F = g.K.Coeff.field in
    let list = c.args.list.now in
    let whole = take_all c.loop-g.g-index c.deref-g-items.result.now c.loop-g-test.false ∙ c.deref-g-items.ensures.value in
    SameIdeal-thinned (subst (λ (done : List Polynomial). IsThinned F list done c.loop-g.few.items) whole c.loop-g.invariant) c.in_ok-sorted.ensures
