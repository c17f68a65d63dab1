use Rattle.std.proofs.Common.{◌≡◌, ◌+◌, get_or, refl, sym, ap, ◌∙◌, subst, arith}
use Rattle.std.specs.FinMap.{empty}
use Rattle.std.proofs.lemmas.List.{get_or_default}
use Rattle.fj_theory.specs.Exponents.{origin}
use Rattle.fj_theory.specs.Polynomial.{negation, product, term}
use Rattle.fj_basis.proofs.Combined.{AreNegatives, negatives-all, negatives-more, negatives-none, negatives-zero}
use Rattle.fj_basis.proofs.Rows.{scale-negation}
use Rattle.fj_basis.proofs.history.with_negatives.Goals as goal
use Rattle.fj_basis.proofs.history.with_negatives.Goals.{then-not-is_zero+in_ok-scale+in_ok-push, else-not-is_zero}

pub loop-k-init : goal.loop-k-init
loop-k-init g c = negatives-none g.met.K.Coeff.lawful c.args.first.items c.args.from c.args.quotients.now

pub loop-k-preserved : goal.loop-k-preserved
loop-k-preserved g c =
    let F = g.K.Coeff.field in
    let L = g.met.K.Coeff.lawful in
    let qs = c.args.quotients.now in
    let first = c.args.first.items in
    let k = c.loop-k.k in
    let l = c.loop-k-test.true in
    elim c.if-not-is_zero.branch [
      | then-not-is_zero+in_ok-scale+in_ok-push w ↦
          let q = w.index-quotients-k-then-not-is_zero.result in
          let is : q ≡ get_or qs k empty = w.index-quotients-k-then-not-is_zero.is ∙ get_or_default qs k q empty l in
          let factor : w.in_ok-scale.field-0 ≡ negation F (get_or qs k empty) =
          w.in_ok-scale.ensures.value ∙ ap (λ n. product F (term n origin) q) (c.neg-minus_one.ensures ∙ ap F.neg c.one.ensures) ∙ scale-negation L w.in_ok-scale.ensures.factor ∙ ap (negation F) is in
          negatives-more L first c.args.from qs k c.loop-k.summands.items c.if-not-is_zero.summands.items (record { place = c.args.from + k; factor = w.in_ok-scale.field-0 }) l refl factor
          (ap (λ v. v.items) w.summands-is ∙ w.in_ok-push.ensures.items) c.loop-k.invariant
      | else-not-is_zero w ↦
          let q = c.index-quotients-k.result in
          let zero : get_or qs k empty ≡ empty = sym (c.index-quotients-k.is ∙ get_or_default qs k q empty l) ∙ c.is_zero.ensures.zero.0 w.if-not-is_zero.false in
          subst (λ v. AreNegatives F first c.args.from qs (k + 1) v.items) (sym w.summands-is) (negatives-zero L first c.args.from qs k c.loop-k.summands.items l c.requires.polynomials zero c.loop-k.invariant)
    ]

pub returns : goal.returns
returns g c =
    negatives-all g.met.K.Coeff.lawful c.args.first.items c.args.from c.args.quotients.now c.loop-k.k c.loop-k.summands.items (omega (arith, c.loop-k-test.false)) (omega arith) c.loop-k.invariant
