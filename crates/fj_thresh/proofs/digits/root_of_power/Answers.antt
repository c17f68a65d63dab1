use Rattle.std.proofs.Common.{ℕ, ◌-◌, List, [], ◌∷◌, ◌++◌, length, get_or, ap, ◌∙◌, refl}
use Rattle.fj_theory.specs.Exponents.{origin}
use Rattle.fj_theory.specs.Polynomial.{term}
use Rattle.fj_chain.specs.Lists.{IsStepFor}
use Rattle.fj_chain.proofs.StepLists.{next_reduced_list, this_step, used_more}
use Rattle.fj_thresh.proofs.DigitLists.{digit_stop, unit_stop}
use Rattle.fj_thresh.proofs.digits.root_of_power.Goals as goal

pub returns-in_err-unit-clause-stop : goal.returns-in_err-unit-clause-stop
returns-in_err-unit-clause-stop g c =
    unit_stop g.K.Coeff.field c.args.f.now (c.args.higher.now ++ c.args.last ∷ []) c.args.pairs c.from_ref.result.now (c.from_ref.ensures.value ∙ ap (λ h. h ∷ []) c.in_ok-one.ensures)
    c.in_err-unit.field-0.0 c.from_residual-in_err-unit.result c.from_residual-in_err-unit.ensures.1 c.in_err-unit.ensures.stop

pub returns-in_err-reached-clause-stop : goal.returns-in_err-reached-clause-stop
returns-in_err-reached-clause-stop g c =
    digit_stop g.K.Coeff.field c.args.f.now (c.args.higher.now ++ c.args.last ∷ []) c.args.pairs c.in_ok-unit.ensures.value.ideal c.args.last
    (record { higher = c.args.higher.now; lower = []; place = refl; reached = c.in_ok-unit.ensures.value.given ∙ c.from_ref.ensures.value ∙ ap (λ h. h ∷ []) c.in_ok-one.ensures })
    c.in_err-reached.field-0.0 c.from_residual-in_err-reached.result c.from_residual-in_err-reached.ensures.1 c.in_err-reached.ensures.stop

pub returns-in_err-reached-2-clause-stop : goal.returns-in_err-reached-2-clause-stop
returns-in_err-reached-2-clause-stop g c =
    let F = g.K.Coeff.field in
    let f = c.args.f.now in
    let inv = c.loop-left.invariant in
    let all : List ℕ = c.args.higher.now ++ c.args.last ∷ [] in
    let left : List ℕ = c.loop-left.left.now in
    let digit : ℕ = get_or left (length left - 1) 0 in
    digit_stop F f all c.args.pairs inv.1 digit
    (this_step {F = F} {f = f} all left inv.0.0 {L = term 1 origin ∷ []} digit {M = c.loop-left.reached.given} inv.0.1 c.in-len1-up.len_at_least refl inv.0.2)
    c.in_err-reached-2.field-0.0 c.from_residual-in_err-reached-2.result c.from_residual-in_err-reached-2.ensures.1 c.in_err-reached-2.ensures.stop

pub loop-left-init : goal.loop-left-init
loop-left-init g c =
    let F = g.K.Coeff.field in
    let f = c.args.f.now in
    let all : List ℕ = c.args.higher.now ++ c.args.last ∷ [] in (
      (
        c.args.last ∷ [],
        refl,
        (
          c.in_ok-unit.unit.given,
          c.in_ok-unit.ensures.value.given ∙ c.from_ref.ensures.value ∙ ap (λ h. h ∷ []) c.in_ok-one.ensures,
          next_reduced_list F f c.args.pairs (IsStepFor F f all (term 1 origin ∷ [])) c.args.last c.in_ok-unit.ensures.value.ideal c.in_ok-reached.ensures.list,
        ),
      ),
      c.in_ok-reached.ensures.ideal,
    )

pub loop-left-preserved : goal.loop-left-preserved
loop-left-preserved g c =
    let F = g.K.Coeff.field in
    let f = c.args.f.now in
    let inv = c.loop-left.invariant in
    let all : List ℕ = c.args.higher.now ++ c.args.last ∷ [] in
    let left : List ℕ = c.loop-left.left.now in
    let digit : ℕ = get_or left (length left - 1) 0 in (
      (
        digit ∷ inv.0.0,
        used_more all left inv.0.0 digit inv.0.1 c.in-len1-up.len_at_least refl,
        (c.loop-left.reached.given, inv.0.2, next_reduced_list F f c.args.pairs (IsStepFor F f all (term 1 origin ∷ [])) digit inv.1 c.in_ok-reached-2.ensures.list),
      ),
      c.in_ok-reached-2.ensures.ideal,
    )
