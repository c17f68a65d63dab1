use Rattle.std.proofs.Common.{◌≡◌, ℕ, ◌<◌, ◌∙◌, ◌∷◌, [], List, subst, refl, arith}
use Rattle.std.proofs.lemmas.Result.{IfOk-weaker}
use Rattle.fj_theory.specs.Digits.{IsExpansion}
use Rattle.fj_plain.specs.declared.order_name.OrderName.TheVariants.{Grevlex}
use Rattle.fj_ideal.specs.Lists.{RunFor}
use Rattle.fj_ideal.specs.Stop.{IsCauseOf, IsWritten}
use Rattle.fj_chain.specs.Lists.{IsHighInStep, IsListOfStep, IsStepFor, IsWholeAndDigits, LeadTo, LimitLeadsTo}
use Rattle.fj_chain.proofs.LimitStops.{last_whole, limit_chain_stop, limit_pre_stop, limit_whole_stop}
use Rattle.fj_chain.proofs.limits.limit_from.Goals as goal

pub returns-in_err-limit-clause-stop : goal.returns-in_err-limit-clause-stop
returns-in_err-limit-clause-stop g c =
    let F = g.K.Coeff.field in
    let k = c.split_whole-whole.result.0 in
    let rest = c.split_whole-whole.result.1 in
    let d = c.in_ok-digits.digits in
    let w : IsWholeAndDigits F.characteristic c.args.t.now k d = record { rest = rest; unit = c.split_whole-whole.ensures.unit; sum = c.split_whole-whole.ensures.sum; expansion = subst (λ p. IsExpansion p rest d) (c.P.ensures ∙ g.met.K.Coeff.characteristic_is) c.in_ok-digits.ensures } in
    limit_chain_stop F c.args.f.now c.args.t.now c.args.first.now c.args.pairs k d w c.in_err-limit.field-0.0 c.from_residual-in_err-limit.result c.from_residual-in_err-limit.ensures.1 c.in_err-limit.ensures.stop

pub returns-in_err-reached-clause-stop : goal.returns-in_err-reached-clause-stop
returns-in_err-reached-clause-stop g c =
    let F = g.K.Coeff.field in
    let f = c.args.f.now in
    let k = c.split_whole-whole.result.0 in
    let rest = c.split_whole-whole.result.1 in
    let d = c.in_ok-digits.digits in
    let J = c.in_ok-limit.limit.given in
    let s = c.in_err-reached.field-0.0 in
    let w : IsWholeAndDigits F.characteristic c.args.t.now k d = record { rest = rest; unit = c.split_whole-whole.ensures.unit; sum = c.split_whole-whole.ensures.sum; expansion = subst (λ p. IsExpansion p rest d) (c.P.ensures ∙ g.met.K.Coeff.characteristic_is) c.in_ok-digits.ensures } in
    limit_pre_stop F f c.args.t.now c.args.first.now c.args.pairs k d w J c.in_ok-limit.ensures.chain.0 s c.from_residual-in_err-reached.result c.from_residual-in_err-reached.ensures.1
    (subst (λ (ds : List ℕ). IsCauseOf F (RunFor Grevlex (IsListOfStep F f (IsStepFor F f ds J))) (IsHighInStep F f (IsStepFor F f ds J)) c.args.pairs s × IsWritten F s) c.pre.ensures.value c.in_err-reached.ensures.stop)

pub returns-then-whole-eq0-clause-list : goal.returns-then-whole-eq0-clause-list
returns-then-whole-eq0-clause-list g c =
    let F = g.K.Coeff.field in
    let f = c.args.f.now in
    let rest = c.split_whole-whole.result.1 in
    let d = c.in_ok-digits.digits in
    let J = c.in_ok-limit.limit.given in
    let none : c.split_whole-whole.result.0 ≡ 0 = omega (arith, c.if-whole-eq0.true) in
    let w : IsWholeAndDigits F.characteristic c.args.t.now c.split_whole-whole.result.0 d = record { rest = rest; unit = c.split_whole-whole.ensures.unit; sum = c.split_whole-whole.ensures.sum; expansion = subst (λ p. IsExpansion p rest d) (c.P.ensures ∙ g.met.K.Coeff.characteristic_is) c.in_ok-digits.ensures } in
    record {
      whole = 0;
      digits = d;
      written = subst (λ k. IsWholeAndDigits F.characteristic c.args.t.now k d) none w;
      reached = c.in_ok-reached.reached.given;
      leads = record { limit = J; ends = c.in_ok-limit.ensures.chain.0; pre = subst (λ (ds : List ℕ). LeadTo F f ds J c.in_ok-reached.reached.given) c.pre.ensures.value c.in_ok-reached.ensures.list };
      last = refl;
    }

pub returns-clause-list : goal.returns-clause-list
returns-clause-list g c =
    let F = g.K.Coeff.field in
    let f = c.args.f.now in
    let k = c.split_whole-whole.result.0 in
    let rest = c.split_whole-whole.result.1 in
    let d = c.in_ok-digits.digits in
    let J = c.in_ok-limit.limit.given in
    let some : 0 < k = omega (arith, c.if-whole-eq0.false) in
    let w : IsWholeAndDigits F.characteristic c.args.t.now k d = record { rest = rest; unit = c.split_whole-whole.ensures.unit; sum = c.split_whole-whole.ensures.sum; expansion = subst (λ p. IsExpansion p rest d) (c.P.ensures ∙ g.met.K.Coeff.characteristic_is) c.in_ok-digits.ensures } in
    let leads : LimitLeadsTo F f d (c.args.first.now ∷ []) c.in_ok-reached.reached.given = record { limit = J; ends = c.in_ok-limit.ensures.chain.0; pre = subst (λ (ds : List ℕ). LeadTo F f ds J c.in_ok-reached.reached.given) c.pre.ensures.value c.in_ok-reached.ensures.list } in
    IfOk-weaker c.ideal_of_multiples.result _ _ (λ M is. last_whole F f c.args.t.now c.args.first.now k d w some c.in_ok-reached.ensures.ideal leads M.given is) c.ideal_of_multiples.ensures.list

pub returns-clause-stop : goal.returns-clause-stop
returns-clause-stop g c =
    let F = g.K.Coeff.field in
    let f = c.args.f.now in
    let k = c.split_whole-whole.result.0 in
    let rest = c.split_whole-whole.result.1 in
    let d = c.in_ok-digits.digits in
    let J = c.in_ok-limit.limit.given in
    let some : 0 < k = omega (arith, c.if-whole-eq0.false) in
    let w : IsWholeAndDigits F.characteristic c.args.t.now k d = record { rest = rest; unit = c.split_whole-whole.ensures.unit; sum = c.split_whole-whole.ensures.sum; expansion = subst (λ p. IsExpansion p rest d) (c.P.ensures ∙ g.met.K.Coeff.characteristic_is) c.in_ok-digits.ensures } in
    let leads : LimitLeadsTo F f d (c.args.first.now ∷ []) c.in_ok-reached.reached.given = record { limit = J; ends = c.in_ok-limit.ensures.chain.0; pre = subst (λ (ds : List ℕ). LeadTo F f ds J c.in_ok-reached.reached.given) c.pre.ensures.value c.in_ok-reached.ensures.list } in
    limit_whole_stop F f c.args.t.now c.args.first.now c.args.pairs k d w some c.in_ok-reached.ensures.ideal leads c.ideal_of_multiples.result c.ideal_of_multiples.ensures.stop
