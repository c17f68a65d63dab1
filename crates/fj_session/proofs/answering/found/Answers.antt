use Rattle.std.proofs.Common.{◌≡◌, ◌∷◌, [], ◌≤◌, ◌^◌, ◌∙◌, ℕ, List, length, ap, subst, sym, refl}
use Rattle.fj_coeff.specs.Field.{Field}
use Rattle.fj_plain.specs.declared.order_name.OrderName.TheVariants.{Grevlex}
use Rattle.fj_ideal.specs.Lists.{RunFor}
use Rattle.fj_script.specs.declared.question.Question.TheVariants as questions
use Rattle.fj_shell.specs.Named.{point_at, polynomial_at}
use Rattle.fj_session.specs.Names.{standing_in, values_kept}
use Rattle.fj_session.specs.Standing as question
use Rattle.fj_session.proofs.Stated.{first_at_hand, second_at_hand, sound_as}
use Rattle.fj_shell.proofs.Known.{compatible_question, is_jump_question, jumps_question, member_question, nu_question, parts_question, pure_at_question, regular_question, root_question, threshold_at_question, threshold_question}
use Rattle.fj_session.proofs.Printed.{found_as, found_purity, found_root, found_same, found_verdict}
use Rattle.fj_thresh.specs.Answer.{IsPointAnswer, IsThresholdAnswer}
use Rattle.fj_thresh.specs.Lists.{IsHighInPointThreshold, IsHighInThreshold, IsPointThresholdList}
use Rattle.fj_session.specs.Thresholds.{IsListOfThreshold}
use Rattle.fj_session.proofs.JumpRows.{found_jumps}
use Rattle.fj_session.proofs.Numbers.{found_nu, found_threshold}
use Rattle.fj_session.proofs.answering.found.Goals as goal

pub polynomial_at-f-requires : goal.polynomial_at-f-requires
polynomial_at-f-requires g c = (parts_question c.args.names.now.env.now c.args.asked.now c.in-Parts.e c.in-Parts.f c.requires.session c.in-Parts.is).poly

pub part_rows-requires-clause-small : goal.part_rows-requires-clause-small
part_rows-requires-clause-small g c = (parts_question c.args.names.now.env.now c.args.asked.now c.in-Parts.e c.in-Parts.f c.requires.session c.in-Parts.is).small

pub is_member-requires-clause-polynomial : goal.is_member-requires-clause-polynomial
is_member-requires-clause-polynomial g c = (member_question c.args.names.now.env.now c.args.asked.now c.in-Member.f c.in-Member.j c.requires.session c.in-Member.is).0

pub is_member-requires-clause-named : goal.is_member-requires-clause-named
is_member-requires-clause-named g c =
    let q = questions.Member c.in-Member.f c.in-Member.j in
    second_at_hand c.args.names.now (question.asked c.args.asked.now c.requires.session refl) c.requires.at_hand q c.in-Member.is c.in-Member.f c.in-Member.j refl (sound_as c.args.names.now.env.now (question.asked c.args.asked.now c.requires.session refl) q c.in-Member.is).1

pub returns-in-Member : goal.returns-in-Member
returns-in-Member g c =
    found_as g.K.Coeff.field c.args.names.now.env.now (values_kept c.args.names.now.lets.items) c.args.asked.now (questions.Member c.in-Member.f c.in-Member.j) c.in-Member.is c.judged.result
    (found_verdict _ _ _ _ _ _ c.is_member.result c.judged.result c.judged.ensures c.is_member.ensures.verdict c.is_member.ensures.stop)

pub same-requires-clause-first : goal.same-requires-clause-first
same-requires-clause-first g c =
    let q = questions.Same c.in-Same.j c.in-Same.k in
    first_at_hand c.args.names.now (question.asked c.args.asked.now c.requires.session refl) c.requires.at_hand q c.in-Same.is c.in-Same.j (c.in-Same.k ∷ []) refl (sound_as c.args.names.now.env.now (question.asked c.args.asked.now c.requires.session refl) q c.in-Same.is).0

pub same-requires-clause-second : goal.same-requires-clause-second
same-requires-clause-second g c =
    let q = questions.Same c.in-Same.j c.in-Same.k in
    second_at_hand c.args.names.now (question.asked c.args.asked.now c.requires.session refl) c.requires.at_hand q c.in-Same.is c.in-Same.j c.in-Same.k refl (sound_as c.args.names.now.env.now (question.asked c.args.asked.now c.requires.session refl) q c.in-Same.is).1

pub returns-in-Same : goal.returns-in-Same
returns-in-Same g c =
    found_as g.K.Coeff.field c.args.names.now.env.now (values_kept c.args.names.now.lets.items) c.args.asked.now (questions.Same c.in-Same.j c.in-Same.k) c.in-Same.is c.same.result
    (found_same g.K.Coeff.field c.args.asked.now.order c.args.asked.now.budget (standing_in c.args.names.now c.in-Same.j) (standing_in c.args.names.now c.in-Same.k) c.same.result c.same.ensures.verdict c.same.ensures.stop)

pub returns-in-Root : goal.returns-in-Root
returns-in-Root g c =
    let asked = c.args.asked.now in
    found_as g.K.Coeff.field c.args.names.now.env.now (values_kept c.args.names.now.lets.items) asked (questions.Root c.in-Root.e c.in-Root.j) c.in-Root.is c.printed_root.result
    (found_root g.met.K.Coeff.lawful asked.order asked.budget c.in-Root.e (standing_in c.args.names.now c.in-Root.j) c.root_with_parts.result c.printed_root.result c.printed_root.ensures c.root_with_parts.ensures.ideal c.root_with_parts.ensures.parts c.root_with_parts.ensures.holds c.root_with_parts.ensures.stop)

pub is_jump-requires-clause-named : goal.is_jump-requires-clause-named
is_jump-requires-clause-named g c = (is_jump_question c.args.names.now.env.now c.args.asked.now c.in-IsJump.f c.in-IsJump.t c.requires.session c.in-IsJump.is).0

pub is_jump-requires-clause-above_zero : goal.is_jump-requires-clause-above_zero
is_jump-requires-clause-above_zero g c = (is_jump_question c.args.names.now.env.now c.args.asked.now c.in-IsJump.f c.in-IsJump.t c.requires.session c.in-IsJump.is).1.above refl

pub is_jump-requires-clause-at_most : goal.is_jump-requires-clause-at_most
is_jump-requires-clause-at_most g c = (is_jump_question c.args.names.now.env.now c.args.asked.now c.in-IsJump.f c.in-IsJump.t c.requires.session c.in-IsJump.is).1.low

pub is_regular-requires-clause-named : goal.is_regular-requires-clause-named
is_regular-requires-clause-named g c = (regular_question c.args.names.now.env.now c.args.asked.now c.in-Regular.f c.in-Regular.t c.requires.session c.in-Regular.is).0

pub is_regular-requires-clause-at_most : goal.is_regular-requires-clause-at_most
is_regular-requires-clause-at_most g c = (regular_question c.args.names.now.env.now c.args.asked.now c.in-Regular.f c.in-Regular.t c.requires.session c.in-Regular.is).1.low

pub returns-in-IsJump : goal.returns-in-IsJump
returns-in-IsJump g c =
    found_as g.K.Coeff.field c.args.names.now.env.now (values_kept c.args.names.now.lets.items) c.args.asked.now (questions.IsJump c.in-IsJump.f c.in-IsJump.t) c.in-IsJump.is c.judged-in-IsJump.result
    (found_verdict _ _ _ _ _ _ c.is_jump.result c.judged-in-IsJump.result c.judged-in-IsJump.ensures c.is_jump.ensures.verdict c.is_jump.ensures.stop)

pub returns-in-Regular : goal.returns-in-Regular
returns-in-Regular g c =
    found_as g.K.Coeff.field c.args.names.now.env.now (values_kept c.args.names.now.lets.items) c.args.asked.now (questions.Regular c.in-Regular.f c.in-Regular.t) c.in-Regular.is c.judged-in-Regular.result
    (found_verdict _ _ _ _ _ _ c.is_regular.result c.judged-in-Regular.result c.judged-in-Regular.ensures c.is_regular.ensures.verdict c.is_regular.ensures.stop)

pub is_pure-requires-clause-named : goal.is_pure-requires-clause-named
is_pure-requires-clause-named g c =
    let q = questions.Pure c.in-Pure.j in
    first_at_hand c.args.names.now (question.asked c.args.asked.now c.requires.session refl) c.requires.at_hand q c.in-Pure.is c.in-Pure.j [] refl (sound_as c.args.names.now.env.now (question.asked c.args.asked.now c.requires.session refl) q c.in-Pure.is)

pub returns-in-Pure : goal.returns-in-Pure
returns-in-Pure g c =
    found_as g.K.Coeff.field c.args.names.now.env.now (values_kept c.args.names.now.lets.items) c.args.asked.now (questions.Pure c.in-Pure.j) c.in-Pure.is c.judged-in-Pure.result
    (found_verdict _ _ _ _ _ _ c.is_pure.result c.judged-in-Pure.result c.judged-in-Pure.ensures c.is_pure.ensures.verdict c.is_pure.ensures.stop)

pub is_pure_at-requires-clause-ideal : goal.is_pure_at-requires-clause-ideal
is_pure_at-requires-clause-ideal g c =
    let q = questions.PureAt c.in-PureAt.j c.in-PureAt.at in
    first_at_hand c.args.names.now (question.asked c.args.asked.now c.requires.session refl) c.requires.at_hand q c.in-PureAt.is c.in-PureAt.j (c.in-PureAt.at ∷ []) refl (sound_as c.args.names.now.env.now (question.asked c.args.asked.now c.requires.session refl) q c.in-PureAt.is).0

pub is_pure_at-requires-clause-point : goal.is_pure_at-requires-clause-point
is_pure_at-requires-clause-point g c = (pure_at_question c.args.names.now.env.now c.args.asked.now c.in-PureAt.j c.in-PureAt.at c.requires.session c.in-PureAt.is).1

pub returns-in-PureAt : goal.returns-in-PureAt
returns-in-PureAt g c =
    found_as g.K.Coeff.field c.args.names.now.env.now (values_kept c.args.names.now.lets.items) c.args.asked.now (questions.PureAt c.in-PureAt.j c.in-PureAt.at) c.in-PureAt.is c.alone.result
    (found_purity _ _ _ _ _ c.is_pure_at.result c.alone.result c.alone.ensures c.is_pure_at.ensures.answer c.is_pure_at.ensures.stop)

pub is_compatible-requires-clause-small : goal.is_compatible-requires-clause-small
is_compatible-requires-clause-small g c = (compatible_question c.args.names.now.env.now c.args.asked.now c.in-Compatible.e c.in-Compatible.u c.in-Compatible.j c.requires.session c.in-Compatible.is).0

pub is_compatible-requires-clause-polynomial : goal.is_compatible-requires-clause-polynomial
is_compatible-requires-clause-polynomial g c = (compatible_question c.args.names.now.env.now c.args.asked.now c.in-Compatible.e c.in-Compatible.u c.in-Compatible.j c.requires.session c.in-Compatible.is).1

pub is_compatible-requires-clause-ideal : goal.is_compatible-requires-clause-ideal
is_compatible-requires-clause-ideal g c =
    let q = questions.Compatible c.in-Compatible.e c.in-Compatible.u c.in-Compatible.j in
    second_at_hand c.args.names.now (question.asked c.args.asked.now c.requires.session refl) c.requires.at_hand q c.in-Compatible.is c.in-Compatible.u c.in-Compatible.j refl (sound_as c.args.names.now.env.now (question.asked c.args.asked.now c.requires.session refl) q c.in-Compatible.is).2

pub returns-in-Compatible : goal.returns-in-Compatible
returns-in-Compatible g c =
    found_as g.K.Coeff.field c.args.names.now.env.now (values_kept c.args.names.now.lets.items) c.args.asked.now (questions.Compatible c.in-Compatible.e c.in-Compatible.u c.in-Compatible.j) c.in-Compatible.is c.judged-in-Compatible.result
    (found_verdict _ _ _ _ _ _ c.is_compatible.result c.judged-in-Compatible.result c.judged-in-Compatible.ensures c.is_compatible.ensures.verdict c.is_compatible.ensures.stop)

pub nu-requires-clause-small : goal.nu-requires-clause-small
nu-requires-clause-small g c = (nu_question c.args.names.now.env.now c.args.asked.now c.in-Nu.e c.in-Nu.f c.in-Nu.j c.requires.session c.in-Nu.is).0

pub nu-requires-clause-named : goal.nu-requires-clause-named
nu-requires-clause-named g c = (nu_question c.args.names.now.env.now c.args.asked.now c.in-Nu.e c.in-Nu.f c.in-Nu.j c.requires.session c.in-Nu.is).1

pub nu-requires-clause-ideal : goal.nu-requires-clause-ideal
nu-requires-clause-ideal g c =
    let q = questions.Nu c.in-Nu.e c.in-Nu.f c.in-Nu.j in
    second_at_hand c.args.names.now (question.asked c.args.asked.now c.requires.session refl) c.requires.at_hand q c.in-Nu.is c.in-Nu.f c.in-Nu.j refl (sound_as c.args.names.now.env.now (question.asked c.args.asked.now c.requires.session refl) q c.in-Nu.is).2

pub returns-in-Nu : goal.returns-in-Nu
returns-in-Nu g c =
    let f = polynomial_at c.args.names.now.env.now c.in-Nu.f in
    let J = standing_in c.args.names.now c.in-Nu.j in
    found_as g.K.Coeff.field c.args.names.now.env.now (values_kept c.args.names.now.lets.items) c.args.asked.now (questions.Nu c.in-Nu.e c.in-Nu.f c.in-Nu.j) c.in-Nu.is c.alone-in-Nu.result
    (found_nu g.K.Coeff.field c.in-Nu.e f J c.args.asked.now.order c.args.asked.now.budget c.nu.result c.alone-in-Nu.result c.alone-in-Nu.ensures c.nu.ensures.answer c.nu.ensures.stop)

-- The limit of E, over the field of the session.
small_level : {P p : ℕ} (e : ℕ) → P ≡ p → p ^ e ≤ 65536 → P ^ e ≤ 65536
small_level e is low = subst (λ n. n ^ e ≤ 65536) (sym is) low

pub jumps-requires-clause-named : goal.jumps-requires-clause-named
jumps-requires-clause-named g c = (jumps_question c.args.names.now.env.now c.args.asked.now c.in-Jumps.f c.in-Jumps.e c.requires.session c.in-Jumps.is).0

pub jumps-requires-clause-positive : goal.jumps-requires-clause-positive
jumps-requires-clause-positive g c = (jumps_question c.args.names.now.env.now c.args.asked.now c.in-Jumps.f c.in-Jumps.e c.requires.session c.in-Jumps.is).1.positive

pub jumps-requires-clause-small : goal.jumps-requires-clause-small
jumps-requires-clause-small g c = small_level c.in-Jumps.e (g.met.K.Coeff.characteristic_is ∙ ap (λ (F : Field). F.characteristic) c.requires.field) (jumps_question c.args.names.now.env.now c.args.asked.now c.in-Jumps.f c.in-Jumps.e c.requires.session c.in-Jumps.is).1.low

pub returns-in-Jumps : goal.returns-in-Jumps
returns-in-Jumps g c =
    let asked = c.args.asked.now in
    found_as g.K.Coeff.field c.args.names.now.env.now (values_kept c.args.names.now.lets.items) asked (questions.Jumps c.in-Jumps.f c.in-Jumps.e) c.in-Jumps.is c.jumps.result
    (found_jumps g.K.Coeff.field asked.order (polynomial_at c.args.names.now.env.now c.in-Jumps.f) c.in-Jumps.e asked.budget c.jumps.result c.jumps.ensures.answer c.jumps.ensures.certificates c.jumps.ensures.hold c.jumps.ensures.stop)

pub threshold-requires-clause-named : goal.threshold-requires-clause-named
threshold-requires-clause-named g c = (threshold_question c.args.names.now.env.now c.args.asked.now c.in-Threshold.f c.in-Threshold.j c.in-Threshold.e c.requires.session c.in-Threshold.is).0

pub threshold-requires-clause-ideal : goal.threshold-requires-clause-ideal
threshold-requires-clause-ideal g c =
    let q = questions.Threshold c.in-Threshold.f c.in-Threshold.j c.in-Threshold.e in
    second_at_hand c.args.names.now (question.asked c.args.asked.now c.requires.session refl) c.requires.at_hand q c.in-Threshold.is c.in-Threshold.f c.in-Threshold.j refl (sound_as c.args.names.now.env.now (question.asked c.args.asked.now c.requires.session refl) q c.in-Threshold.is).1

pub threshold-requires-clause-positive : goal.threshold-requires-clause-positive
threshold-requires-clause-positive g c = (threshold_question c.args.names.now.env.now c.args.asked.now c.in-Threshold.f c.in-Threshold.j c.in-Threshold.e c.requires.session c.in-Threshold.is).2.positive

pub threshold-requires-clause-small : goal.threshold-requires-clause-small
threshold-requires-clause-small g c = small_level c.in-Threshold.e (g.met.K.Coeff.characteristic_is ∙ ap (λ (F : Field). F.characteristic) c.requires.field) (threshold_question c.args.names.now.env.now c.args.asked.now c.in-Threshold.f c.in-Threshold.j c.in-Threshold.e c.requires.session c.in-Threshold.is).2.low

pub returns-in-Threshold : goal.returns-in-Threshold
returns-in-Threshold g c =
    let F = g.K.Coeff.field in
    let asked = c.args.asked.now in
    let e = c.in-Threshold.e in
    let f = polynomial_at c.args.names.now.env.now c.in-Threshold.f in
    let J = standing_in c.args.names.now c.in-Threshold.j in
    found_as F c.args.names.now.env.now (values_kept c.args.names.now.lets.items) asked (questions.Threshold c.in-Threshold.f c.in-Threshold.j e) c.in-Threshold.is c.alone-in-Threshold.result
    (found_threshold (IsThresholdAnswer F e f J.list) F (RunFor Grevlex (IsListOfThreshold F e f J)) (IsHighInThreshold F e f J.list) asked.order asked.budget c.threshold.result c.alone-in-Threshold.result c.alone-in-Threshold.ensures c.threshold.ensures.answer c.threshold.ensures.stop)

pub threshold_at-requires-clause-named : goal.threshold_at-requires-clause-named
threshold_at-requires-clause-named g c = (threshold_at_question c.args.names.now.env.now c.args.asked.now c.in-ThresholdAt.f c.in-ThresholdAt.at c.in-ThresholdAt.e c.requires.session c.in-ThresholdAt.is).0

pub threshold_at-requires-clause-point : goal.threshold_at-requires-clause-point
threshold_at-requires-clause-point g c = (threshold_at_question c.args.names.now.env.now c.args.asked.now c.in-ThresholdAt.f c.in-ThresholdAt.at c.in-ThresholdAt.e c.requires.session c.in-ThresholdAt.is).1

pub threshold_at-requires-clause-positive : goal.threshold_at-requires-clause-positive
threshold_at-requires-clause-positive g c = (threshold_at_question c.args.names.now.env.now c.args.asked.now c.in-ThresholdAt.f c.in-ThresholdAt.at c.in-ThresholdAt.e c.requires.session c.in-ThresholdAt.is).2.positive

pub threshold_at-requires-clause-small : goal.threshold_at-requires-clause-small
threshold_at-requires-clause-small g c = small_level c.in-ThresholdAt.e (g.met.K.Coeff.characteristic_is ∙ ap (λ (F : Field). F.characteristic) c.requires.field) (threshold_at_question c.args.names.now.env.now c.args.asked.now c.in-ThresholdAt.f c.in-ThresholdAt.at c.in-ThresholdAt.e c.requires.session c.in-ThresholdAt.is).2.low

pub returns-in-ThresholdAt : goal.returns-in-ThresholdAt
returns-in-ThresholdAt g c =
    let F = g.K.Coeff.field in
    let asked = c.args.asked.now in
    let e = c.in-ThresholdAt.e in
    let f = polynomial_at c.args.names.now.env.now c.in-ThresholdAt.f in
    let n = length c.args.names.now.env.now.vars in
    let P = point_at c.args.names.now.env.now c.in-ThresholdAt.at in
    found_as F c.args.names.now.env.now (values_kept c.args.names.now.lets.items) asked (questions.ThresholdAt c.in-ThresholdAt.f c.in-ThresholdAt.at e) c.in-ThresholdAt.is c.alone-in-ThresholdAt.result
    (found_threshold (IsPointAnswer F e f n P) F (RunFor Grevlex (IsPointThresholdList F e f n P)) (IsHighInPointThreshold F e f n P) asked.order asked.budget c.threshold_at.result c.alone-in-ThresholdAt.result c.alone-in-ThresholdAt.ensures c.threshold_at.ensures.answer c.threshold_at.ensures.stop)

pub root_with_parts-requires-clause-small : goal.root_with_parts-requires-clause-small
root_with_parts-requires-clause-small g c = (root_question c.args.names.now.env.now c.args.asked.now c.in-Root.e c.in-Root.j c.requires.session c.in-Root.is).0

pub root_with_parts-requires-clause-named : goal.root_with_parts-requires-clause-named
root_with_parts-requires-clause-named g c =
    let q = questions.Root c.in-Root.e c.in-Root.j in
    first_at_hand c.args.names.now (question.asked c.args.asked.now c.requires.session refl) c.requires.at_hand q c.in-Root.is c.in-Root.j [] refl (sound_as c.args.names.now.env.now (question.asked c.args.asked.now c.requires.session refl) q c.in-Root.is).1
