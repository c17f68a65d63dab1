use Rattle.std.proofs.Common.{◌≡◌, ◌∷◌, [], refl, sym}
use Rattle.std.proofs.lemmas.Result.{IfOk-weaker}
use Rattle.fj_script.specs.declared.question.Question.TheVariants as questions
use Rattle.fj_session.specs.Names.{standing_in, values_kept}
use Rattle.fj_session.specs.Outcome.{IsIdealFor}
use Rattle.fj_session.proofs.Printed.{declared_for}
use Rattle.fj_ideal.specs.Ideal.{IsIdealOf}
use Rattle.fj_session.proofs.AskedIdeal.{asked_as, from_own, stops_as}
use Rattle.fj_session.proofs.Stated.{first_at_hand, nonconstant_as, second_at_hand, sound_as}
use Rattle.fj_session.proofs.asked.asked_ideal.Goals as goal

pub own_ideal-requires-clause-named : goal.own_ideal-requires-clause-named
own_ideal-requires-clause-named g c =
    let q = questions.Basis c.in-Basis.j in
    first_at_hand c.args.names.now c.requires.stated c.requires.at_hand q c.in-Basis.is c.in-Basis.j [] refl (sound_as c.args.names.now.env.now c.requires.stated q c.in-Basis.is)

pub returns-in-Basis-clause-ideal : goal.returns-in-Basis-clause-ideal
returns-in-Basis-clause-ideal g c =
    asked_as g.K.Coeff.field c.args.names.now.env.now (values_kept c.args.names.now.lets.items) (questions.Basis c.in-Basis.j) c.in-Basis.is c.own_ideal.result (IfOk-weaker c.own_ideal.result (IsIdealOf g.K.Coeff.field (standing_in c.args.names.now c.in-Basis.j).list) (IsIdealFor g.K.Coeff.field (λ M. M ≡ (standing_in c.args.names.now c.in-Basis.j).list) (λ M. M ≡ (standing_in c.args.names.now c.in-Basis.j).list)) (λ I is. declared_for g.met.K.Coeff.lawful is) c.own_ideal.ensures.ideal)

pub returns-in-Basis-clause-stop : goal.returns-in-Basis-clause-stop
returns-in-Basis-clause-stop g c =
    stops_as g.K.Coeff.field c.args.names.now.env.now (values_kept c.args.names.now.lets.items) (questions.Basis c.in-Basis.j) c.in-Basis.is c.args.budget c.own_ideal.result (from_own _ _ _ _ _ c.own_ideal.result c.own_ideal.ensures.stop)

pub sum-requires-clause-first : goal.sum-requires-clause-first
sum-requires-clause-first g c =
    let q = questions.Sum c.in-Sum.j c.in-Sum.k in
    first_at_hand c.args.names.now c.requires.stated c.requires.at_hand q c.in-Sum.is c.in-Sum.j (c.in-Sum.k ∷ []) refl (sound_as c.args.names.now.env.now c.requires.stated q c.in-Sum.is).0

pub sum-requires-clause-second : goal.sum-requires-clause-second
sum-requires-clause-second g c =
    let q = questions.Sum c.in-Sum.j c.in-Sum.k in
    second_at_hand c.args.names.now c.requires.stated c.requires.at_hand q c.in-Sum.is c.in-Sum.j c.in-Sum.k refl (sound_as c.args.names.now.env.now c.requires.stated q c.in-Sum.is).1

pub returns-in-Sum-clause-ideal : goal.returns-in-Sum-clause-ideal
returns-in-Sum-clause-ideal g c =
    asked_as g.K.Coeff.field c.args.names.now.env.now (values_kept c.args.names.now.lets.items) (questions.Sum c.in-Sum.j c.in-Sum.k) c.in-Sum.is c.sum.result c.sum.ensures.ideal

pub returns-in-Sum-clause-stop : goal.returns-in-Sum-clause-stop
returns-in-Sum-clause-stop g c =
    stops_as g.K.Coeff.field c.args.names.now.env.now (values_kept c.args.names.now.lets.items) (questions.Sum c.in-Sum.j c.in-Sum.k) c.in-Sum.is c.args.budget c.sum.result (from_own _ _ _ _ _ c.sum.result c.sum.ensures.stop)

pub product-requires-clause-first : goal.product-requires-clause-first
product-requires-clause-first g c =
    let q = questions.Product c.in-Product.j c.in-Product.k in
    first_at_hand c.args.names.now c.requires.stated c.requires.at_hand q c.in-Product.is c.in-Product.j (c.in-Product.k ∷ []) refl (sound_as c.args.names.now.env.now c.requires.stated q c.in-Product.is).0

pub product-requires-clause-second : goal.product-requires-clause-second
product-requires-clause-second g c =
    let q = questions.Product c.in-Product.j c.in-Product.k in
    second_at_hand c.args.names.now c.requires.stated c.requires.at_hand q c.in-Product.is c.in-Product.j c.in-Product.k refl (sound_as c.args.names.now.env.now c.requires.stated q c.in-Product.is).1

pub returns-in-Product-clause-ideal : goal.returns-in-Product-clause-ideal
returns-in-Product-clause-ideal g c =
    asked_as g.K.Coeff.field c.args.names.now.env.now (values_kept c.args.names.now.lets.items) (questions.Product c.in-Product.j c.in-Product.k) c.in-Product.is c.product.result c.product.ensures.ideal

pub returns-in-Product-clause-stop : goal.returns-in-Product-clause-stop
returns-in-Product-clause-stop g c =
    stops_as g.K.Coeff.field c.args.names.now.env.now (values_kept c.args.names.now.lets.items) (questions.Product c.in-Product.j c.in-Product.k) c.in-Product.is c.args.budget c.product.result (from_own _ _ _ _ _ c.product.result c.product.ensures.stop)

pub meet-requires-clause-first : goal.meet-requires-clause-first
meet-requires-clause-first g c =
    let q = questions.Meet c.in-Meet.j c.in-Meet.k in
    first_at_hand c.args.names.now c.requires.stated c.requires.at_hand q c.in-Meet.is c.in-Meet.j (c.in-Meet.k ∷ []) refl (sound_as c.args.names.now.env.now c.requires.stated q c.in-Meet.is).0

pub meet-requires-clause-second : goal.meet-requires-clause-second
meet-requires-clause-second g c =
    let q = questions.Meet c.in-Meet.j c.in-Meet.k in
    second_at_hand c.args.names.now c.requires.stated c.requires.at_hand q c.in-Meet.is c.in-Meet.j c.in-Meet.k refl (sound_as c.args.names.now.env.now c.requires.stated q c.in-Meet.is).1

pub returns-in-Meet-clause-ideal : goal.returns-in-Meet-clause-ideal
returns-in-Meet-clause-ideal g c =
    asked_as g.K.Coeff.field c.args.names.now.env.now (values_kept c.args.names.now.lets.items) (questions.Meet c.in-Meet.j c.in-Meet.k) c.in-Meet.is c.meet.result c.meet.ensures.ideal

pub returns-in-Meet-clause-stop : goal.returns-in-Meet-clause-stop
returns-in-Meet-clause-stop g c =
    stops_as g.K.Coeff.field c.args.names.now.env.now (values_kept c.args.names.now.lets.items) (questions.Meet c.in-Meet.j c.in-Meet.k) c.in-Meet.is c.args.budget c.meet.result (from_own _ _ _ _ _ c.meet.result c.meet.ensures.stop)

pub colon-requires-clause-first : goal.colon-requires-clause-first
colon-requires-clause-first g c =
    let q = questions.Colon c.in-Colon.j c.in-Colon.k in
    first_at_hand c.args.names.now c.requires.stated c.requires.at_hand q c.in-Colon.is c.in-Colon.j (c.in-Colon.k ∷ []) refl (sound_as c.args.names.now.env.now c.requires.stated q c.in-Colon.is).0

pub colon-requires-clause-second : goal.colon-requires-clause-second
colon-requires-clause-second g c =
    let q = questions.Colon c.in-Colon.j c.in-Colon.k in
    second_at_hand c.args.names.now c.requires.stated c.requires.at_hand q c.in-Colon.is c.in-Colon.j c.in-Colon.k refl (sound_as c.args.names.now.env.now c.requires.stated q c.in-Colon.is).1

pub returns-in-Colon-clause-ideal : goal.returns-in-Colon-clause-ideal
returns-in-Colon-clause-ideal g c =
    asked_as g.K.Coeff.field c.args.names.now.env.now (values_kept c.args.names.now.lets.items) (questions.Colon c.in-Colon.j c.in-Colon.k) c.in-Colon.is c.colon.result c.colon.ensures.ideal

pub returns-in-Colon-clause-stop : goal.returns-in-Colon-clause-stop
returns-in-Colon-clause-stop g c =
    stops_as g.K.Coeff.field c.args.names.now.env.now (values_kept c.args.names.now.lets.items) (questions.Colon c.in-Colon.j c.in-Colon.k) c.in-Colon.is c.args.budget c.colon.result (from_own _ _ _ _ _ c.colon.result c.colon.ensures.stop)

pub power-requires-clause-small : goal.power-requires-clause-small
power-requires-clause-small g c =
    let q = questions.Power c.in-Power.e c.in-Power.j in
    (sound_as c.args.names.now.env.now c.requires.stated q c.in-Power.is).0

pub power-requires-clause-named : goal.power-requires-clause-named
power-requires-clause-named g c =
    let q = questions.Power c.in-Power.e c.in-Power.j in
    first_at_hand c.args.names.now c.requires.stated c.requires.at_hand q c.in-Power.is c.in-Power.j [] refl (sound_as c.args.names.now.env.now c.requires.stated q c.in-Power.is).1

pub returns-in-Power-clause-ideal : goal.returns-in-Power-clause-ideal
returns-in-Power-clause-ideal g c =
    asked_as g.K.Coeff.field c.args.names.now.env.now (values_kept c.args.names.now.lets.items) (questions.Power c.in-Power.e c.in-Power.j) c.in-Power.is c.power.result c.power.ensures.ideal

pub returns-in-Power-clause-stop : goal.returns-in-Power-clause-stop
returns-in-Power-clause-stop g c =
    stops_as g.K.Coeff.field c.args.names.now.env.now (values_kept c.args.names.now.lets.items) (questions.Power c.in-Power.e c.in-Power.j) c.in-Power.is c.args.budget c.power.result (from_own _ _ _ _ _ c.power.result c.power.ensures.stop)

pub root-requires-clause-small : goal.root-requires-clause-small
root-requires-clause-small g c =
    let q = questions.Root c.in-Root.e c.in-Root.j in
    (sound_as c.args.names.now.env.now c.requires.stated q c.in-Root.is).0

pub root-requires-clause-named : goal.root-requires-clause-named
root-requires-clause-named g c =
    let q = questions.Root c.in-Root.e c.in-Root.j in
    first_at_hand c.args.names.now c.requires.stated c.requires.at_hand q c.in-Root.is c.in-Root.j [] refl (sound_as c.args.names.now.env.now c.requires.stated q c.in-Root.is).1

pub returns-in-Root-clause-ideal : goal.returns-in-Root-clause-ideal
returns-in-Root-clause-ideal g c =
    asked_as g.K.Coeff.field c.args.names.now.env.now (values_kept c.args.names.now.lets.items) (questions.Root c.in-Root.e c.in-Root.j) c.in-Root.is c.root.result c.root.ensures.ideal

pub returns-in-Root-clause-stop : goal.returns-in-Root-clause-stop
returns-in-Root-clause-stop g c =
    stops_as g.K.Coeff.field c.args.names.now.env.now (values_kept c.args.names.now.lets.items) (questions.Root c.in-Root.e c.in-Root.j) c.in-Root.is c.args.budget c.root.result (from_own _ _ _ _ _ c.root.result c.root.ensures.stop)

pub test-requires-clause-named : goal.test-requires-clause-named
test-requires-clause-named g c =
    let q = questions.Test c.in-Test.f c.in-Test.t in
    nonconstant_as c.args.names.now.env.now c.requires.stated q c.in-Test.is c.in-Test.f (sound_as c.args.names.now.env.now c.requires.stated q c.in-Test.is).0

pub test-requires-clause-at_most : goal.test-requires-clause-at_most
test-requires-clause-at_most g c =
    let q = questions.Test c.in-Test.f c.in-Test.t in
    (sound_as c.args.names.now.env.now c.requires.stated q c.in-Test.is).1.low

pub returns-in-Test-clause-ideal : goal.returns-in-Test-clause-ideal
returns-in-Test-clause-ideal g c =
    asked_as g.K.Coeff.field c.args.names.now.env.now (values_kept c.args.names.now.lets.items) (questions.Test c.in-Test.f c.in-Test.t) c.in-Test.is c.test.result c.test.ensures.ideal

pub returns-in-Test-clause-stop : goal.returns-in-Test-clause-stop
returns-in-Test-clause-stop g c =
    stops_as g.K.Coeff.field c.args.names.now.env.now (values_kept c.args.names.now.lets.items) (questions.Test c.in-Test.f c.in-Test.t) c.in-Test.is c.args.budget c.test.result (from_own _ _ _ _ _ c.test.result c.test.ensures.stop)

pub left-requires-clause-named : goal.left-requires-clause-named
left-requires-clause-named g c =
    let q = questions.Left c.in-Left.f c.in-Left.t in
    nonconstant_as c.args.names.now.env.now c.requires.stated q c.in-Left.is c.in-Left.f (sound_as c.args.names.now.env.now c.requires.stated q c.in-Left.is).0

pub left-requires-clause-above_zero : goal.left-requires-clause-above_zero
left-requires-clause-above_zero g c =
    let q = questions.Left c.in-Left.f c.in-Left.t in
    (sound_as c.args.names.now.env.now c.requires.stated q c.in-Left.is).1.above refl

pub left-requires-clause-at_most : goal.left-requires-clause-at_most
left-requires-clause-at_most g c =
    let q = questions.Left c.in-Left.f c.in-Left.t in
    (sound_as c.args.names.now.env.now c.requires.stated q c.in-Left.is).1.low

pub returns-in-Left-clause-ideal : goal.returns-in-Left-clause-ideal
returns-in-Left-clause-ideal g c =
    asked_as g.K.Coeff.field c.args.names.now.env.now (values_kept c.args.names.now.lets.items) (questions.Left c.in-Left.f c.in-Left.t) c.in-Left.is c.left.result c.left.ensures.ideal

pub returns-in-Left-clause-stop : goal.returns-in-Left-clause-stop
returns-in-Left-clause-stop g c =
    stops_as g.K.Coeff.field c.args.names.now.env.now (values_kept c.args.names.now.lets.items) (questions.Left c.in-Left.f c.in-Left.t) c.in-Left.is c.args.budget c.left.result (from_own _ _ _ _ _ c.left.result c.left.ensures.stop)

pub split-requires-clause-named : goal.split-requires-clause-named
split-requires-clause-named g c =
    let q = questions.Split c.in-Split.j in
    first_at_hand c.args.names.now c.requires.stated c.requires.at_hand q c.in-Split.is c.in-Split.j [] refl (sound_as c.args.names.now.env.now c.requires.stated q c.in-Split.is)

pub returns-in-Split-clause-ideal : goal.returns-in-Split-clause-ideal
returns-in-Split-clause-ideal g c =
    asked_as g.K.Coeff.field c.args.names.now.env.now (values_kept c.args.names.now.lets.items) (questions.Split c.in-Split.j) c.in-Split.is c.split.result c.split.ensures.ideal

pub returns-in-Split-clause-stop : goal.returns-in-Split-clause-stop
returns-in-Split-clause-stop g c =
    stops_as g.K.Coeff.field c.args.names.now.env.now (values_kept c.args.names.now.lets.items) (questions.Split c.in-Split.j) c.in-Split.is c.args.budget c.split.result (from_own _ _ _ _ _ c.split.result c.split.ensures.stop)
