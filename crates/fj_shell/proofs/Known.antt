-- What is known of the values and the questions of an accepted session.
use Rattle.std.proofs.Common.{◌≡◌, ◌≢◌, ℕ, ◌≤◌, ◌^◌, Bool, true, false, List, length, All, Contains, Option, option_map, Some, None, refl, sym, ap, ◌∙◌, subst, arith, inl, inr, ◌⊎◌}
use Rattle.std.specs.List.{slice_get}
use Rattle.std.proofs.lemmas.List.Elements.{All-contains, All-weaker}
use Rattle.std.proofs.lemmas.Option.{get_or_from_slice_get, none-some, same_Some, slice_get-map, slice_get_within}
use Rattle.fj_algebra.proofs.Lists.{All-map_back}
use Rattle.fj_coeff.specs.Field.{primes}
use Rattle.fj_theory.specs.Exponents.{total}
use Rattle.fj_theory.specs.Fraction.{Fraction}
use Rattle.fj_theory.specs.Plain.{HasRanksBelow, PlainPolynomial, polynomial}
use Rattle.fj_theory.specs.PointIdeal.{UsesFirst}
use Rattle.fj_plain.specs.declared.order_name.OrderName.TheVariants as orders
use Rattle.fj_text.proofs.FirstVariables.{uses_first}
use Rattle.fj_script.specs.declared.question.Asked.{Asked}
use Rattle.fj_script.specs.declared.question.Question.{Question}
use Rattle.fj_script.specs.declared.question.Question.TheVariants as questions
use Rattle.fj_script.specs.declared.script.Env.{Env}
use Rattle.fj_script.specs.declared.value.Value as held
use Rattle.fj_script.specs.declared.value.Value.TheVariants as values
use Rattle.fj_script.specs.Seen.{seen, seen_values}
use Rattle.fj_script.specs.Session.{Terms, Value, Poly, Ideal, Point, Let, is_nonconstant}
use Rattle.fj_script.proofs.Accepted.{accepted_sound}
use Rattle.fj_script.proofs.AcceptedArguments.{IsExponent, IsLevel, IsSoundQuestion, NamesIdeal, NamesNonconstant, NamesPoint, NamesPoly, is_ideal, is_nonconstant_poly, is_point, is_poly}
use Rattle.fj_script.proofs.AcceptedDeclarations.{AreAboutEarlier, AreSound, IsSoundAsked, IsSoundValue}
use Rattle.fj_shell.specs.Asked as stated
use Rattle.fj_shell.specs.Asked.{AreOfOneSession, IsDeclaredIdealAt, IsIdealAt, IsNonconstantAt, IsOfSession, IsPartsQuestion, IsPointAt, IsPolyAt}
use Rattle.fj_shell.proofs.Nonconstant.{has_small_degree}

-- The values of a ring are over GF(p), in its variables.
abbrev pub AreSoundValues : Env → Type 0
AreSoundValues env = All (λ v. IsSoundValue env.p (length env.vars) v.1) (seen_values env.values)

-- What is known of the ring with its values.
pub record IsKnownRing (env : Env) : Type 0 where
  pub prime : Contains primes env.p
  pub values : AreSoundValues env
  pub earlier : AreAboutEarlier env.p (seen_values env.values)

pub ring_known : (env : Env) → IsOfSession env → IsKnownRing env
ring_known env one =
    let S = one.accepted.0 in
    let H = accepted_sound one.bytes S one.accepted.1 in
    let held = one.accepted.2 in
    let p : S.prime ≡ env.p = sym (ap (λ v. v.p) one.env_there ∙ held.prime) in
    let n : length S.variables ≡ length env.vars = sym (ap (λ v. length v.vars) one.env_there ∙ ap length held.variables) in
    let there : S.values ≡ seen_values env.values = sym (ap (λ v. seen_values v.values) one.env_there ∙ held.values) in
    record {
      prime = subst (Contains primes) p H.prime;
      values = subst (All (λ v. IsSoundValue env.p (length env.vars) v.1)) there (subst (λ m. All (λ v. IsSoundValue env.p m v.1) S.values) n (subst (λ q. All (λ v. IsSoundValue q (length S.variables) v.1) S.values) p H.values));
      earlier = subst (AreAboutEarlier env.p) there (subst (λ q. AreAboutEarlier q S.values) p H.earlier);
    }

pub session_of : (env : Env) (asked : Asked) → AreOfOneSession env asked → IsOfSession env
session_of env asked one = record { bytes = one.bytes; script = one.script; accepted = one.accepted; env_there = one.env_there }

-- What is known of a question that is asked.
asked_known : (env : Env) (asked : Asked) → AreOfOneSession env asked → IsSoundAsked env.p (seen_values env.values) asked
asked_known env asked one =
    let S = one.accepted.0 in
    let H = accepted_sound one.bytes S one.accepted.1 in
    let held = one.accepted.2 in
    let p : S.prime ≡ env.p = sym (ap (λ v. v.p) one.env_there ∙ held.prime) in
    let there : S.values ≡ seen_values env.values = sym (ap (λ v. seen_values v.values) one.env_there ∙ held.values) in
    let here : IsSoundAsked S.prime S.values asked = All-contains (IsSoundAsked S.prime S.values) S.asked asked H.asked (subst (λ l. Contains l asked) held.questions one.asked_there) in
    subst (λ vs. IsSoundAsked env.p vs asked) there (subst (λ q. IsSoundAsked q S.values asked) p here)

contains_at : {X : Type 0} (xs : List X) (i : ℕ) (x : X) → slice_get xs i ≡ Some x → Contains xs x
contains_at xs i x e = (i, slice_get_within xs i x e, get_or_from_slice_get xs i x x e)

-- Terms that are sound.
module _ (p n : ℕ) where
  ranks_below : (f : PlainPolynomial) → AreSound p n f.terms → HasRanksBelow p f
  ranks_below f h = record { below = h.ranks }

  totals_low : (f : PlainPolynomial) → AreSound p n f.terms → All (λ t. total t.0 ≤ 2 ^ 40) f.terms
  totals_low f h = All-weaker (λ t. total t.0 ≤ 1000) (λ t. total t.0 ≤ 2 ^ 40) (λ t k. omega (arith, k)) f.terms h.low

  in_variables : (f : PlainPolynomial) → AreSound p n f.terms → UsesFirst n (polynomial f)
  in_variables f h = uses_first n f.terms h.first

module _ (env : Env) (place : ℕ) where
  -- The value behind a value that is seen.
  behind : (name : List ℕ) (value : Value) → slice_get (seen_values env.values) place ≡ Some (name, value) → (v : held.Value) × (slice_get env.values place ≡ Some (name, v)) × (value ≡ seen v)
  behind name value e = by (slice_get env.values place) refl (sym (slice_get-map (λ v. (v.0, seen v.1)) env.values place) ∙ e)
    where
      by : (o : Option (List ℕ × held.Value)) → slice_get env.values place ≡ o → option_map {U = List ℕ × Value} (λ v. (v.0, seen v.1)) o ≡ Some (name, value)
          → (v : held.Value) × (slice_get env.values place ≡ Some (name, v)) × (value ≡ seen v)
      by None e h = absurd (none-some _ h)
      by (Some (n, v)) e h = let same = same_Some _ _ h in (v, e ∙ ap (λ x. Some (x.0, v)) same, sym (ap (λ x. x.1) same))

  module _ (all : AreSoundValues env) where
    pub sound_at : (name : List ℕ) (value : Value) → slice_get (seen_values env.values) place ≡ Some (name, value) → IsSoundValue env.p (length env.vars) value
    sound_at name value e = All-contains (λ v. IsSoundValue env.p (length env.vars) v.1) (seen_values env.values) (name, value) all (contains_at (seen_values env.values) place (name, value) e)

    pub poly_at : NamesPoly (seen_values env.values) place → IsPolyAt env place
    poly_at h =
        let b = behind h.name h.value h.is in
        let shape = is_poly h.value h.fits in
        by b.0 shape.0 b.1 (sym b.2 ∙ shape.1) (subst (IsSoundValue env.p (length env.vars)) b.2 (sound_at h.name h.value h.is))
      where
        by : (v : held.Value) (ts : Terms) → slice_get env.values place ≡ Some (h.name, v) → seen v ≡ Poly ts → IsSoundValue env.p (length env.vars) (seen v) → IsPolyAt env place
        by (values.Poly f) ts e is sound = record {
          name = h.name;
          f = f;
          stands = e;
          ranks = ranks_below env.p (length env.vars) f sound;
          low = totals_low env.p (length env.vars) f sound;
          variables = in_variables env.p (length env.vars) f sound;
        }
        by (values.Ideal fs) ts e is sound = absurd cc
        by (values.Point cs) ts e is sound = absurd cc
        by (values.Let b q) ts e is sound = absurd cc

    pub nonconstant_at : Contains primes env.p → NamesNonconstant (seen_values env.values) place → IsNonconstantAt env place
    nonconstant_at prime h =
        let b = behind h.name h.value h.is in
        let shape = is_nonconstant_poly h.value h.fits in
        by b.0 shape.0 b.1 (sym b.2 ∙ shape.1) shape.2 (subst (IsSoundValue env.p (length env.vars)) b.2 (sound_at h.name h.value h.is))
      where
        by : (v : held.Value) (ts : Terms) → slice_get env.values place ≡ Some (h.name, v) → seen v ≡ Poly ts → is_nonconstant ts ≡ true → IsSoundValue env.p (length env.vars) (seen v) → IsNonconstantAt env place
        by (values.Poly f) ts e is some sound =
            let same : f.terms ≡ ts = cc in
            let ranks = ranks_below env.p (length env.vars) f sound in
            let found = has_small_degree prime f ranks sound.low (subst (λ us. is_nonconstant us ≡ true) (sym same) some) in
            record {
              poly = record { name = h.name; f = f; stands = e; ranks = ranks; low = totals_low env.p (length env.vars) f sound; variables = in_variables env.p (length env.vars) f sound };
              total = found.total;
              has_degree = found.has_degree;
              nonconstant = found.nonconstant;
              bounded = found.bounded;
            }
        by (values.Ideal fs) ts e is some sound = absurd cc
        by (values.Point cs) ts e is some sound = absurd cc
        by (values.Let b q) ts e is some sound = absurd cc

    declared_ideal_at : (name : List ℕ) (v : held.Value) (gs : List Terms) → slice_get env.values place ≡ Some (name, v) → seen v ≡ Ideal gs → IsSoundValue env.p (length env.vars) (seen v) → IsDeclaredIdealAt env place
    declared_ideal_at name (values.Poly f) gs e is sound = absurd cc
    declared_ideal_at name (values.Ideal fs) gs e is sound =
        let each = All-map_back (AreSound env.p (length env.vars)) (λ f. f.terms) fs sound in
        let weaker : (P : PlainPolynomial → Type 0) → ((f : PlainPolynomial) → AreSound env.p (length env.vars) f.terms → P f) → All P fs = λ P k. All-weaker (λ f. AreSound env.p (length env.vars) f.terms) P k fs each in
        record {
          name = name;
          gens = fs;
          stands = e;
          ranks = weaker (HasRanksBelow env.p) (ranks_below env.p (length env.vars));
          low = weaker (λ f. All (λ t. total t.0 ≤ 2 ^ 40) f.terms) (totals_low env.p (length env.vars));
          variables = weaker (λ f. UsesFirst (length env.vars) (polynomial f)) (in_variables env.p (length env.vars));
        }
    declared_ideal_at name (values.Point cs) gs e is sound = absurd cc
    declared_ideal_at name (values.Let b q) gs e is sound = absurd cc

    pub ideal_at : IsOfSession env → NamesIdeal (seen_values env.values) place → IsIdealAt env place
    ideal_at session h =
        let b = behind h.name h.value h.is in
        by (is_ideal h.value h.fits) b.0 b.1 b.2 (subst (IsSoundValue env.p (length env.vars)) b.2 (sound_at h.name h.value h.is))
      where
        named : (v : held.Value) (budget : ℕ) (q : Question) → slice_get env.values place ≡ Some (h.name, v) → seen v ≡ Let budget q → IsIdealAt env place
        named (values.Poly f) budget q e is = absurd cc
        named (values.Ideal fs) budget q e is = absurd cc
        named (values.Point cs) budget q e is = absurd cc
        named (values.Let b question) budget q e is = stated.answered (record { session = session; name = h.name; budget = b; question = question; stands = e })

        by : ((gs : List Terms) × (h.value ≡ Ideal gs)) ⊎ ((budget : ℕ) × (q : Question) × (h.value ≡ Let budget q)) → (v : held.Value) → slice_get env.values place ≡ Some (h.name, v) → h.value ≡ seen v → IsSoundValue env.p (length env.vars) (seen v) → IsIdealAt env place
        by (inl (gs, is)) v e same sound = stated.declared (declared_ideal_at h.name v gs e (sym same ∙ is) sound)
        by (inr (budget, q, is)) v e same sound = named v budget q e (sym same ∙ is)

    pub point_at : NamesPoint (seen_values env.values) place → IsPointAt env place
    point_at h =
        let b = behind h.name h.value h.is in
        let shape = is_point h.value h.fits in
        by b.0 shape.0 b.1 (sym b.2 ∙ shape.1) (subst (IsSoundValue env.p (length env.vars)) b.2 (sound_at h.name h.value h.is))
      where
        by : (v : held.Value) (cs : List ℕ) → slice_get env.values place ≡ Some (h.name, v) → seen v ≡ Point cs → IsSoundValue env.p (length env.vars) (seen v) → IsPointAt env place
        by (values.Poly f) cs e is sound = absurd cc
        by (values.Ideal fs) cs e is sound = absurd cc
        by (values.Point ds) cs e is sound = record { name = h.name; coordinates = ds; stands = e; below = sound.1; long = sound.0 }
        by (values.Let b q) cs e is sound = absurd cc

pub prime_known : (env : Env) (asked : Asked) → AreOfOneSession env asked → Contains primes env.p
prime_known env asked one = (ring_known env (session_of env asked one)).prime

pub budget_known : (env : Env) (asked : Asked) → AreOfOneSession env asked → (1 ≤ asked.budget) × (asked.budget ≤ 10000000)
budget_known env asked one = let printing = (asked_known env asked one).printing in (printing.positive, printing.low)

-- No statement names the elimination order.
pub order_known : (env : Env) (asked : Asked) → AreOfOneSession env asked → asked.order ≢ orders.Elim
order_known env asked one = (asked_known env asked one).printing.named

pub values_known : (env : Env) (asked : Asked) → AreOfOneSession env asked → AreSoundValues env
values_known env asked one = (ring_known env (session_of env asked one)).values

pub question_known : (env : Env) (asked : Asked) (q : Question) → AreOfOneSession env asked → asked.question ≡ q → IsSoundQuestion env.p (seen_values env.values) q
question_known env asked q one is = subst (IsSoundQuestion env.p (seen_values env.values)) is (asked_known env asked one).question

pub parts_question : (env : Env) (asked : Asked) (e place : ℕ) → AreOfOneSession env asked → asked.question ≡ questions.Parts e place → IsPartsQuestion env e place
parts_question env asked e place one is =
    let q = question_known env asked (questions.Parts e place) one is in
    let K = ring_known env (session_of env asked one) in
    record { prime = K.prime; small = q.0; poly = poly_at env place K.values q.1 }

pub basis_question : (env : Env) (asked : Asked) (j : ℕ) → AreOfOneSession env asked → asked.question ≡ questions.Basis j → IsIdealAt env j
basis_question env asked j one is = ideal_at env j (values_known env asked one) (session_of env asked one) (question_known env asked (questions.Basis j) one is)

pub member_question : (env : Env) (asked : Asked) (f j : ℕ) → AreOfOneSession env asked → asked.question ≡ questions.Member f j → IsPolyAt env f × IsIdealAt env j
member_question env asked f j one is =
    let q = question_known env asked (questions.Member f j) one is in
    let vs = values_known env asked one in
    (poly_at env f vs q.0, ideal_at env j vs (session_of env asked one) q.1)

-- Two ideals.
pub both_at : (env : Env) (j k : ℕ) → AreSoundValues env → IsOfSession env → NamesIdeal (seen_values env.values) j × NamesIdeal (seen_values env.values) k → IsIdealAt env j × IsIdealAt env k
both_at env j k vs session h = (ideal_at env j vs session h.0, ideal_at env k vs session h.1)

pub same_question : (env : Env) (asked : Asked) (j k : ℕ) → AreOfOneSession env asked → asked.question ≡ questions.Same j k → IsIdealAt env j × IsIdealAt env k
same_question env asked j k one is = both_at env j k (values_known env asked one) (session_of env asked one) (question_known env asked (questions.Same j k) one is)

pub sum_question : (env : Env) (asked : Asked) (j k : ℕ) → AreOfOneSession env asked → asked.question ≡ questions.Sum j k → IsIdealAt env j × IsIdealAt env k
sum_question env asked j k one is = both_at env j k (values_known env asked one) (session_of env asked one) (question_known env asked (questions.Sum j k) one is)

pub product_question : (env : Env) (asked : Asked) (j k : ℕ) → AreOfOneSession env asked → asked.question ≡ questions.Product j k → IsIdealAt env j × IsIdealAt env k
product_question env asked j k one is = both_at env j k (values_known env asked one) (session_of env asked one) (question_known env asked (questions.Product j k) one is)

pub meet_question : (env : Env) (asked : Asked) (j k : ℕ) → AreOfOneSession env asked → asked.question ≡ questions.Meet j k → IsIdealAt env j × IsIdealAt env k
meet_question env asked j k one is = both_at env j k (values_known env asked one) (session_of env asked one) (question_known env asked (questions.Meet j k) one is)

pub colon_question : (env : Env) (asked : Asked) (j k : ℕ) → AreOfOneSession env asked → asked.question ≡ questions.Colon j k → IsIdealAt env j × IsIdealAt env k
colon_question env asked j k one is = both_at env j k (values_known env asked one) (session_of env asked one) (question_known env asked (questions.Colon j k) one is)

-- A polynomial that isn't constant, and an exponent.
exponent_at : (env : Env) (asked : Asked) (positive : Bool) (f : ℕ) (t : Fraction) → AreOfOneSession env asked → NamesNonconstant (seen_values env.values) f × IsExponent positive t
    → IsNonconstantAt env f × IsExponent positive t
exponent_at env asked positive f t one h = (nonconstant_at env f (values_known env asked one) (prime_known env asked one) h.0, h.1)

pub test_question : (env : Env) (asked : Asked) (f : ℕ) (t : Fraction) → AreOfOneSession env asked → asked.question ≡ questions.Test f t → IsNonconstantAt env f × IsExponent false t
test_question env asked f t one is = exponent_at env asked false f t one (question_known env asked (questions.Test f t) one is)

pub left_question : (env : Env) (asked : Asked) (f : ℕ) (t : Fraction) → AreOfOneSession env asked → asked.question ≡ questions.Left f t → IsNonconstantAt env f × IsExponent true t
left_question env asked f t one is = exponent_at env asked true f t one (question_known env asked (questions.Left f t) one is)

pub is_jump_question : (env : Env) (asked : Asked) (f : ℕ) (t : Fraction) → AreOfOneSession env asked → asked.question ≡ questions.IsJump f t → IsNonconstantAt env f × IsExponent true t
is_jump_question env asked f t one is = exponent_at env asked true f t one (question_known env asked (questions.IsJump f t) one is)

pub regular_question : (env : Env) (asked : Asked) (f : ℕ) (t : Fraction) → AreOfOneSession env asked → asked.question ≡ questions.Regular f t → IsNonconstantAt env f × IsExponent false t
regular_question env asked f t one is = exponent_at env asked false f t one (question_known env asked (questions.Regular f t) one is)

pub nu_question : (env : Env) (asked : Asked) (e f j : ℕ) → AreOfOneSession env asked → asked.question ≡ questions.Nu e f j → (e ≤ 12) × IsNonconstantAt env f × IsIdealAt env j
nu_question env asked e f j one is =
    let known = question_known env asked (questions.Nu e f j) one is in
    (known.0, nonconstant_at env f (values_known env asked one) (prime_known env asked one) known.1, ideal_at env j (values_known env asked one) (session_of env asked one) known.2)

-- A polynomial that isn't constant, and an E.
pub jumps_question : (env : Env) (asked : Asked) (f e : ℕ) → AreOfOneSession env asked → asked.question ≡ questions.Jumps f e → IsNonconstantAt env f × IsLevel env.p e
jumps_question env asked f e one is =
    let known = question_known env asked (questions.Jumps f e) one is in
    (nonconstant_at env f (values_known env asked one) (prime_known env asked one) known.0, known.1)

pub threshold_question : (env : Env) (asked : Asked) (f j e : ℕ) → AreOfOneSession env asked → asked.question ≡ questions.Threshold f j e → IsNonconstantAt env f × IsIdealAt env j × IsLevel env.p e
threshold_question env asked f j e one is =
    let known = question_known env asked (questions.Threshold f j e) one is in
    let vs = values_known env asked one in
    (nonconstant_at env f vs (prime_known env asked one) known.0, ideal_at env j vs (session_of env asked one) known.1, known.2)

pub threshold_at_question : (env : Env) (asked : Asked) (f at e : ℕ) → AreOfOneSession env asked → asked.question ≡ questions.ThresholdAt f at e → IsNonconstantAt env f × IsPointAt env at × IsLevel env.p e
threshold_at_question env asked f at e one is =
    let known = question_known env asked (questions.ThresholdAt f at e) one is in
    let vs = values_known env asked one in
    (nonconstant_at env f vs (prime_known env asked one) known.0, point_at env at vs known.1, known.2)

-- An e and an ideal.
pub small_at : (env : Env) (e j : ℕ) → AreSoundValues env → IsOfSession env → (e ≤ 12) × NamesIdeal (seen_values env.values) j → (e ≤ 12) × IsIdealAt env j
small_at env e j vs session h = (h.0, ideal_at env j vs session h.1)

pub power_question : (env : Env) (asked : Asked) (e j : ℕ) → AreOfOneSession env asked → asked.question ≡ questions.Power e j → (e ≤ 12) × IsIdealAt env j
power_question env asked e j one is = small_at env e j (values_known env asked one) (session_of env asked one) (question_known env asked (questions.Power e j) one is)

pub root_question : (env : Env) (asked : Asked) (e j : ℕ) → AreOfOneSession env asked → asked.question ≡ questions.Root e j → (e ≤ 12) × IsIdealAt env j
root_question env asked e j one is = small_at env e j (values_known env asked one) (session_of env asked one) (question_known env asked (questions.Root e j) one is)

pub pure_question : (env : Env) (asked : Asked) (j : ℕ) → AreOfOneSession env asked → asked.question ≡ questions.Pure j → IsIdealAt env j
pure_question env asked j one is = ideal_at env j (values_known env asked one) (session_of env asked one) (question_known env asked (questions.Pure j) one is)

pub pure_at_question : (env : Env) (asked : Asked) (j at : ℕ) → AreOfOneSession env asked → asked.question ≡ questions.PureAt j at → IsIdealAt env j × IsPointAt env at
pure_at_question env asked j at one is =
    let q = question_known env asked (questions.PureAt j at) one is in
    let vs = values_known env asked one in
    (ideal_at env j vs (session_of env asked one) q.0, point_at env at vs q.1)

pub split_question : (env : Env) (asked : Asked) (j : ℕ) → AreOfOneSession env asked → asked.question ≡ questions.Split j → IsIdealAt env j
split_question env asked j one is = ideal_at env j (values_known env asked one) (session_of env asked one) (question_known env asked (questions.Split j) one is)

pub compatible_question : (env : Env) (asked : Asked) (e u j : ℕ) → AreOfOneSession env asked → asked.question ≡ questions.Compatible e u j → (e ≤ 12) × IsPolyAt env u × IsIdealAt env j
compatible_question env asked e u j one is =
    let q = question_known env asked (questions.Compatible e u j) one is in
    let vs = values_known env asked one in
    (q.0, poly_at env u vs q.1, ideal_at env j vs (session_of env asked one) q.2)
