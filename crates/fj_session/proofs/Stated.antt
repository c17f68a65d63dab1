-- What is known of a question of an accepted session, asked or of a let.
use Rattle.std.proofs.Common.{◌≡◌, ℕ, ◌<◌, ◌≤◌, List, ◌∷◌, [], length, All, refl, sym, subst, arith}
use Rattle.std.proofs.lemmas.List.{length-map}
use Rattle.std.proofs.lemmas.List.Elements.{All-head, All-tail, All-weaker}
use Rattle.fj_coeff.specs.Field.{Field}
use Rattle.fj_script.specs.declared.question.Question.{Question}
use Rattle.fj_script.specs.declared.script.Env.{Env}
use Rattle.fj_script.specs.Seen.{seen, seen_values}
use Rattle.fj_script.specs.Session.{Value}
use Rattle.fj_script.proofs.AcceptedArguments.{IsSoundQuestion, NamesIdeal, NamesNonconstant, NamesPoint, NamesPoly}
use Rattle.fj_shell.specs.Asked.{IsIdealAt, IsLetAt, IsNonconstantAt, IsOfSession, IsPointAt, IsPolyAt}
use Rattle.fj_shell.specs.Named.{places_in}
use Rattle.fj_shell.proofs.Known.{IsKnownRing, ideal_at, nonconstant_at, point_at, poly_at, question_known, ring_known, session_of}
use Rattle.fj_shell.proofs.Lets.{places_below, question_in}
use Rattle.fj_session.specs.Names.{AreAtHand, IsAtHand, IsKept}
use Rattle.fj_session.specs.Standing.{IsStated}
use Rattle.fj_session.specs.Standing as question
use Rattle.fj_session.specs.declared.names.Names.{Names}
use Rattle.fj_session.proofs.Standings.{at_hand}

module _ (env : Env) (q : Question) where
  pub session_known : IsStated env q → IsOfSession env
  session_known (question.asked a one is) = session_of env a one
  session_known (question.named place h is) = h.session

  pub sound_known : IsStated env q → IsSoundQuestion env.p (seen_values env.values) q
  sound_known (question.asked a one is) = question_known env a q one is
  sound_known (question.named place h is) = question_in env place h q is

  -- Its names are among the declared ones.
  pub places_known : IsStated env q → All (λ j. j < length env.values) (places_in q)
  places_known h = places_below env.p (seen_values env.values) (length env.values) (let long = length-map {B = List ℕ × Value} env.values (λ v. (v.0, seen v.1)) in omega (arith, long)) q (sound_known h)

-- What a question of this form names.
module _ (env : Env) {given : Question} (stated : IsStated env given) (q : Question) (is : given ≡ q) where
  session : IsOfSession env
  session = session_known env given stated

  ring : IsKnownRing env
  ring = ring_known env session

  pub sound_as : IsSoundQuestion env.p (seen_values env.values) q
  sound_as = subst (IsSoundQuestion env.p (seen_values env.values)) is (sound_known env given stated)

  pub ideal_as : (j : ℕ) → NamesIdeal (seen_values env.values) j → IsIdealAt env j
  ideal_as j h = ideal_at env j ring.values session h

  pub poly_as : (f : ℕ) → NamesPoly (seen_values env.values) f → IsPolyAt env f
  poly_as f h = poly_at env f ring.values h

  pub nonconstant_as : (f : ℕ) → NamesNonconstant (seen_values env.values) f → IsNonconstantAt env f
  nonconstant_as f h = nonconstant_at env f ring.values ring.prime h

  pub point_as : (at : ℕ) → NamesPoint (seen_values env.values) at → IsPointAt env at
  point_as at h = point_at env at ring.values h

-- The ideals that it names are at hand.
module _ {K : Type 0} {F : Field} (names : Names K) {given : Question} (stated : IsStated names.env.now given) (hand : AreAtHand F names given) (q : Question) (is : given ≡ q) where
  keeps : AreAtHand F names q
  keeps = subst (AreAtHand F names) is hand

  abbrev IsKeptIf : ℕ → Type 0
  IsKeptIf j = IsLetAt names.env.now j → IsKept F names j

  -- The first name is that of an ideal.
  pub first_at_hand : (j : ℕ) (rest : List ℕ) → places_in q ≡ j ∷ rest → NamesIdeal (seen_values names.env.now.values) j → IsAtHand F names j
  first_at_hand j rest names_are h = at_hand names j (ideal_as names.env.now stated q is j h) (All-head IsKeptIf j rest (subst (All IsKeptIf) names_are keeps))

  -- The second one is.
  pub second_at_hand : (i j : ℕ) → places_in q ≡ i ∷ j ∷ [] → NamesIdeal (seen_values names.env.now.values) j → IsAtHand F names j
  second_at_hand i j names_are h =
      at_hand names j (ideal_as names.env.now stated q is j h) (All-head IsKeptIf j [] (All-tail IsKeptIf i (j ∷ []) (subst (All IsKeptIf) names_are keeps)))
