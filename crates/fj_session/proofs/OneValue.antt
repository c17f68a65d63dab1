-- The value of one let.
use Rattle.std.proofs.Common.{◌≡◌, ◌∙◌, ℕ, List, Option, Some, All, Contains, length, sym, ap, subst, refl}
use Rattle.std.proofs.lemmas.List.Elements.{All-contains}
use Rattle.fj_algebra.proofs.Pairs.{All-from_elements}
use Rattle.fj_coeff.specs.Field.{Field, IsField, primes}
use Rattle.fj_coeff.specs.PrimeField.{prime_field}
use Rattle.fj_theory.specs.Ideal.{ArePolynomials}
use Rattle.fj_theory.specs.MonomialOrder.{grevlex_key}
use Rattle.fj_theory.specs.PointIdeal.{UsesFirst}
use Rattle.fj_theory.specs.Polynomial.{Polynomial}
use Rattle.fj_theory.proofs.Keys.{grevlex_key-IsMonomialOrder}
use Rattle.fj_groebner.specs.ReducedBasis.{IsReducedBasis}
use Rattle.fj_plain.specs.declared.order_name.OrderName.TheVariants.{Grevlex}
use Rattle.fj_ideal.specs.Ideal.{IsIdeal, WithBasis, of_itself}
use Rattle.fj_script.specs.declared.question.Question.{Question}
use Rattle.fj_shell.specs.Asked.{IsIdealAt, IsLetAt}
use Rattle.fj_shell.specs.Named.{places_in}
use Rattle.fj_shell.proofs.Known.{ring_known}
use Rattle.fj_session.specs.Names.{AreAtHand, IsAtHand, IsKept, standing_in, values_kept}
use Rattle.fj_session.specs.Names as hand
use Rattle.fj_session.specs.Outcome.{IsIdealFor}
use Rattle.fj_session.specs.Standing.{IsStated}
use Rattle.fj_session.specs.Statement.{meaning_of}
use Rattle.fj_session.specs.Used.{IsValueOf}
use Rattle.fj_session.specs.declared.names.Names.{Names}
use Rattle.fj_session.proofs.AnswerVariables.{IsFitting, basis_fits, declared_fits}
use Rattle.fj_session.proofs.Printed.{basis_of_asked}
use Rattle.fj_session.proofs.Standings.{at_hand, standing_kept, standing_of_declared, standing_uses}
use Rattle.fj_session.proofs.Stated.{session_known, sound_known}

module _ {K : Type 0} (names : Names K) (q : Question) (stated : IsStated names.env.now q) where
  prime : Contains primes names.env.now.p
  prime = (ring_known names.env.now (session_known names.env.now q stated)).prime

  -- What is at hand is over the field of the ring, in its variables.
  fits : {j : ℕ} → IsAtHand (prime_field names.env.now.p) names j → IsFitting names.env.now (standing_in names j).list
  fits {j} (hand.declared D) = subst (λ S. IsFitting names.env.now S.list) (sym (standing_of_declared names D)) (declared_fits names.env.now prime D)
  fits {j} (hand.kept h) = record { are = subst (λ L. ArePolynomials (prime_field names.env.now.p) L) (sym (standing_kept names h)) h.value.ideal.polynomials; uses = standing_uses names (hand.kept h) }

  named_fit : AreAtHand (prime_field names.env.now.p) names q → All (λ j. IsIdealAt names.env.now j → IsFitting names.env.now (standing_in names j).list) (places_in q)
  named_fit keeps =
      All-from_elements (λ j. IsIdealAt names.env.now j → IsFitting names.env.now (standing_in names j).list) (places_in q)
      (λ j there named. fits (at_hand names j named (All-contains (λ i. IsLetAt names.env.now i → IsKept (prime_field names.env.now.p) names i) (places_in q) j keeps there)))

  -- So is the reduced basis of the ideal that the question asks for.
  value_uses : {F : Field} → F ≡ prime_field names.env.now.p → AreAtHand F names q → (M G : List Polynomial) → (meaning_of F names.env.now (values_kept names.lets.items) Grevlex q).ideal M → IsReducedBasis F grevlex_key M G
      → All (UsesFirst (length names.env.now.vars)) G
  value_uses is =
      subst (λ (E : Field). AreAtHand E names q → (M G : List Polynomial) → (meaning_of E names.env.now (values_kept names.lets.items) Grevlex q).ideal M → IsReducedBasis E grevlex_key M G → All (UsesFirst (length names.env.now.vars)) G) (sym is)
      (λ keeps M G asked B. (basis_fits names.env.now prime grevlex_key-IsMonomialOrder (session_known names.env.now q stated) (values_kept names.lets.items) Grevlex q (sound_known names.env.now q stated) (named_fit keeps) asked B).uses)

  -- The ideal that the question asks for, as that of its reduced basis, is the value of a let with this question.
  pub value_of_question : {F : Field} (L : IsField F) → F ≡ prime_field names.env.now.p → AreAtHand F names q → {I J : WithBasis}
      → IsIdealFor F (meaning_of F names.env.now (values_kept names.lets.items) Grevlex q).ideal (meaning_of F names.env.now (values_kept names.lets.items) Grevlex q).last I → J ≡ of_itself I.members → IsIdeal F J
      → IsValueOf F names q (Some J)
  value_of_question {F} L over keeps {I} {J} found is ideal =
      let given : J.given ≡ I.members = ap (λ x. x.given) is in
      let B = basis_of_asked L found grevlex_key-IsMonomialOrder found.is_ideal.reduced in
      record {
        J = J;
        is = refl;
        value = record { ideal = ideal; own = ap (λ x. x.members) is ∙ sym given; uses = subst (All (UsesFirst (length names.env.now.vars))) (sym given) (value_uses over keeps found.ideal I.members found.asked B) };
        of_question = record { ideal = found.ideal; asked = found.asked; reduced = subst (IsReducedBasis F grevlex_key found.ideal) (sym given) B };
      }
