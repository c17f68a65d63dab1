-- What the names of ideals stand for.
use Rattle.std.proofs.Common.{◌≡◌, ℕ, List, Option, Result, Some, None, All, length, map, false, true, refl, sym, ap, subst, ◌∙◌}
use Rattle.std.specs.List.{slice_get}
use Rattle.std.proofs.lemmas.List.Elements.{All-map}
use Rattle.fj_coeff.specs.Field.{Field, IsField}
use Rattle.fj_theory.specs.MonomialOrder.{grevlex_key}
use Rattle.fj_theory.proofs.Keys.{grevlex_key-IsMonomialOrder}
use Rattle.fj_groebner.specs.ReducedBasis.{IsReducedBasis}
use Rattle.fj_groebner.proofs.ReducedBasis.{IsReducedBasis-same_ideal, IsReducedBasis_polynomials, IsReducedBasis-SameIdeal}
use Rattle.fj_plain.specs.declared.order_name.OrderName.TheVariants.{Grevlex}
use Rattle.fj_basis.specs.declared.stop.Stop.{Stop}
use Rattle.fj_ideal.specs.Lists.{NoProduct, RunFor}
use Rattle.fj_ideal.specs.Stop.{StopsExactlyWith}
use Rattle.fj_theory.specs.Plain.{polynomial}
use Rattle.fj_theory.specs.PointIdeal.{UsesFirst}
use Rattle.fj_theory.specs.Polynomial.{Polynomial}
use Rattle.fj_ideal.specs.Ideal.{IsIdeal, IsIdealOf, WithBasis}
use Rattle.fj_script.specs.declared.question.Question.{Question}
use Rattle.fj_script.specs.declared.script.Env.{Env}
use Rattle.fj_script.specs.declared.value.Value.TheVariants as values
use Rattle.fj_shell.specs.Asked.{IsDeclaredIdealAt, IsIdealAt, IsLetAt}
use Rattle.fj_shell.specs.Asked as stated
use Rattle.fj_shell.specs.Named.{polynomials}
use Rattle.fj_session.specs.Names.{IsAtHand, IsKept, ideal_of, standing_in, values_kept}
use Rattle.fj_session.specs.Names as hand
use Rattle.fj_session.specs.Outcome.{OwnStops}
use Rattle.fj_session.specs.Standing.{IsDeclaredList, Standing, Values, standing_at}
use Rattle.fj_session.proofs.OwnStops.{own_of_exactly}
use Rattle.fj_session.specs.declared.names.Names.{Names}
use Rattle.fj_session.specs.declared.names.Standing as kept

-- The ideal at hand is that of the list.
pub there : {K : Type 0} {F : Field} {L : List Polynomial} (S : kept.Standing K) {J : WithBasis} → J ≡ ideal_of S → IsIdealOf F L (ideal_of S) → IsIdealOf F L J
there {F = F} {L = L} S is h = subst (IsIdealOf F L) (sym is) h

module _ (env : Env) (V : Values) (j : ℕ) where
  pub standing_declared : (D : IsDeclaredIdealAt env j) → standing_at env V j ≡ record { list = polynomials D.gens; is_declared = true }
  standing_declared D = rw (D.stands, standing_at) refl

  pub standing_let : {name : List ℕ} {budget : ℕ} {q : Question} → slice_get env.values j ≡ Some (name, values.Let budget q) → standing_at env V j ≡ record { list = V j; is_declared = false }
  standing_let is = rw (is, standing_at) refl

-- What is kept at a place is the value there.
pub value_there : (lets : List (Option WithBasis)) (j : ℕ) {J : WithBasis} → slice_get lets j ≡ Some (Some J) → values_kept lets j ≡ J.given
value_there lets j is = rw (is, values_kept) refl

pub standing_of_declared : {K : Type 0} (names : Names K) {j : ℕ} (D : IsDeclaredIdealAt names.env.now j) → standing_in names j ≡ record { list = polynomials D.gens; is_declared = true }
standing_of_declared names {j} D = standing_declared names.env.now (values_kept names.lets.items) j D

module _ {K : Type 0} {F : Field} (names : Names K) where
  pub standing_kept : {j : ℕ} (h : IsKept F names j) → (standing_in names j).list ≡ h.J.given
  standing_kept {j} h = ap (λ S. S.list) (standing_let names.env.now (values_kept names.lets.items) j h.is_let.stands) ∙ value_there names.lets.items j h.stands

  -- What a name stands for that is at hand is in the variables of the ring.
  pub standing_uses : {j : ℕ} → IsAtHand F names j → All (UsesFirst (length names.env.now.vars)) (standing_in names j).list
  standing_uses {j} (hand.declared D) =
      subst (λ S. All (UsesFirst (length names.env.now.vars)) S.list) (sym (standing_of_declared names D)) (All-map (UsesFirst (length names.env.now.vars)) polynomial D.gens D.variables)
  standing_uses {j} (hand.kept h) = subst (All (UsesFirst (length names.env.now.vars))) (sym (standing_kept h)) h.value.uses

  -- A name that stands for an ideal is at hand where its value is kept if it is a let.
  pub at_hand : (j : ℕ) → IsIdealAt names.env.now j → (IsLetAt names.env.now j → IsKept F names j) → IsAtHand F names j
  at_hand j (stated.declared D) keeps = hand.declared D
  at_hand j (stated.answered L) keeps = hand.kept (keeps L)

-- The members of an ideal are their own reduced basis.
pub reduced_of_itself : {F : Field} (L : IsField F) {J : WithBasis} → IsIdeal F J → IsReducedBasis F grevlex_key J.members J.members
reduced_of_itself L I =
    let K = grevlex_key-IsMonomialOrder in
    IsReducedBasis-same_ideal K L I.polynomials (IsReducedBasis_polynomials K L I.polynomials I.reduced) (IsReducedBasis-SameIdeal K L I.polynomials I.reduced) I.reduced

-- A stop of the run on the generators of a declared ideal.
pub declared_stop : {T : Type 0} (F : Field) (budget : ℕ) {S : Standing} {L M : List Polynomial} → S ≡ record { list = L; is_declared = true } → M ≡ L → (r : Result T Stop) → StopsExactlyWith F (RunFor Grevlex (λ N. N ≡ M)) NoProduct budget r
    → OwnStops F (IsDeclaredList S) NoProduct budget r
declared_stop F budget {S} {L} {M} is same r h =
    own_of_exactly F budget (IsDeclaredList S) NoProduct (λ N. N ≡ M) NoProduct (λ N e. subst (λ Z. IsDeclaredList Z N) (sym is) (refl, e ∙ same)) (λ N none. none) r h
