-- The trace: each q^-1-linear map is the trace of multiples by one element. Compatible ideals.
use Rattle.std.proofs.Common.{◌≡◌, ℕ, List, Contains, sym, ap, ◌∙◌}
use Rattle.std.proofs.lemmas.List.Elements.{All-weaker, All-contains_itself}
use Rattle.fj_algebra.specs.Ring.{CommutativeRing}
use Rattle.fj_algebra.specs.Power.{power}
use Rattle.fj_algebra.specs.Ideal.{SameIdeal, Member, Inside, multiples}
use Rattle.fj_algebra.specs.Frobenius.{frobenius_power}
use Rattle.fj_algebra.specs.Parts.{Parts, from_parts}
use Rattle.fj_algebra.specs.Root.{Root}
use Rattle.fj_algebra.specs.Colon.{InColon}
use Rattle.fj_algebra.specs.Splitting.{KeepsIdeal, IsFPure, IsFPureAt, inverse_linear, Trace, trace_map, IsCompatible}
use Rattle.fj_algebra.proofs.Ring.{mul_comm, mul_assoc, mul_left_comm}
use Rattle.fj_algebra.proofs.Sum.{sum_over-same, sum_over-same_each, sum_over-mul, sum_over-mul_right}
use Rattle.fj_algebra.proofs.Ideal.{Member-Inside, Member-same, Member-mul, Inside-trans}
use Rattle.fj_algebra.proofs.Frobenius.{Inside-frobenius_power}
use Rattle.fj_algebra.proofs.Colon.{Inside-InColon, InColon-Inside, InColon-from, Member-InColon}
use Rattle.fj_algebra.proofs.Parts.{part-sum_over, part-power_mul}
use Rattle.fj_algebra.proofs.Root.{Member-part, Member-from_parts}

pub KeepsIdeal-SameIdeal : {A : Type 0} {R : CommutativeRing A} {phi : A → A} {L M : List A} → SameIdeal R L M → KeepsIdeal R phi L → KeepsIdeal R phi M
KeepsIdeal-SameIdeal E X = record { each = λ g G. Member-Inside E.forth (X.each g (Member-Inside E.back G)) }

pub IsFPure-SameIdeal : {A Residue : Type 0} {R : CommutativeRing A} {q : ℕ} {P : Parts R Residue q} {L M : List A} → SameIdeal R L M → IsFPure P L → IsFPure P M
IsFPure-SameIdeal E X = record { values = X.values; keeps = KeepsIdeal-SameIdeal E X.keeps; splits = Member-Inside E.forth X.splits }

pub IsFPureAt-SameIdeal : {A B Residue : Type 0} {R : CommutativeRing A} {q : ℕ} {S : CommutativeRing B} {at_point : A → B} {P : Parts R Residue q} {L M : List A} → SameIdeal R L M → IsFPureAt S at_point P L → IsFPureAt S at_point P M
IsFPureAt-SameIdeal E X = record { values = X.values; keeps = KeepsIdeal-SameIdeal E X.keeps; nonzero = X.nonzero }

module _ {A Residue : Type 0} {R : CommutativeRing A} {q : ℕ} {P : Parts R Residue q} (T : Trace P) where
  open R use {zero as 𝟘, one as 𝟙, add as ◌⊕◌, neg as ⊖◌, mul as ◌⊗◌}

  infixl 60 ◌⊕◌
  infixl 70 ◌⊗◌
  -- The u for which the q^-1-linear map with the values k a is the trace of multiples by u.
  abbrev pub multiplier : (Residue → A) → A
  multiplier k = from_parts R q P.residues (λ a. P.basis (T.mirror a)) k

  -- The trace of (c^q basis) times h.
  trace_of_term : (c h : A) (a : Residue) → Contains P.residues a → P.part ((power R c q ⊗ P.basis (T.mirror a)) ⊗ h) T.top ≡ P.part h a ⊗ c
  trace_of_term c h a listed =
      ap (λ x. P.part x T.top) (mul_assoc R (power R c q) (P.basis (T.mirror a)) h)
      ∙ part-power_mul P T.top T.top_listed c (P.basis (T.mirror a) ⊗ h)
      ∙ ap (◌⊗◌ c) (T.mirrored h a listed)
      ∙ mul_comm R c (P.part h a)

  -- Each q^-1-linear map is the trace of multiples by one u.
  pub inverse_linear-multiplier : (k : Residue → A) (h : A) → inverse_linear P k h ≡ trace_map T (multiplier k) h
  inverse_linear-multiplier k h =
      let term : Residue → A = λ a. power R (k a) q ⊗ P.basis (T.mirror a) in
      sym (ap (λ x. P.part x T.top) (sym (sum_over-mul_right R h term P.residues))
      ∙ part-sum_over P T.top T.top_listed (λ a. term a ⊗ h) P.residues
      ∙ sum_over-same_each R (λ a. P.part (term a ⊗ h) T.top) (λ a. P.part h a ⊗ k a) P.residues
      (All-weaker (Contains P.residues) (λ a. P.part (term a ⊗ h) T.top ≡ P.part h a ⊗ k a) (λ a listed. trace_of_term (k a) h a listed) P.residues (All-contains_itself P.residues)))

  -- The trace of multiples by u is the q^-1-linear map with these values.
  abbrev pub values_of : A → Residue → A
  values_of u a = trace_map T u (P.basis a)

  pub trace_map-values_of : (u h : A) → trace_map T u h ≡ inverse_linear P (values_of u) h
  trace_map-values_of u h =
      let term : Residue → A = λ a. power R (P.part h a) q ⊗ P.basis a in
      ap (λ x. P.part (u ⊗ x) T.top) (P.from h)
      ∙ ap (λ x. P.part x T.top) (sym (sum_over-mul R u term P.residues))
      ∙ part-sum_over P T.top T.top_listed (λ a. u ⊗ term a) P.residues
      ∙ sum_over-same R (λ a. P.part (u ⊗ term a) T.top) (λ a. P.part h a ⊗ values_of u a)
      (λ a. ap (λ x. P.part x T.top) (mul_left_comm R u (power R (P.part h a) q) (P.basis a)) ∙ part-power_mul P T.top T.top_listed (P.part h a) (u ⊗ P.basis a)) P.residues

  -- The trace of multiples by u sends (L) into (M) exactly where u is in (M^[q]) : (L).
  pub trace_map-InColon : {L M : List A} {u : A} → InColon R (frobenius_power R q M) L u → (g : A) → Member R L g → Member R M (trace_map T u g)
  trace_map-InColon X g G = Member-part P (Member-InColon X G) T.top T.top_listed

  pub InColon-trace_map : {L M : List A} {u : A} → ((g : A) → Member R L g → Member R M (trace_map T u g)) → InColon R (frobenius_power R q M) L u
  InColon-trace_map {L} {M} {u} f = InColon-from (λ g G. Member-from_parts P (λ a listed.
      Member-same (sym (T.mirrored (u ⊗ g) a listed) ∙ ap (λ x. P.part x T.top) (mul_left_comm R (P.basis (T.mirror a)) u g)) (f (P.basis (T.mirror a) ⊗ g) (Member-mul (P.basis (T.mirror a)) G))))

  -- J is compatible with u exactly where the root of u J is inside (J).
  pub Inside-IsCompatible : {u : A} {J M : List A} → Root R q (multiples R u J) M → IsCompatible T u J → Inside R M J
  Inside-IsCompatible {J = J} X C = X.least J (Inside-InColon (InColon-trace_map C.each))

  pub IsCompatible-Inside : {u : A} {J M : List A} → Root R q (multiples R u J) M → Inside R M J → IsCompatible T u J
  IsCompatible-Inside X I = record { each = trace_map-InColon (InColon-Inside (Inside-trans X.inside (Inside-frobenius_power P.frobenius I))) }
