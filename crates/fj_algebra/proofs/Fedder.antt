-- Fedder's criterion: the values at 1 of the q^-1-linear maps that keep an ideal, and F-purity (Fedder 1983).
use Rattle.std.proofs.Common.{◌≡◌, ◌≢◌, ℕ, List, All, Any, Contains, map, sym, ap, ◌∙◌, inl, inr}
use Rattle.std.proofs.lemmas.List.Elements.{All-map, All-weaker, All-contains_itself}
use Rattle.fj_algebra.specs.Ring.{CommutativeRing, RingMap, subtract}
use Rattle.fj_algebra.specs.Power.{power}
use Rattle.fj_algebra.specs.Ideal.{Member, Inside}
use Rattle.fj_algebra.specs.Frobenius.{frobenius_power}
use Rattle.fj_algebra.specs.Parts.{Parts}
use Rattle.fj_algebra.specs.Root.{Root}
use Rattle.fj_algebra.specs.Colon.{Colon}
use Rattle.fj_algebra.specs.Splitting.{inverse_linear, KeepsIdeal, IsFPure, IsFPureAt, Trace}
use Rattle.fj_algebra.proofs.Lists.{All-flat_map, Any-or-All, Any-element}
use Rattle.fj_algebra.proofs.Ring.{mul_one, subtract_self, ring_laws}
use Rattle.fj_algebra.proofs.Ideal.{Member-same, Member-zero, Member-add, Member-mul, Member-subtract, Member-Inside, Member-elements, Member-induction, Member-vanishes, Member-Contains, Inside-from}
use Rattle.fj_algebra.proofs.Frobenius.{Member-frobenius_power}
use Rattle.fj_algebra.proofs.Colon.{InColon-Member}
use Rattle.fj_algebra.proofs.Parts.{part-zero, part-add, part-power_mul}
use Rattle.fj_algebra.proofs.Root.{Member-part, Member-power, Root-all_parts, Root-unique}
use Rattle.fj_algebra.proofs.Splitting.{multiplier, values_of, inverse_linear-multiplier, trace_map-values_of, trace_map-InColon, InColon-trace_map}

cancel_difference : {A : Type 0} (R : CommutativeRing A) (x y : A) → subtract R x (subtract R x y) ≡ y
cancel_difference R x y = simp ring_laws

module _ {A Residue : Type 0} {R : CommutativeRing A} {q : ℕ} {P : Parts R Residue q} (T : Trace P) where
  open R use {zero as 𝟘, one as 𝟙, add as ◌⊕◌, neg as ⊖◌, mul as ◌⊗◌}

  infixl 60 ◌⊕◌
  infixl 70 ◌⊗◌
  -- r is the trace of a member of (C).
  unfoldable IsTraceFrom : List A → A → Type 0
  IsTraceFrom C r = (u : A) × Member R C u × (P.part u T.top ≡ r)

  -- The traces of the members of (C) are the members of its root.
  trace_from_root : {C M : List A} → Root R q C M → (r : A) → Member R M r → IsTraceFrom C r
  unfolding IsTraceFrom
  trace_from_root {C} {M} X r H =
      let E = Root-unique X (Root-all_parts P C) in
      Member-induction (IsTraceFrom C)
      (𝟘, Member-zero C, part-zero P T.top T.top_listed)
      (λ a b V W. (V.0 ⊕ W.0, Member-add V.1 W.1, part-add P T.top T.top_listed V.0 W.0 ∙ ap (λ x. x ⊕ P.part W.0 T.top) V.2 ∙ ap (◌⊕◌ a) W.2))
      (λ c a V. (power R c q ⊗ V.0, Member-mul (power R c q) V.1, part-power_mul P T.top T.top_listed c V.0 ∙ ap (◌⊗◌ c) V.2))
      (All-flat_map (IsTraceFrom C) (λ h. map (P.part h) P.residues) C
      (All-weaker (Member R C) (λ h. All (IsTraceFrom C) (map (P.part h) P.residues))
      (λ h G. All-map (IsTraceFrom C) (P.part h) P.residues (All-weaker (Contains P.residues) (λ a. IsTraceFrom C (P.part h a))
      (λ a listed. (P.basis (T.mirror a) ⊗ h, Member-mul (P.basis (T.mirror a)) G, T.mirrored h a listed)) P.residues (All-contains_itself P.residues)))
      C (Member-elements C)))
      (Member-Inside E.forth H)

  module _ {I C M : List A} (colon : Colon R (frobenius_power R q I) I C) (root : Root R q C M) where
    -- The value at 1 of a q^-1-linear map that keeps (I) is in the root of (I^[q]) : (I).
    pub value_in_root : (k : Residue → A) → KeepsIdeal R (inverse_linear P k) I → Member R M (inverse_linear P k 𝟙)
    value_in_root k keeps =
        let u : A = multiplier T k in
        let member : Member R C u = colon.complete u (InColon-trace_map T (λ g G. Member-same (sym (inverse_linear-multiplier T k g)) (keeps.each g G))) in
        Member-same (inverse_linear-multiplier T k 𝟙 ∙ ap (λ x. P.part x T.top) (mul_one R u)) (Member-part P (Member-Inside root.inside member) T.top T.top_listed)

    -- Each member of that root is such a value.
    pub value_from_root : (r : A) → Member R M r → (k : Residue → A) × KeepsIdeal R (inverse_linear P k) I × (inverse_linear P k 𝟙 ≡ r)
    unfolding IsTraceFrom
    value_from_root r H =
        let V = trace_from_root root r H in
        let u : A = V.0 in (
          values_of T u,
          record { each = λ g G. Member-same (sym (trace_map-values_of T u g)) (trace_map-InColon T (colon.sound u V.1) g G) },
          sym (trace_map-values_of T u 𝟙) ∙ ap (λ x. P.part x T.top) (mul_one R u) ∙ V.2,
        )

    -- (I) is inside the root of (I^[q]) : (I).
    pub ideal_in_root : Inside R I M
    ideal_in_root = Inside-from (λ g G. Member-power P (Member-Inside root.inside (colon.complete (power R g q) (InColon-Member (Member-frobenius_power P.frobenius G)))))

    -- Fedder's criterion: the ring modulo (I) is F-pure exactly where 1 is in the root of (I^[q]) : (I).
    pub Member-IsFPure : IsFPure P I → Member R M 𝟙
    Member-IsFPure F = Member-same (sym (cancel_difference R (inverse_linear P F.values 𝟙) 𝟙))
        (Member-subtract (value_in_root F.values F.keeps) (Member-Inside ideal_in_root F.splits))

    pub IsFPure-Member : Member R M 𝟙 → IsFPure P I
    IsFPure-Member H =
        let V = value_from_root 𝟙 H in
        record { values = V.0; keeps = V.1; splits = Member-same (ap (λ x. subtract R x 𝟙) V.2 ∙ subtract_self R 𝟙) (Member-zero I) }

    -- The criterion at a point: F-pure there exactly where some generator of that root is not zero there.
    module _ {B : Type 0} {S : CommutativeRing B} {at_point : A → B} (F : RingMap R S at_point) (decide : (x : B) → Dec (x ≡ S.zero)) where
      pub Any-IsFPureAt : IsFPureAt S at_point P I → Any (λ r. at_point r ≢ S.zero) M
      Any-IsFPureAt G = elim (Any-or-All (λ r. at_point r ≡ S.zero) (λ r. decide (at_point r)) M) [
        | inl some ↦ some
        | inr each ↦ absurd (G.nonzero (Member-vanishes F each (value_in_root G.values G.keeps)))
      ]

      pub IsFPureAt-Any : Any (λ r. at_point r ≢ S.zero) M → IsFPureAt S at_point P I
      IsFPureAt-Any some =
          let E = Any-element (λ r. at_point r ≢ S.zero) M some in
          let V = value_from_root E.0 (Member-Contains E.1) in
          record { values = V.0; keeps = V.1; nonzero = λ vanishes. E.2 (ap at_point (sym V.2) ∙ vanishes) }
