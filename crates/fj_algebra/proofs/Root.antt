-- Laws of Frobenius roots. Those of the first section need no parts.
use Rattle.std.proofs.Common.{◌≡◌, [], ◌∷◌, ℕ, ◌*◌, ◌+◌, List, ◌++◌, All, Contains, map, sym, ap, ◌∙◌, subst}
use Rattle.std.proofs.lemmas.List.Elements.{All-map, All-weaker, All-contains, All-contains_itself}
use Rattle.fj_algebra.specs.Ring.{CommutativeRing}
use Rattle.fj_algebra.specs.Power.{power}
use Rattle.fj_algebra.specs.Ideal.{Member, Inside, SameIdeal, multiples}
use Rattle.fj_algebra.specs.Frobenius.{IsFrobenius, frobenius_power}
use Rattle.fj_algebra.specs.Parts.{Parts}
use Rattle.fj_algebra.specs.Root.{Root, all_parts}
use Rattle.fj_algebra.proofs.Lists.{All-map_back, All-flat_map, All-flat_map_back}
use Rattle.fj_algebra.proofs.Ideal.{Member-sum_over, Member-same, Member-mul, Member-Inside, Inside-refl, Inside-trans, Inside-append, Inside-append_both, Inside-append_left, Inside-append_right, Inside-from, Inside-multiples}
use Rattle.fj_algebra.proofs.Frobenius.{Member-frobenius_power, Inside-frobenius_power, frobenius_power-1, frobenius_power-append, frobenius_power-frobenius_power, frobenius_power-multiples}
use Rattle.fj_algebra.proofs.Power.{power-one, power-power, power-add}
use Rattle.fj_algebra.proofs.Parts.{part-combination, part-power_mul, origin-power}

module _ {A : Type 0} {R : CommutativeRing A} where
  -- Two roots of one list are one ideal.
  pub Root-unique : {q : ℕ} {L M N : List A} → Root R q L M → Root R q L N → SameIdeal R M N
  Root-unique {M} {N} X Y = record { forth = X.least N Y.inside; back = Y.least M X.inside }

  -- The root depends on the ideal alone.
  pub Root-SameIdeal : {q : ℕ} {L L' M : List A} → SameIdeal R L L' → Root R q L M → Root R q L' M
  Root-SameIdeal E X = record { inside = Inside-trans E.back X.inside; least = λ N I. X.least N (Inside-trans E.forth I) }

  pub Root-monotone : {q : ℕ} {L L' M M' : List A} → Inside R L L' → Root R q L M → Root R q L' M' → Inside R M M'
  Root-monotone {M' = M'} I X Y = X.least M' (Inside-trans I Y.inside)

  -- An ideal is its own root at 1.
  pub Root-1 : (L : List A) → Root R 1 L L
  Root-1 L = record { inside = subst (Inside R L) (sym (frobenius_power-1 R L)) (Inside-refl L); least = λ N I. subst (Inside R L) (frobenius_power-1 R N) I }

  module _ {q : ℕ} (F : IsFrobenius R q) where
    -- An ideal equal to a root is the root.
    pub Root-SameIdeal_root : {L M M' : List A} → SameIdeal R M M' → Root R q L M → Root R q L M'
    Root-SameIdeal_root E X = record { inside = Inside-trans X.inside (Inside-frobenius_power F E.forth); least = λ N I. Inside-trans E.back (X.least N I) }

    -- The adjunction: the root is inside (N) exactly where L is inside (N^[q]). The other way is `least`.
    pub Inside-Root : {L M N : List A} → Root R q L M → Inside R M N → Inside R L (frobenius_power R q N)
    Inside-Root X I = Inside-trans X.inside (Inside-frobenius_power F I)

    -- Where L' is inside (L^[q]), its root at r q is inside the root of L at r.
    pub Root-falling : {r : ℕ} {L L' M M' : List A} → Root R r L M → Root R (r * q) L' M' → Inside R L' (frobenius_power R q L) → Inside R M' M
    Root-falling {r} {L} {L'} {M} {M'} X Y I = Y.least M (subst (Inside R L') (frobenius_power-frobenius_power R r q M) (Inside-trans I (Inside-frobenius_power F X.inside)))

    -- The root of a sum is the sum of the roots.
    pub Root-append : {L L' M M' : List A} → Root R q L M → Root R q L' M' → Root R q (L ++ L') (M ++ M')
    Root-append {L} {L'} {M} {M'} X Y = record {
      inside = subst (Inside R (L ++ L')) (sym (frobenius_power-append R q M M')) (Inside-append_both X.inside Y.inside);
      least = λ N I. Inside-append (X.least N (Inside-trans (Inside-append_left L L') I)) (Y.least N (Inside-trans (Inside-append_right L L') I));
    }

    -- Roots of roots: where M is the root of L at q and N the root of M at r, N is the root of L at r q.
    pub Root-Root : {r : ℕ} {L M N : List A} → Root R q L M → Root R r M N → Root R (r * q) L N
    Root-Root {r} {L} {M} {N} X Y = record {
      inside = subst (Inside R L) (frobenius_power-frobenius_power R r q N) (Inside-trans X.inside (Inside-frobenius_power F Y.inside));
      least = λ K I. Y.least K (X.least (frobenius_power R r K) (subst (Inside R L) (sym (frobenius_power-frobenius_power R r q K)) I));
    }

module _ {A Residue : Type 0} {R : CommutativeRing A} {q : ℕ} (P : Parts R Residue q) where
  open R use {zero as 𝟘, one as 𝟙, add as ◌⊕◌, neg as ⊖◌, mul as ◌⊗◌}

  infixl 60 ◌⊕◌
  infixl 70 ◌⊗◌
  -- The adjunction: h is in (M^[q]) exactly where its parts are in (M).
  pub Member-part : {M : List A} {h : A} → Member R (frobenius_power R q M) h → (a : Residue) → Contains P.residues a → Member R M (P.part h a)
  Member-part {M} H a listed = record { cofactors = λ j. P.part (H.cofactors j) a; is = ap (λ x. P.part x a) H.is ∙ part-combination P a listed H.cofactors M }

  pub Member-from_parts : {M : List A} {h : A} → ((a : Residue) → Contains P.residues a → Member R M (P.part h a)) → Member R (frobenius_power R q M) h
  Member-from_parts {M} {h} each =
      let N : List A = frobenius_power R q M in
      let f : Residue → A = λ a. power R (P.part h a) q ⊗ P.basis a in
      Member-same (P.from h) (Member-sum_over f P.residues (All-weaker (Contains P.residues) (λ a. Member R N (f a)) (λ a listed. Member-same (R.mul_comm _ _) (Member-mul (P.basis a) (Member-frobenius_power P.frobenius (each a listed)))) P.residues (All-contains_itself P.residues)))

  -- h^q is in (M^[q]) only where h is in (M).
  pub Member-power : {M : List A} {h : A} → Member R (frobenius_power R q M) (power R h q) → Member R M h
  Member-power {h} H = Member-same (sym (origin-power P h)) (Member-part H P.origin P.origin_listed)

  pub Inside-frobenius_power_back : {L M : List A} → Inside R (frobenius_power R q L) (frobenius_power R q M) → Inside R L M
  Inside-frobenius_power_back I = Inside-from (λ h H. Member-power (Member-Inside I (Member-frobenius_power P.frobenius H)))

  -- L is inside (M^[q]) exactly where all its parts are in (M).
  pub Inside-all_parts : {L M : List A} → Inside R L (frobenius_power R q M) → Inside R (all_parts P L) M
  Inside-all_parts {L} {M} I = record {
    each = All-flat_map (Member R M) (λ h. map (P.part h) P.residues) L
        (All-weaker (Member R (frobenius_power R q M)) (λ h. All (Member R M) (map (P.part h) P.residues))
        (λ h H. All-map (Member R M) (P.part h) P.residues (All-weaker (Contains P.residues) (λ a. Member R M (P.part h a)) (Member-part H) P.residues (All-contains_itself P.residues))) L I.each);
  }

  pub Inside-from_all_parts : {L M : List A} → Inside R (all_parts P L) M → Inside R L (frobenius_power R q M)
  Inside-from_all_parts {L} {M} I = record {
    each = All-weaker (λ h. All (Member R M) (map (P.part h) P.residues)) (Member R (frobenius_power R q M))
        (λ h each. Member-from_parts (λ a listed. All-contains (λ a. Member R M (P.part h a)) P.residues a (All-map_back (Member R M) (P.part h) P.residues each) listed)) L
        (All-flat_map_back (Member R M) (λ h. map (P.part h) P.residues) L I.each);
  }

  -- The parts of all elements generate the root.
  pub Root-all_parts : (L : List A) → Root R q L (all_parts P L)
  Root-all_parts L = record { inside = Inside-from_all_parts (Inside-refl (all_parts P L)); least = λ N I. Inside-all_parts I }

  -- The root of a Frobenius power is the ideal itself.
  pub Root-frobenius_power : (L : List A) → Root R q (frobenius_power R q L) L
  Root-frobenius_power L = record { inside = Inside-refl (frobenius_power R q L); least = λ N I. Inside-frobenius_power_back I }

  multiples_inside : (f : A) (L N : List A) → All (λ h. Member R (frobenius_power R q N) (power R f q ⊗ h)) L → Inside R (multiples R f (all_parts P L)) N
  multiples_inside f L N each = record {
    each = All-map (Member R N) (◌⊗◌ f) (all_parts P L) (All-flat_map (λ x. Member R N (f ⊗ x)) (λ h. map (P.part h) P.residues) L
        (All-weaker (λ h. Member R (frobenius_power R q N) (power R f q ⊗ h)) (λ h. All (λ x. Member R N (f ⊗ x)) (map (P.part h) P.residues))
        (λ h H. All-map (λ x. Member R N (f ⊗ x)) (P.part h) P.residues (All-weaker (Contains P.residues) (λ a. Member R N (f ⊗ P.part h a))
        (λ a listed. Member-same (sym (part-power_mul P a listed f h)) (Member-part H a listed)) P.residues (All-contains_itself P.residues))) L each));
  }

  -- A factor f^q comes out of the root as f.
  pub Root-multiples : (f : A) {L M : List A} → Root R q L M → Root R q (multiples R (power R f q) L) (multiples R f M)
  Root-multiples f {L} {M} X = record {
    inside = subst (Inside R (multiples R (power R f q) L)) (sym (frobenius_power-multiples R q f M)) (Inside-multiples (power R f q) X.inside);
    least = λ N I. Inside-trans (Inside-multiples f (X.least (all_parts P L) (Inside-from_all_parts (Inside-refl (all_parts P L)))))
        (multiples_inside f L N (All-map_back (Member R (frobenius_power R q N)) (◌⊗◌ (power R f q)) L I.each));
  }

  -- The root of (1) is (1).
  pub Root-one : Root R q (𝟙 ∷ []) (𝟙 ∷ [])
  Root-one = subst (λ x. Root R q (x ∷ []) (𝟙 ∷ [])) (power-one R q) (Root-frobenius_power (𝟙 ∷ []))

  -- A factor f^(q m) comes out of the root as f^m.
  pub Root-power_multiples : (f : A) (m n : ℕ) {M : List A} → Root R q (power R f n ∷ []) M → Root R q (power R f (m * q + n) ∷ []) (multiples R (power R f m) M)
  Root-power_multiples f m n {M} X =
      let split : power R (power R f m) q ⊗ power R f n ≡ power R f (m * q + n) = ap (λ x. x ⊗ power R f n) (power-power R f m q) ∙ sym (power-add R f (m * q) n) in
      subst (λ x. Root R q (x ∷ []) (multiples R (power R f m) M)) split (Root-multiples (power R f m) X)

  -- Where (L^[q]) is inside L', the root of L at r is inside the root of L' at r q.
  pub Root-rising : {r : ℕ} {L L' M M' : List A} → Root R r L M → Root R (r * q) L' M' → Inside R (frobenius_power R q L) L' → Inside R M M'
  Root-rising {r} {L} {M' = M'} X Y I = X.least M' (Inside-frobenius_power_back (subst (Inside R (frobenius_power R q L)) (sym (frobenius_power-frobenius_power R r q M')) (Inside-trans I Y.inside)))
