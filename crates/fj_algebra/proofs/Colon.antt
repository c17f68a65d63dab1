-- Meets and quotients of ideals.
use Rattle.std.proofs.Common.{◌≡◌, List, [], ◌∷◌, sym, ◌∙◌}
use Rattle.std.proofs.lemmas.List.Elements.{All-nil, All-cons, All-head, All-tail, All-map, All-weaker}
use Rattle.fj_algebra.specs.Ring.{CommutativeRing}
use Rattle.fj_algebra.specs.Ideal.{Member, Inside, SameIdeal, multiples}
use Rattle.fj_algebra.specs.Colon.{Meet, InColon, Colon}
use Rattle.fj_algebra.proofs.Lists.{All-map_back}
use Rattle.fj_algebra.proofs.Ring.{mul_comm}
use Rattle.fj_algebra.proofs.Ideal.{Member-same, Member-mul, Member-Inside, Member-head, Member-elements, Member-multiples, Member-multiples_split, Inside-from}

module _ {A : Type 0} {R : CommutativeRing A} where
  open R use {zero as 𝟘, one as 𝟙, add as ◌⊕◌, neg as ⊖◌, mul as ◌⊗◌}

  infixl 60 ◌⊕◌
  infixl 70 ◌⊗◌
  pub Meet-unique : {L M N N' : List A} → Meet R L M N → Meet R L M N' → SameIdeal R N N'
  Meet-unique X Y = record {
    forth = Inside-from (λ h H. Y.both h (X.left h H) (X.right h H));
    back = Inside-from (λ h H. X.both h (Y.left h H) (Y.right h H));
  }

  pub Meet-SameIdeal : {L L' M M' N N' : List A} → SameIdeal R L L' → SameIdeal R M M' → SameIdeal R N N' → Meet R L M N → Meet R L' M' N'
  Meet-SameIdeal E F G X = record {
    left = λ h H. Member-Inside E.forth (X.left h (Member-Inside G.back H));
    right = λ h H. Member-Inside F.forth (X.right h (Member-Inside G.back H));
    both = λ h H K. Member-Inside G.forth (X.both h (Member-Inside E.back H) (Member-Inside F.back K));
  }

  -- h is in (L) : (M) exactly where the ideal h (M) is inside (L).
  pub Inside-InColon : {L M : List A} {h : A} → InColon R L M h → Inside R (multiples R h M) L
  Inside-InColon {L} {M} {h} X = record { each = All-map (Member R L) (◌⊗◌ h) M X.each }

  pub InColon-Inside : {L M : List A} {h : A} → Inside R (multiples R h M) L → InColon R L M h
  InColon-Inside {L} {M} {h} X = record { each = All-map_back (Member R L) (◌⊗◌ h) M X.each }

  -- Then h g is in (L) for each member g of (M).
  pub Member-InColon : {L M : List A} {h g : A} → InColon R L M h → Member R M g → Member R L (h ⊗ g)
  Member-InColon {h} X G = Member-Inside (Inside-InColon X) (Member-multiples h G)

  pub InColon-from : {L M : List A} {h : A} → ((g : A) → Member R M g → Member R L (h ⊗ g)) → InColon R L M h
  InColon-from {L} {M} {h} f = record { each = All-weaker (Member R M) (λ g. Member R L (h ⊗ g)) f M (Member-elements M) }

  pub InColon-Member : {L M : List A} {h : A} → Member R L h → InColon R L M h
  InColon-Member {h} H = InColon-from (λ g G. Member-same (mul_comm R h g) (Member-mul g H))

  pub InColon-SameIdeal : {L L' M M' : List A} {h : A} → SameIdeal R L L' → SameIdeal R M M' → InColon R L M h → InColon R L' M' h
  InColon-SameIdeal E F X = InColon-from (λ g G. Member-Inside E.forth (Member-InColon X (Member-Inside F.back G)))

  pub Colon-unique : {L M N N' : List A} → Colon R L M N → Colon R L M N' → SameIdeal R N N'
  Colon-unique X Y = record {
    forth = Inside-from (λ h H. Y.complete h (X.sound h H));
    back = Inside-from (λ h H. X.complete h (Y.sound h H));
  }

  pub Colon-SameIdeal : {L L' M M' N N' : List A} → SameIdeal R L L' → SameIdeal R M M' → SameIdeal R N N' → Colon R L M N → Colon R L' M' N'
  Colon-SameIdeal E F G X = record {
    sound = λ h H. InColon-SameIdeal E F (X.sound h (Member-Inside G.back H));
    complete = λ h H. Member-Inside G.forth (X.complete h (InColon-SameIdeal (record { forth = E.back; back = E.forth }) (record { forth = F.back; back = F.forth }) H));
  }

  -- (L) is inside (L) : (M).
  pub Inside-Colon : {L M N : List A} → Colon R L M N → Inside R L N
  Inside-Colon X = Inside-from (λ h H. X.complete h (InColon-Member H))

  -- The quotient by the zero ideal is the whole ring.
  pub Colon-nil : (L : List A) → Colon R L [] (𝟙 ∷ [])
  Colon-nil L = record {
    sound = λ h H. record { each = All-nil (λ g. Member R L (h ⊗ g)) };
    complete = λ h H. Member-same (sym (R.mul_one h)) (Member-mul h (Member-head 𝟙 []));
  }

  -- The quotient by a sum is the meet of the quotients.
  pub Colon-cons : {L M N N' K : List A} {g : A} → Colon R L (g ∷ []) N → Colon R L M N' → Meet R N N' K → Colon R L (g ∷ M) K
  Colon-cons {L} {M} {g} X Y Z = record {
    sound = λ h H. record {
      each = All-cons (λ g. Member R L (h ⊗ g)) g M
          (Member-InColon (X.sound h (Z.left h H)) (Member-head g []))
          (let B = Y.sound h (Z.right h H) in B.each);
    };
    complete = λ h H. Z.both h
        (X.complete h (record { each = All-cons (λ g. Member R L (h ⊗ g)) g [] (All-head (λ g. Member R L (h ⊗ g)) g M H.each) (All-nil (λ g. Member R L (h ⊗ g))) }))
        (Y.complete h (record { each = All-tail (λ g. Member R L (h ⊗ g)) g M H.each }));
  }

  -- The quotient by one element that cancels, from the meet with its ideal: the members of the meet are divided by it.
  pub Colon-single : {L N : List A} {g : A} → ((x y : A) → g ⊗ x ≡ g ⊗ y → x ≡ y) → Meet R L (g ∷ []) (multiples R g N) → Colon R L (g ∷ []) N
  Colon-single {L} {N} {g} cancel X = record {
    sound = λ h H. record { each = All-cons (λ g. Member R L (h ⊗ g)) g [] (Member-same (mul_comm R h g) (X.left (g ⊗ h) (Member-multiples g H))) (All-nil (λ g. Member R L (h ⊗ g))) };
    complete = λ h H.
        let split = Member-multiples_split g N (X.both (h ⊗ g) (Member-InColon H (Member-head g [])) (Member-mul h (Member-head g []))) in
        Member-same (cancel h split.0 (mul_comm R g h ∙ split.2)) split.1;
  }
