-- Ideals of lists: members, inclusion, equality, sums, products and ring maps.
use Rattle.std.proofs.Common.{◌≡◌, ℕ, zero, suc, List, [], ◌∷◌, ◌++◌, map, length, get_or, All, Contains, refl, sym, ap, ap₂, ◌∙◌, subst}
use Rattle.std.proofs.lemmas.List.Elements.{All-nil, All-cons, All-head, All-tail, All-map, All-append, All-weaker, All-contains}
use Rattle.fj_algebra.specs.Ring.{CommutativeRing, RingMap, subtract}
use Rattle.fj_algebra.specs.Sum.{sum_over}
use Rattle.fj_algebra.specs.Ideal.{combination, list_combination, Member, Inside, SameIdeal, multiples, products}
use Rattle.fj_algebra.proofs.Ring.{zero_add, add_zero, add_assoc, mul_add, add_mul, mul_zero, zero_mul, one_mul, mul_assoc, mul_one, mul_left_comm, mul_comm, neg_mul, ring_laws}

-- The sequence a, c 0, c 1, ..
abbrev prepend : {A : Type 0} → A → (ℕ → A) → ℕ → A
prepend a c zero = a
prepend a c (suc j) = c j

-- The sequence of the first entries of c, one for each element of the list, and then d 0, d 1, ..
abbrev join : {A : Type 0} → List A → (ℕ → A) → (ℕ → A) → ℕ → A
join [] c d = d
join (g ∷ L) c d = prepend (c zero) (join L (λ j. c (suc j)) d)

-- The first entries of c, one for each element of the list.
abbrev pub entries_for : {A : Type 0} → List A → (ℕ → A) → List A
entries_for [] c = []
entries_for (g ∷ L) c = c zero ∷ entries_for L (λ j. c (suc j))

pub length_entries_for : {A : Type 0} (L : List A) (c : ℕ → A) → length (entries_for L c) ≡ length L
length_entries_for [] c = refl
length_entries_for (g ∷ L) c = ap suc (length_entries_for L (λ j. c (suc j)))

module _ {A : Type 0} (R : CommutativeRing A) where
  open R use {zero as 𝟘, one as 𝟙, add as ◌⊕◌, neg as ⊖◌, mul as ◌⊗◌}

  infixl 60 ◌⊕◌
  infixl 70 ◌⊗◌
  infix 80 ⊖◌
  pub combination-zero : (L : List A) → combination R (λ j. 𝟘) L ≡ 𝟘
  combination-zero [] = refl
  combination-zero (g ∷ L) = ap (λ a. a ⊕ combination R (λ j. 𝟘) L) (zero_mul R g) ∙ zero_add R _ ∙ combination-zero L

  add_step : (a b g s t : A) → (a ⊕ b) ⊗ g ⊕ (s ⊕ t) ≡ (a ⊗ g ⊕ s) ⊕ (b ⊗ g ⊕ t)
  add_step a b g s t = simp ring_laws

  pub combination-add : (c d : ℕ → A) (L : List A) → combination R (λ j. c j ⊕ d j) L ≡ combination R c L ⊕ combination R d L
  combination-add c d [] = sym (zero_add R 𝟘)
  combination-add c d (g ∷ L) = ap (◌⊕◌ ((c 0 ⊕ d 0) ⊗ g)) (combination-add (λ j. c (suc j)) (λ j. d (suc j)) L) ∙ add_step (c 0) (d 0) g _ _

  mul_step : (a c g s : A) → (a ⊗ c) ⊗ g ⊕ a ⊗ s ≡ a ⊗ (c ⊗ g ⊕ s)
  mul_step a c g s = simp ring_laws

  pub combination-mul : (a : A) (c : ℕ → A) (L : List A) → combination R (λ j. a ⊗ c j) L ≡ a ⊗ combination R c L
  combination-mul a c [] = sym (mul_zero R a)
  combination-mul a c (g ∷ L) = ap (◌⊕◌ ((a ⊗ c 0) ⊗ g)) (combination-mul a (λ j. c (suc j)) L) ∙ mul_step a (c 0) g _

  pub combination-append : (c d : ℕ → A) (L M : List A) → combination R (join L c d) (L ++ M) ≡ combination R c L ⊕ combination R d M
  combination-append c d [] M = sym (zero_add R _)
  combination-append c d (g ∷ L) M = ap (◌⊕◌ (c 0 ⊗ g)) (combination-append (λ j. c (suc j)) d L M) ∙ sym (add_assoc R _ _ _)

  pub combination-multiples : (c : ℕ → A) (f : A) (L : List A) → combination R c (multiples R f L) ≡ f ⊗ combination R c L
  combination-multiples c f [] = sym (mul_zero R f)
  combination-multiples c f (g ∷ L) = ap (λ s. c 0 ⊗ (f ⊗ g) ⊕ s) (combination-multiples (λ j. c (suc j)) f L) ∙ ap (λ s. s ⊕ f ⊗ combination R (λ j. c (suc j)) L) (mul_left_comm R (c 0) f g) ∙ sym (mul_add R f _ _)

  pub multiples-one : (L : List A) → multiples R 𝟙 L ≡ L
  multiples-one [] = refl
  multiples-one (g ∷ L) = ap₂ ◌∷◌ (one_mul R g) (multiples-one L)

  pub multiples-multiples : (f g : A) (L : List A) → multiples R f (multiples R g L) ≡ multiples R (f ⊗ g) L
  multiples-multiples f g [] = refl
  multiples-multiples f g (h ∷ L) = ap₂ ◌∷◌ (sym (mul_assoc R f g h)) (multiples-multiples f g L)

  -- The combination with a list of cofactors, and with a sequence of them.
  pub list_combination-get_or : (cs L : List A) → list_combination R cs L ≡ combination R (λ j. get_or cs j 𝟘) L
  list_combination-get_or [] L = sym (combination-zero L)
  list_combination-get_or (c ∷ cs) [] = refl
  list_combination-get_or (c ∷ cs) (g ∷ L) = ap (◌⊕◌ (c ⊗ g)) (list_combination-get_or cs L)

  pub list_combination-entries_for : (c : ℕ → A) (L : List A) → list_combination R (entries_for L c) L ≡ combination R c L
  list_combination-entries_for c [] = refl
  list_combination-entries_for c (g ∷ L) = ap (◌⊕◌ (c 0 ⊗ g)) (list_combination-entries_for (λ j. c (suc j)) L)

module _ {A : Type 0} {R : CommutativeRing A} where
  open R use {zero as 𝟘, one as 𝟙, add as ◌⊕◌, neg as ⊖◌, mul as ◌⊗◌}

  infixl 60 ◌⊕◌
  infixl 70 ◌⊗◌
  infix 80 ⊖◌
  -- A member's multiples, sums and so on are members.
  pub Member-zero : (L : List A) → Member R L 𝟘
  Member-zero L = record { cofactors = λ j. 𝟘; is = sym (combination-zero R L) }

  pub Member-add : {L : List A} {h k : A} → Member R L h → Member R L k → Member R L (h ⊕ k)
  Member-add {L} H K = record {
    cofactors = λ j. H.cofactors j ⊕ K.cofactors j;
    is = rw (H.is, K.is) (sym (combination-add R H.cofactors K.cofactors L));
  }

  pub Member-mul : {L : List A} {h : A} (a : A) → Member R L h → Member R L (a ⊗ h)
  Member-mul {L} a H = record { cofactors = λ j. a ⊗ H.cofactors j; is = ap (◌⊗◌ a) H.is ∙ sym (combination-mul R a H.cofactors L) }

  pub Member-same : {L : List A} {h k : A} → k ≡ h → Member R L h → Member R L k
  Member-same e H = record { cofactors = H.cofactors; is = e ∙ H.is }

  pub Member-neg : {L : List A} {h : A} → Member R L h → Member R L (⊖ h)
  Member-neg {h} H = Member-same (ap (λ a. ⊖ a) (sym (one_mul R h)) ∙ sym (neg_mul R 𝟙 h)) (Member-mul (⊖ 𝟙) H)

  pub Member-subtract : {L : List A} {h k : A} → Member R L h → Member R L k → Member R L (subtract R h k)
  Member-subtract H K = Member-add H (Member-neg K)

  pub Member-tail : {g : A} {L : List A} {h : A} → Member R L h → Member R (g ∷ L) h
  Member-tail {g} {L} H = record { cofactors = prepend 𝟘 H.cofactors; is = H.is ∙ sym (zero_add R _) ∙ ap (λ a. a ⊕ combination R H.cofactors L) (sym (zero_mul R g)) }

  pub Member-head : (g : A) (L : List A) → Member R (g ∷ L) g
  Member-head g L = record { cofactors = prepend 𝟙 (λ j. 𝟘); is = sym (ap (λ a. a ⊕ combination R (λ j. 𝟘) L) (one_mul R g) ∙ ap (◌⊕◌ g) (combination-zero R L) ∙ add_zero R g) }

  -- Each element of the list is a member.
  pub Member-elements : (L : List A) → All (Member R L) L
  Member-elements [] = All-nil (Member R [])
  Member-elements (g ∷ L) = All-cons (Member R (g ∷ L)) g L (Member-head g L) (All-weaker (Member R L) (Member R (g ∷ L)) (λ x H. Member-tail H) L (Member-elements L))

  pub Member-Contains : {L : List A} {g : A} → Contains L g → Member R L g
  Member-Contains {L} {g} c = All-contains (Member R L) L g (Member-elements L) c

  pub Member-nil : {h : A} → Member R [] h → h ≡ 𝟘
  Member-nil H = H.is

  -- A combination by a list of cofactors is a member, and each member is one, with one cofactor for each element.
  pub Member-from_list : (cs L : List A) → Member R L (list_combination R cs L)
  Member-from_list cs L = record { cofactors = λ j. get_or cs j 𝟘; is = list_combination-get_or R cs L }

  pub list_from_Member : {L : List A} {h : A} → Member R L h → (cs : List A) × (length cs ≡ length L) × (h ≡ list_combination R cs L)
  list_from_Member {L} H = (entries_for L H.cofactors, length_entries_for L H.cofactors, H.is ∙ sym (list_combination-entries_for R H.cofactors L))

  pub Member-sum_over : {X : Type 0} {L : List A} (f : X → A) (xs : List X) → All (λ x. Member R L (f x)) xs → Member R L (sum_over R f xs)
  Member-sum_over {L = L} f [] each = Member-zero L
  Member-sum_over {L = L} f (x ∷ xs) each = Member-add (All-head (λ x. Member R L (f x)) x xs each) (Member-sum_over f xs (All-tail (λ x. Member R L (f x)) x xs each))

  -- What holds of the list's elements and is kept by sums and multiples holds of each member.
  pub Member-induction : {L : List A} {h : A} (V : A → Type 0) → V 𝟘 → ((a b : A) → V a → V b → V (a ⊕ b)) → ((c a : A) → V a → V (c ⊗ a)) → All V L → Member R L h → V h
  Member-induction {L} V none more times each H = subst V (sym H.is) (go L H.cofactors each)
    where
      go : (L : List A) (c : ℕ → A) → All V L → V (combination R c L)
      go [] c each = none
      go (g ∷ L) c each = more (c 0 ⊗ g) (combination R (λ j. c (suc j)) L) (times (c 0) g (All-head V g L each)) (go L (λ j. c (suc j)) (All-tail V g L each))

  -- A combination of members is a member.
  pub Member-combination : {M : List A} (c : ℕ → A) (L : List A) → All (Member R M) L → Member R M (combination R c L)
  Member-combination {M} c [] each = Member-zero M
  Member-combination {M} c (g ∷ L) each = Member-add (Member-mul (c 0) (All-head (Member R M) g L each)) (Member-combination (λ j. c (suc j)) L (All-tail (Member R M) g L each))

  -- A member of (L) is a member of each (M) that (L) is inside.
  pub Member-Inside : {L M : List A} {h : A} → Inside R L M → Member R L h → Member R M h
  Member-Inside {L} I H = Member-same H.is (Member-combination H.cofactors L I.each)

  pub Inside-from : {L M : List A} → ((h : A) → Member R L h → Member R M h) → Inside R L M
  Inside-from {L} {M} f = record { each = All-weaker (Member R L) (Member R M) f L (Member-elements L) }

  pub Inside-refl : (L : List A) → Inside R L L
  Inside-refl L = record { each = Member-elements L }

  pub Inside-trans : {L M N : List A} → Inside R L M → Inside R M N → Inside R L N
  Inside-trans {L} {M} {N} I J = record { each = All-weaker (Member R M) (Member R N) (λ h H. Member-Inside J H) L I.each }

  pub Inside-nil : (M : List A) → Inside R [] M
  Inside-nil M = record { each = All-nil (Member R M) }

  pub Inside-cons : {g : A} {L M : List A} → Member R M g → Inside R L M → Inside R (g ∷ L) M
  Inside-cons {g} {L} {M} H I = record { each = All-cons (Member R M) g L H I.each }

  pub Inside-head : {g : A} {L M : List A} → Inside R (g ∷ L) M → Member R M g
  Inside-head {g} {L} {M} I = All-head (Member R M) g L I.each

  pub Inside-tail : {g : A} {L M : List A} → Inside R (g ∷ L) M → Inside R L M
  Inside-tail {g} {L} {M} I = record { each = All-tail (Member R M) g L I.each }

  pub Inside-Contains : {L M : List A} {g : A} → Inside R L M → Contains L g → Member R M g
  Inside-Contains {L} {M} {g} I c = All-contains (Member R M) L g I.each c

  pub SameIdeal-refl : (L : List A) → SameIdeal R L L
  SameIdeal-refl L = record { forth = Inside-refl L; back = Inside-refl L }

  pub SameIdeal-sym : {L M : List A} → SameIdeal R L M → SameIdeal R M L
  SameIdeal-sym E = record { forth = E.back; back = E.forth }

  pub SameIdeal-trans : {L M N : List A} → SameIdeal R L M → SameIdeal R M N → SameIdeal R L N
  SameIdeal-trans E F = record { forth = Inside-trans E.forth F.forth; back = Inside-trans F.back E.back }

  pub Inside-SameIdeal : {L L' M M' : List A} → SameIdeal R L L' → SameIdeal R M M' → Inside R L M → Inside R L' M'
  Inside-SameIdeal E F I = Inside-trans E.back (Inside-trans I F.forth)

  pub Member-SameIdeal : {L M : List A} {h : A} → SameIdeal R L M → Member R L h → Member R M h
  Member-SameIdeal E H = Member-Inside E.forth H

  -- The sum of two ideals: the ideal of both lists.
  pub Inside-append_left : (L M : List A) → Inside R L (L ++ M)
  Inside-append_left [] M = Inside-nil M
  Inside-append_left (g ∷ L) M = Inside-cons (Member-head g (L ++ M)) (Inside-from (λ h H. Member-tail (Member-Inside (Inside-append_left L M) H)))

  pub Inside-append_right : (L M : List A) → Inside R M (L ++ M)
  Inside-append_right [] M = Inside-refl M
  Inside-append_right (g ∷ L) M = Inside-from (λ h H. Member-tail (Member-Inside (Inside-append_right L M) H))

  pub Inside-append : {L M N : List A} → Inside R L N → Inside R M N → Inside R (L ++ M) N
  Inside-append {L} {M} {N} I J = record { each = All-append (Member R N) L M I.each J.each }

  pub Inside-append_both : {L L' M M' : List A} → Inside R L L' → Inside R M M' → Inside R (L ++ M) (L' ++ M')
  Inside-append_both {L' = L'} {M' = M'} I J = Inside-append (Inside-trans I (Inside-append_left L' M')) (Inside-trans J (Inside-append_right L' M'))

  pub SameIdeal-append : {L L' M M' : List A} → SameIdeal R L L' → SameIdeal R M M' → SameIdeal R (L ++ M) (L' ++ M')
  SameIdeal-append E F = record { forth = Inside-append_both E.forth F.forth; back = Inside-append_both E.back F.back }

  pub SameIdeal-append_comm : (L M : List A) → SameIdeal R (L ++ M) (M ++ L)
  SameIdeal-append_comm L M = record {
    forth = Inside-append (Inside-append_right M L) (Inside-append_left M L);
    back = Inside-append (Inside-append_right L M) (Inside-append_left L M);
  }

  pub Member-append_left : {L : List A} (M : List A) {h : A} → Member R L h → Member R (L ++ M) h
  Member-append_left {L} M H = Member-Inside (Inside-append_left L M) H

  pub Member-append_right : (L : List A) {M : List A} {h : A} → Member R M h → Member R (L ++ M) h
  Member-append_right L {M} H = Member-Inside (Inside-append_right L M) H

  -- A member of the sum is a sum of members.
  pub Member-append_split : (L M : List A) {h : A} → Member R (L ++ M) h → (a : A) × (b : A) × Member R L a × Member R M b × h ≡ a ⊕ b
  Member-append_split [] M {h} H = (𝟘, h, Member-zero [], H, sym (zero_add R h))
  Member-append_split (g ∷ L) M {h} H =
      let rest = Member-append_split L M {h = combination R (λ j. H.cofactors (suc j)) (L ++ M)} (record { cofactors = λ j. H.cofactors (suc j); is = refl }) in
      (H.cofactors 0 ⊗ g ⊕ rest.0, rest.1, Member-add (Member-mul (H.cofactors 0) (Member-head g L)) (Member-tail rest.2), rest.3, H.is ∙ ap (◌⊕◌ (H.cofactors 0 ⊗ g)) rest.4 ∙ sym (add_assoc R _ _ _))

  -- The multiples of an ideal by one element.
  pub Member-multiples : {L : List A} {h : A} (f : A) → Member R L h → Member R (multiples R f L) (f ⊗ h)
  Member-multiples {L} f H = record { cofactors = H.cofactors; is = ap (◌⊗◌ f) H.is ∙ sym (combination-multiples R H.cofactors f L) }

  -- A member of f L is f times a member of L.
  pub Member-multiples_split : (f : A) (L : List A) {h : A} → Member R (multiples R f L) h → (k : A) × Member R L k × h ≡ f ⊗ k
  Member-multiples_split f L H = (combination R H.cofactors L, record { cofactors = H.cofactors; is = refl }, H.is ∙ combination-multiples R H.cofactors f L)

  pub Inside-multiples : {L M : List A} (f : A) → Inside R L M → Inside R (multiples R f L) (multiples R f M)
  Inside-multiples {L} {M} f I = record { each = All-map (Member R (multiples R f M)) (◌⊗◌ f) L (All-weaker (Member R M) (λ h. Member R (multiples R f M) (f ⊗ h)) (λ h H. Member-multiples f H) L I.each) }

  pub SameIdeal-multiples : {L M : List A} (f : A) → SameIdeal R L M → SameIdeal R (multiples R f L) (multiples R f M)
  SameIdeal-multiples f E = record { forth = Inside-multiples f E.forth; back = Inside-multiples f E.back }

  pub Inside-multiples_self : (f : A) (L : List A) → Inside R (multiples R f L) L
  Inside-multiples_self f L = record { each = All-map (Member R L) (◌⊗◌ f) L (All-weaker (Member R L) (λ h. Member R L (f ⊗ h)) (λ h H. Member-mul f H) L (Member-elements L)) }

  -- The product of two ideals.
  pub Member-products : (L M : List A) {a b : A} → Member R L a → Member R M b → Member R (products R L M) (a ⊗ b)
  Member-products [] M {a} {b} H K = Member-same (ap (λ x. x ⊗ b) H.is ∙ zero_mul R b) (Member-zero [])
  Member-products (g ∷ L) M {a} {b} H K =
      let t = combination R (λ j. H.cofactors (suc j)) L in
      let first : Member R (products R (g ∷ L) M) (H.cofactors 0 ⊗ (g ⊗ b)) = Member-mul (H.cofactors 0) (Member-append_left (products R L M) (Member-multiples g K)) in
      let rest : Member R (products R (g ∷ L) M) (t ⊗ b) = Member-append_right (multiples R g M) (Member-products L M (record { cofactors = λ j. H.cofactors (suc j); is = refl }) K) in
      Member-same (ap (λ x. x ⊗ b) H.is ∙ add_mul R (H.cofactors 0 ⊗ g) t b ∙ ap (λ x. x ⊕ t ⊗ b) (mul_assoc R (H.cofactors 0) g b)) (Member-add first rest)

  -- It is inside N where each product of an element of L and one of M is.
  pub Inside-products : (L M N : List A) → All (λ g. All (λ k. Member R N (g ⊗ k)) M) L → Inside R (products R L M) N
  Inside-products [] M N each = Inside-nil N
  Inside-products (g ∷ L) M N each =
      let P : A → Type 0 = λ x. All (λ k. Member R N (x ⊗ k)) M in
      Inside-append (record { each = All-map (Member R N) (◌⊗◌ g) M (All-head P g L each) }) (Inside-products L M N (All-tail P g L each))

  -- It is inside N where each product of a member of (L) and one of (M) is.
  pub Inside-products_from : (L M N : List A) → ((a b : A) → Member R L a → Member R M b → Member R N (a ⊗ b)) → Inside R (products R L M) N
  Inside-products_from L M N f = Inside-products L M N (All-weaker (Member R L) (λ g. All (λ k. Member R N (g ⊗ k)) M) (λ g G. All-weaker (Member R M) (λ k. Member R N (g ⊗ k)) (λ k K. f g k G K) M (Member-elements M)) L (Member-elements L))

  pub Inside-products_both : {L L' M M' : List A} → Inside R L L' → Inside R M M' → Inside R (products R L M) (products R L' M')
  Inside-products_both {L} {L'} {M} {M'} I J = Inside-products_from L M (products R L' M') (λ a b H K. Member-products L' M' (Member-Inside I H) (Member-Inside J K))

  pub SameIdeal-products : {L L' M M' : List A} → SameIdeal R L L' → SameIdeal R M M' → SameIdeal R (products R L M) (products R L' M')
  SameIdeal-products E F = record { forth = Inside-products_both E.forth F.forth; back = Inside-products_both E.back F.back }

  Inside-products_comm : (L M : List A) → Inside R (products R L M) (products R M L)
  Inside-products_comm L M = Inside-products_from L M (products R M L) (λ a b H K. Member-same (mul_comm R a b) (Member-products M L K H))

  pub SameIdeal-products_comm : (L M : List A) → SameIdeal R (products R L M) (products R M L)
  SameIdeal-products_comm L M = record { forth = Inside-products_comm L M; back = Inside-products_comm M L }

  -- To map a product's members, map the products of members.
  Member-products_into : (L M N : List A) (t : A) → ((a b : A) → Member R L a → Member R M b → Member R N ((a ⊗ b) ⊗ t)) → (h : A) → Member R (products R L M) h → Member R N (h ⊗ t)
  Member-products_into [] M N t f h H = Member-same (ap (λ x. x ⊗ t) H.is ∙ zero_mul R t) (Member-zero N)
  Member-products_into (g ∷ L) M N t f h H =
      let parts = Member-append_split (multiples R g M) (products R L M) H in
      let front = Member-multiples_split g M parts.2 in
      let first : Member R N (parts.0 ⊗ t) = Member-same (ap (λ x. x ⊗ t) front.2) (f g front.0 (Member-head g L) front.1) in
      let rest : Member R N (parts.1 ⊗ t) = Member-products_into L M N t (λ a b K. f a b (Member-tail K)) parts.1 parts.3 in
      Member-same (ap (λ x. x ⊗ t) parts.4 ∙ add_mul R parts.0 parts.1 t) (Member-add first rest)

  Inside-products_assoc : (L M N : List A) → Inside R (products R (products R L M) N) (products R L (products R M N))
  Inside-products_assoc L M N = Inside-products_from (products R L M) N (products R L (products R M N)) (λ h t H T.
      Member-products_into L M (products R L (products R M N)) t (λ a b K B. Member-same (mul_assoc R a b t) (Member-products L (products R M N) K (Member-products M N B T))) h H)

  pub SameIdeal-products_assoc : (L M N : List A) → SameIdeal R (products R (products R L M) N) (products R L (products R M N))
  SameIdeal-products_assoc L M N = record {
    forth = Inside-products_assoc L M N;
    back = Inside-trans (Inside-products_comm L (products R M N)) (Inside-trans (Inside-products_both (Inside-products_comm M N) (Inside-refl L)) (Inside-trans (Inside-products_assoc N M L) (Inside-trans (Inside-products_comm N (products R M L)) (Inside-products_both (Inside-products_comm M L) (Inside-refl N)))));
  }

  -- The unit ideal is the unit of the product.
  pub SameIdeal-products_one : (L : List A) → SameIdeal R (products R (𝟙 ∷ []) L) L
  SameIdeal-products_one L = record {
    forth = Inside-products_from (𝟙 ∷ []) L L (λ a b H K. Member-mul a K);
    back = Inside-from (λ h H. Member-same (sym (one_mul R h)) (Member-products (𝟙 ∷ []) L (Member-head 𝟙 []) H));
  }

  -- The product with the ideal of one element.
  pub SameIdeal-products_single : (f : A) (L : List A) → SameIdeal R (products R (f ∷ []) L) (multiples R f L)
  SameIdeal-products_single f L = record {
    forth = Inside-append (Inside-refl (multiples R f L)) (Inside-nil (multiples R f L));
    back = Inside-append_left (multiples R f L) [];
  }

  -- An ideal with 1 among its members is the whole ring.
  pub Member-all : {L : List A} → Member R L 𝟙 → (h : A) → Member R L h
  Member-all H h = Member-same (sym (mul_one R h)) (Member-mul h H)

pub combination-RingMap : {A B : Type 0} {R : CommutativeRing A} {S : CommutativeRing B} {f : A → B} → RingMap R S f → (c : ℕ → A) (L : List A) → f (combination R c L) ≡ combination S (λ j. f (c j)) (map f L)
combination-RingMap F c [] = F.keeps_zero
combination-RingMap {R} {S} {f} F c (g ∷ L) = F.keeps_add (R.mul (c 0) g) (combination R (λ j. c (suc j)) L) ∙ ap₂ S.add (F.keeps_mul (c 0) g) (combination-RingMap F (λ j. c (suc j)) L)

-- Ring maps carry members, and so on, to the ideal of the images.
pub Member-RingMap : {A B : Type 0} {R : CommutativeRing A} {S : CommutativeRing B} {f : A → B} → RingMap R S f → {L : List A} {h : A} → Member R L h → Member S (map f L) (f h)
Member-RingMap {f} F {L} H = record { cofactors = λ j. f (H.cofactors j); is = ap f H.is ∙ combination-RingMap F H.cofactors L }

pub Inside-RingMap : {A B : Type 0} {R : CommutativeRing A} {S : CommutativeRing B} {f : A → B} → RingMap R S f → {L M : List A} → Inside R L M → Inside S (map f L) (map f M)
Inside-RingMap {R} {S} {f} F {L} {M} I = record { each = All-map (Member S (map f M)) f L (All-weaker (Member R M) (λ h. Member S (map f M) (f h)) (λ h H. Member-RingMap F H) L I.each) }

pub SameIdeal-RingMap : {A B : Type 0} {R : CommutativeRing A} {S : CommutativeRing B} {f : A → B} → RingMap R S f → {L M : List A} → SameIdeal R L M → SameIdeal S (map f L) (map f M)
SameIdeal-RingMap F E = record { forth = Inside-RingMap F E.forth; back = Inside-RingMap F E.back }

-- Where a ring map sends each element of the list to zero, it sends each member to zero.
pub Member-vanishes : {A B : Type 0} {R : CommutativeRing A} {S : CommutativeRing B} {f : A → B} → RingMap R S f → {L : List A} {h : A} → All (λ g. f g ≡ S.zero) L → Member R L h → f h ≡ S.zero
Member-vanishes {R} {S} {f} F each H =
    Member-induction (λ h. f h ≡ S.zero) F.keeps_zero
    (λ a b x y. F.keeps_add a b ∙ ap₂ S.add x y ∙ S.add_zero S.zero)
    (λ c a x. F.keeps_mul c a ∙ ap (S.mul (f c)) x ∙ mul_zero S (f c))
    each H
