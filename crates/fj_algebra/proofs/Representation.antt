-- Laws of representations by multiples.
use Rattle.std.proofs.Common.{ℕ, zero, suc, List, [], ◌∷◌, Contains, arith, ◌≡◌, refl, sym, ap, ◌∙◌, subst}
use Rattle.fj_algebra.specs.Ring.{CommutativeRing, subtract}
use Rattle.fj_algebra.specs.Polynomial.{OrderedPolynomials, IsLead, Supported}
use Rattle.fj_algebra.specs.Representation.{Representation, nothing, more}
use Rattle.fj_algebra.proofs.Ring.{ring_laws, zero_mul, mul_zero, one_mul, neg_unique, neg_mul}
use Rattle.fj_algebra.specs.Ideal.{Member, combination}
use Rattle.fj_algebra.proofs.Ideal.{Member-zero, Member-add, Member-mul, Member-same}
use Rattle.fj_algebra.proofs.Order.{one_times}
use Rattle.fj_algebra.proofs.Polynomial.{term_add, term_zero, term_mul, term_one, term_induction}

module _ {A : Type 0} (R : CommutativeRing A) where
  open R use {add, mul, neg}

  add_more : (h k t rest : A) → h ≡ add t rest → add h k ≡ add t (add rest k)
  add_more h k t rest e = rw e (R.add_assoc t rest k)

  multiply_more : (s h t g rest : A) → h ≡ add (mul t g) rest → mul s h ≡ add (mul (mul s t) g) (mul s rest)
  multiply_more s h t g rest e = rw e (simp ring_laws)

module _ {K M A : Type 0} (P : OrderedPolynomials K M A) where
  open P use {coefficient, term, ring.{zero as 𝟘, one as 𝟙, add, neg, mul}, field.ring as scalars, monomials.{one, times}, order}

  pub Representation-weaker : {S T : A → Type 0} {B C : M → Type 0} {h : A} → ((g : A) → S g → T g) → ((a : M) → B a → C a) → Representation P S B h →
      Representation P T C h
  Representation-weaker u w (nothing e) = nothing e
  Representation-weaker u w (more c m g s b r e) = more c m g (u g s) (λ a k. w (times m a) (b a k)) (Representation-weaker u w r) e

  pub Representation-same : {S : A → Type 0} {B : M → Type 0} {h k : A} → k ≡ h → Representation P S B h → Representation P S B k
  Representation-same d (nothing e) = nothing (d ∙ e)
  Representation-same d (more c m g s b r e) = more c m g s b r (d ∙ e)

  pub Representation-add : {S : A → Type 0} {B : M → Type 0} {h k : A} → Representation P S B h → Representation P S B k → Representation P S B (add h k)
  Representation-add {k = k} (nothing e) t = Representation-same (rw e (simp ring_laws)) t
  Representation-add {h = h} {k = k} (more {rest = rest} c m g s b r e) t =
      more c m g s b (Representation-add r t) (add_more P.ring h k (mul (term c m) g) rest e)

  pub Representation-multiple : {S : A → Type 0} {B C : M → Type 0} {h : A} (c : K) (m : M) → ((a : M) → B a → C (times m a)) →
      Representation P S B h → Representation P S C (mul (term c m) h)
  Representation-multiple c m w (nothing e) = nothing (rw e (mul_zero P.ring (term c m)))
  Representation-multiple {C = C} {h = h} c m w (more {rest = rest} d n g s b r e) =
      more (scalars.mul c d) (times m n) g s (λ a k. subst C (sym (P.monomials.times_assoc m n a)) (w (times n a) (b a k))) (Representation-multiple c m w r)
      (multiply_more P.ring (term c m) h (term d n) g rest e ∙ ap (λ t. add (mul t g) (mul (term c m) rest)) (term_mul P c d m n))

  -- The term of the opposite coefficient is the negative.
  pub term_neg : (c : K) (a : M) → term (scalars.neg c) a ≡ neg (term c a)
  term_neg c a = neg_unique P.ring (term c a) (term (scalars.neg c) a) (term_add P c (scalars.neg c) a ∙ ap (λ c. term c a) (scalars.add_neg c) ∙ term_zero P a)

  -- The multiple by a constant.
  pub Representation-scale : {S : A → Type 0} {B : M → Type 0} {h : A} (c : K) → Representation P S B h → Representation P S B (mul (term c one) h)
  Representation-scale {B = B} c r = Representation-multiple c one (λ a b. subst B (sym (one_times P.monomials a)) b) r

  pub Representation-neg : {S : A → Type 0} {B : M → Type 0} {h : A} → Representation P S B h → Representation P S B (neg h)
  Representation-neg {h = h} r =
      Representation-same (sym (ap (λ t. mul t h) (term_neg scalars.one one ∙ ap neg (term_one P)) ∙ neg_mul P.ring 𝟙 h ∙ ap neg (one_mul P.ring h)))
      (Representation-scale (scalars.neg scalars.one) r)

  pub Representation-subtract : {S : A → Type 0} {B : M → Type 0} {h k : A} → Representation P S B h → Representation P S B k →
      Representation P S B (subtract P.ring h k)
  Representation-subtract r t = Representation-add r (Representation-neg t)

  -- One multiple.
  pub Representation-single : {S : A → Type 0} {B : M → Type 0} (c : K) (m : M) (g : A) → S g → ((a : M) → IsLead P g a → B (times m a)) →
      Representation P S B (mul (term c m) g)
  Representation-single c m g s b = more c m g s b (nothing refl) (sym (P.ring.add_zero (mul (term c m) g)))

  -- The product of a polynomial with monomials in B and a member of S.
  pub Representation-product : {S : A → Type 0} {B C : M → Type 0} {p : A} (g : A) → S g → ((b a : M) → B b → IsLead P g a → C (times b a)) →
      Supported P.polynomials B p → Representation P S C (mul p g)
  Representation-product {S} {B} {C} {p} g s w t =
      term_induction P B (λ p. Representation P S C (mul p g)) (nothing (zero_mul P.ring g))
      (λ c b p h r. more c b g s (λ a k. w b a h k) r (spread P.ring (term c b) p g)) p t
    where
      spread : {A : Type 0} (R : CommutativeRing A) (f h g : A) → R.mul (R.add f h) g ≡ R.add (R.mul f g) (R.mul h g)
      spread R f h g = simp ring_laws

  -- What is represented by members of (L) is in (L).
  pub Member-from_representation : {L : List A} {S : A → Type 0} {B : M → Type 0} {h : A} → ((g : A) → S g → Member P.ring L g) →
      Representation P S B h → Member P.ring L h
  Member-from_representation {L = L} u (nothing e) = Member-same e (Member-zero L)
  Member-from_representation u (more c m g s b r e) = Member-same e (Member-add (Member-mul (term c m) (u g s)) (Member-from_representation u r))

  combination_representation : {S : A → Type 0} (c : ℕ → A) (L : List A) → ((g : A) → Contains L g → S g) →
      Representation P S (λ _. Unit {0}) (combination P.ring c L)
  combination_representation c [] u = nothing refl
  combination_representation c (g ∷ L) u =
      Representation-add (Representation-product g (u g (zero, omega arith, refl)) (λ _ _ _ _. tt) (record { within = λ a n. tt {0} }))
      (combination_representation (λ j. c (suc j)) L (λ k h. u k (suc h.0, omega (arith, h.1), h.2)))

  -- A member of the ideal (L) is represented by L.
  pub representation_from_Member : {L : List A} {h : A} → Member P.ring L h → Representation P (Contains L) (λ _. Unit {0}) h
  representation_from_Member {L} m = Representation-same m.is (combination_representation m.cofactors L (λ g h. h))
