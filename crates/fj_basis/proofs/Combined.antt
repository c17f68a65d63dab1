-- Sums of multiples, and histories that grow.
use Rattle.std.proofs.Common.{◌≡◌, ◌⊎◌, inl, inr, ℕ, zero, suc, ◌+◌, ◌<◌, ◌≤◌, true, List, [], ◌∷◌, ◌++◌, length, length-append, map, take, get_or, All, refl, sym, ap, ap₂, ◌∙◌, subst, subst₂, arith, add-one}
use Rattle.std.specs.FinMap.{empty}
use Rattle.std.proofs.Math.Seq.{take-suc}
use Rattle.std.proofs.lemmas.List.{get_or-append-add, get_or-take, get_or_append_left, get_or_push, length-take-le, take-append-le, take_all}
use Rattle.std.proofs.lemmas.Bool.{cases_order}
use Rattle.std.proofs.lemmas.List.Elements.{All-nil, All-push}
use Rattle.fj_coeff.specs.Field.{Field, IsField}
use Rattle.fj_theory.specs.Exponents.{total}
use Rattle.fj_theory.specs.Polynomial.{Polynomial, IsPolynomial, coefficient, negation, product, sum}
use Rattle.fj_theory.specs.Ideal.{ArePolynomials, list_combination}
use Rattle.fj_theory.proofs.IdealBridge.{ArePolynomials-head, ArePolynomials-tail}
use Rattle.fj_theory.proofs.Polynomial.{IsPolynomial-empty, IsPolynomial-sum}
use Rattle.fj_theory.proofs.PolynomialRing.{IsPolynomial-negation, sum_assoc, sum_empty}
use Rattle.fj_theory.proofs.Product.{IsPolynomial-product}
use Rattle.fj_groebner.specs.Division.{Sugared, degree_limit, member_at, polynomials_of}
use Rattle.fj_groebner.proofs.Rows.{IsPolynomial-list_combination}
use Rattle.fj_basis.specs.declared.history.Summand.{Summand}
use Rattle.fj_basis.specs.declared.history.Making.{Making}
use Rattle.fj_basis.specs.declared.history.History.{History}
use Rattle.fj_basis.specs.History.{AreMade, HasRecordedMember, IsHistoryOf, IsMaking, IsSummand, IsWithNegatives, combined, subtracted}
use Rattle.fj_basis.specs.declared.members.Member.{Member}
use Rattle.fj_basis.specs.Members.{AreInPlace}
use Rattle.fj_basis.proofs.Rows.{empty_times, negation-empty}

module _ {K O : Type 0} (F : Field) (at : ℕ → Polynomial) where
  pub combined-append : (first : Polynomial) (ss ts : List (Summand K O)) → combined F at first (ss ++ ts) ≡ combined F at (combined F at first ss) ts
  unfolding combined
  combined-append first [] ts = refl
  combined-append first (s ∷ ss) ts = combined-append (sum F first (product F s.factor (at s.place))) ss ts

  pub combined-one : (first : Polynomial) (s : Summand K O) → combined F at first (s ∷ []) ≡ sum F first (product F s.factor (at s.place))
  unfolding combined
  combined-one first s = refl

  -- One multiple more.
  pub combined-more : (first : Polynomial) (ss : List (Summand K O)) (s : Summand K O) → combined F at first (ss ++ (s ∷ [])) ≡ sum F (combined F at first ss) (product F s.factor (at s.place))
  combined-more first ss s = combined-append first ss (s ∷ []) ∙ combined-one (combined F at first ss) s

  pub combined-two : (first : Polynomial) (s t : Summand K O) → combined F at first (s ∷ (t ∷ [])) ≡ sum F (sum F first (product F s.factor (at s.place))) (product F t.factor (at t.place))
  unfolding combined
  combined-two first s t = refl

module _ (F : Field) (at : ℕ → Polynomial) where
  pub subtracted-none : (first : Polynomial) (from : ℕ) → subtracted F at first from [] ≡ first
  unfolding subtracted
  subtracted-none first from = refl

  -- One quotient more.
  pub subtracted-more : (first : Polynomial) (from : ℕ) (qs : List Polynomial) (q : Polynomial)
      → subtracted F at first from (qs ++ (q ∷ [])) ≡ sum F (subtracted F at first from qs) (product F (negation F q) (at (from + length qs)))
  unfolding subtracted
  subtracted-more first from [] q = ap (λ n. sum F first (product F (negation F q) (at n))) (omega arith)
  subtracted-more first from (x ∷ qs) q =
      let start = sum F first (product F (negation F x) (at from)) in
      subtracted-more start (suc from) qs q ∙ ap (λ n. sum F (subtracted F at start (suc from) qs) (product F (negation F q) (at n))) (omega arith)

module _ {F : Field} (L : IsField F) (at : ℕ → Polynomial) where
  pub IsPolynomial-subtracted : ((k : ℕ) → IsPolynomial F (at k)) → (first : Polynomial) (from : ℕ) (qs : List Polynomial) → IsPolynomial F first → ArePolynomials F qs
      → IsPolynomial F (subtracted F at first from qs)
  unfolding subtracted
  IsPolynomial-subtracted A first from [] P Q = P
  IsPolynomial-subtracted A first from (q ∷ qs) P Q =
      IsPolynomial-subtracted A (sum F first (product F (negation F q) (at from))) (suc from) qs
      (IsPolynomial-sum L P (IsPolynomial-product L (IsPolynomial-negation L (ArePolynomials-head Q)) (A from))) (ArePolynomials-tail Q)

  -- What is subtracted is the combination with the quotients.
  pub subtracted-is : (G : List Sugared) → ArePolynomials F (polynomials_of G) → (qs : List Polynomial) → ArePolynomials F qs → length qs ≡ length G → (from : ℕ) (first : Polynomial) → IsPolynomial F first
      → ((k : ℕ) → k < length G → at (from + k) ≡ (member_at G k).polynomial)
      → subtracted F at first from qs ≡ sum F first (list_combination F (map (negation F) qs) (polynomials_of G))
  unfolding subtracted list_combination member_at
  subtracted-is [] A [] Q l from first P same = sym (sum_empty L P)
  subtracted-is [] A (q ∷ qs) Q l from first P same = absurd (omega (arith, l))
  subtracted-is (g ∷ G) A [] Q l from first P same = absurd (omega (arith, l))
  subtracted-is (g ∷ G) A (q ∷ qs) Q l from first P same =
      let N = IsPolynomial-negation L (ArePolynomials-head Q) in
      let M = IsPolynomial-product L N (ArePolynomials-head A) in
      let here : at from ≡ g.polynomial = ap at (omega arith) ∙ same 0 (omega arith) in
      ap (λ h. subtracted F at (sum F first (product F (negation F q) h)) (suc from) qs) here
      ∙ subtracted-is G (ArePolynomials-tail A) qs (ArePolynomials-tail Q) (omega (arith, l)) (suc from) (sum F first (product F (negation F q) g.polynomial)) (IsPolynomial-sum L P M)
      (λ k m. ap at (omega arith) ∙ same (suc k) (omega (arith, m)))
      ∙ sum_assoc L P M (IsPolynomial-list_combination L (negations qs (ArePolynomials-tail Q)) (ArePolynomials-tail A))
    where
      negations : (qs : List Polynomial) → ArePolynomials F qs → ArePolynomials F (map (negation F) qs)
      negations qs B = record { each = λ k d m. at_place qs B k d m }
        where
          at_place : (qs : List Polynomial) → ArePolynomials F qs → (k : ℕ) (d : Polynomial) → k < length (map (negation F) qs) → IsPolynomial F (get_or (map (negation F) qs) k d)
          at_place [] B k d m = absurd (omega (arith, m))
          at_place (q ∷ qs) B zero d m = IsPolynomial-negation L (ArePolynomials-head B)
          at_place (q ∷ qs) B (suc k) d m = at_place qs (ArePolynomials-tail B) k d (omega (arith, m))

-- The first n quotients are subtracted.
pub record AreNegatives {K O : Type 0} (F : Field) (first : List (Summand K O)) (from : ℕ) (quotients : List Polynomial) (n : ℕ) (all : List (Summand K O)) : Type 0 where
  pub sum_is : (at : ℕ → Polynomial) (start : Polynomial) → ((k : ℕ) → IsPolynomial F (at k)) → IsPolynomial F (combined F at start first)
      → combined F at start all ≡ subtracted F at (combined F at start first) from (take n quotients)
  pub each : (G : List Sugared) (bound : ℕ) → All (IsSummand F G bound) first
      → ((s : Summand K O) (k : ℕ) → k < n → s.place ≡ from + k → s.factor ≡ negation F (get_or quotients k empty) → IsSummand F G bound s) → All (IsSummand F G bound) all

module _ {K O : Type 0} {F : Field} (L : IsField F) (first : List (Summand K O)) (from : ℕ) (qs : List Polynomial) where
  pub negatives-none : AreNegatives F first from qs 0 first
  negatives-none = record {
    sum_is = λ at start A P. sym (subtracted-none F at (combined F at start first) from);
    each = λ G bound all more. all;
  }

  one_more : (at : ℕ → Polynomial) (h : Polynomial) (n : ℕ) → n < length qs
      → subtracted F at h from (take (n + 1) qs) ≡ sum F (subtracted F at h from (take n qs)) (product F (negation F (get_or qs n empty)) (at (from + n)))
  one_more at h n l =
      ap (λ m. subtracted F at h from (take m qs)) (add-one n) ∙ ap (subtracted F at h from) (take-suc qs n empty l) ∙ subtracted-more F at h from (take n qs) (get_or qs n empty)
      ∙ ap (λ m. sum F (subtracted F at h from (take n qs)) (product F (negation F (get_or qs n empty)) (at (from + m)))) (length-take-le n qs (omega (arith, l)))

  -- One that is zero.
  pub negatives-zero : (n : ℕ) (all : List (Summand K O)) → n < length qs → ArePolynomials F qs → get_or qs n empty ≡ empty → AreNegatives F first from qs n all → AreNegatives F first from qs (n + 1) all
  negatives-zero n all l Q z h = record {
    sum_is = λ at start A P.
        let R = IsPolynomial-subtracted L at A (combined F at start first) from (take n qs) P (front Q) in
        h.sum_is at start A P
        ∙ sym (one_more at (combined F at start first) n l
        ∙ ap (sum F (subtracted F at (combined F at start first) from (take n qs))) (ap (λ q. product F q (at (from + n))) (ap (negation F) z ∙ negation-empty L) ∙ empty_times F (at (from + n))) ∙ sum_empty L R);
    each = λ G bound own more. h.each G bound own (λ s k m. more s k (omega (arith, m)));
  }
    where
      front : ArePolynomials F qs → ArePolynomials F (take n qs)
      front Q = record {
        each = λ k d m. let long = length-take-le n qs (omega (arith, l)) in
            subst (IsPolynomial F) (sym (get_or-take n qs k d (omega (arith, long, m)))) (Q.each k d (omega (arith, long, m, l)));
      }

  -- One that isn't.
  pub negatives-more : (n : ℕ) (all new : List (Summand K O)) (s : Summand K O) → n < length qs → s.place ≡ from + n → s.factor ≡ negation F (get_or qs n empty) → new ≡ all ++ (s ∷ [])
      → AreNegatives F first from qs n all → AreNegatives F first from qs (n + 1) new
  negatives-more n all new s l place factor e h = record {
    sum_is = λ at start A P.
        ap (combined F at start) e ∙ combined-more F at start all s ∙ ap₂ (λ x y. sum F x y) (h.sum_is at start A P) (ap₂ (λ f k. product F f (at k)) factor place)
        ∙ sym (one_more at (combined F at start first) n l);
    each = λ G bound own more.
        subst (All (IsSummand F G bound)) (sym e)
        (All-push (IsSummand F G bound) all s (h.each G bound own (λ t k m. more t k (omega (arith, m)))) (more s n (omega arith) place factor));
  }

  pub negatives-all : (n : ℕ) (all : List (Summand K O)) → length qs ≤ n → n ≤ length qs → AreNegatives F first from qs n all → IsWithNegatives F first from qs all
  negatives-all n all l m h = record {
    sum_is = λ at start A P. h.sum_is at start A P ∙ ap (subtracted F at (combined F at start first) from) (take_all n qs l);
    each = λ G bound own more. h.each G bound own (λ s k i. more s k (omega (arith, i, m)));
  }

-- The summand, from its place and its factor.
pub IsSummand-at : {K O : Type 0} {F : Field} {G : List Sugared} {n : ℕ} (s : Summand K O) (k : ℕ) (f : Polynomial) → s.place ≡ k → s.factor ≡ f → k < length G → IsPolynomial F f
    → ((a : List ℕ) → 0 < coefficient f a → total a + (member_at G k).sugar ≤ n) → IsSummand F G n s
IsSummand-at {F = F} {G = G} {n = n} s k f e h l P low = record {
  place = omega (arith, e, l);
  factor = subst (IsPolynomial F) (sym h) P;
  within = λ a p. subst (λ j. total a + (member_at G j).sugar ≤ n) (sym e) (low a (subst (λ g. 0 < coefficient g a) h p));
}

pub member_at-left : (G H : List Sugared) (k : ℕ) → k < length G → member_at (G ++ H) k ≡ member_at G k
unfolding member_at
member_at-left G H k l = get_or_append_left G H (record { polynomial = empty; sugar = 0 }) k l

pub member_at-right : (G H : List Sugared) (k : ℕ) → member_at (G ++ H) (length G + k) ≡ member_at H k
unfolding member_at
member_at-right G H k = get_or-append-add G H k (record { polynomial = empty; sugar = 0 })

pub member_at-push : (G : List Sugared) (g : Sugared) (k : ℕ) → length G ≡ k → member_at (G ++ (g ∷ [])) k ≡ g
unfolding member_at
member_at-push G g k e = get_or_push G g (record { polynomial = empty; sugar = 0 }) k e

-- The member at any place is a polynomial.
pub member_at-IsPolynomial : {F : Field} (G : List Sugared) → ArePolynomials F (polynomials_of G) → (k : ℕ) → IsPolynomial F (member_at G k).polynomial
unfolding member_at
member_at-IsPolynomial {F} [] A k = IsPolynomial-empty F
member_at-IsPolynomial (g ∷ G) A zero = ArePolynomials-head A
member_at-IsPolynomial (g ∷ G) A (suc k) = member_at-IsPolynomial G (ArePolynomials-tail A) k

-- What is made at the place k, once g is.
abbrev MadeAt : {K O : Type 0} → Field → List Polynomial → List Sugared → Sugared → ℕ → Making K O → Type 0
MadeAt F L G g k m = IsMaking F L (take k (G ++ (g ∷ []))) (member_at (G ++ (g ∷ [])) k) m

-- How g is made from L comes to be recorded, where a history is kept.
pub record HasRecordedOver {K O : Type 0} (F : Field) (L : List Polynomial) (G : List Sugared) (g : Sugared) (before after : History K O) : Type 0 where
  pub kept : after.is_kept ≡ before.is_kept
  pub making : before.is_kept ≡ true → (x : Making K O) × (after.makings.items ≡ before.makings.items ++ (x ∷ [])) × IsMaking F L G g x

module _ {K O : Type 0} {F : Field} {L : List Polynomial} where
  pub AreMade-none : AreMade {K = K} {O = O} F L [] []
  AreMade-none = record { long = refl; each = λ k d l. absurd (omega (arith, l)) }

  pub AreMade-push : (G : List Sugared) (g : Sugared) (ms : List (Making K O)) (x : Making K O) → AreMade F L G ms → IsMaking F L G g x → AreMade F L (G ++ (g ∷ [])) (ms ++ (x ∷ []))
  AreMade-push G g ms x made one = record {
    long = length-append ms (x ∷ []) ∙ ap (λ n. n + 1) made.long ∙ sym (length-append G (g ∷ []));
    each = λ k d l. by k d (cases_order k (length ms)) (omega (arith, l, length-append ms (x ∷ [])));
  }
    where
      earlier : (k : ℕ) (d : Making K O) → k < length ms → MadeAt F L G g k (get_or (ms ++ (x ∷ [])) k d)
      earlier k d l =
          let long = made.long in
          let m : k < length G = omega (arith, l, long) in
          subst (λ y. IsMaking F L (take k (G ++ (g ∷ []))) (member_at (G ++ (g ∷ [])) k) y) (sym (get_or_append_left ms (x ∷ []) d k l))
          (subst₂ (λ T h. IsMaking F L T h (get_or ms k d)) (sym (take-append-le k G (g ∷ []) (omega (arith, m)))) (sym (member_at-left G (g ∷ []) k m)) (made.each k d l))

      here : (k : ℕ) (d : Making K O) → k ≡ length ms → MadeAt F L G g k (get_or (ms ++ (x ∷ [])) k d)
      here k d e =
          let whole : take k (G ++ (g ∷ [])) ≡ G = take-append-le k G (g ∷ []) (omega (arith, e, made.long)) ∙ take_all k G (omega (arith, e, made.long)) in
          subst (λ y. IsMaking F L (take k (G ++ (g ∷ []))) (member_at (G ++ (g ∷ [])) k) y) (sym (get_or_push ms x d k (sym e)))
          (subst₂ (λ T h. IsMaking F L T h x) (sym whole) (sym (member_at-push G g k (sym made.long ∙ sym e))) one)

      by : (k : ℕ) (d : Making K O) → (k ≡ length ms) ⊎ ((k < length ms) ⊎ (length ms < k)) → k < length ms + 1 → MadeAt F L G g k (get_or (ms ++ (x ∷ [])) k d)
      by k d (inl e) m = here k d e
      by k d (inr (inl l)) m = earlier k d l
      by k d (inr (inr h)) m = absurd (omega (arith, h, m))

  pub IsHistoryOf-over : (G : List Sugared) (g : Sugared) (before after : History K O) → HasRecordedOver F L G g before after → IsHistoryOf F L G before → IsHistoryOf F L (G ++ (g ∷ [])) after
  IsHistoryOf-over G g before after h old = record {
    made = λ kept.
        let was : before.is_kept ≡ true = sym h.kept ∙ kept in
        let one = h.making was in
        subst (AreMade F L (G ++ (g ∷ []))) (sym one.1) (AreMade-push G g before.makings.items one.0 (old.made was) one.2);
  }

  pub IsHistoryOf-push : (G : List Sugared) (g : Sugared) (before after : History K O) → HasRecordedMember F G g before after → IsHistoryOf F L G before → IsHistoryOf F L (G ++ (g ∷ [])) after
  IsHistoryOf-push G g before after h = IsHistoryOf-over G g before after (record { kept = h.kept; making = λ was. let one = h.making was in (one.0, one.1, one.2 L) })

-- Members in place.
module _ {K O : Type 0} where
  pub in_place-none : AreInPlace {K = K} {O = O} []
  in_place-none = record { places = λ k m l. absurd (omega (arith, l)); low = All-nil (λ m. m.sugar ≤ degree_limit) }

  pub in_place-push : (members : List (Member K O)) (m : Member K O) → AreInPlace members → m.place ≡ length members → m.sugar ≤ degree_limit → AreInPlace (members ++ (m ∷ []))
  in_place-push members m old place low = record {
    places = λ k d l. by k d (cases_order k (length members)) (omega (arith, l, length-append members (m ∷ [])));
    low = All-push (λ (x : Member K O). x.sugar ≤ degree_limit) members m old.low low;
  }
    where
      by : (k : ℕ) (d : Member K O) → (k ≡ length members) ⊎ ((k < length members) ⊎ (length members < k)) → k < length members + 1 → (get_or (members ++ (m ∷ [])) k d).place ≡ k
      by k d (inl e) l = ap (λ x. x.place) (get_or_push members m d k (sym e)) ∙ place ∙ sym e
      by k d (inr (inl h)) l = ap (λ x. x.place) (get_or_append_left members (m ∷ []) d k h) ∙ old.places k d h
      by k d (inr (inr h)) l = absurd (omega (arith, h, l))
