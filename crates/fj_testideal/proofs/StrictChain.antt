-- Strict chains of ideals that are generated in bounded degree are short, whether or not their leads are known.
use Rattle.std.proofs.Common.{◌≢◌, inl, inr, ℕ, zero, suc, ◌+◌, ◌<◌, ◌≤◌, List, [], ◌∷◌, length, Contains, sym, subst, arith}
use Rattle.std.specs.List.{AllPairs}
use Rattle.std.proofs.lemmas.Bool.{cases_lt}
use Rattle.std.proofs.lemmas.List.Elements.{All-contains}
use Rattle.std.proofs.lemmas.List.Kept.{AllPairs-cons}
use Rattle.fj_coeff.specs.Field.{Field, IsField}
use Rattle.fj_algebra.specs.StrictSteps.{monomial_count}
use Rattle.fj_algebra.proofs.Pairs.{contains_cons, contains_head, contains_tail, contains_nil, AllPairs-head, AllPairs-tail, All-from_elements}
use Rattle.fj_theory.specs.Polynomial.{Polynomial}
use Rattle.fj_theory.specs.Ideal.{Inside, SameIdeal}
use Rattle.fj_theory.proofs.Ideal.{SameIdeal-sym}
use Rattle.fj_testideal.specs.BoundedIdeal.{Variables, number_of, IsBoundedMonomial, IsLeadIn, AreLeads}
use Rattle.fj_testideal.specs.PeriodLaws.{IsStrictChain, IsShort}
use Rattle.fj_testideal.proofs.Counting.{at_most_as_many}
use Rattle.fj_testideal.proofs.MonomialList.{monomials_up_to, bounded-monomials_up_to, contains-monomials_up_to, distinct-monomials_up_to}
use Rattle.fj_testideal.proofs.BoundedChain.{AreLeads-few, strict_step}

-- The elements of a list of different elements for which P holds.
record Kept {X : Type 0} (P : X → Type 0) (xs : List X) : Type 0 where
  kept : List X
  within : (x : X) → Contains kept x → Contains xs x
  holds : (x : X) → Contains kept x → P x
  complete : (x : X) → Contains xs x → P x → Contains kept x
  distinct : AllPairs (λ x y. x ≢ y) kept

-- That there is no such list is absurd.
kept_of : {X : Type 0} (P : X → Type 0) (xs : List X) → AllPairs (λ x y. x ≢ y) xs → (Kept P xs → ⊥) → ⊥
kept_of P [] distinct none = none (record {
  kept = [];
  within = λ x c. c;
  holds = λ x c. absurd (contains_nil x c);
  complete = λ x c h. c;
  distinct = distinct;
})
kept_of {X} P (x ∷ xs) distinct none =
    kept_of P xs (AllPairs-tail (λ x y. x ≢ y) x xs distinct) (λ K. without K (λ h. with_it K h))
  where
    without : Kept P xs → (P x → ⊥) → ⊥
    without K n = none (record {
      kept = K.kept;
      within = λ y c. contains_tail x xs y (K.within y c);
      holds = K.holds;
      complete = λ y c h. elim (contains_cons x xs y c) [ inl e ↦ absurd (n (subst P (sym e) h)) | inr d ↦ K.complete y d h ];
      distinct = K.distinct;
    })

    with_it : Kept P xs → P x → ⊥
    with_it K h = none (record {
      kept = x ∷ K.kept;
      within = λ y c. elim (contains_cons x K.kept y c) [ inl e ↦ subst (Contains (x ∷ xs)) e (contains_head x xs) | inr d ↦ contains_tail x xs y (K.within y d) ];
      holds = λ y c. elim (contains_cons x K.kept y c) [ inl e ↦ subst P e h | inr d ↦ K.holds y d ];
      complete = λ y c k. elim (contains_cons x xs y c) [ inl e ↦ subst (Contains (x ∷ K.kept)) e (contains_head x K.kept) | inr d ↦ contains_tail x K.kept y (K.complete y d k) ];
      distinct = AllPairs-cons (λ x y. x ≢ y) x K.kept (All-from_elements (λ y. x ≢ y) K.kept (λ y c. AllPairs-head (λ x y. x ≢ y) x xs distinct y (K.within y c))) K.distinct;
    })

-- That an ideal has no list of leads is absurd.
leads_of : (F : Field) (vars : Variables) (bound : ℕ) (M : List Polynomial) → ((leads : List (List ℕ)) → AreLeads F vars bound M leads → ⊥) → ⊥
leads_of F vars bound M none =
    let all : List (List ℕ) = monomials_up_to vars bound in
    kept_of (IsLeadIn F M) all (distinct-monomials_up_to vars bound) (λ K. none K.kept (record {
      bounded = All-from_elements (IsBoundedMonomial vars bound) K.kept (λ a c. All-contains (IsBoundedMonomial vars bound) all a (bounded-monomials_up_to vars bound) (K.within a c));
      sound = All-from_elements (IsLeadIn F M) K.kept K.holds;
      complete = λ a b l. K.complete a (contains-monomials_up_to vars bound a b) l;
      distinct = K.distinct;
    }))

module _ {F : Field} (L : IsField F) {vars : Variables} {bound : ℕ} {chain : ℕ → List Polynomial} (last : ℕ) (C : IsStrictChain F vars bound chain last) where
  apart : (i : ℕ) → i < last → SameIdeal F (chain i) (chain (suc i)) → ⊥
  apart i h E = C.strict (i, h, E)

  -- Going up, the leads are at least as many as the steps.
  rising_leads : ((i : ℕ) → i < last → Inside F (chain i) (chain (suc i))) → (m : ℕ) → m ≤ last → (leads : List (List ℕ)) → AreLeads F vars bound (chain m) leads → m ≤ length leads
  rising_leads rises zero h leads are = omega arith
  rising_leads rises (suc m) h more many = elim (cases_lt (length more) (suc m)) [
    | inl less ↦ absurd (leads_of F vars bound (chain m) (λ leads are.
        let count = rising_leads rises m (omega arith) leads are in
        elim (strict_step L (C.polynomials m (omega arith)) (C.polynomials (suc m) h) (C.bounded m (omega arith)) (C.bounded (suc m) h) (rises m (omega arith)) are many) [
          | inl same ↦ apart m (omega arith) same
          | inr step ↦ absurd (omega (arith, less, count, step))
        ]))
    | inr enough ↦ enough
  ]

  -- Going down, the leads that are left and the steps are at most as many as the first leads.
  falling_leads : ((i : ℕ) → i < last → Inside F (chain (suc i)) (chain i)) → (first : List (List ℕ)) → AreLeads F vars bound (chain 0) first
      → (m : ℕ) → m ≤ last → (leads : List (List ℕ)) → AreLeads F vars bound (chain m) leads → m + length leads ≤ length first
  falling_leads falls first are_first zero h leads are =
      let few = at_most_as_many leads first are.distinct
      (λ a c. are_first.complete a (All-contains (IsBoundedMonomial vars bound) leads a are.bounded c) (All-contains (IsLeadIn F (chain 0)) leads a are.sound c)) in
      omega (arith, few)
  falling_leads falls first are_first (suc m) h fewer few = elim (cases_lt (length first) (suc m + length fewer)) [
    | inl less ↦ absurd (leads_of F vars bound (chain m) (λ leads are.
        let count = falling_leads falls first are_first m (omega arith) leads are in
        elim (strict_step L (C.polynomials (suc m) h) (C.polynomials m (omega arith)) (C.bounded (suc m) h) (C.bounded m (omega arith)) (falls m (omega arith)) few are) [
          | inl same ↦ apart m (omega arith) (SameIdeal-sym same)
          | inr step ↦ absurd (omega (arith, less, count, step))
        ]))
    | inr enough ↦ enough
  ]

  pub strict_chain-short : IsShort F vars bound chain last
  strict_chain-short = record {
    rising = λ rises. elim (cases_lt (monomial_count (number_of vars) bound) last) [
      | inl long ↦ absurd (leads_of F vars bound (chain last) (λ leads are.
          let count = rising_leads rises last (omega arith) leads are in
          omega (arith, count, AreLeads-few are, long)))
      | inr short ↦ short
    ];
    falling = λ falls. elim (cases_lt (monomial_count (number_of vars) bound) last) [
      | inl long ↦ absurd (leads_of F vars bound (chain 0) (λ first are_first. leads_of F vars bound (chain last) (λ leads are.
          let count = falling_leads falls first are_first last (omega arith) leads are in
          omega (arith, count, AreLeads-few are_first, long))))
      | inr short ↦ short
    ];
  }
