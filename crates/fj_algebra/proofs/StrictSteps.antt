-- Chains of ideals that are generated in bounded degree: each strict step moves the number of leads of bounded degree.
use Rattle.std.proofs.Common.{◌≡◌, ℕ, zero, suc, ◌+◌, ◌<◌, ◌≤◌, List, [], ◌∷◌, All, Contains, length, ◌⊎◌, inl, inr, sym, ◌∙◌, subst, arith, eq-or-lt_of_le}
use Rattle.std.proofs.lemmas.List.Elements.{All-contains, All-weaker}
use Rattle.fj_algebra.specs.Ring.{subtract}
use Rattle.fj_algebra.specs.Ideal.{Member, Inside}
use Rattle.fj_algebra.specs.Order.{IsAtMost, IsBelow}
use Rattle.fj_algebra.specs.Polynomial.{OrderedPolynomials, IsLead, Supported}
use Rattle.fj_algebra.specs.Buchberger.{IsReducible, LeadIsReducible}
use Rattle.fj_algebra.specs.StrictSteps.{IsFace, IsRestriction, IsDegreeOrder, IsBounded, IsBoundedIdeal}
use Rattle.fj_algebra.proofs.Ideal.{Member-zero, Member-add, Member-mul, Member-same, Member-subtract, Member-Contains, Member-Inside, Inside-Contains}
use Rattle.fj_algebra.proofs.Order.{below_irrefl, below_trans, one_times}
use Rattle.fj_algebra.proofs.Pairs.{contains_cons, contains_nil, All-from_elements}
use Rattle.fj_algebra.proofs.Polynomial.{at_most_lead, Supported-weaker, Supported-subtract, Supported-multiple, coefficient_outside, lead_induction, lead_unique, lead_nonzero}
use Rattle.fj_algebra.proofs.Division.{under_cancel, quotient_scalar, reducible, restore}
use Rattle.fj_algebra.proofs.Leads.{lead_multiple}
use Rattle.fj_algebra.proofs.Restriction.{restriction, restriction_member}

-- how many elements of a list satisfy a decided predicate
abbrev count_one : {Q : Type 0} → Dec Q → ℕ → ℕ
count_one (yes _) n = suc n
count_one (no _) n = n

abbrev how_many : {X : Type 0} {Q : X → Type 0} → ((x : X) → Dec (Q x)) → List X → ℕ
how_many d [] = 0
how_many d (x ∷ xs) = count_one (d x) (how_many d xs)

how_many_at_most : {X : Type 0} {Q : X → Type 0} (d : (x : X) → Dec (Q x)) (xs : List X) → how_many d xs ≤ length xs
how_many_at_most d [] = omega arith
how_many_at_most {X} {Q} d (x ∷ xs) = go (d x) (how_many_at_most d xs)
  where
    go : (e : Dec (Q x)) → how_many d xs ≤ length xs → count_one e (how_many d xs) ≤ suc (length xs)
    go (yes _) h = omega arith
    go (no _) h = omega arith

module _ {X : Type 0} {Q R : X → Type 0} (d : (x : X) → Dec (Q x)) (e : (x : X) → Dec (R x)) (w : (x : X) → Q x → R x) where
  how_many_grows : (xs : List X) → how_many d xs ≤ how_many e xs
  how_many_grows [] = omega arith
  how_many_grows (x ∷ xs) = go (d x) (e x) (how_many_grows xs)
    where
      go : (y : Dec (Q x)) (z : Dec (R x)) → how_many d xs ≤ how_many e xs → count_one y (how_many d xs) ≤ count_one z (how_many e xs)
      go (yes _) (yes _) h = omega arith
      go (yes q) (no n) h = absurd (n (w x q))
      go (no _) (yes _) h = omega arith
      go (no _) (no _) h = omega arith

  how_many_same : (xs : List X) → how_many d xs ≡ how_many e xs → (x : X) → Contains xs x → R x → Q x
  how_many_same [] h x c r = absurd (contains_nil x c)
  how_many_same (y ∷ xs) h x c r = go (d y) (e y) h (contains_cons y xs x c) (how_many_same xs) (how_many_grows xs)
    where
      go : (u : Dec (Q y)) (v : Dec (R y)) → count_one u (how_many d xs) ≡ count_one v (how_many e xs) → (y ≡ x) ⊎ Contains xs x →
          (how_many d xs ≡ how_many e xs → (x : X) → Contains xs x → R x → Q x) → how_many d xs ≤ how_many e xs → Q x
      go (yes q) (yes _) h (inl i) rest g = subst Q i q
      go (yes q) (yes _) h (inr i) rest g = rest (omega arith) x i r
      go (yes q) (no n) h i rest g = absurd (n (w y q))
      go (no _) (yes _) h i rest g = absurd (omega arith)
      go (no _) (no n) h (inl i) rest g = absurd (n (subst R (sym i) r))
      go (no _) (no _) h (inr i) rest g = rest h x i r

module _ {K M A : Type 0} (P : OrderedPolynomials K M A) {V : M → Type 0} (face : IsFace P.monomials V) {degree : M → ℕ}
    (by_degree : IsDegreeOrder P.order degree) (D : ℕ) where
  open P use {coefficient, term, ring.{zero as 𝟘, add, neg, mul}, field.ring as scalars, monomials.{one, times}, order}

  -- Each monomial of bounded degree that a basis reduces is the lead of a member.
  lead_of_member : {L G : List A} {a : M} → Inside P.ring G L → IsReducible P (Contains G) a → (f : A) × Member P.ring L f × IsLead P f a
  lead_of_member {L} {G} {a} inside r = (
    mul (term scalars.one r.divides.quotient) r.divisor,
    Member-mul (term scalars.one r.divides.quotient) (Inside-Contains inside r.member),
    subst (IsLead P (mul (term scalars.one r.divides.quotient) r.divisor)) (P.monomials.times_comm r.divides.quotient r.lead ∙ r.divides.product)
        (lead_multiple P r.divides.quotient r.is_lead),
  )

  -- the part in V of a polynomial keeps a lead in V, and is bounded as the lead is
  module _ {f g : A} {a : M} (is : IsRestriction P.polynomials V f g) (l : IsLead P f a) (bounded : IsBounded V degree D a) where
    restricted_lead : IsLead P g a
    restricted_lead = record {
      nonzero = λ z. l.nonzero (sym (is.is a bounded.inside) ∙ z);
      top = λ b k. elim (face.decided b) [ yes v ↦ is.is b v ∙ l.top b k | no n ↦ coefficient_outside P.polynomials is.within b n ];
    }

    restricted_bounded : Supported P.polynomials (IsBounded V degree D) g
    restricted_bounded =
        record {
          within = λ b n. record
              { inside = is.within.within b n; small = small b ((at_most_lead P restricted_lead.top).within b n) (compare_numbers (degree a) (degree b)) };
        }
      where
        compare_numbers : (i j : ℕ) → (i < j) ⊎ (j ≤ i)
        compare_numbers i j = grind arith

        small : (b : M) → IsAtMost order b a → (degree a < degree b) ⊎ (degree b ≤ degree a) → degree b ≤ D
        small b m (inr h) = let s = bounded.small in omega arith
        small b (inl m) (inl h) = absurd (below_irrefl order (below_trans order m (by_degree.lower a b h)))
        small b (inr e) (inl h) = absurd (below_irrefl order (subst (IsBelow order a) e (by_degree.lower a b h)))

  module _ {L N G H : List A} (small : IsBoundedIdeal P (IsBounded V degree D) L G) (large : IsBoundedIdeal P (IsBounded V degree D) N H)
      (inside : Inside P.ring L N) where
    -- Nested ideals that are generated in bounded degree and have the same leads of bounded degree are equal.
    pub same_leads : ((a : M) → IsBounded V degree D a → IsReducible P (Contains H) a → IsReducible P (Contains G) a) → Inside P.ring N L
    same_leads leads =
        record {
          each = All-from_elements (Member P.ring L) N
              (λ g c. reduce g (All-contains (Supported P.polynomials (IsBounded V degree D)) N g large.bounded c) (Member-Contains c));
        }
      where
        in_face : All (Supported P.polynomials V) L
        in_face =
            All-weaker (Supported P.polynomials (IsBounded V degree D)) (Supported P.polynomials V)
            (λ f s. Supported-weaker P.polynomials (λ a b. b.inside) s) L small.bounded

        step : (f : A) (a : M) → IsLead P f a →
            ((g : A) → Supported P.polynomials (λ b. IsBelow order b a) g → Supported P.polynomials (IsBounded V degree D) g → Member P.ring N g →
            Member P.ring L g) → Supported P.polynomials (IsBounded V degree D) f → Member P.ring N f → Member P.ring L f
        step f a l lower s m = from_lead (lead_of_member small.inside (leads a (s.within a l.nonzero) (at_lead (large.covers.covers f m (lead_nonzero P l)))))
          where
            at_lead : LeadIsReducible P (Contains H) f → IsReducible P (Contains H) a
            at_lead k = subst (IsReducible P (Contains H)) (lead_unique P k.is_lead l) k.reducible

            from_lead : (g : A) × Member P.ring L g × IsLead P g a → Member P.ring L f
            from_lead (g, in_L, k) = from_restriction (restriction P face g)
              where
                from_restriction : (h : A) × IsRestriction P.polynomials V g h → Member P.ring L f
                from_restriction (h, is) =
                    let c : K = scalars.mul (coefficient f a) (P.field.inverse (coefficient h a)) in
                    let h_lead = restricted_lead is k (s.within a l.nonzero) in
                    let h_in : Member P.ring L h = restriction_member P face in_face in_L is in
                    Member-same (restore P.ring f (mul (term c one) h)) (Member-add
                    (lower (subtract P.ring f (mul (term c one) h))
                    (under_cancel P l h_lead (one_times P.monomials a) (quotient_scalar P h_lead (coefficient f a)))
                    (Supported-subtract P.polynomials s
                    (Supported-multiple P.polynomials c one (λ b i. subst (IsBounded V degree D) (sym (one_times P.monomials b)) i)
                    (restricted_bounded is k (s.within a l.nonzero))))
                    (Member-subtract m (Member-mul (term c one) (Member-Inside inside h_in))))
                    (Member-mul (term c one) h_in))

        reduce : (f : A) → Supported P.polynomials (IsBounded V degree D) f → Member P.ring N f → Member P.ring L f
        reduce = lead_induction P (λ f. Supported P.polynomials (IsBounded V degree D) f → Member P.ring N f → Member P.ring L f) (λ _ _. Member-zero L) step

    -- The leads of the smaller ideal are leads of the larger.
    leads_grow : (a : M) → IsReducible P (Contains G) a → IsReducible P (Contains H) a
    leads_grow a r = go (lead_of_member small.inside r)
      where
        go : (f : A) × Member P.ring L f × IsLead P f a → IsReducible P (Contains H) a
        go (f, m, l) = at_lead (large.covers.covers f (Member-Inside inside m) (lead_nonzero P l))
          where
            at_lead : LeadIsReducible P (Contains H) f → IsReducible P (Contains H) a
            at_lead k = subst (IsReducible P (Contains H)) (lead_unique P k.is_lead l) k.reducible

    -- A strict step moves the number of leads among the monomials of bounded degree.
    strict_step : (box : List M) → ((a : M) → IsBounded V degree D a → Contains box a) → (Inside P.ring N L → ⊥) →
        how_many (reducible P G) box < how_many (reducible P H) box
    strict_step box all strict = go (eq-or-lt_of_le (how_many_grows (reducible P G) (reducible P H) leads_grow box))
      where
        go : (how_many (reducible P G) box ≡ how_many (reducible P H) box) ⊎ (how_many (reducible P G) box < how_many (reducible P H) box) →
            how_many (reducible P G) box < how_many (reducible P H) box
        go (inr h) = h
        go (inl e) = absurd (strict (same_leads (λ a b r. how_many_same (reducible P G) (reducible P H) leads_grow box e a (all a b) r)))

  module _ (box : List M) (all : (a : M) → IsBounded V degree D a → Contains box a) (chain basis : ℕ → List A)
      (bounded : (i : ℕ) → IsBoundedIdeal P (IsBounded V degree D) (chain i) (basis i)) where
    leads : ℕ → ℕ
    leads i = how_many (reducible P (basis i)) box

    -- A rising chain of ideals that are generated in bounded degree has at most as many strict steps as there are monomials of bounded degree.
    pub rising_steps : (m : ℕ) → ((i : ℕ) → i < m → Inside P.ring (chain i) (chain (suc i))) →
        ((i : ℕ) → i < m → Inside P.ring (chain (suc i)) (chain i) → ⊥) → m ≤ length box
    unfolding leads
    rising_steps m rises strict = let high = count m (omega arith) in let low = how_many_at_most (reducible P (basis m)) box in omega (arith, high, low)
      where
        count : (i : ℕ) → i ≤ m → i ≤ leads i
        count zero h = omega arith
        count (suc i) h =
            let before = count i (omega arith) in let step = strict_step (bounded i) (bounded (suc i)) (rises i (omega arith)) box all
            (strict i (omega arith)) in omega (arith, before, step)

    -- So has a falling one.
    pub falling_steps : (m : ℕ) → ((i : ℕ) → i < m → Inside P.ring (chain (suc i)) (chain i)) →
        ((i : ℕ) → i < m → Inside P.ring (chain i) (chain (suc i)) → ⊥) → m ≤ length box
    unfolding leads
    falling_steps m falls strict = let high = count m (omega arith) in let low = how_many_at_most (reducible P (basis 0)) box in omega (arith, high, low)
      where
        count : (i : ℕ) → i ≤ m → i + leads i ≤ leads 0
        count zero h = omega arith
        count (suc i) h =
            let before = count i (omega arith) in let step = strict_step (bounded (suc i)) (bounded i) (falls i (omega arith)) box all
            (strict i (omega arith)) in omega (arith, before, step)
