-- The pairs of a growing list: which are settled, and which are pending.
use Rattle.std.proofs.Common.{◌≡◌, ◌≢◌, ℕ, suc, ◌<◌, ◌≤◌, List, [], ◌∷◌, ◌++◌, length, get_or, Contains, ◌⊎◌, inl, inr, sym, subst, subst₂, arith, length-append}
use Rattle.std.specs.List.{AllPairs}
use Rattle.std.proofs.lemmas.List.{get_or_default, get_or_append_left}
use Rattle.std.proofs.lemmas.List.Elements.{Contains-append_left}
use Rattle.fj_algebra.specs.Order.{Divides}
use Rattle.fj_algebra.specs.Polynomial.{OrderedPolynomials, IsLead}
use Rattle.fj_algebra.specs.Buchberger.{Settled, SettledAt, AllSettledBut}
use Rattle.fj_algebra.proofs.Criteria.{Settled-weaker, Settled-sym, Settled-chain}

module _ {K M A : Type 0} (P : OrderedPolynomials K M A) where
  open P use {ring.{zero as 𝟘}}

  -- Settled pairs of places stay settled where the list grows at its end.
  pub SettledAt-grown : (G : List A) (r : A) (i j : ℕ) → i < length G → j < length G → SettledAt P G i j → SettledAt P (G ++ (r ∷ [])) i j
  SettledAt-grown G r i j k l s =
      record {
        pair = subst₂ (Settled P (Contains (G ++ (r ∷ [])))) (sym (get_or_append_left G (r ∷ []) 𝟘 i k))
            (sym (get_or_append_left G (r ∷ []) 𝟘 j l)) (Settled-weaker P (λ g c. Contains-append_left G (r ∷ []) g c) s.pair);
      }

  pub all_settled : (G : List A) → ((i j : ℕ) → i < j → j < length G → SettledAt P G i j) → AllPairs (Settled P (Contains G)) G
  all_settled G each i j d l k =
      let i_in : i < length G = omega arith in subst₂ (Settled P (Contains G)) (get_or_default G i 𝟘 d i_in) (get_or_default G j 𝟘 d k)
      ((each i j l k).pair)

  pub SettledAt-sym : {G : List A} {i j : ℕ} → SettledAt P G i j → SettledAt P G j i
  SettledAt-sym s = record { pair = Settled-sym P s.pair }

  -- The chain criterion at places of a list.
  pub SettledAt-chain : {G : List A} (i j k : ℕ) {a b c : M} → IsLead P (get_or G i 𝟘) a → IsLead P (get_or G j 𝟘) b → IsLead P (get_or G k 𝟘) c →
      ((d : M) → Divides P.monomials a d → Divides P.monomials b d → Divides P.monomials c d) → SettledAt P G i k → SettledAt P G j k → SettledAt P G i j
  SettledAt-chain i j k la lb lc divides s t = record { pair = Settled-chain P la lb lc divides s.pair (Settled-sym P t.pair) }

  -- The pair of two places that is pending in neither order is settled.
  pub settled_if_not_pending : {G : List A} {pending : ℕ → ℕ → Type 0} (i j : ℕ) → i ≢ j → i < length G → j < length G → (pending i j → ⊥) →
      (pending j i → ⊥) → AllSettledBut P G pending → SettledAt P G i j
  settled_if_not_pending i j n k l p q all = elim (apart i j n) [
    | inl h ↦ (elim (all.each i j h l) [ inl c ↦ absurd (p c) | inr s ↦ s ])
    | inr h ↦ (elim (all.each j i h k) [ inl c ↦ absurd (q c) | inr s ↦ SettledAt-sym s ])
  ]
    where
      apart : (i j : ℕ) → i ≢ j → (i < j) ⊎ (j < i)
      apart i j n = grind arith

  -- A pair that is settled is no longer pending.
  pub settle_pair : {G : List A} {before after : ℕ → ℕ → Type 0} (i j : ℕ) → SettledAt P G i j →
      ((x y : ℕ) → before x y → ((x ≡ i) × (y ≡ j)) ⊎ after x y) → AllSettledBut P G before → AllSettledBut P G after
  settle_pair {G} {before} {after} i j s left all = record { each = λ x y l k. go x y (all.each x y l k) }
    where
      at : (x y : ℕ) → x ≡ i → y ≡ j → SettledAt P G x y
      at x y e d = subst₂ (SettledAt P G) (sym e) (sym d) s

      go : (x y : ℕ) → before x y ⊎ SettledAt P G x y → after x y ⊎ SettledAt P G x y
      go x y (inr h) = inr h
      go x y (inl h) = elim (left x y h) [ inl e ↦ inr (at x y e.0 e.1) | inr k ↦ inl k ]

  -- Where a member is appended, its pairs with all earlier members become pending.
  pub append_pending : {G : List A} {before after : ℕ → ℕ → Type 0} (r : A) → ((x y : ℕ) → before x y → after x y) →
      ((x : ℕ) → x < length G → after x (length G)) → AllSettledBut P G before → AllSettledBut P (G ++ (r ∷ [])) after
  append_pending {G} {before} {after} r keeps last all = record { each = λ x y l k. go x y l (eq_or_lt y k) }
    where
      eq_or_lt : (y : ℕ) → y < length (G ++ (r ∷ [])) → (y ≡ length G) ⊎ (y < length G)
      eq_or_lt y k = let e = length-append G (r ∷ []) in let h : suc y ≤ suc (length G) = omega (arith, e) in split y (length G) h
        where
          split : (y n : ℕ) → suc y ≤ suc n → (y ≡ n) ⊎ (y < n)
          split y n h = grind arith

      go : (x y : ℕ) → x < y → (y ≡ length G) ⊎ (y < length G) → after x y ⊎ SettledAt P (G ++ (r ∷ [])) x y
      go x y l (inl e) = inl (subst (after x) (sym e) (last x (omega arith)))
      go x y l (inr h) = elim (all.each x y l h) [ inl b ↦ inl (keeps x y b) | inr s ↦ inr (SettledAt-grown G r x y (omega arith) h s) ]

  -- Where no pair is pending all are settled.
  pub none_pending : (G : List A) (pending : ℕ → ℕ → Type 0) → AllSettledBut P G pending → ((i j : ℕ) → pending i j → ⊥) → AllPairs (Settled P (Contains G)) G
  none_pending G pending all none = all_settled G (λ i j l k. elim (all.each i j l k) [ inl h ↦ absurd (none i j h) | inr s ↦ s ])
