-- Runs are determined: each state has at most one next one, and none where a sugar would pass the limit.
use Rattle.std.proofs.Common.{◌≡◌, ◌≢◌, ℕ, suc, ◌+◌, ◌≤◌, ◌<◌, nat_le, Bool, true, false, cond, get_or, List, [], ◌∷◌, ◌++◌, length, reverse, Contains, nat_cmp, Ordering, Less, Equal, Greater, refl, sym, ap, ap₂, ◌∙◌, subst, arith, true≢false}
use Rattle.std.specs.Cmp.Lexicographic.{slice_cmp}
use Rattle.std.specs.Ordering.{ordering_reverse}
use Rattle.std.proofs.lemmas.List.{reverse-append}
use Rattle.std.proofs.lemmas.Cmp.{nat_list_cmp_total}
use Rattle.std.proofs.lemmas.Map.Lookups.{exact_bytes}
use Rattle.std.proofs.lemmas.List.Elements.{All-contains}
use Rattle.fj_algebra.proofs.Pairs.{contains_nil}
use Rattle.fj_algebra.proofs.Lists.{Any-element}
use native.Mathlib.Decide.{dec_le}
use Rattle.fj_coeff.specs.Field.{Field}
use Rattle.fj_theory.specs.Exponents.{total}
use Rattle.fj_theory.specs.Polynomial.{Polynomial}
use Rattle.fj_theory.specs.Steps.{StepsTo}
use Rattle.fj_groebner.specs.Division.{degree_limit, Sugared, Division, IsDivision, IsLowDivision, IsHighDivision}
use Rattle.fj_groebner.specs.Run.{Run, given, run_start, pair_multiple, pair_place, IsNext, has_coprime_leads, IsRemoval, AreRemovals, IsTurn, dropped, treated, IsRound, s_polynomial, IsHighTurn, IsRun, Replacing, IsReplacement, IsReplacing, IsFinishing, IsHighFinishing, replacing, dividing, IsFinished, Unfinished, TooHigh, in_turn, in_finishing, drop_pair, treat_pair}
use Rattle.fj_theory.proofs.Steps.{StepsTo-unique, StepsTo-further, StepsTo-through, StepsTo-end}
use Rattle.fj_groebner.proofs.Division.{IsDivision-unique, IsLowDivision-IsHighDivision}

-- Two lists with the same two last elements.
last_two : (xs ys : List ℕ) (i j k l : ℕ) → xs ++ (j ∷ (i ∷ [])) ≡ ys ++ (l ∷ (k ∷ [])) → (i ≡ k) × (j ≡ l)
last_two xs ys i j k l e =
    let back = sym (reverse-append xs (j ∷ (i ∷ []))) ∙ ap reverse e ∙ reverse-append ys (l ∷ (k ∷ [])) in
    (ap (λ r. get_or r 0 0) back, ap (λ r. get_or r 1 0) back)

head_same : {X : Type 0} (x y : X) (xs ys : List X) → x ∷ xs ≡ y ∷ ys → x ≡ y
head_same x y xs ys e = ap (λ l. get_or l 0 x) e

others : {X : Type 0} → List X → List X
others [] = []
others (x ∷ xs) = xs

pub tail_same : {X : Type 0} (x y : X) (xs ys : List X) → x ∷ xs ≡ y ∷ ys → xs ≡ ys
unfolding others
tail_same x y xs ys e = ap others e

not_greater : (o r : Ordering) → o ≡ ordering_reverse r → o ≢ Greater → r ≢ Greater → o ≡ Equal
not_greater Less Less e n m = absurd (let f : Less ≡ Greater = e in cc)
not_greater Less Equal e n m = absurd (let f : Less ≡ Equal = e in cc)
not_greater Less Greater e n m = absurd (m refl)
not_greater Equal r e n m = refl
not_greater Greater r e n m = absurd (n refl)

module _ (key : List ℕ → List ℕ) where
  place_ends : (G : List Sugared) (p : ℕ × ℕ) → (xs : List ℕ) × (pair_place key G p ≡ xs ++ (p.1 ∷ (p.0 ∷ [])))
  unfolding pair_place
  place_ends G p = go (nat_le (total (pair_multiple key G p)) degree_limit)
    where
      go : (t : Bool) → (xs : List ℕ) × (cond t (0 ∷ (key (pair_multiple key G p) ++ (p.1 ∷ (p.0 ∷ [])))) (1 ∷ (p.1 ∷ (p.0 ∷ []))) ≡ xs ++ (p.1 ∷ (p.0 ∷ [])))
      go true = (0 ∷ key (pair_multiple key G p), refl)
      go false = (1 ∷ [], refl)

  -- No two pairs stand at one place.
  pub pair_place-injective : (G : List Sugared) (p q : ℕ × ℕ) → pair_place key G p ≡ pair_place key G q → p ≡ q
  pair_place-injective G p q e =
      let u = place_ends G p in
      let v = place_ends G q in
      let both = last_two u.0 v.0 p.0 p.1 q.0 q.1 (sym u.1 ∙ e ∙ v.1) in
      λ i. (both.0 i, both.1 i)

module _ {key : List ℕ → List ℕ} where
  pub IsNext-unique : {s : Run} {p q : ℕ × ℕ} → IsNext key s p → IsNext key s q → p ≡ q
  IsNext-unique {s} {p} {q} h k =
      let x = pair_place key s.members p in
      let y = pair_place key s.members q in
      let n = All-contains (λ other. slice_cmp nat_cmp x (pair_place key s.members other) ≢ Greater) s.pending q h.least k.pending in
      let m = All-contains (λ other. slice_cmp nat_cmp y (pair_place key s.members other) ≢ Greater) s.pending p k.least h.pending in
      pair_place-injective key s.members p q (exact_bytes x y (not_greater _ _ (nat_list_cmp_total.antisymm x y) n m))

  none_next : {s : Run} {p : ℕ × ℕ} → s.pending ≡ [] → IsNext key s p → ⊥
  none_next {s} {p} e h = contains_nil p (subst (λ l. Contains l p) e h.pending)

  IsRemoval-unique : (s t u : Run) → IsRemoval key s t → IsRemoval key s u → t ≡ u
  IsRemoval-unique s t u h k = h.removed ∙ ap (drop_pair s) (IsNext-unique h.next k.next) ∙ sym k.removed

  -- The removals from a state end in one.
  pub AreRemovals-unique : (s t u : Run) → AreRemovals key s t → AreRemovals key s u → t ≡ u
  AreRemovals-unique s t u h k =
      StepsTo-end (IsRemoval key) IsRemoval-unique h.states k.states s t u h.steps k.steps (λ v r. h.ended r.pair r.next r.spared) (λ v r. k.ended r.pair r.next r.spared)

  module _ {F : Field} where
    -- A state has one next state.
    pub IsTurn-unique : (s t u : Run) → IsTurn F key s t → IsTurn F key s u → t ≡ u
    IsTurn-unique s t u (dropped p h c e) (dropped q k d f) = e ∙ ap (drop_pair s) (IsNext-unique h k) ∙ sym f
    IsTurn-unique s t u (dropped p h c e) (treated q l k d w f) = absurd (true≢false (sym c ∙ ap (has_coprime_leads key s.members) (IsNext-unique h k) ∙ d))
    IsTurn-unique s t u (treated p l h c w e) (dropped q k d f) = absurd (true≢false (sym d ∙ ap (has_coprime_leads key s.members) (IsNext-unique k h) ∙ c))
    IsTurn-unique s t u (treated p l h c v e) (treated q m k d w f) =
        e ∙ ap₂ (treat_pair F key s) (IsNext-unique h k)
        (IsDivision-unique v.division (subst (λ r. IsDivision F key s.members (s_polynomial F key s.members r) m) (sym (IsNext-unique h k)) w.division)) ∙ sym f

    -- A turn is not high.
    pub IsTurn-IsHighTurn : (s t : Run) → IsTurn F key s t → IsHighTurn F key s → ⊥
    IsTurn-IsHighTurn s t (dropped p h c e) u = true≢false (sym c ∙ ap (has_coprime_leads key s.members) (IsNext-unique h u.next) ∙ u.treated)
    IsTurn-IsHighTurn s t (treated p l h c w e) u =
        IsLowDivision-IsHighDivision w (subst (λ r. IsHighDivision F key s.members (s_polynomial F key s.members r)) (sym (IsNext-unique h u.next)) u.high)

    none_pending-IsTurn : {s : Run} → s.pending ≡ [] → (t : Run) → IsTurn F key s t → ⊥
    none_pending-IsTurn e t (dropped p h c f) = none_next e h
    none_pending-IsTurn e t (treated p l h c w f) = none_next e h

    IsRound-unique : (s t u : Run) → IsRound F key s t → IsRound F key s u → t ≡ u
    IsRound-unique s t u h k =
        AreRemovals-unique h.turned t u h.removals (subst (λ r. AreRemovals key r u) (IsTurn-unique s k.turned h.turned k.turn h.turn) k.removals)

    pub IsReplacement-unique : (s t u : Replacing) → IsReplacement F key s t → IsReplacement F key s u → t ≡ u
    IsReplacement-unique s t u h k =
        let one = head_same h.member k.member h.rest k.rest (sym h.first ∙ k.first) in
        let rest = tail_same h.member k.member h.rest k.rest (sym h.first ∙ k.first) in
        let last = IsDivision-unique h.division.division (subst (λ m. IsDivision F key s.replaced m k.last) (sym one) k.division.division) in
        h.next ∙ ap₂ (λ d r. record { replaced = s.replaced ++ (record { polynomial = d.remainder; sugar = d.sugar } ∷ []); rest = r }) last rest ∙ sym k.next

    no_replacement : {s : Replacing} → s.rest ≡ [] → (t : Replacing) → IsReplacement F key s t → ⊥
    no_replacement e t h = let n : 0 ≡ suc (length h.rest) = ap length (sym e ∙ h.first) in absurd (omega (arith, n))

    -- No replacement is high.
    high_replacement : {s : Replacing} {member : Sugared} {rest : List Sugared} → s.rest ≡ member ∷ rest → IsHighDivision F key s.replaced member → (t : Replacing)
        → IsReplacement F key s t → ⊥
    high_replacement {s} {member} {rest} e u t h =
        IsLowDivision-IsHighDivision h.division (subst (IsHighDivision F key s.replaced) (head_same member h.member rest h.rest (sym e ∙ h.first)) u)

    IsReplacing-unique : (G basis other : List Sugared) → IsReplacing F key G (record { replaced = basis; rest = [] })
        → IsReplacing F key G (record { replaced = other; rest = [] }) → basis ≡ other
    IsReplacing-unique G basis other h k =
        ap (λ s. s.replaced) (StepsTo-end (IsReplacement F key) IsReplacement-unique h.states k.states _ _ _ h.steps k.steps (no_replacement refl) (no_replacement refl))

    -- Finishing is not high.
    pub IsFinishing-IsHighFinishing : {L : List Polynomial} (G basis : List Sugared) → IsFinishing F key L G basis → IsHighFinishing F key L G → ⊥
    IsFinishing-IsHighFinishing {L} G basis f (replacing s member rest r e u) =
        let on = StepsTo-through (IsReplacement F key) IsReplacement-unique r.states f.replacing.states _ _ _ r.steps f.replacing.steps (no_replacement refl) in go on.0 on.1
      where
        go : (zs : List Replacing) → StepsTo (IsReplacement F key) s zs (record { replaced = basis; rest = [] }) → ⊥
        go [] same = let n : suc (length rest) ≡ 0 = ap length (sym e ∙ ap (λ x. x.rest) same) in absurd (omega (arith, n))
        go (z ∷ zs) steps = high_replacement e u z steps.0
    IsFinishing-IsHighFinishing {L} G basis f (dividing other r any) =
        let found = Any-element (λ f. IsHighDivision F key other (given f)) L any in
        let low = All-contains (λ f. (d : Division) × IsLowDivision F key basis (given f) d) L found.0 f.divisions found.1 in
        IsLowDivision-IsHighDivision low.1 (subst (λ b. IsHighDivision F key b (given found.0)) (sym (IsReplacing-unique G basis other f.replacing r)) found.2)

    module _ {L : List Polynomial} where
      -- Two runs have one first state.
      same_first : {m n : ℕ} {s t : Run} (h : IsRun F key L m s) (k : IsRun F key L n t) → StepsTo (IsRound F key) h.first k.states t
      same_first {t = t} h k =
          subst (λ f. StepsTo (IsRound F key) f k.states t) (AreRemovals-unique (run_start F key L) k.first h.first k.removals h.removals) k.steps

      -- As many turns lead to one state.
      pub IsRun-unique : {turns : ℕ} {s t : Run} → IsRun F key L turns s → IsRun F key L turns t → s ≡ t
      IsRun-unique {s = s} {t = t} h k =
          StepsTo-unique (IsRound F key) IsRound-unique h.states k.states h.first s t (h.made ∙ sym k.made) h.steps (same_first h k)

      -- No run goes on behind a state with no next one.
      run_ends : {m n : ℕ} {s t : Run} → ((u : Run) → IsTurn F key s u → ⊥) → IsRun F key L m s → IsRun F key L n t → n ≤ m
      run_ends {m} {n} {s} {t} stops h k = go (dec_le n m)
        where
          further : m ≤ n → (zs : List Run) × StepsTo (IsRound F key) s zs t × (length h.states + length zs ≡ length k.states)
          further le =
              StepsTo-further (IsRound F key) IsRound-unique h.states k.states h.first s t (let a = h.made in let b = k.made in omega (arith, a, b, le)) h.steps (same_first h k)

          on : (zs : List Run) → StepsTo (IsRound F key) s zs t → length h.states + length zs ≡ length k.states → m < n → ⊥
          on [] steps e lt = let a = h.made in let b = k.made in absurd (omega (arith, a, b, e, lt))
          on (z ∷ zs) steps e lt = stops steps.0.turned steps.0.turn

          go : Dec (n ≤ m) → n ≤ m
          go (yes le) = le
          go (no more) = let f = further (omega (arith, more)) in absurd (on f.0 f.1 f.2 (omega (arith, more)))

      -- A list isn't both Unfinished and TooHigh.
      pub Unfinished-TooHigh : {budget : ℕ} → Unfinished F key L budget → TooHigh F key L budget → ⊥
      Unfinished-TooHigh {budget} u (in_turn turns last r lt high) =
          let le = run_ends (λ t h. IsTurn-IsHighTurn last t h high) r u.run in absurd (omega (arith, le, lt))
      Unfinished-TooHigh {budget} u (in_finishing turns last r le none high) =
          let back = run_ends (none_pending-IsTurn none) r u.run in
          let same : turns ≡ budget = omega (arith, le, back) in
          u.some_pending (ap (λ s. s.pending) (IsRun-unique u.run (subst (λ n. IsRun F key L n last) same r)) ∙ none)

      -- A run that is finished within the budget is neither.
      pub IsFinished-Unfinished : {budget : ℕ} {basis : List Sugared} → IsFinished F key L budget basis → Unfinished F key L budget → ⊥
      IsFinished-Unfinished {budget} f u =
          let back = run_ends (none_pending-IsTurn f.none_pending) f.run u.run in
          let within = f.within in
          let same : f.turns ≡ budget = omega (arith, within, back) in
          u.some_pending (ap (λ s. s.pending) (IsRun-unique u.run (subst (λ n. IsRun F key L n f.last) same f.run)) ∙ f.none_pending)

      pub IsFinished-TooHigh : {budget : ℕ} {basis : List Sugared} → IsFinished F key L budget basis → TooHigh F key L budget → ⊥
      IsFinished-TooHigh {budget} {basis} f (in_turn turns last r lt high) =
          let back = run_ends (none_pending-IsTurn f.none_pending) f.run r in
          let ahead = run_ends (λ t h. IsTurn-IsHighTurn last t h high) r f.run in
          let same : turns ≡ f.turns = omega (arith, back, ahead) in
          none_next (ap (λ s. s.pending) (IsRun-unique (subst (λ n. IsRun F key L n last) same r) f.run) ∙ f.none_pending) high.next
      IsFinished-TooHigh {budget} {basis} f (in_finishing turns last r le none high) =
          let back = run_ends (none_pending-IsTurn f.none_pending) f.run r in
          let ahead = run_ends (none_pending-IsTurn none) r f.run in
          let same : turns ≡ f.turns = omega (arith, back, ahead) in
          IsFinishing-IsHighFinishing f.last.members basis f.finishing
          (subst (λ s. IsHighFinishing F key L s.members) (IsRun-unique (subst (λ n. IsRun F key L n last) same r) f.run) high)

      -- A list has one result of a finished run.
      pub IsFinished-unique : {budget other : ℕ} {basis result : List Sugared} → IsFinished F key L budget basis → IsFinished F key L other result → basis ≡ result
      IsFinished-unique {basis = basis} {result = result} f g =
          let back = run_ends (none_pending-IsTurn f.none_pending) f.run g.run in
          let ahead = run_ends (none_pending-IsTurn g.none_pending) g.run f.run in
          let same : g.turns ≡ f.turns = omega (arith, back, ahead) in
          let last = IsRun-unique (subst (λ n. IsRun F key L n g.last) same g.run) f.run in
          IsReplacing-unique f.last.members basis result f.finishing.replacing
          (subst (λ s. IsReplacing F key s.members (record { replaced = result; rest = [] })) last g.finishing.replacing)
