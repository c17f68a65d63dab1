-- Laws of runs as lists of states.
use Rattle.std.proofs.Common.{◌≡◌, ◌+◌, ◌≤◌, List, [], ◌∷◌, ◌++◌, length, refl, sym, ◌∙◌, subst, arith}
use Rattle.fj_theory.specs.Steps.{StepsTo}

module _ {S : Type 0} (Step : S → S → Type 0) where
  -- What each step keeps holds at the end.
  pub StepsTo-keeps : (Q : S → Type 0) → ((s t : S) → Step s t → Q s → Q t) → (states : List S) (first last : S) → StepsTo Step first states last → Q first → Q last
  StepsTo-keeps Q keeps [] first last e q = subst Q e q
  StepsTo-keeps Q keeps (x ∷ states) first last h q = StepsTo-keeps Q keeps states x last h.1 (keeps first x h.0 q)

  -- One more step at the end.
  pub StepsTo-more : (states : List S) (first last next : S) → StepsTo Step first states last → Step last next → StepsTo Step first (states ++ next ∷ []) next
  StepsTo-more [] first last next h s = (subst (λ x. Step x next) (sym h) s, refl)
  StepsTo-more (x ∷ states) first last next h s = (h.0, StepsTo-more states x last next h.1 s)

  module _ (one : (s t u : S) → Step s t → Step s u → t ≡ u) where
    -- Where each state has one next state, fewer steps lead to a state on the way.
    pub StepsTo-further : (xs ys : List S) (first last end : S) → length xs ≤ length ys → StepsTo Step first xs last → StepsTo Step first ys end
        → (zs : List S) × StepsTo Step last zs end × (length xs + length zs ≡ length ys)
    StepsTo-further [] ys first last end e h k = (ys, subst (λ s. StepsTo Step s ys end) h k, omega arith)
    StepsTo-further (x ∷ xs) [] first last end e h k = absurd (omega (arith, e))
    StepsTo-further (x ∷ xs) (y ∷ ys) first last end e h k =
        let rest = StepsTo-further xs ys x last end (omega (arith, e)) h.1 (subst (λ s. StepsTo Step s ys end) (one first y x k.0 h.0) k.1) in
        (rest.0, rest.1, omega (arith, rest.2))

    -- As many steps lead to one state.
    pub StepsTo-unique : (xs ys : List S) (first last end : S) → length xs ≡ length ys → StepsTo Step first xs last → StepsTo Step first ys end → last ≡ end
    StepsTo-unique [] [] first last end e h k = sym h ∙ k
    StepsTo-unique [] (y ∷ ys) first last end e h k = absurd (omega (arith, e))
    StepsTo-unique (x ∷ xs) [] first last end e h k = absurd (omega (arith, e))
    StepsTo-unique (x ∷ xs) (y ∷ ys) first last end e h k =
        StepsTo-unique xs ys x last end (omega (arith, e)) h.1 (subst (λ s. StepsTo Step s ys end) (one first y x k.0 h.0) k.1)

    -- A run that goes as far as it can goes through each state that a run reaches.
    pub StepsTo-through : (xs ys : List S) (first last end : S) → StepsTo Step first xs last → StepsTo Step first ys end
        → ((s : S) → Step end s → ⊥) → (zs : List S) × StepsTo Step last zs end × (length xs + length zs ≡ length ys)
    StepsTo-through [] ys first last end h k m = (ys, subst (λ s. StepsTo Step s ys end) h k, omega arith)
    StepsTo-through (x ∷ xs) [] first last end h k m = absurd (m x (subst (λ s. Step s x) k h.0))
    StepsTo-through (x ∷ xs) (y ∷ ys) first last end h k m =
        let rest = StepsTo-through xs ys x last end h.1 (subst (λ s. StepsTo Step s ys end) (one first y x k.0 h.0) k.1) m in
        (rest.0, rest.1, omega (arith, rest.2))

    -- Two runs that both go as far as they can end in one state.
    pub StepsTo-end : (xs ys : List S) (first last end : S) → StepsTo Step first xs last → StepsTo Step first ys end
        → ((s : S) → Step last s → ⊥) → ((s : S) → Step end s → ⊥) → last ≡ end
    StepsTo-end xs ys first last end h k n m = let rest = StepsTo-through xs ys first last end h k m in go rest.0 rest.1
      where
        go : (zs : List S) → StepsTo Step last zs end → last ≡ end
        go [] e = e
        go (z ∷ zs) r = absurd (n z r.0)
