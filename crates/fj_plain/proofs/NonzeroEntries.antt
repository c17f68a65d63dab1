-- Reading a list of terms from its front, leaving out those with rank zero.
use Rattle.std.proofs.Common.{◌≡◌, ℕ, ◌<◌, ◌≤◌, Bool, true, false, cond, nat_lt, List, [], ◌∷◌, ◌++◌, refl, sym, ap, ◌∙◌, append_assoc, arith}
use Rattle.std.proofs.lemmas.Bool.{lt-ltb, ltb-true}
use Rattle.fj_plain.specs.Tallied.{nonzero_entries}

-- A term whose rank isn't zero stands first.
pub nonzero_entries-cons : (t : List ℕ × ℕ) (ts : List (List ℕ × ℕ)) → 0 < t.1 → nonzero_entries (t ∷ ts) ≡ t ∷ nonzero_entries ts
nonzero_entries-cons t ts positive = ap (λ b. cond b (t ∷ nonzero_entries ts) (nonzero_entries ts)) (lt-ltb 0 t.1 positive)

-- It goes to the end of what was read.
pub nonzero_entries_push : (out : List (List ℕ × ℕ)) (t : List ℕ × ℕ) (ts : List (List ℕ × ℕ)) → 0 < t.1 → (out ++ t ∷ []) ++ nonzero_entries ts ≡ out ++ nonzero_entries (t ∷ ts)
nonzero_entries_push out t ts positive = append_assoc out (t ∷ []) (nonzero_entries ts) ∙ ap (λ us. out ++ us) (sym (nonzero_entries-cons t ts positive))

-- A term of rank zero is left out.
pub nonzero_entries_skip : (t : List ℕ × ℕ) (ts : List (List ℕ × ℕ)) → t.1 ≤ 0 → nonzero_entries (t ∷ ts) ≡ nonzero_entries ts
nonzero_entries_skip t ts zero = by (nat_lt 0 t.1) refl
  where
    by : (b : Bool) → nat_lt 0 t.1 ≡ b → cond b (t ∷ nonzero_entries ts) (nonzero_entries ts) ≡ nonzero_entries ts
    by true e = let h : 0 < t.1 = ltb-true 0 t.1 e in absurd (omega arith)
    by false e = refl
