use Rattle.std.proofs.Common.{◌≡◌, ◌∷◌, ℕ, List, Some, cond, nat_cmp, unwrap_or, ◌∙◌, ap, subst}
use Rattle.std.specs.Map.{lookup, keys_of}
use Rattle.std.specs.Map.Iter.{deref_pair}
use Rattle.std.specs.List.Sorted.{IsStrictlySortedBy}
use Rattle.std.specs.BTreeMap.{is_at}
use Rattle.std.specs.Cmp.Lexicographic.{slice_cmp}
use Rattle.std.proofs.lemmas.Map.Iter.{rest_more}
use Rattle.std.proofs.lemmas.Map.Keys.{sorted_head, sorted_tail}
use Rattle.fj_theory.proofs.FormalSum.{same}
use Rattle.fj_plain.specs.Packing.{unpacked_entries}
use Rattle.fj_plain.specs.Tallied.{rank_at}
use Rattle.fj_plain.proofs.PackedExponents.{first_goes}
use Rattle.fj_plain.proofs.ranks.widened.Goals as goal

pub loop-key-preserved : goal.loop-key-preserved
loop-key-preserved c =
    let t : ℕ × ℕ = (c.in-Some.key.now, c.in-Some.rank.now) in
    let rest : List (ℕ × ℕ) = c.next.new.self in
    let cut : c.loop-key.key-iterator ≡ t ∷ rest = rest_more deref_pair _ _ _ (c.in-Some.key, c.in-Some.rank) c.in-Some.is c.next.ensures.steps in
    let sorted : IsStrictlySortedBy nat_cmp (t.0 ∷ keys_of rest) = subst (λ (es : List (ℕ × ℕ)). IsStrictlySortedBy nat_cmp (keys_of es)) cut c.loop-key.invariant.rising in
    record {
      rising = sorted_tail nat_cmp t.0 (keys_of rest) sorted;
      whole = λ a.
          first_goes a t rest c.loop-key.wide.entries c.insert.new.self.entries (sorted_head nat_cmp t.0 (keys_of rest) sorted)
          (c.in_ok-insert.ensures.updates.0 a ∙ ap (λ (k : List ℕ). cond (same k a) (Some t.1) (lookup (is_at (slice_cmp nat_cmp a)) c.loop-key.wide.entries)) c.unpacked.ensures)
          ∙ subst (λ (es : List (ℕ × ℕ)). unwrap_or (lookup (is_at (slice_cmp nat_cmp a)) (unpacked_entries es)) (rank_at c.loop-key.wide.entries a) ≡ rank_at (unpacked_entries c.args.ranks.now.entries) a)
          cut (c.loop-key.invariant.whole a);
    }
