use Rattle.std.proofs.Common.{◌≡◌, ℕ, List, nat_cmp, unwrap_or}
use Rattle.std.specs.Map.{lookup, keys_of}
use Rattle.std.specs.List.Sorted.{IsStrictlySortedBy}
use Rattle.std.specs.BTreeMap.{is_at}
use Rattle.std.specs.Cmp.Lexicographic.{slice_cmp}
use Rattle.fj_plain.specs.Packing.{unpacked_entries}
use Rattle.fj_plain.specs.Tallied.{rank_at}
use Rattle.fj_plain.proofs.ranks.widened.Given as goal

-- what is left to read completes the map
abbrev pub invariant-loop-key : goal.invariant-loop-key
invariant-loop-key l = record {
  rising : IsStrictlySortedBy nat_cmp (keys_of l.key-iterator);
  whole : (a : List ℕ) → unwrap_or (lookup (is_at (slice_cmp nat_cmp a)) (unpacked_entries l.key-iterator)) (rank_at l.wide.entries a) ≡ rank_at (unpacked_entries l.ranks.entries) a;
}
