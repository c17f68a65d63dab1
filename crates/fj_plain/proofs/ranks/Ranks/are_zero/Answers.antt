use Rattle.std.proofs.Common.{◌≡◌, ◌↔◌, ℕ, List, IsTrue, nat_cmp, sym, subst}
use Rattle.std.specs.BTreeMap.{is_at}
use Rattle.std.specs.Cmp.Lexicographic.{slice_cmp}
use Rattle.std.proofs.lemmas.Cmp.{nat_cmp_total, nat_list_cmp_total}
use Rattle.fj_plain.specs.Tallied.{rank_at, by_exponents}
use Rattle.fj_plain.specs.declared.ranks.Ranks.{Ranks}
use Rattle.fj_plain.proofs.TalliedLemmas.{lookup_zero, zeros_from_lookups}
use Rattle.fj_plain.proofs.PackedExponents.{packed_zeros, unpacked_zeros}
use Rattle.fj_plain.proofs.ranks.Ranks.are_zero.Goals as goal

pub returns-in-Wide : goal.returns-in-Wide
returns-in-Wide c =
    subst (λ (r : Ranks). IsTrue c.are_zero.result ↔ ((a : List ℕ) → rank_at (by_exponents r) a ≡ 0)) (sym c.in-Wide.is) (
      λ zero a. lookup_zero (is_at (slice_cmp nat_cmp a)) c.in-Wide.ranks.entries (c.are_zero.ensures.zero.0 zero),
      λ zero. c.are_zero.ensures.zero.1 (zeros_from_lookups nat_list_cmp_total c.in-Wide.ranks c.are_zero.ensures.ordered zero),
    )

pub returns-in-Packed : goal.returns-in-Packed
returns-in-Packed c =
    subst (λ (r : Ranks). IsTrue c.are_zero-in-Packed.result ↔ ((a : List ℕ) → rank_at (by_exponents r) a ≡ 0)) (sym c.in-Packed.is) (
      λ zero. unpacked_zeros c.in-Packed.ranks.entries (λ n. lookup_zero (is_at (nat_cmp n)) c.in-Packed.ranks.entries (c.are_zero-in-Packed.ensures.zero.0 zero)),
      λ zero. c.are_zero-in-Packed.ensures.zero.1 (zeros_from_lookups nat_cmp_total c.in-Packed.ranks c.are_zero-in-Packed.ensures.ordered (packed_zeros c.in-Packed.ranks.entries zero)),
    )
