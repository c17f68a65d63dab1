use Rattle.std.proofs.Common.{◌≡◌, ◌+◌, ◌%◌, ◌<◌, ◌^◌, ℕ, List, if◌then◌else◌, length, rules, ◌∙◌, ap, subst, sym}
use Rattle.std.proofs.lemmas.Result.{on_ok_weaker}
use Rattle.fj_theory.proofs.FormalSum.{same}
use Rattle.fj_plain.specs.Packing.{unpacked, unpacked_entries}
use Rattle.fj_plain.specs.Tallied.{rank_at, by_exponents}
use Rattle.fj_plain.specs.declared.ranks.Ranks.{Ranks}
use Rattle.fj_plain.proofs.PackedExponents.{packed-add, packed_rank, rank_at-unpacked, unpacked-value_of}
use Rattle.fj_plain.proofs.ranks.Ranks.add.Goals as goal

pub add_rank-requires-then-are_narrow-clause-fits : goal.add_rank-requires-then-are_narrow-clause-fits
add_rank-requires-then-are_narrow-clause-fits c =
    let eight : length c.args.exps ≡ 8 = search rules in
    let is : unpacked c.packed.result ≡ c.args.exps = ap unpacked c.packed.ensures ∙ unpacked-value_of c.args.exps eight (c.are_narrow.ensures.0 c.if-are_narrow.true) in
    let here : rank_at (by_exponents c.args.self.now) c.args.exps ≡ packed_rank c.in-Packed.ranks.entries c.packed.result =
    ap (λ (r : Ranks). rank_at (by_exponents r) c.args.exps) c.in-Packed.is
    ∙ ap (rank_at (unpacked_entries c.in-Packed.ranks.entries)) (sym is)
    ∙ rank_at-unpacked c.in-Packed.ranks.entries c.packed.result in
    subst (λ (r : ℕ). r + c.args.rank < 2 ^ 64) here c.requires.fits

pub returns-then-are_narrow : goal.returns-then-are_narrow
returns-then-are_narrow c =
    let eight : length c.args.exps ≡ 8 = search rules in
    let is : unpacked c.packed.result ≡ c.args.exps = ap unpacked c.packed.ensures ∙ unpacked-value_of c.args.exps eight (c.are_narrow.ensures.0 c.if-are_narrow.true) in
    let old = c.in-Packed.ranks.entries in
    let new = c.add_rank-then-are_narrow.new.ranks.entries in
    on_ok_weaker c.add_rank-then-are_narrow.result
    (λ added a.
    subst (λ (r : Ranks). rank_at (unpacked_entries new) a ≡ (if same c.args.exps a then (rank_at (by_exponents r) c.args.exps + c.args.rank) % c.args.p else rank_at (by_exponents r) a)) (sym c.in-Packed.is)
    (subst (λ (e : List ℕ). rank_at (unpacked_entries new) a ≡ (if same e a then (rank_at (unpacked_entries old) e + c.args.rank) % c.args.p else rank_at (unpacked_entries old) a)) is
    (packed-add c.args.p c.args.rank c.packed.result old new added a))) c.add_rank-then-are_narrow.ensures
