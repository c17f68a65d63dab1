use Rattle.std.proofs.Common.{ap₂, ◌∙◌, ◌≡◌, ◌++◌, arith}
use Rattle.std.specs.List.{flat_map, range_with_len}
use Rattle.fj_coeff.specs.PrimeFieldLaws.{prime_bounds}
use Rattle.fj_gen.specs.Generated.{generated, lines_at, ring_line}
use Rattle.fj_gen.proofs.Counting.{one_more}
use Rattle.fj_gen.proofs.made.made_script.Goals as goal

pub push_lines-requires : goal.push_lines-requires
push_lines-requires c = let bounds = prime_bounds _ c.prime_for-p.ensures.in_table in omega (arith, bounds.0)

pub loop-place-preserved : goal.loop-place-preserved
loop-place-preserved c = one_more (lines_at c.prime_for-p.result) (ring_line c.prime_for-p.result) c.loop-place.out.items _ c.loop-place.place c.loop-place.invariant c.in_ok-push_lines.ensures

pub returns : goal.returns
unfolding generated
returns c =
    let all : c.loop-place.place ≡ c.args.n = omega (arith, c.loop-place-test.false, c.loop-place.auto.place-end, c.from-place-end.ensures) in
    c.loop-place.invariant ∙ ap₂ (λ p n. ring_line p ++ flat_map (lines_at p) (range_with_len 1 n)) c.prime_for-p.ensures.value all
