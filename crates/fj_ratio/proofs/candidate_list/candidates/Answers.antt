use Rattle.std.proofs.Common.{◌≡◌, ℕ, ◌+◌, ◌-◌, ◌*◌, ◌^◌, arith, ap, ◌∙◌, sym, subst, add-one}
use Rattle.std.specs.Prelude.{pos}
use Rattle.std.specs.Ordering.{eq_by_cmp}
use Rattle.std.proofs.lemmas.List.Filters.{dedup_is}
use Rattle.std.proofs.Math.Nat.{pow-suc}
use Rattle.fj_coeff.specs.PrimeFieldLaws.{prime_bounds}
use Rattle.fj_theory.specs.Fraction.{compare}
use Rattle.fj_ratio.specs.Multiples.{AddsMultiples}
use Rattle.fj_ratio.proofs.Rows.{HasRows, HasRows-more, AreCandidates-from_rows, power_below}
use Rattle.fj_ratio.proofs.candidate_list.candidates.Goals as goal

same_number : (m n : ℕ) → pos m ≡ pos n → m ≡ n
same_number m n e = cc

pub overflow_sub-whole : goal.overflow_sub-whole
overflow_sub-whole c =
    let whole : c.in-Some.whole ≡ c.args.p ^ c.args.e = same_number _ _ c.in-Some.ensures.1 in
    let row = power_below _ _ _ (prime_bounds _ c.requires.prime).0 c.rows-test.true in
    omega (arith, c.rows.invariant.power_is)

pub push_multiples-requires-clause-positive : goal.push_multiples-requires-clause-positive
push_multiples-requires-clause-positive c =
    let whole : c.in-Some.whole ≡ c.args.p ^ c.args.e = same_number _ _ c.in-Some.ensures.1 in
    let row = power_below _ _ _ (prime_bounds _ c.requires.prime).0 c.rows-test.true in
    omega (arith, c.rows.invariant.power_is)

pub push_multiples-requires-clause-narrow : goal.push_multiples-requires-clause-narrow
push_multiples-requires-clause-narrow c =
    let whole : c.in-Some.whole ≡ c.args.p ^ c.args.e = same_number _ _ c.in-Some.ensures.1 in
    let row = power_below _ _ _ (prime_bounds _ c.requires.prime).0 c.rows-test.true in
    omega (arith, c.rows.invariant.power_is)

pub overflow_mul-power : goal.overflow_mul-power
overflow_mul-power c =
    let row = power_below _ _ _ (prime_bounds _ c.requires.prime).0 c.rows-test.true in
    omega (arith, ap (λ n. n * c.args.p) c.rows.invariant.power_is)

pub rows-preserved : goal.rows-preserved
rows-preserved c =
    let whole : c.in-Some.whole ≡ c.args.p ^ c.args.e = same_number _ _ c.in-Some.ensures.1 in
    let denominator : c.in-Some.whole - c.rows.power ≡ c.args.p ^ c.args.e - c.args.p ^ c.rows.counter = omega (arith, c.rows.invariant.power_is) in
    record {
      rows = HasRows-more _ _ _ _ _ (prime_bounds _ c.requires.prime).0 c.rows-test.true c.rows.invariant.rows
          (subst (λ d. AddsMultiples d (d + 1) c.rows.list.items c.push_multiples.new.list.items) denominator c.in_ok-push_multiples.ensures);
      power_is = ap (λ n. n * c.args.p) c.rows.invariant.power_is ∙ sym (rw add-one (pow-suc c.args.p c.rows.counter));
    }

pub returns : goal.returns
returns c =
    let all : c.rows.counter ≡ c.args.e = omega arith in
    let rows : HasRows c.args.p c.args.e c.args.e c.rows.list.items = subst (λ n. HasRows c.args.p c.args.e n c.rows.list.items) all c.rows.invariant.rows in
    rw (dedup_is (eq_by_cmp compare) _ _ c.dedup.ensures.filtered)
    (AreCandidates-from_rows _ _ _ _ (prime_bounds _ c.requires.prime).0 rows c.sort_unstable.ensures.permutation c.sort_unstable.ensures.sorted)
