use Rattle.std.proofs.Common.{◌≤◌, length, refl, sym, ◌∙◌, arith}
use Rattle.std.proofs.lemmas.Bool.{true≢false}
use Rattle.fj_theory.specs.Plain.{HasRanksBelow}
use Rattle.fj_plain.proofs.Each.{EachBefore-zero, EachBefore-more, All-from_EachBefore, All_at}
use Rattle.fj_plain.proofs.lists.PlainList.have_ranks_below.Goals as goal

pub loop-i-init : goal.loop-i-init
loop-i-init c = EachBefore-zero (HasRanksBelow c.args.p) c.args.self.now

pub loop-i-preserved : goal.loop-i-preserved
loop-i-preserved c =
    EachBefore-more (HasRanksBelow c.args.p) c.args.self.now c.loop-i.i c.get.result.now c.get.ensures (c.has_ranks_below.ensures.0 c.if-not-has_ranks_below.false) c.loop-i.invariant

pub returns-then-not-has_ranks_below : goal.returns-then-not-has_ranks_below
returns-then-not-has_ranks_below c = (
  λ no. absurd (true≢false (sym no)),
  λ all. sym c.if-not-has_ranks_below.true ∙ c.has_ranks_below.ensures.1 (All_at (HasRanksBelow c.args.p) c.args.self.now c.loop-i.i c.get.result.now c.get.ensures all),
)

pub returns : goal.returns
returns c =
    let short : length c.args.self.now ≤ c.loop-i.i = omega (arith, c.len-i-end.ensures) in
    (λ _. All-from_EachBefore (HasRanksBelow c.args.p) c.args.self.now c.loop-i.i short c.loop-i.invariant, λ _. refl)
