use Rattle.std.proofs.Common.{Bool, ◌↔◌, IsTrue}
use Rattle.std.proofs.lemmas.Result.{IfOk-weaker}
use Rattle.fj_theory.specs.Certificate.{IsExpressed, IsExpressedBothWays}
use Rattle.fj_plain.proofs.identity.express_each_other.Goals as goal

pub are_combinations-requires-clause-targets : goal.are_combinations-requires-clause-targets
are_combinations-requires-clause-targets c = c.have_ranks_below-else-not-have_ranks_below.ensures.0 c.if-not-have_ranks_below-2.false

pub are_combinations-requires-clause-table : goal.are_combinations-requires-clause-table
are_combinations-requires-clause-table c = c.have_ranks_below-else-not-have_ranks_below-2.ensures.0 c.if-not-have_ranks_below-3.false

pub are_combinations-requires-clause-sources : goal.are_combinations-requires-clause-sources
are_combinations-requires-clause-sources c = c.have_ranks_below.ensures.0 c.if-not-have_ranks_below.false

pub are_combinations-requires-2-clause-targets : goal.are_combinations-requires-2-clause-targets
are_combinations-requires-2-clause-targets c = c.have_ranks_below.ensures.0 c.if-not-have_ranks_below.false

pub are_combinations-requires-2-clause-table : goal.are_combinations-requires-2-clause-table
are_combinations-requires-2-clause-table c = c.have_ranks_below-else-not-have_ranks_below-3.ensures.0 c.if-not-have_ranks_below-4.false

pub are_combinations-requires-2-clause-sources : goal.are_combinations-requires-2-clause-sources
are_combinations-requires-2-clause-sources c = c.have_ranks_below-else-not-have_ranks_below.ensures.0 c.if-not-have_ranks_below-2.false

pub returns : goal.returns
returns c =
    IfOk-weaker c.are_combinations-2.result
    (λ (b : Bool). IsTrue b ↔ IsExpressed c.args.p c.args.first.now c.args.to_first.now c.args.second.now)
    (λ (b : Bool). IsTrue b ↔ IsExpressedBothWays c.args.p c.args.first.now c.args.second.now c.args.to_second.now c.args.to_first.now)
    (λ b e. (
      λ yes. record {
        prime = c.is_prime.ensures.in_table.0 c.if-not-is_prime.false;
        first_below = c.have_ranks_below.ensures.0 c.if-not-have_ranks_below.false;
        second_below = c.have_ranks_below-else-not-have_ranks_below.ensures.0 c.if-not-have_ranks_below-2.false;
        to_second_below = c.have_ranks_below-else-not-have_ranks_below-2.ensures.0 c.if-not-have_ranks_below-3.false;
        to_first_below = c.have_ranks_below-else-not-have_ranks_below-3.ensures.0 c.if-not-have_ranks_below-4.false;
        second_by_first = c.in_ok-are_combinations.ensures.0 c.if-not-branch.false;
        first_by_second = e.0 yes;
      },
      λ E. e.1 E.first_by_second,
    ))
    c.are_combinations-2.ensures
