use Rattle.std.proofs.Common.{ap, sym, ◌∙◌, arith, length}
use Rattle.fj_text.specs.Seen.{left_from}
use Rattle.fj_text.specs.State.{end_of}
use Rattle.fj_text.proofs.token.end_of_line.Goals as goal

pub tokens-smaller : goal.tokens-smaller
unfolding left_from
tokens-smaller c = let e = ap (λ o. length (left_from o c.args.line.now)) c.in-Some.is in omega (arith, e, ap length c.token_from-next-in-Some.ensures.tokens)

pub tokens-preserved : goal.tokens-preserved
unfolding left_from
tokens-preserved c = record {
  ends =
      c.tokens.invariant.ends ∙ ap (λ o. end_of (left_from o c.args.line.now) c.tokens.end) c.in-Some.is
      ∙ ap (λ ts. end_of ts c.in-Some.t.end) (sym c.token_from-next-in-Some.ensures.tokens);
  within = c.token_from-next-in-Some.ensures.within;
}

pub returns : goal.returns
unfolding left_from
returns c = sym (c.tokens.invariant.ends ∙ ap (λ o. end_of (left_from o c.args.line.now) c.tokens.end) c.in_default.is)
