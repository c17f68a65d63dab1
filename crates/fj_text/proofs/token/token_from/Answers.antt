use Rattle.std.proofs.Common.{ap, refl, ◌∙◌}
use Rattle.fj_text.specs.Seen.{left_from}
use Rattle.fj_text.proofs.Tokens.{no_token, a_token}
use Rattle.fj_text.proofs.token.token_from.Goals as goal

pub returns-in_err-token-clause-tokens : goal.returns-in_err-token-clause-tokens
returns-in_err-token-clause-tokens c =
    ap (λ t. left_from t c.args.line.now) c.from_residual.ensures ∙ no_token c.args.line.now c.args.column c.blank_len.result c.blank_len.ensures.count c.in_err-token.ensures.token

pub returns-clause-tokens : goal.returns-clause-tokens
returns-clause-tokens c =
    a_token c.args.line.now c.args.column c.blank_len.result c.in_ok-token.len _ c.blank_len.ensures.count c.in_ok-token.ensures.token c.in_ok-token.ensures.some c.in_ok-token.ensures.within refl refl
