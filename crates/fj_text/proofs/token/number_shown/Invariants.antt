use Rattle.std.proofs.Common.{◌≡◌, take}
use Rattle.fj_text.specs.Token.{number_shown}
use Rattle.fj_text.proofs.token.number_shown.Given as goal

abbrev pub invariant-loop-digit : goal.invariant-loop-digit
invariant-loop-digit l = l.number ≡ number_shown (take l.digit-index l.digits)
