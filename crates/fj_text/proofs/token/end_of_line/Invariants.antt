use Rattle.std.proofs.Common.{◌≡◌, ◌≤◌, zero, length, IfSome}
use Rattle.fj_text.specs.Seen.{left_from}
use Rattle.fj_text.specs.State.{end_of}
use Rattle.fj_text.specs.Token.{tokens_from}
use Rattle.fj_text.proofs.token.end_of_line.Given as goal

abbrev pub invariant-tokens : goal.invariant-tokens
invariant-tokens l = record {
  ends : end_of (tokens_from zero zero l.line) l.column ≡ end_of (left_from l.next l.line) l.end;
  within : IfSome l.next (λ t. t.end ≤ length l.line);
}

abbrev pub decreases-tokens : goal.decreases-tokens
decreases-tokens l = length (left_from l.next l.line)
