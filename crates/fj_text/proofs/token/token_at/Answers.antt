use Rattle.std.proofs.Common.{ap, take, sym, ◌∙◌}
use Rattle.std.specs.Char.{is_ascii_digit}
use Rattle.std.specs.List.{list_all}
use Rattle.fj_text.proofs.Numbers.{front_passes}
use Rattle.fj_text.proofs.Words.{front_of_word}
use Rattle.fj_text.proofs.token.token_at.Goals as goal

pub number_shown-requires : goal.number_shown-requires
number_shown-requires c = ap (λ n. list_all is_ascii_digit (take n c.args.bytes.now)) c.digit_len-len.ensures.count ∙ front_passes is_ascii_digit c.args.bytes.now

pub returns-then-is_word_start-clause-word : goal.returns-then-is_word_start-clause-word
returns-then-is_word_start-clause-word c =
    front_of_word c.args.bytes.now c.in_ok-first.field-0.now c.word_len-len.result c.in_ok-first.ensures.value (sym c.is_word_start.ensures ∙ c.if-is_word_start.true) c.word_len-len.ensures.count
