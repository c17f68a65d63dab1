-- The tokens of the code, as the definitions see them.
use Rattle.std.specs.Prelude.{ℕ, zero, List, [], ◌∷◌, drop, Some, None}
use Rattle.std.specs.declared.option.Option.{Option}
use Rattle.fj_text.specs.declared.token.Token as code
use Rattle.fj_text.specs.declared.token.Token.TheVariants as tokens
use Rattle.fj_text.specs.declared.token.Placed as held
use Rattle.fj_text.specs.Token.{Token, Word, Number, Sign, BadByte, Placed, tokens_from}

abbrev pub seen : code.Token → Token
seen (tokens.Word w) = Word w.now
seen (tokens.Number n) = Number n
seen (tokens.Sign b) = Sign b
seen tokens.BadByte = BadByte

abbrev pub placed : held.Placed → Placed
placed t = record { token = seen t.token; start = t.start; end = t.end }

-- The tokens that are left, where this is the next one of the line.
unfoldable pub left_from : Option held.Placed → List ℕ → List Placed
left_from None line = []
left_from (Some t) line = placed t ∷ tokens_from zero t.end (drop t.end line)
