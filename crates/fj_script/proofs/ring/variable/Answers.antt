use Rattle.fj_script.proofs.Ascii.{word_is_text, text_is_ok}
use Rattle.fj_script.proofs.ring.variable.Goals as goal

pub unwrap-word-requires : goal.unwrap-word-requires
unwrap-word-requires c = text_is_ok c.from_utf8.result _ _ _ (word_is_text _ c.in_ok-word.ensures.word) c.from_utf8.ensures.cases
