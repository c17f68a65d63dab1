-- What sessions that are read have to do with the grammar.
use Rattle.std.specs.Prelude.{◌≡◌, ℕ, List, Ok}
use Rattle.fj_grammar.specs.Grammar.{AreSession}
use Rattle.fj_script.specs.Script.{script}
use Rattle.fj_script.specs.Session.{Session}

-- A session that is accepted is one of the grammar, with its meaning.
abbrev pub AcceptedIsSession : Type 0
AcceptedIsSession = (bytes : List ℕ) (S : Session) → script bytes ≡ Ok S → AreSession bytes S

-- A session of the grammar is accepted, with its meaning.
abbrev pub SessionIsAccepted : Type 0
SessionIsAccepted = (bytes : List ℕ) (S : Session) → AreSession bytes S → script bytes ≡ Ok S
