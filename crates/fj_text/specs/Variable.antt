-- The places of variables.
use Rattle.std.specs.Prelude.{◌<◌}
use Rattle.fj_text.specs.declared.scope.Meaning.{Meaning}
use Rattle.fj_text.specs.declared.scope.Meaning.TheVariants.{Variable, OtherKind, Unknown}

-- A variable is one of eight.
abbrev pub IsWithin : Meaning → Type 0
IsWithin (Variable i) = i < 8
IsWithin OtherKind = Unit {0}
IsWithin Unknown = Unit {0}
