-- What is answered of the name of an ideal.
use Rattle.std.specs.Prelude.{◌≡◌, ℕ}
use Rattle.fj_script.specs.declared.script.Env.{Env}
use Rattle.fj_shell.specs.declared.named.NamedIdeal.{NamedIdeal}
use Rattle.fj_shell.specs.declared.named.NamedIdeal.TheVariants as answers
use Rattle.fj_shell.specs.Asked.{IsDeclaredIdealAt, IsLetAt}

-- It is declared by these generators, or it is the answer of this question with this turn budget.
abbrev pub IsNamedIdeal : Env → ℕ → NamedIdeal → Type 0
IsNamedIdeal env place (answers.Declared gens) = (h : IsDeclaredIdealAt env place) × (h.gens ≡ gens.now)
IsNamedIdeal env place (answers.Let budget question) = (h : IsLetAt env place) × (h.budget ≡ budget) × (h.question ≡ question.now)
