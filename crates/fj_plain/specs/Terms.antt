-- Terms as the definitions see them: pairs of exponents and rank.
use Rattle.std.specs.Prelude.{ℕ, List, map}
use Rattle.fj_plain.specs.declared.term.PlainTerm.{PlainTerm}

-- The exponents and the rank of a term.
abbrev pub entry : PlainTerm → List ℕ × ℕ
entry t = (t.exps, t.rank)

-- The exponents and the ranks of the terms of a list.
abbrev pub entries : List PlainTerm → List (List ℕ × ℕ)
entries ts = map entry ts
