-- The printed texts of answers, as bytes.
use Rattle.std.specs.Prelude.{ℕ, Bool, if◌then◌else◌, List, [], ◌∷◌, ◌++◌, length, map, take, codes, decimal}
use Rattle.std.specs.List.{flat_map}
use Rattle.fj_jump.specs.declared.rows.GapRow.{GapRow}
use Rattle.fj_text.specs.Printed.{joined, list_bytes, polynomial_bytes, ratio_bytes}
use Rattle.fj_session.specs.declared.types.Answer.{Answer}
use Rattle.fj_session.specs.declared.types.Answer.TheVariants.{Parts, Ideal, Yes, No, Off, StoppedPairs, StoppedHigh}
use Rattle.fj_session.specs.declared.types.Answer.TheVariants as answers
use Rattle.fj_session.specs.declared.types.PartRow.{PartRow}
use Rattle.fj_session.specs.declared.types.ShownJump.{ShownJump}

-- A residue: a number for each variable.
unfoldable pub residue_bytes : List ℕ → List ℕ
residue_bytes exponents = codes "(" ++ joined (codes ",") (map decimal exponents) ++ codes ")"

-- The line of a row, in the answer to the question with this number. The variables have these names.
unfoldable pub row_line : List (List ℕ) → ℕ → PartRow → List ℕ
row_line names number row =
    decimal number ++ codes ": part " ++ residue_bytes (take (length names) row.residue.exponents) ++ codes " = " ++ polynomial_bytes names row.poly ++ codes "\n"

abbrev pub rows_bytes : List (List ℕ) → ℕ → List PartRow → List ℕ
rows_bytes names number [] = decimal number ++ codes ": none\n"
rows_bytes names number (row ∷ rows) = flat_map (row_line names number) (row ∷ rows)

-- The line of an F-jumping number with its test ideal.
unfoldable pub jump_line : List (List ℕ) → ℕ → ShownJump → List ℕ
jump_line names number row = decimal number ++ codes ": jump " ++ ratio_bytes row.at ++ codes " = " ++ list_bytes names row.ideal ++ codes "\n"

-- The line of an open gap.
unfoldable pub gap_line : ℕ → GapRow → List ℕ
gap_line number row = decimal number ++ codes ": open (" ++ ratio_bytes row.from ++ codes ", " ++ ratio_bytes row.to ++ codes ")\n"

-- The line that ends a list of F-jumping numbers.
abbrev pub end_line : ℕ → Bool → List ℕ
end_line number complete = decimal number ++ (if complete then codes ": complete\n" else codes ": incomplete\n")

-- The text of an answer.
abbrev pub answer_bytes : List (List ℕ) → ℕ → Answer → List ℕ
answer_bytes names number (Parts rows) = rows_bytes names number rows
answer_bytes names number (Ideal list) = decimal number ++ codes ": " ++ list_bytes names list ++ codes "\n"
answer_bytes names number Yes = decimal number ++ codes ": yes\n"
answer_bytes names number No = decimal number ++ codes ": no\n"
answer_bytes names number Off = decimal number ++ codes ": off\n"
answer_bytes names number (answers.Jumps jumps gaps complete) = flat_map (jump_line names number) jumps ++ flat_map (gap_line number) gaps ++ end_line number complete
answer_bytes names number (answers.Nu r) = decimal number ++ codes ": nu " ++ decimal r ++ codes "\n"
answer_bytes names number (answers.At t) = decimal number ++ codes ": threshold " ++ ratio_bytes t ++ codes "\n"
answer_bytes names number (answers.Between s t) = decimal number ++ codes ": between " ++ ratio_bytes s ++ codes " and " ++ ratio_bytes t ++ codes "\n"
answer_bytes names number answers.NotIn = decimal number ++ codes ": notin\n"
answer_bytes names number answers.Unit = decimal number ++ codes ": unit\n"
answer_bytes names number (StoppedPairs k) = decimal number ++ codes ": stopped pairs\n"
answer_bytes names number (StoppedHigh k) = decimal number ++ codes ": stopped high\n"
