-- Rows of a search, as definitions on jumps and gaps see them.
use Rattle.std.specs.Prelude.{◌≡◌}
use Rattle.std.specs.Coded.{Coded, coded×}
use base.Stored.{coded_via}
use Rattle.fj_theory.specs.Candidates.{Gap}
use Rattle.fj_theory.specs.Fraction.{Fraction}
use Rattle.fj_ratio.specs.FractionCode.{fraction_code}
use Rattle.fj_ideal.specs.Ideal.{WithBasis, ideal_code}
use Rattle.fj_testideal.specs.JumpList.{Jump}
use Rattle.fj_jump.specs.declared.rows.GapRow.{GapRow}
use Rattle.fj_jump.specs.declared.rows.JumpRow.{JumpRow}

-- The F-jumping number of a row, with the list that its ideal was made of.
abbrev pub jump_of : {K : Type 0} → JumpRow K → Jump
jump_of row = record { at = row.at; ideal = row.ideal.given }

-- The gap of a row.
abbrev pub gap_of : GapRow → Gap
gap_of row = record { lower = row.from; upper = row.to }

abbrev parts : {K : Type 0} → JumpRow K → Fraction × WithBasis
parts row = (row.at, row.ideal)

pub same_parts : {K : Type 0} (r s : JumpRow K) → parts r ≡ parts s → r ≡ s
same_parts r s h = λ i. record { at = (h i).0; ideal = (h i).1 }

-- A row is stored by its parts.
abbrev pub row_code : {K : Type 0} → Coded (JumpRow K)
row_code {K} = coded_via (coded× fraction_code ideal_code) (parts {K = K}) (same_parts {K = K})
