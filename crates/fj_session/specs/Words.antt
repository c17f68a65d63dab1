-- The words of the command line.
use Rattle.std.specs.Prelude.{◌≡◌, ◌⊎◌, ℕ, ◌≤◌, List, [], ◌∷◌, codes, length}
use Rattle.std.specs.Str.Parse.{AllDigits, digits_value}
use Rattle.fj_session.specs.declared.words.Form.{Form}
use Rattle.fj_session.specs.declared.words.Form.TheVariants.{Run, Audit, Gen}

-- One to four digits that write n, which is from 1 to 1,000.
pub record IsNumeral (n : ℕ) (word : List ℕ) : Type 0 where
  pub some : 1 ≤ length word
  pub few : length word ≤ 4
  pub digits : AllDigits 10 word
  pub value : digits_value 10 word ≡ n
  pub positive : 1 ≤ n
  pub most : n ≤ 1000

-- The words are of this form: `run`, `run audit` or `gen N`.
abbrev pub IsForm : Form → List (List ℕ) → Type 0
IsForm Run words = words ≡ codes "run" ∷ []
IsForm Audit words = words ≡ codes "run" ∷ codes "audit" ∷ []
IsForm (Gen n) words = (digits : List ℕ) × (words ≡ codes "gen" ∷ digits ∷ []) × IsNumeral n digits

-- They are of no form.
abbrev pub IsNoForm : List (List ℕ) → Type 0
IsNoForm words = (form : Form) → IsForm form words → ⊥

-- They ask for a session to be read.
abbrev pub AskForReading : List (List ℕ) → Type 0
AskForReading words = IsForm Run words ⊎ IsForm Audit words

abbrev pub usage_line : List ℕ
usage_line = codes "usage: fjcalc run | fjcalc run audit | fjcalc gen N\n"
