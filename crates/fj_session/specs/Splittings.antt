-- What the questions on splittings and compatible ideals mean. J is the ideal that they name, by a list that generates it.
use Rattle.std.specs.Prelude.{◌≡◌, ◌⊎◌, ℕ, List, [], ◌∷◌}
use Rattle.fj_coeff.specs.Field.{Field}
use Rattle.fj_theory.specs.Polynomial.{Polynomial}
use Rattle.fj_theory.specs.Splitting.{IsCompatible, IsFPure}
use Rattle.fj_plain.specs.declared.order_name.OrderName.{OrderName}
use Rattle.fj_plain.specs.declared.order_name.OrderName.TheVariants.{Grevlex}
use Rattle.fj_ideal.specs.Lists.{IsHighPair, OfBasis, RunFor}
use Rattle.fj_fedder.specs.Fedder.{IsSplitIdeal, IsVerdictAt}
use Rattle.fj_fedder.specs.Lists.{IsHighInSplit, IsSplitGiven, IsSplitList}
use Rattle.fj_fedder.specs.declared.purity.PureAt.TheVariants as verdicts
use Rattle.fj_session.specs.Standing.{IsDeclaredList, Standing}
use Rattle.fj_session.specs.Meaning.{Meaning, NoCertificate, NoIdeal, meaning_of_ideal, meaning_of_verdict}
use Rattle.fj_session.specs.declared.types.Answer.{Answer}
use Rattle.fj_session.specs.declared.types.Answer.TheVariants.{Yes, No, Off}

-- The lists of F-purity: the ideal as declared, and those of its basis.
abbrev pub IsListOfSplit : Field → Standing → OrderName → List Polynomial → Type 0
IsListOfSplit F J order L = RunFor Grevlex (IsDeclaredList J) order L ⊎ OfBasis F J.list (λ G. IsSplitList F G order L)

abbrev pub IsHighOfSplit : Field → List Polynomial → List Polynomial → Type 0
IsHighOfSplit F J L = OfBasis F J (λ G. IsHighInSplit F G L)

abbrev pub IsLastOfSplit : Field → List Polynomial → List Polynomial → Type 0
IsLastOfSplit F J L = OfBasis F J (λ G. IsSplitGiven F G L)

-- `split J`
abbrev pub meaning_of_split : Field → OrderName → Standing → Meaning
meaning_of_split F printing J = meaning_of_ideal F printing (IsSplitIdeal F J.list) (IsLastOfSplit F J.list) (IsListOfSplit F J) (IsHighOfSplit F J.list)

-- `fpure J`
abbrev pub meaning_of_pure : Field → Standing → Meaning
meaning_of_pure F J = meaning_of_verdict (IsFPure F J.list) (IsListOfSplit F J) (IsHighOfSplit F J.list)

abbrev pub IsPurityAt : Field → List Polynomial → List ℕ → Answer → Type 0
IsPurityAt F J point Yes = IsVerdictAt F J point verdicts.Yes
IsPurityAt F J point No = IsVerdictAt F J point verdicts.No
IsPurityAt F J point Off = IsVerdictAt F J point verdicts.Off
IsPurityAt F J point _ = ⊥

-- `fpure J P`
abbrev pub meaning_of_pure_at : Field → Standing → List ℕ → Meaning
meaning_of_pure_at F J point = record { ideal = NoIdeal; last = NoIdeal; answer = IsPurityAt F J.list point; certificates = NoCertificate; lists = IsListOfSplit F J; products = IsHighOfSplit F J.list }

abbrev pub IsHighOfCompatible : Field → Polynomial → List Polynomial → List Polynomial → Type 0
IsHighOfCompatible F u J L = OfBasis F J (λ G. IsHighPair F (u ∷ []) G L)

-- `compatible e U J`
abbrev pub meaning_of_compatible : Field → ℕ → Polynomial → Standing → Meaning
meaning_of_compatible F e u J = meaning_of_verdict (IsCompatible F e u J.list) (RunFor Grevlex (IsDeclaredList J)) (IsHighOfCompatible F u J.list)
