-- What the questions on ideals mean. J and K are the ideals that they name, by lists that generate them.
use Rattle.std.specs.Prelude.{◌≡◌, ◌⊎◌, ℕ, ◌^◌, List, [], ◌∷◌, ◌++◌}
use Rattle.fj_coeff.specs.Field.{Field}
use Rattle.fj_theory.specs.Colon.{IsColon, IsMeet}
use Rattle.fj_theory.specs.FrobeniusPower.{frobenius_power}
use Rattle.fj_theory.specs.Ideal.{SameIdeal, Member, products}
use Rattle.fj_theory.specs.Polynomial.{Polynomial}
use Rattle.fj_theory.specs.Root.{IsRoot}
use Rattle.fj_plain.specs.declared.cert.Cert.{Cert}
use Rattle.fj_plain.specs.declared.order_name.OrderName.{OrderName}
use Rattle.fj_plain.specs.declared.order_name.OrderName.TheVariants.{Elim, Grevlex}
use Rattle.fj_ideal.specs.Lists.{IsHighPair, IsProductList, IsSumList, NoProduct, OfBasis, RunFor}
use Rattle.fj_elim.specs.Lists.{IsColonGiven, IsColonList, IsEliminated, IsHighInColon, IsHighInMeet, IsMeetList}
use Rattle.fj_frobenius.specs.Lists.{IsHighMember, IsPowerList, IsRootList}
use Rattle.fj_session.specs.Certificates.{IsPartsCertificate, IsSameCertificate}
use Rattle.fj_session.specs.Standing.{IsDeclaredList, Standing}
use Rattle.fj_session.specs.Meaning.{CertifiesAnswer, IsPrintedList, IsShownIdeal, IsVerdict, Meaning, NoIdeal, meaning_of_ideal, meaning_of_verdict}
use Rattle.fj_session.specs.declared.types.Answer.{Answer}
use Rattle.fj_session.specs.declared.types.Answer.TheVariants.{Yes}

-- P holds of the reduced Grevlex bases of both ideals.
abbrev pub OfBases : Field → List Polynomial → List Polynomial → (List Polynomial → List Polynomial → Type 0) → Type 0
OfBases F J K P = OfBasis F J (λ G. OfBasis F K (λ H. P G H))

-- `basis J`
abbrev pub meaning_of_basis : Field → OrderName → Standing → Meaning
meaning_of_basis F printing J = meaning_of_ideal F printing (λ M. M ≡ J.list) (λ L. L ≡ J.list) (RunFor Grevlex (IsDeclaredList J)) NoProduct

-- `member F J`
abbrev pub meaning_of_member : Field → Polynomial → Standing → Meaning
meaning_of_member F f J = meaning_of_verdict (Member F J.list f) (RunFor Grevlex (IsDeclaredList J)) NoProduct

-- The generators of one of two ideals, as declared.
abbrev pub IsDeclared : Standing → Standing → List Polynomial → Type 0
IsDeclared J K L = IsDeclaredList J L ⊎ IsDeclaredList K L

-- The answer yes has a certificate that J and K generate one ideal.
abbrev pub CertifiesSame : Field → List Polynomial → List Polynomial → Answer → List Cert → Type 0
CertifiesSame F J K Yes certs = (cert : Cert) × (certs ≡ cert ∷ []) × IsSameCertificate F.characteristic J K cert
CertifiesSame F J K _ certs = certs ≡ []

-- `same J K`
abbrev pub meaning_of_same : Field → Standing → Standing → Meaning
meaning_of_same F J K = record { ideal = NoIdeal; last = NoIdeal; answer = IsVerdict (SameIdeal F J.list K.list); certificates = CertifiesSame F J.list K.list; lists = RunFor Grevlex (IsDeclared J K); products = NoProduct }

abbrev pub IsLastOfSum : Field → List Polynomial → List Polynomial → List Polynomial → Type 0
IsLastOfSum F J K L = OfBases F J K (λ G H. IsSumList G H L)

abbrev pub IsListOfSum : Field → Standing → Standing → List Polynomial → Type 0
IsListOfSum F J K L = IsDeclared J K L ⊎ IsLastOfSum F J.list K.list L

-- `sum J K`
abbrev pub meaning_of_sum : Field → OrderName → Standing → Standing → Meaning
meaning_of_sum F printing J K = meaning_of_ideal F printing (λ M. M ≡ J.list ++ K.list) (IsLastOfSum F J.list K.list) (RunFor Grevlex (IsListOfSum F J K)) NoProduct

abbrev pub IsLastOfProduct : Field → List Polynomial → List Polynomial → List Polynomial → Type 0
IsLastOfProduct F J K L = OfBases F J K (λ G H. L ≡ products F G H)

abbrev pub IsListOfProduct : Field → Standing → Standing → List Polynomial → Type 0
IsListOfProduct F J K L = IsDeclared J K L ⊎ OfBases F J.list K.list (λ G H. IsProductList F G H L)

abbrev pub IsHighOfProduct : Field → List Polynomial → List Polynomial → List Polynomial → Type 0
IsHighOfProduct F J K L = OfBases F J K (λ G H. IsHighPair F G H L)

-- `product J K`
abbrev pub meaning_of_product : Field → OrderName → Standing → Standing → Meaning
meaning_of_product F printing J K = meaning_of_ideal F printing (λ M. M ≡ products F J.list K.list) (IsLastOfProduct F J.list K.list) (RunFor Grevlex (IsListOfProduct F J K)) (IsHighOfProduct F J.list K.list)

-- The lists of a meet: the two ideals as declared, and for the order that eliminates the eighth variable the one that is made
-- of their bases.
abbrev pub IsListOfMeet : Field → Standing → Standing → OrderName → List Polynomial → Type 0
IsListOfMeet F J K order L = RunFor Grevlex (IsDeclared J K) order L ⊎ RunFor Elim (λ M. OfBases F J.list K.list (λ G H. IsMeetList F G H M)) order L

abbrev pub IsHighOfMeet : Field → List Polynomial → List Polynomial → List Polynomial → Type 0
IsHighOfMeet F J K L = OfBases F J K (λ G H. IsHighInMeet F G H L)

-- The members without t of the basis of that list.
abbrev pub IsLastOfMeet : Field → List Polynomial → List Polynomial → List Polynomial → Type 0
IsLastOfMeet F J K L = OfBases F J K (λ G H. IsEliminated F G H L)

-- `meet J K`
abbrev pub meaning_of_meet : Field → OrderName → Standing → Standing → Meaning
meaning_of_meet F printing J K = meaning_of_ideal F printing (IsMeet F J.list K.list) (IsLastOfMeet F J.list K.list) (IsListOfMeet F J K) (IsHighOfMeet F J.list K.list)

-- The lists of a quotient: the two ideals as declared, and those of the quotient of their bases.
abbrev pub IsListOfColon : Field → Standing → Standing → OrderName → List Polynomial → Type 0
IsListOfColon F J K order L = RunFor Grevlex (IsDeclared J K) order L ⊎ OfBases F J.list K.list (λ G H. IsColonList F G H order L)

abbrev pub IsHighOfColon : Field → List Polynomial → List Polynomial → List Polynomial → Type 0
IsHighOfColon F J K L = OfBases F J K (λ G H. IsHighInColon F G H L)

abbrev pub IsLastOfColon : Field → List Polynomial → List Polynomial → List Polynomial → Type 0
IsLastOfColon F J K L = OfBases F J K (λ G H. IsColonGiven F G H L)

-- `colon J K`
abbrev pub meaning_of_colon : Field → OrderName → Standing → Standing → Meaning
meaning_of_colon F printing J K = meaning_of_ideal F printing (IsColon F J.list K.list) (IsLastOfColon F J.list K.list) (IsListOfColon F J K) (IsHighOfColon F J.list K.list)

abbrev pub IsLastOfPower : Field → ℕ → List Polynomial → List Polynomial → Type 0
IsLastOfPower F q J L = OfBasis F J (λ G. L ≡ frobenius_power F q G)

abbrev pub IsListOfPower : Field → ℕ → Standing → List Polynomial → Type 0
IsListOfPower F q J L = IsDeclaredList J L ⊎ OfBasis F J.list (λ G. IsPowerList F q G L)

abbrev pub IsHighOfPower : Field → ℕ → List Polynomial → List Polynomial → Type 0
IsHighOfPower F q J L = OfBasis F J (λ G. IsHighMember F q G L)

-- `power e J`, q = p^e
abbrev pub meaning_of_power : Field → OrderName → ℕ → Standing → Meaning
meaning_of_power F printing q J = meaning_of_ideal F printing (λ M. M ≡ frobenius_power F q J.list) (IsLastOfPower F q J.list) (RunFor Grevlex (IsListOfPower F q J)) (IsHighOfPower F q J.list)

abbrev pub IsLastOfRoot : Field → ℕ → List Polynomial → List Polynomial → Type 0
IsLastOfRoot F q J L = OfBasis F J (λ G. IsRootList F q G L)

abbrev pub IsListOfRoot : Field → ℕ → Standing → List Polynomial → Type 0
IsListOfRoot F q J L = IsDeclaredList J L ⊎ IsLastOfRoot F q J.list L

-- The certificate of the parts at e of the reduced basis of J.
abbrev pub CertifiesParts : Field → ℕ → List Polynomial → Cert → Type 0
CertifiesParts F e J cert = OfBasis F J (λ G. IsPartsCertificate F.characteristic e G cert)

-- Two certificates: of the parts at e of the reduced basis of J, and of the ideal.
abbrev pub CertifiesRoot : Field → OrderName → ℕ → List Polynomial → Answer → List Cert → Type 0
CertifiesRoot F printing e J answer certs =
    (parts : Cert) × (rest : List Cert) × (certs ≡ parts ∷ rest) × CertifiesParts F e J parts
    × CertifiesAnswer F printing (IsRoot F (F.characteristic ^ e) J) (IsLastOfRoot F (F.characteristic ^ e) J) answer rest

-- `root e J`
abbrev pub meaning_of_root : Field → OrderName → ℕ → Standing → Meaning
meaning_of_root F printing e J = record {
  ideal = IsRoot F (F.characteristic ^ e) J.list;
  last = IsLastOfRoot F (F.characteristic ^ e) J.list;
  answer = IsShownIdeal F printing (IsRoot F (F.characteristic ^ e) J.list);
  certificates = CertifiesRoot F printing e J.list;
  lists = λ order L. RunFor Grevlex (IsListOfRoot F (F.characteristic ^ e) J) order L ⊎ RunFor printing (IsPrintedList F printing (IsRoot F (F.characteristic ^ e) J.list)) order L;
  products = NoProduct;
}
