-- What a question means, as one record, and the forms of answers.
use Rattle.std.specs.Prelude.{◌≡◌, ◌≢◌, ◌⊎◌, ℕ, ◌^◌, List, [], ◌∷◌, All, map}
use Rattle.fj_coeff.specs.Field.{Field}
use Rattle.fj_theory.specs.MonomialOrder.{grevlex_key}
use Rattle.fj_theory.specs.Parts.{Part, IsParts}
use Rattle.fj_theory.specs.Plain.{PlainPolynomial, polynomial}
use Rattle.fj_theory.specs.Polynomial.{Polynomial, terms_falling}
use Rattle.fj_groebner.specs.ReducedBasis.{IsReducedBasis}
use Rattle.fj_plain.specs.declared.cert.Cert.{Cert}
use Rattle.fj_plain.specs.declared.order_name.OrderName.{OrderName}
use Rattle.fj_plain.specs.declared.order_name.OrderName.TheVariants.{Grevlex}
use Rattle.fj_basis.specs.Outcome.{TermsFall}
use Rattle.fj_ideal.specs.Lists.{NoList, NoProduct, RunFor}
use Rattle.fj_ideal.specs.Stop.{key_of}
use Rattle.fj_shell.specs.Named.{polynomials}
use Rattle.fj_session.specs.Certificates.{IsBasisCertificate}
use Rattle.fj_session.specs.declared.types.Answer.{Answer}
use Rattle.fj_session.specs.declared.types.Answer.TheVariants.{Parts, Ideal, Yes, No}
use Rattle.fj_session.specs.declared.types.PartRow.{PartRow}

-- The ideals that a question asks for, by lists that generate them, and the lists of which its ideal is made; its answers, stops
-- apart, each with its certificates; the lists whose reduced bases it needs, each with the order of its run; and of each of its
-- products that has a term of a total degree above 2^40 the polynomials.
pub record Meaning : Type 1 where
  pub ideal : List Polynomial → Type 0
  pub last : List Polynomial → Type 0
  pub answer : Answer → Type 0
  pub certificates : Answer → List Cert → Type 0
  pub lists : OrderName → List Polynomial → Type 0
  pub products : List Polynomial → Type 0

abbrev pub part_of : PartRow → Part
part_of row = record { residue = row.residue.exponents; polynomial = polynomial row.poly }

-- A question that asks for no ideal.
abbrev pub NoIdeal : List Polynomial → Type 0
NoIdeal M = ⊥

-- An answer that shows no ideal has no certificate.
abbrev pub NoCertificate : Answer → List Cert → Type 0
NoCertificate answer certs = certs ≡ []

-- The rows are the parts of f over the q-th powers, q = p^e, and the terms of each part fall in this order.
pub record AreRows (F : Field) (key : List ℕ → List ℕ) (e : ℕ) (f : Polynomial) (rows : List PartRow) : Type 0 where
  pub parts : IsParts F (F.characteristic ^ e) f (map part_of rows)
  pub falling : All (λ row. row.poly.terms ≡ terms_falling key (polynomial row.poly)) rows

abbrev pub ArePartRows : Field → OrderName → ℕ → Polynomial → Answer → Type 0
ArePartRows F printing e f (Parts rows) = AreRows F (key_of printing) e f rows
ArePartRows F printing e f _ = ⊥

-- The parts of f at e.
abbrev pub meaning_of_parts : Field → OrderName → ℕ → Polynomial → Meaning
meaning_of_parts F printing e f = record { ideal = NoIdeal; last = NoIdeal; answer = ArePartRows F printing e f; certificates = NoCertificate; lists = NoList; products = NoProduct }

-- The list is the reduced basis of the ideal (M) for an order, and the terms of each member fall in it.
pub record IsShownBasis (F : Field) (key : List ℕ → List ℕ) (M : List Polynomial) (list : List PlainPolynomial) : Type 0 where
  pub reduced : IsReducedBasis F key M (polynomials list)
  pub falling : TermsFall key list

-- The list is the reduced basis, for the printing order, of an ideal that is asked for.
pub record IsIdealAnswer (F : Field) (printing : OrderName) (IsAsked : List Polynomial → Type 0) (list : List PlainPolynomial) : Type 0 where
  pub ideal : List Polynomial
  pub asked : IsAsked ideal
  pub shown : IsShownBasis F (key_of printing) ideal list

abbrev pub IsShownIdeal : Field → OrderName → (List Polynomial → Type 0) → Answer → Type 0
IsShownIdeal F printing IsAsked (Ideal list) = IsIdealAnswer F printing IsAsked list
IsShownIdeal F printing IsAsked _ = ⊥

-- The list that is run once more where the printing order isn't Grevlex: the reduced Grevlex basis of the ideal that is
-- printed.
pub record IsPrintedList (F : Field) (printing : OrderName) (IsAsked : List Polynomial → Type 0) (L : List Polynomial) : Type 0 where
  pub other : printing ≢ Grevlex
  pub ideal : List Polynomial
  pub asked : IsAsked ideal
  pub basis : IsReducedBasis F grevlex_key ideal L

-- The list of whose ideal the printed list is a basis: the last of the question's own, or where the printing order isn't Grevlex
-- the reduced Grevlex basis.
abbrev pub IsGivenList : Field → OrderName → (List Polynomial → Type 0) → (List Polynomial → Type 0) → List Polynomial → Type 0
IsGivenList F printing IsAsked IsLast L = (printing ≡ Grevlex) × IsLast L ⊎ IsPrintedList F printing IsAsked L

-- The certificate of an ideal that is printed as this list.
pub record CertifiesIdeal (F : Field) (printing : OrderName) (IsAsked IsLast : List Polynomial → Type 0) (list : List PlainPolynomial) (cert : Cert) : Type 0 where
  pub given : List Polynomial
  pub is_given : IsGivenList F printing IsAsked IsLast given
  pub basis : IsBasisCertificate F.characteristic printing given list cert

-- The one certificate of an answer that is an ideal.
abbrev pub CertifiesAnswer : Field → OrderName → (List Polynomial → Type 0) → (List Polynomial → Type 0) → Answer → List Cert → Type 0
CertifiesAnswer F printing IsAsked IsLast (Ideal list) certs = (cert : Cert) × (certs ≡ cert ∷ []) × CertifiesIdeal F printing IsAsked IsLast list cert
CertifiesAnswer F printing IsAsked IsLast _ certs = ⊥

-- A question that asks for an ideal, made of the last list, and for that needs bases of these lists, each for its order, and of
-- the printed list for the printing order.
abbrev pub meaning_of_ideal : Field → OrderName → (List Polynomial → Type 0) → (List Polynomial → Type 0) → (OrderName → List Polynomial → Type 0) → (List Polynomial → Type 0) → Meaning
meaning_of_ideal F printing IsAsked IsLast IsList IsProduct = record {
  ideal = IsAsked;
  last = IsLast;
  answer = IsShownIdeal F printing IsAsked;
  certificates = CertifiesAnswer F printing IsAsked IsLast;
  lists = λ order L. IsList order L ⊎ RunFor printing (IsPrintedList F printing IsAsked) order L;
  products = IsProduct;
}

abbrev pub IsVerdict : Type 0 → Answer → Type 0
IsVerdict P Yes = P
IsVerdict P No = P → ⊥
IsVerdict P _ = ⊥

-- A question whether P holds, which needs bases of these lists, each for its order.
abbrev pub meaning_of_verdict : Type 0 → (OrderName → List Polynomial → Type 0) → (List Polynomial → Type 0) → Meaning
meaning_of_verdict P IsList IsProduct = record { ideal = NoIdeal; last = NoIdeal; answer = IsVerdict P; certificates = NoCertificate; lists = IsList; products = IsProduct }
