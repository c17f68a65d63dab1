-- A basis with cofactors both ways.
use Rattle.std.specs.Prelude.{◌≡◌, ℕ, List, [], map, replicate, set, slice_index_or}
use Rattle.std.specs.List.{range_with_len}
use Rattle.std.specs.FinMap.{empty, code}
use Rattle.std.specs.Coded.{Coded, coded_list, coded×, coded_ℕ}
use base.Stored.{coded_via}
use Rattle.fj_coeff.specs.Field.{Field}
use Rattle.fj_theory.specs.Exponents.{origin}
use Rattle.fj_theory.specs.Polynomial.{Polynomial, term}
use Rattle.fj_theory.specs.Plain.{PlainPolynomial, polynomial}
use Rattle.fj_groebner.specs.Rows.{AreRows}
use Rattle.fj_groebner.specs.Division.{Sugared, polynomials_of}
use Rattle.fj_groebner.specs.Run.{IsFinished}
use Rattle.fj_plain.specs.declared.order_name.OrderName.{OrderName}
use Rattle.fj_plain.specs.declared.cert.Cert.{Cert}
use Rattle.fj_plain.specs.declared.cert.Cert.TheVariants.{Basis}

-- The members, the cofactors of the given polynomials in each member, and those of the members in each given polynomial.
pub record WithCofactors : Type 0 where
  pub members : List Polynomial
  pub down : List (List Polynomial)
  pub up : List (List Polynomial)

-- The cofactor at the place j of row i.
abbrev pub cofactor : List (List Polynomial) → ℕ → ℕ → Polynomial
cofactor rows i j = slice_index_or (slice_index_or rows i []) j empty

-- The cofactors of a list of n polynomials over itself: 1 at the place of the polynomial, and 0 elsewhere.
abbrev pub unit_row : ℕ → ℕ → List Polynomial
unit_row n j = set (replicate n empty) j (term 1 origin)

abbrev pub unit_rows : ℕ → List (List Polynomial)
unit_rows n = map (unit_row n) (range_with_len 0 n)

-- The rows give the members as combinations of the list L, and the polynomials of L as combinations of the members.
pub record IsMadeOf (F : Field) (L : List Polynomial) (b : WithCofactors) : Type 0 where
  pub down : AreRows F L b.members b.down
  pub up : AreRows F b.members L b.up

-- The run on L is finished within the budget with these members.
pub record IsResult (F : Field) (key : List ℕ → List ℕ) (L : List Polynomial) (budget : ℕ) (members : List Polynomial) : Type 0 where
  pub basis : List Sugared
  pub finished : IsFinished F key L budget basis
  pub are : polynomials_of basis ≡ members

-- The certificate has the identities of the basis over the list L.
pub record IsCertificateOf (p : ℕ) (order : OrderName) (L : List Polynomial) (b : WithCofactors) (c : Cert) : Type 0 where
  pub given : List PlainPolynomial
  pub found : List PlainPolynomial
  pub down : List (List PlainPolynomial)
  pub up : List (List PlainPolynomial)
  pub is : c ≡ Basis p order given found down up
  pub given_are : map polynomial given ≡ L
  pub found_are : map polynomial found ≡ b.members
  pub down_are : map (map polynomial) down ≡ b.down
  pub up_are : map (map polynomial) up ≡ b.up

abbrev rows_code : Coded (List (List Polynomial))
rows_code = coded_list (coded_list (code (coded_list coded_ℕ) coded_ℕ))

abbrev parts : WithCofactors → List Polynomial × (List (List Polynomial) × List (List Polynomial))
parts b = (b.members, (b.down, b.up))

-- It is determined by its parts, and stored as they are.
pub same_parts : (b c : WithCofactors) → parts b ≡ parts c → b ≡ c
same_parts b c h = λ i. record { members = (h i).0; down = (h i).1.0; up = (h i).1.1 }

abbrev pub basis_code : Coded WithCofactors
basis_code = coded_via (coded× (coded_list (code (coded_list coded_ℕ) coded_ℕ)) (coded× rows_code rows_code)) parts same_parts
