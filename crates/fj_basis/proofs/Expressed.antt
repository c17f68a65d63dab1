-- Rows of cofactors over a prime field as the identities of a certificate.
use Rattle.std.proofs.Common.{◌≡◌, ℕ, suc, List, [], ◌∷◌, map, zip, refl, sym, ap, ◌∙◌, subst, arith}
use Rattle.std.proofs.lemmas.List.{length-map}
use Rattle.std.proofs.lemmas.List.Elements.{All-nil, All-cons, All-map}
use Rattle.fj_coeff.specs.Field.{Field, IsField}
use Rattle.fj_theory.specs.Polynomial.{IsPolynomial}
use Rattle.fj_theory.specs.Plain.{PlainPolynomial, polynomial}
use Rattle.fj_theory.specs.Ideal.{ArePolynomials}
use Rattle.fj_groebner.specs.Rows.{AreRows, IsRow}
use Rattle.fj_theory.specs.Certificate.{AllRanksBelow, AllRowsBelow, IsExpressed, IsExpressedBothWays, IsRowOf}
use Rattle.fj_theory.proofs.Plain.{IsPolynomial-polynomial}
use Rattle.fj_basis.proofs.PrimeField.{combination_is}

module _ {F : Field} (L : IsField F) (e : F.size ≡ F.characteristic) where
  -- Plain polynomials with ranks of the field are polynomials over it.
  ranked : (fs : List PlainPolynomial) → AllRanksBelow F.characteristic fs → ArePolynomials F (map polynomial fs)
  ranked fs ranks = record {
    each = All-map (IsPolynomial F) polynomial fs
        (λ k d l. let P = IsPolynomial-polynomial L.prime _ (ranks k d l) in
        record { exponents = P.exponents; nonzero = P.nonzero; below = λ a c h. let small = P.below a c h in omega (arith, small, e) });
  }

  module _ (sources : List PlainPolynomial) (A : ArePolynomials F (map polynomial sources)) where
    IsRowOf-from : {f : PlainPolynomial} {row : List PlainPolynomial} → IsRow F (map polynomial sources) (polynomial f) (map polynomial row) → IsRowOf F.characteristic sources f row
    IsRowOf-from {f} {row} r = record {
      fitting = sym (length-map row polynomial) ∙ r.long ∙ length-map sources polynomial;
      identity = r.is ∙ combination_is L e (map polynomial row) (map polynomial sources) r.polynomials A;
    }

    IsExpressed-from : (targets : List PlainPolynomial) (table : List (List PlainPolynomial)) → AreRows F (map polynomial sources) (map polynomial targets) (map (map polynomial) table)
        → IsExpressed F.characteristic targets table sources
    unfolding AreRows
    IsExpressed-from [] [] all = record { rows = refl; identities = All-nil (λ e. IsRowOf F.characteristic sources e.0 e.1) }
    IsExpressed-from [] (row ∷ table) all = absurd all
    IsExpressed-from (f ∷ targets) [] all = absurd all
    IsExpressed-from (f ∷ targets) (row ∷ table) all =
        let rest = IsExpressed-from targets table all.1 in
        record {
          rows = ap suc rest.rows;
          identities = All-cons (λ e. IsRowOf F.characteristic sources e.0 e.1) (f, row) (zip targets table) (IsRowOf-from all.0) rest.identities;
        }

-- Rows both ways are the identities of a certificate.
pub IsExpressedBothWays-from : {F : Field} → IsField F → (p : ℕ) → p ≡ F.characteristic → F.size ≡ F.characteristic → (given found : List PlainPolynomial)
    (down up : List (List PlainPolynomial)) → AllRanksBelow F.size given → AllRanksBelow F.size found → AllRowsBelow F.size down → AllRowsBelow F.size up
    → AreRows F (map polynomial given) (map polynomial found) (map (map polynomial) down) → AreRows F (map polynomial found) (map polynomial given) (map (map polynomial) up)
    → IsExpressedBothWays p given found down up
IsExpressedBothWays-from {F} L p is e given found down up a b c d there back =
    let first = subst (λ n. AllRanksBelow n given) e a in
    let second = subst (λ n. AllRanksBelow n found) e b in
    subst (λ n. IsExpressedBothWays n given found down up) (sym is) (record {
      prime = L.prime;
      first_below = first;
      second_below = second;
      to_second_below = subst (λ n. AllRowsBelow n down) e c;
      to_first_below = subst (λ n. AllRowsBelow n up) e d;
      second_by_first = IsExpressed-from L e given (ranked L e given first) found down there;
      first_by_second = IsExpressed-from L e found (ranked L e found second) given up back;
    })
