-- The parts of the polynomials of a list, and the root that they generate.
use Rattle.std.proofs.Common.{◌≡◌, ℕ, ◌^◌, List, [], ◌∷◌, ◌++◌, map, flat_map, All, refl, sym, ap, ◌∙◌, subst, append-nil}
use Rattle.std.specs.FinMap.{empty, entries, len-empty, len-entries}
use Rattle.std.specs.Ordering.{nat_cmp}
use Rattle.std.specs.Cmp.Lexicographic.{slice_cmp}
use Rattle.std.proofs.lemmas.List.{map-append, nil_from_length}
use Rattle.std.proofs.lemmas.List.Concat.{flat_map-append}
use Rattle.std.proofs.lemmas.List.Elements.{All-nil, All-cons, All-head, All-tail, All-push, All-map, All-weaker}
use Rattle.fj_coeff.specs.Field.{Field, IsField}
use Rattle.fj_theory.specs.Ideal.{multiples}
use Rattle.fj_theory.specs.Parts.{Part, IsParts, sum_of_parts}
use Rattle.fj_theory.specs.Polynomial.{Polynomial, IsPolynomial, product, support, with_coefficients, convolution}
use Rattle.fj_theory.specs.Root.{IsRoot}
use Rattle.fj_theory.specs.RootLaws.{WithParts}
use Rattle.fj_theory.specs.Exponents.{plus}
use Rattle.fj_theory.proofs.Parts.{IsFamily-from_IsParts, IsPolynomial-sum_of_parts}
use Rattle.fj_theory.proofs.RootParts.{IsRoot-all_parts}
use Rattle.fj_root.specs.Root.{ArePartsOf}

-- The zero polynomial has no parts.
pub IsParts-empty : (F : Field) (q : ℕ) → IsParts F q empty []
unfolding sum_of_parts
IsParts-empty F q = record { whole = refl; residues = All-nil _; below = All-nil _; rising = tt; polynomials = All-nil _; nonzero = All-nil _ }

module _ {F : Field} {q : ℕ} where
  pub ArePartsOf-nil : ArePartsOf F q [] []
  ArePartsOf-nil = record { families = []; parts = All-nil _; members = refl; listed = refl }

  -- One polynomial more.
  pub ArePartsOf-more : {L M : List Polynomial} {h : Polynomial} {parts : List Part} → ArePartsOf F q L M → IsParts F q h parts
      → ArePartsOf F q (L ++ h ∷ []) (M ++ map (λ part. part.polynomial) parts)
  ArePartsOf-more {L} {M} {h} {parts} A P =
      let one : WithParts = record { polynomial = h; parts = parts } in
      let family : WithParts → List Polynomial = λ g. map (λ part. part.polynomial) g.parts in
      record {
        families = A.families ++ one ∷ [];
        parts = All-push (λ g. IsParts F q g.polynomial g.parts) A.families one A.parts P;
        members = ap (λ K. K ++ h ∷ []) A.members ∙ sym (map-append (λ (g : WithParts). g.polynomial) A.families (one ∷ []));
        listed = ap (λ K. K ++ family one) A.listed ∙ ap (λ K. flat_map family A.families ++ K) (sym (append-nil (family one))) ∙ sym (flat_map-append family A.families (one ∷ []));
      }

  -- Zero polynomials have no parts.
  pub ArePartsOf-zeros : (L : List Polynomial) → All (λ h. h ≡ empty) L → ArePartsOf F q L []
  ArePartsOf-zeros [] zeros = ArePartsOf-nil
  ArePartsOf-zeros (h ∷ L) zeros =
      let rest = ArePartsOf-zeros L (All-tail (λ h. h ≡ empty) h L zeros) in
      let one : WithParts = record { polynomial = h; parts = [] } in
      record {
        families = one ∷ rest.families;
        parts = All-cons (λ g. IsParts F q g.polynomial g.parts) one rest.families (subst (λ g. IsParts F q g []) (sym (All-head (λ h. h ≡ empty) h L zeros)) (IsParts-empty F q)) rest.parts;
        members = ap (λ K. h ∷ K) rest.members;
        listed = rest.listed;
      }

-- What has parts is a polynomial.
IsPolynomial-IsParts : {F : Field} (K : IsField F) (e : ℕ) {h : Polynomial} {parts : List Part} → IsParts F (F.characteristic ^ e) h parts → IsPolynomial F h
IsPolynomial-IsParts {F} K e {h} {parts} P = subst (IsPolynomial F) (sym P.whole) (IsPolynomial-sum_of_parts K e parts (IsFamily-from_IsParts P))

-- The parts of the polynomials of a list generate its root.
pub IsRoot-ArePartsOf : {F : Field} (K : IsField F) (e : ℕ) {L M : List Polynomial} → ArePartsOf F (F.characteristic ^ e) L M → IsRoot F (F.characteristic ^ e) L M
IsRoot-ArePartsOf {F} K e {L} {M} A =
    let q : ℕ = F.characteristic ^ e in
    let polynomials : All (λ g. IsPolynomial F g.polynomial) A.families = All-weaker (λ g. IsParts F q g.polynomial g.parts) (λ g. IsPolynomial F g.polynomial) (λ g parts. IsPolynomial-IsParts K e parts) A.families A.parts in
    subst (λ N. IsRoot F q N M) (sym A.members) (subst (IsRoot F q (map (λ (g : WithParts). g.polynomial) A.families)) (sym A.listed) (IsRoot-all_parts K e A.families polynomials A.parts))

-- A product with zero is zero.
no_exponents : (L : List (List ℕ)) → flat_map (λ b. map (plus b) []) L ≡ []
no_exponents [] = refl
no_exponents (b ∷ L) = no_exponents L

support_empty : support empty ≡ []
support_empty = ap (map (λ (e : List ℕ × ℕ). e.0)) (nil_from_length (entries empty) (sym (len-entries empty) ∙ len-empty (slice_cmp nat_cmp) ℕ))

pub product_zero : (F : Field) (f : Polynomial) → product F f empty ≡ empty
unfolding product with_coefficients
product_zero F f = ap (with_coefficients (convolution F f empty)) (ap (λ K. flat_map (λ b. map (plus b) K) (support f)) support_empty ∙ no_exponents (support f))

pub zero_multiples : (F : Field) (f : Polynomial) (M : List Polynomial) → All (λ g. g ≡ empty) M → All (λ h. h ≡ empty) (multiples F f M)
zero_multiples F f M zeros = All-map (λ h. h ≡ empty) (product F f) M (λ k d below. ap (product F f) (zeros k d below) ∙ product_zero F f)
