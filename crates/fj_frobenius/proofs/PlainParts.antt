-- Parts over q-th powers over a prime field as the identities of a certificate.
use Rattle.std.proofs.Common.{◌≡◌, ℕ, suc, ◌+◌, ◌^◌, ◌<◌, ◌≤◌, List, [], ◌∷◌, ◌++◌, length, map, take, zip, get_or, All, refl, sym, ap, ap₂, ◌∙◌, subst, subst₂, arith}
use Rattle.std.proofs.lemmas.List.{length-map, take_all, take_more}
use Rattle.std.proofs.lemmas.List.Elements.{All-nil, All-cons, All-head, All-tail, All-map}
use Rattle.std.proofs.lemmas.Simd.{map-map}
use Rattle.fj_coeff.specs.Field.{Field, IsField}
use Rattle.fj_coeff.specs.PrimeField.{prime_field}
use Rattle.fj_theory.specs.Certificate.{AllRanksBelow, AllRowsBelow, HasParts, IsResidue, IsRootCertificate}
use Rattle.fj_theory.specs.Ideal.{ArePolynomials, list_combination}
use Rattle.fj_theory.specs.Parts.{Part, IsParts, sum_of_parts}
use Rattle.fj_theory.specs.Plain.{PlainPolynomial, polynomial}
use Rattle.fj_theory.specs.Polynomial.{Polynomial, IsPolynomial, power, sum, term}
use Rattle.fj_theory.specs.Exponents.{IsExponents}
use Rattle.fj_theory.proofs.Field.{one_below}
use Rattle.fj_theory.proofs.Polynomial.{IsPolynomial-term}
use Rattle.fj_theory.proofs.PolynomialRing.{IsPolynomial-power, product_comm}
use Rattle.fj_root.specs.declared.part.Part as code
use Rattle.fj_root.specs.Part.{part_of, parts_of}
use Rattle.fj_basis.proofs.Gathered.{gathered as gathered_one}
use Rattle.fj_basis.proofs.PrimeField.{combination_is, power_is}

abbrev residues_of : List Part → List Polynomial
residues_of parts = map (λ part. term 1 part.residue) parts

abbrev powers_of : Field → ℕ → List Part → List Polynomial
powers_of F q parts = map (λ part. power F part.polynomial q) parts

-- The polynomials of the residues are one-term polynomials of rank 1 with exponents below q.
are_residues : (q : ℕ) (parts : List Part) (residues : List PlainPolynomial) → All (λ part. All (λ k. k < q) part.residue) parts
    → map (λ f. f.terms) residues ≡ map (λ part. (part.residue, 1) ∷ []) parts → All (IsResidue q) residues
are_residues q [] [] below e = All-nil (IsResidue q)
are_residues q [] (f ∷ residues) below e = absurd (let h = ap length e in omega (arith, h))
are_residues q (part ∷ parts) [] below e = absurd (let h = ap length e in omega (arith, h))
are_residues q (part ∷ parts) (f ∷ residues) below e =
    let Below : Part → Type 0 = λ part. All (λ k. k < q) part.residue in
    let here : f.terms ≡ (part.residue, 1) ∷ [] = cc in
    let rest : map (λ f. f.terms) residues ≡ map (λ part. (part.residue, 1) ∷ []) parts = cc in
    All-cons (IsResidue q) f residues (record { exponents = part.residue; monomial = here; below = All-head Below part parts below })
    (are_residues q parts residues (All-tail Below part parts below) rest)

module _ {F : Field} (L : IsField F) (e : F.size ≡ F.characteristic) (q : ℕ) where
  good_residue : (part : Part) → IsExponents part.residue → IsPolynomial F (term 1 part.residue)
  good_residue part A = IsPolynomial-term 1 (one_below L) A

  -- A polynomial is the sum of the powers of its parts times their residues.
  whole : (parts : List Part) → All (λ part. IsExponents part.residue) parts → All (λ part. IsPolynomial F part.polynomial) parts
      → sum_of_parts F q parts ≡ list_combination F (residues_of parts) (powers_of F q parts)
  unfolding sum_of_parts list_combination
  whole [] A P = refl
  whole (part ∷ parts) A P =
      ap₂ (sum F)
      (product_comm L (IsPolynomial-power L (All-head (λ part. IsPolynomial F part.polynomial) part parts P) q) (good_residue part (All-head (λ part. IsExponents part.residue) part parts A)))
      (whole parts (All-tail (λ part. IsExponents part.residue) part parts A) (All-tail (λ part. IsPolynomial F part.polynomial) part parts P))

  powers_are : (parts : List Part) → All (λ part. IsPolynomial F part.polynomial) parts → powers_of F q parts ≡ powers_of (prime_field F.characteristic) q parts
  powers_are [] P = refl
  powers_are (part ∷ parts) P =
      ap₂ ◌∷◌ (power_is L e (All-head (λ part. IsPolynomial F part.polynomial) part parts P) q) (powers_are parts (All-tail (λ part. IsPolynomial F part.polynomial) part parts P))

  powers_from : (parts : List Part) (plain : List PlainPolynomial) → map polynomial plain ≡ map (λ part. part.polynomial) parts
      → powers_of (prime_field F.characteristic) q parts ≡ map (λ g. power (prime_field F.characteristic) (polynomial g) q) plain
  powers_from [] [] is = refl
  powers_from [] (g ∷ plain) is = absurd (let h = ap length is in omega (arith, h))
  powers_from (part ∷ parts) [] is = absurd (let h = ap length is in omega (arith, h))
  powers_from (part ∷ parts) (g ∷ plain) is =
      let here : polynomial g ≡ part.polynomial = cc in
      let rest : map polynomial plain ≡ map (λ part. part.polynomial) parts = cc in
      ap₂ ◌∷◌ (ap (λ h. power (prime_field F.characteristic) h q) (sym here)) (powers_from parts plain rest)

  -- The parts of a polynomial, with its residues and its parts as plain polynomials.
  pub HasParts-from : (f : PlainPolynomial) (parts : List Part) (residues plain : List PlainPolynomial) → IsParts F q (polynomial f) parts
      → map (λ r. r.terms) residues ≡ map (λ part. (part.residue, 1) ∷ []) parts → map polynomial residues ≡ residues_of parts → map polynomial plain ≡ map (λ part. part.polynomial) parts
      → HasParts F.characteristic q f residues plain
  HasParts-from f parts residues plain P terms are are_parts =
      let monomials : ArePolynomials F (residues_of parts) = record { each = All-map (IsPolynomial F) (λ part. term 1 part.residue) parts (λ k d l. IsPolynomial-term 1 (one_below L) (P.residues k d l)) } in
      let powers : ArePolynomials F (powers_of F q parts) = record { each = All-map (IsPolynomial F) (λ part. power F part.polynomial q) parts (λ k d l. IsPolynomial-power L (P.polynomials k d l) q) } in
      record {
        fitting = sym (length-map residues polynomial) ∙ ap length are ∙ length-map parts (λ part. term 1 part.residue) ∙ sym (length-map parts (λ part. part.polynomial)) ∙ sym (ap length are_parts) ∙ length-map plain polynomial;
        are_residues = are_residues q parts residues P.below terms;
        identity = P.whole ∙ whole parts P.residues P.polynomials ∙ combination_is L e (residues_of parts) (powers_of F q parts) monomials powers
            ∙ ap₂ (list_combination (prime_field F.characteristic)) (sym are) (powers_are parts P.polynomials ∙ powers_from parts plain are_parts);
      }

-- The relation holds of three lists of one length, place by place.
abbrev pub Aligned : {X Y Z : Type 0} → (X → Y → Z → Type 0) → List X → List Y → List Z → Type 0
Aligned R [] [] [] = Unit {0}
Aligned R [] [] (z ∷ c) = ⊥
Aligned R [] (y ∷ b) c = ⊥
Aligned R (x ∷ a) [] c = ⊥
Aligned R (x ∷ a) (y ∷ b) [] = ⊥
Aligned R (x ∷ a) (y ∷ b) (z ∷ c) = R x y z × Aligned R a b c

Aligned-push : {X Y Z : Type 0} (R : X → Y → Z → Type 0) (a : List X) (b : List Y) (c : List Z) (x : X) (y : Y) (z : Z) → Aligned R a b c → R x y z
    → Aligned R (a ++ x ∷ []) (b ++ y ∷ []) (c ++ z ∷ [])
Aligned-push R [] [] [] x y z all here = (here, tt)
Aligned-push R [] [] (w ∷ c) x y z all here = absurd all
Aligned-push R [] (v ∷ b) c x y z all here = absurd all
Aligned-push R (u ∷ a) [] c x y z all here = absurd all
Aligned-push R (u ∷ a) (v ∷ b) [] x y z all here = absurd all
Aligned-push R (u ∷ a) (v ∷ b) (w ∷ c) x y z all here = (all.0, Aligned-push R a b c x y z all.1 here)

-- One place more.
pub Aligned-more : {X Y Z : Type 0} (R : X → Y → Z → Type 0) (a : List X) (i : ℕ) (x : X) → i < length a → x ≡ get_or a i x → (b new_b : List Y) (y : Y) (c new_c : List Z) (z : Z)
    → Aligned R (take i a) b c → R x y z → new_b ≡ b ++ y ∷ [] → new_c ≡ c ++ z ∷ [] → Aligned R (take (i + 1) a) new_b new_c
Aligned-more R a i x l at b new_b y c new_c z all here bs cs =
    let front : take (i + 1) a ≡ take i a ++ x ∷ [] = take_more a i x l ∙ ap (λ w. take i a ++ w ∷ []) (sym at) in
    subst₂ (Aligned R (take (i + 1) a)) (sym bs) (sym cs) (subst (λ f. Aligned R f (b ++ y ∷ []) (c ++ z ∷ [])) (sym front) (Aligned-push R (take i a) b c x y z all here))

-- Residues and parts of a polynomial as plain polynomials, with ranks below a size.
abbrev pub ArePlainParts : (size p q : ℕ) → Polynomial → List PlainPolynomial → List PlainPolynomial → Type 0
ArePlainParts size p q h residues parts = AllRanksBelow size residues × AllRanksBelow size parts × ((f : PlainPolynomial) → polynomial f ≡ h → HasParts p q f residues parts)

record HaveParts (size p q : ℕ) (members : List PlainPolynomial) (residues parts : List (List PlainPolynomial)) : Type 0 where
  residues_below : AllRowsBelow size residues
  parts_below : AllRowsBelow size parts
  residue_rows : length residues ≡ length members
  part_rows : length parts ≡ length members
  sums : All (λ r. HasParts p q r.0 r.1.0 r.1.1) (zip members (zip residues parts))

module _ (size p q : ℕ) where
  gathered : (members : List PlainPolynomial) (residues parts : List (List PlainPolynomial)) → Aligned (ArePlainParts size p q) (map polynomial members) residues parts → HaveParts size p q members residues parts
  gathered [] [] [] all = record {
    residues_below = All-nil (AllRanksBelow size);
    parts_below = All-nil (AllRanksBelow size);
    residue_rows = refl;
    part_rows = refl;
    sums = All-nil (λ (r : PlainPolynomial × (List PlainPolynomial × List PlainPolynomial)). HasParts p q r.0 r.1.0 r.1.1);
  }
  gathered [] [] (ps ∷ parts) all = absurd all
  gathered [] (rs ∷ residues) parts all = absurd all
  gathered (f ∷ members) [] parts all = absurd all
  gathered (f ∷ members) (rs ∷ residues) [] all = absurd all
  gathered (f ∷ members) (rs ∷ residues) (ps ∷ parts) all =
      let rest = gathered members residues parts all.1 in
      record {
        residues_below = All-cons (AllRanksBelow size) rs residues all.0.0 rest.residues_below;
        parts_below = All-cons (AllRanksBelow size) ps parts all.0.1 rest.parts_below;
        residue_rows = ap suc rest.residue_rows;
        part_rows = ap suc rest.part_rows;
        sums = All-cons (λ (r : PlainPolynomial × (List PlainPolynomial × List PlainPolynomial)). HasParts p q r.0 r.1.0 r.1.1) (f, (rs, ps)) (zip members (zip residues parts)) (all.0.2 f refl) rest.sums;
      }

-- The rows of the parts of a list are its certificate.
pub IsRootCertificate-from : {F : Field} → IsField F → F.size ≡ F.characteristic → (p : ℕ) → p ≡ F.characteristic → (e : ℕ) → e ≤ 12
    → (L : List Polynomial) (members : List PlainPolynomial) (residues parts : List (List PlainPolynomial)) → AllRanksBelow F.size members → map polynomial members ≡ L
    → Aligned (ArePlainParts F.size F.characteristic (F.characteristic ^ e)) L residues parts → IsRootCertificate p e members residues parts
IsRootCertificate-from {F} law same p is e small L members residues parts below are all =
    let rows = gathered F.size F.characteristic (F.characteristic ^ e) members residues parts (subst (λ M. Aligned (ArePlainParts F.size F.characteristic (F.characteristic ^ e)) M residues parts) (sym are) all) in
    subst (λ n. IsRootCertificate n e members residues parts) (sym is) (record {
      prime = law.prime;
      exponent = small;
      members_below = subst (λ n. AllRanksBelow n members) same below;
      residues_below = subst (λ n. AllRowsBelow n residues) same rows.residues_below;
      parts_below = subst (λ n. AllRowsBelow n parts) same rows.parts_below;
      residue_rows = rows.residue_rows;
      part_rows = rows.part_rows;
      sums = rows.sums;
    })

-- A residue as the terms of its polynomial, its polynomial, and the polynomial of a part.
abbrev pub residue_terms : Part → List (List ℕ × ℕ)
residue_terms part = (part.residue, 1) ∷ []

abbrev pub residue_polynomial : Part → Polynomial
residue_polynomial part = term 1 part.residue

abbrev pub part_polynomial : Part → Polynomial
part_polynomial part = part.polynomial

-- Plain polynomials that a loop gathers of the parts of the code.
module _ {K O C : Type 0} (f : PlainPolynomial → C) (g : Part → C) (xs : List (code.Part K O)) (i : ℕ) where
  pub gathered_part : (ys new : List PlainPolynomial) (y : PlainPolynomial) (x : code.Part K O) → i < length xs → x ≡ get_or xs i x
      → map f ys ≡ map (λ x. g (part_of x)) (take i xs) → f y ≡ g (part_of x) → new ≡ ys ++ y ∷ [] → map f new ≡ map (λ x. g (part_of x)) (take (i + 1) xs)
  gathered_part ys new y x l at before is e = gathered_one f (λ x. g (part_of x)) ys new y xs i x l at before is e

  pub gathered_parts : (ys zs : List PlainPolynomial) → length xs ≤ i → map f ys ≡ map (λ x. g (part_of x)) (take i xs) → zs ≡ ys → map f zs ≡ map g (parts_of xs)
  gathered_parts ys zs past before e = ap (map f) e ∙ before ∙ ap (map (λ x. g (part_of x))) (take_all i xs past) ∙ sym (map-map g part_of xs)
