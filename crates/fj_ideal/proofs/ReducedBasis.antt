-- What the reduced basis of an ideal tells of it.
use Rattle.std.proofs.Common.{◌≡◌, ◌≢◌, ◌↔◌, ℕ, zero, suc, List, [], ◌∷◌, ◌++◌, length, get_or, map, All, Some, Bool, true, false, cond, true≢false, refl, sym, ap, ◌∙◌, subst, arith}
use Rattle.std.specs.FinMap.{empty}
use Rattle.std.proofs.lemmas.List.Elements.{All-head}
use Rattle.fj_coeff.specs.Field.{Field, IsField}
use Rattle.fj_theory.specs.Exponents.{IsExponents, origin}
use Rattle.fj_theory.specs.MonomialOrder.{IsMonomialOrder, grevlex_key}
use Rattle.fj_theory.specs.Polynomial.{Polynomial, IsPolynomial, coefficient, degree, term, sum}
use Rattle.fj_theory.specs.Ideal.{ArePolynomials, Member, Inside, SameIdeal, list_combination, products}
use Rattle.fj_theory.specs.Lead.{lead_coefficient, lead_exponents}
use Rattle.fj_groebner.specs.ReducedBasis.{IsReducedBasis}
use Rattle.fj_groebner.specs.Rows.{AreRows, IsRow}
use Rattle.fj_groebner.specs.Division.{polynomials_of}
use Rattle.fj_groebner.specs.Run.{given}
use Rattle.fj_theory.specs.Evaluation.{IsPoint, IsZeroOf}
use Rattle.fj_theory.proofs.Field.{one_below}
use Rattle.fj_theory.proofs.Keys.{grevlex_key-IsMonomialOrder}
use Rattle.fj_theory.proofs.Exponents.{IsExponents-origin, origin_from_total, total_origin}
use Rattle.fj_theory.proofs.Polynomial.{polynomial_equal, coefficient-term}
use Rattle.fj_theory.proofs.FormalSum.{same, same_true, same_itself}
use Rattle.fj_theory.proofs.Degree.{degree_bounds, degree-term}
use Rattle.fj_theory.proofs.Lead.{IsExponents-lead, coefficient-lead, nonzero-lead_coefficient}
use Rattle.fj_theory.proofs.PolynomialRing.{sum_empty}
use Rattle.fj_theory.proofs.IdealBridge.{IsPolynomial-one}
use Rattle.fj_theory.proofs.Ideal.{SameIdeal-refl, SameIdeal-sym, SameIdeal-append, SameIdeal-products, Inside-trans}
use Rattle.fj_groebner.proofs.ReducedBasis.{IsReducedBasis_polynomials, IsReducedBasis-SameIdeal, IsReducedBasis-one, IsReducedBasis-zero, IsReducedBasis-unique, IsReducedBasis-same_ideal, SameIdeal-IsReducedBasis}
use Rattle.fj_groebner.proofs.Division.{Member-IsDivision, IsDivision-quotients}
use Rattle.fj_groebner.proofs.DegreeOrder.{polynomials_of-given}
use Rattle.fj_groebner.proofs.Rows.{IsPolynomial-list_combination}
use Rattle.fj_theory.proofs.Evaluation.{Inside-IsZeroOf}
use Rattle.fj_basis.specs.Quotients.{IsDivided}
use Rattle.fj_ideal.specs.Ideal.{WithBasis, IsIdeal}

-- A table has as many rows as the list that it gives.
pub length-AreRows : (F : Field) (M N : List Polynomial) (rows : List (List Polynomial)) → AreRows F M N rows → length rows ≡ length N
unfolding AreRows
length-AreRows F M [] [] h = refl
length-AreRows F M [] (row ∷ rows) h = absurd h
length-AreRows F M (g ∷ N) [] h = absurd h
length-AreRows F M (g ∷ N) (row ∷ rows) h = let rest = length-AreRows F M N rows h.1 in omega (arith, rest)

-- A list of one.
pub one_element : {A : Type 0} (xs : List A) (x : A) → length xs ≡ 1 → x ≡ get_or xs 0 x → xs ≡ x ∷ []
one_element [] x l e = absurd (omega (arith, l))
one_element (y ∷ []) x l e = ap (λ z. z ∷ []) (sym e)
one_element (y ∷ z ∷ xs) x l e = absurd (omega (arith, l))

module _ {F : Field} (L : IsField F) where
  abbrev grevlex : IsMonomialOrder grevlex_key
  grevlex = grevlex_key-IsMonomialOrder

  -- A monic polynomial of degree 0 is 1.
  pub one_from_degree : {f : Polynomial} → IsPolynomial F f → lead_coefficient grevlex_key f ≡ 1 → degree f ≡ Some 0 → f ≡ term 1 origin
  one_from_degree {f} P monic d = polynomial_equal P (IsPolynomial-one L) (λ a A. at a A (same a origin) refl)
    where
      lead_is : lead_exponents grevlex_key f ≡ origin
      lead_is =
          let c = coefficient-lead grevlex P in
          origin_from_total (IsExponents-lead grevlex P) (let b = degree_bounds L P d (lead_exponents grevlex_key f) (IsExponents-lead grevlex P) (omega (arith, c, monic)) in omega (arith, b))

      at_origin : coefficient f origin ≡ 1
      at_origin = ap (coefficient f) (sym lead_is) ∙ coefficient-lead grevlex P ∙ monic

      none : (a : List ℕ) → IsExponents a → same a origin ≡ false → (n : ℕ) → coefficient f a ≡ n → n ≡ 0
      none a A apart zero e = refl
      none a A apart (suc n) e =
          let b = degree_bounds L P d a A (omega (arith, e)) in
          absurd (apart_origin (origin_from_total A (omega (arith, b))))
        where
          apart_origin : a ≡ origin → ⊥
          apart_origin is = true≢false (sym (ap (λ b. same b origin) is ∙ same_itself origin) ∙ apart)

      at : (a : List ℕ) → IsExponents a → (b : Bool) → same a origin ≡ b → coefficient f a ≡ coefficient (term 1 origin) a
      at a A true e = ap (coefficient f) (same_true a origin e) ∙ at_origin ∙ sym (coefficient-term 1 origin a ∙ ap (λ t. cond t 1 0) e)
      at a A false e = none a A e (coefficient f a) refl ∙ sym (coefficient-term 1 origin a ∙ ap (λ t. cond t 1 0) e)

  -- A list M of polynomials and the reduced basis G of its ideal.
  module _ {M G : List Polynomial} (P : ArePolynomials F M) (S : IsReducedBasis F grevlex_key M G) where
    -- The ideal is the unit ideal exactly where its basis is one polynomial, of degree 0.
    one_member : Member F M (term 1 origin) → G ≡ term 1 origin ∷ []
    one_member m = IsReducedBasis-unique grevlex L P P (SameIdeal-refl L P) S ((IsReducedBasis-one grevlex L P).1 m)

    -- The ideal is the unit ideal exactly where its basis is one polynomial, of degree 0.
    pub unit_from_member : (g : Polynomial) → G ≡ g ∷ [] → (degree g ≡ Some 0) ↔ Member F M (term 1 origin)
    unit_from_member g e = (
      λ d.
          let Q : IsPolynomial F g = All-head (IsPolynomial F) g [] (subst (All (IsPolynomial F)) e (IsReducedBasis_polynomials grevlex L P S).each) in
          let monic : lead_coefficient grevlex_key g ≡ 1 = All-head (λ f. lead_coefficient grevlex_key f ≡ 1) g [] (subst (All (λ f. lead_coefficient grevlex_key f ≡ 1)) e S.monic) in
          (IsReducedBasis-one grevlex L P).0 (subst (IsReducedBasis F grevlex_key M) (e ∙ ap (λ f. f ∷ []) (one_from_degree Q monic d)) S),
      λ m.
          let is : g ∷ [] ≡ term 1 origin ∷ [] = sym e ∙ one_member m in
          let one : g ≡ term 1 origin = cc in
          ap degree one ∙ degree-term F 1 (omega arith) (one_below L) IsExponents-origin ∙ ap Some total_origin,
    )

    pub unit_is_single : Member F M (term 1 origin) → length G ≡ 1
    unit_is_single m = ap length (one_member m)

    -- The ideal is inside another exactly where the basis is.
    pub Inside-basis : {N : List Polynomial} → ArePolynomials F N → Inside F M N ↔ Inside F G N
    Inside-basis Q =
        let same = IsReducedBasis-SameIdeal grevlex L P S in
        let R = IsReducedBasis_polynomials grevlex L P S in
        (Inside-trans L R P Q same.back, Inside-trans L P R Q same.forth)

    -- Of another list and its basis: the ideals are equal exactly where the bases are.
    pub same_bases : {N H : List Polynomial} → ArePolynomials F N → IsReducedBasis F grevlex_key N H → SameIdeal F M N ↔ (G ≡ H)
    same_bases Q T = SameIdeal-IsReducedBasis grevlex L P Q S T

  module _ {J : WithBasis} (I : IsIdeal F J) where
    pub ArePolynomials-members : ArePolynomials F J.members
    ArePolynomials-members = IsReducedBasis_polynomials grevlex L I.polynomials I.reduced

    pub members_nonzero : All (λ g. g ≢ empty) J.members
    members_nonzero k d l = let monic = I.reduced.monic k d l in nonzero-lead_coefficient grevlex (ArePolynomials-members.each k d l) (omega (arith, monic))

    pub SameIdeal-members : SameIdeal F J.given J.members
    SameIdeal-members = IsReducedBasis-SameIdeal grevlex L I.polynomials I.reduced

    -- The ideal is zero exactly where the basis is empty.
    pub zero_from_members : (J.members ≡ []) ↔ All (λ g. g ≡ empty) J.given
    zero_from_members = (
      λ e. (IsReducedBasis-zero grevlex L I.polynomials).0 (subst (IsReducedBasis F grevlex_key J.given) e I.reduced),
      λ all. IsReducedBasis-unique grevlex L I.polynomials I.polynomials (SameIdeal-refl L I.polynomials) I.reduced ((IsReducedBasis-zero grevlex L I.polynomials).1 all),
    )

    -- A point is a zero of the basis exactly where it is one of the given list.
    pub zeros_of_members : {point : List ℕ} → IsPoint F point → IsZeroOf F J.members point ↔ IsZeroOf F J.given point
    zeros_of_members at = (Inside-IsZeroOf L at ArePolynomials-members SameIdeal-members.forth, Inside-IsZeroOf L at I.polynomials SameIdeal-members.back)

    -- The basis for another order.
    pub IsReducedBasis-given : {key : List ℕ → List ℕ} → IsMonomialOrder key → {G : List Polynomial} → IsReducedBasis F key J.members G → IsReducedBasis F key J.given G
    IsReducedBasis-given K S = IsReducedBasis-same_ideal K L ArePolynomials-members I.polynomials (SameIdeal-sym SameIdeal-members) S

    -- Division by the members.
    module _ {h r : Polynomial} {quotients : List Polynomial} (H : IsPolynomial F h) (D : IsDivided F grevlex_key (map given J.members) (given h) quotients r) where
      members : ArePolynomials F (polynomials_of (map given J.members))
      members = subst (ArePolynomials F) (sym (polynomials_of-given J.members)) ArePolynomials-members

      nonzero : All (λ g. g ≢ empty) (polynomials_of (map given J.members))
      nonzero = subst (All (λ g. g ≢ empty)) (sym (polynomials_of-given J.members)) members_nonzero

      -- h is in the ideal exactly where the remainder is zero.
      pub Member-remainder : Member F J.given h ↔ (r ≡ empty)
      unfolding given
      Member-remainder =
          let law = Member-IsDivision grevlex L (map given J.members) members nonzero H D.division.division I.polynomials
          (subst (IsReducedBasis F grevlex_key J.given) (sym (polynomials_of-given J.members)) I.reduced) in
          (λ m. sym D.remainder_is ∙ law.0 m, λ e. law.1 (D.remainder_is ∙ e))

      -- Then the quotients are its cofactors.
      pub IsRow-quotients : length quotients ≡ length J.members → h ≡ sum F (list_combination F quotients J.members) r → r ≡ empty → IsRow F J.members h quotients
      unfolding given
      IsRow-quotients long identity e =
          let Q : ArePolynomials F quotients = subst (ArePolynomials F) D.quotients_are (IsDivision-quotients grevlex L (map given J.members) members nonzero H D.division.division) in
          record {
            polynomials = Q;
            long = long;
            is = identity ∙ ap (sum F (list_combination F quotients J.members)) e ∙ sum_empty L (IsPolynomial-list_combination L Q ArePolynomials-members);
          }

  module _ {I J : WithBasis} (A : IsIdeal F I) (B : IsIdeal F J) where
    -- The ideals are equal exactly where their bases are.
    pub SameIdeal-same_members : SameIdeal F I.given J.given ↔ (I.members ≡ J.members)
    SameIdeal-same_members = SameIdeal-IsReducedBasis grevlex L A.polynomials B.polynomials A.reduced B.reduced

    -- One is inside the other exactly where the members of its basis are.
    pub Inside-members : Inside F J.given I.given ↔ All (Member F I.given) J.members
    Inside-members = (
      λ inside. (Inside-trans L (ArePolynomials-members B) B.polynomials A.polynomials (SameIdeal-members B).back inside).each,
      λ all. Inside-trans L B.polynomials (ArePolynomials-members B) A.polynomials (SameIdeal-members B).forth (record { each = all }),
    )

    -- Sums and products by members.
    pub SameIdeal-sum : SameIdeal F (I.given ++ J.given) (I.members ++ J.members)
    SameIdeal-sum = SameIdeal-append L A.polynomials (ArePolynomials-members A) B.polynomials (ArePolynomials-members B) (SameIdeal-members A) (SameIdeal-members B)

    pub SameIdeal-product : SameIdeal F (products F I.given J.given) (products F I.members J.members)
    SameIdeal-product = SameIdeal-products L A.polynomials (ArePolynomials-members A) B.polynomials (ArePolynomials-members B) (SameIdeal-members A) (SameIdeal-members B)
