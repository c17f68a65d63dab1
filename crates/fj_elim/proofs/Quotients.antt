-- Quotients of ideals by their members, one after another.
use Rattle.std.proofs.Common.{◌≡◌, ◌≢◌, inl, inr, ℕ, zero, suc, ◌+◌, ◌<◌, List, [], ◌∷◌, ◌++◌, Option, Some, length, get_or, map, take, drop, All, Contains, refl, sym, ap, ◌∙◌, subst, add-one, arith}
use Rattle.std.specs.FinMap.{empty}
use Rattle.std.specs.Option.{option_to_list}
use Rattle.std.proofs.Math.Seq.{take-suc}
use Rattle.std.proofs.lemmas.List.Elements.{All-cons, All-head, All-nil}
use Rattle.fj_coeff.specs.Field.{Field, IsField}
use Rattle.fj_theory.specs.Colon.{IsColon}
use Rattle.fj_theory.specs.Exponents.{origin}
use Rattle.fj_theory.specs.Ideal.{ArePolynomials, Member, multiples}
use Rattle.fj_theory.specs.MonomialOrder.{grevlex_key}
use Rattle.fj_theory.specs.PointIdeal.{UsesFirst}
use Rattle.fj_theory.specs.Polynomial.{Polynomial, IsPolynomial, product, term}
use Rattle.fj_theory.proofs.Colon.{Inside-IsMeet_right, IsColon-SameIdeal, IsColon-append, IsColon-zeros}
use Rattle.fj_theory.proofs.Ideal.{Member-elements, SameIdeal-refl, SameIdeal-sym}
use Rattle.fj_theory.proofs.IdealBridge.{ArePolynomials-single, IsPolynomial-one}
use Rattle.fj_theory.proofs.Keys.{grevlex_key-IsMonomialOrder}
use Rattle.fj_theory.proofs.UsesFirst.{UsesFirst-constant}
use Rattle.fj_groebner.specs.Run.{given}
use Rattle.fj_groebner.specs.ReducedBasis.{IsReducedBasis}
use Rattle.fj_groebner.proofs.Elimination.{IsColon-elimination, IsDivision-IsExact}
use Rattle.fj_groebner.proofs.Lacking.{IsReducedBasis-UsesFirst, UsesFirst-factors}
use Rattle.fj_groebner.proofs.ReducedBasis.{IsReducedBasis_polynomials, IsReducedBasis-SameIdeal, IsReducedBasis-one, IsReducedBasis-same_ideal}
use Rattle.fj_plain.specs.declared.order_name.OrderName.{OrderName}
use Rattle.fj_plain.specs.declared.order_name.OrderName.TheVariants.{Elim, Grevlex}
use Rattle.fj_ideal.specs.Lists.{RunFor}
use Rattle.fj_basis.specs.Quotients.{IsDivided}
use Rattle.fj_ideal.specs.Ideal.{IsIdeal, WithBasis}
use Rattle.fj_ideal.proofs.ReducedBasis.{ArePolynomials-members, SameIdeal-members}
use Rattle.fj_elim.specs.Lists.{IsColonBasis, IsColonList, IsEliminated, IsHighInColon, IsHighInMeet, IsMeetList, IsMetInColon, IsQuotientList, by_member, so_far}
use Rattle.fj_elim.proofs.Meets.{basis_is, eliminated-lacks, eliminated-meet, eliminated-reduced}

module _ {F : Field} (L : IsField F) where
  -- The unit ideal.
  pub unit-reduced : IsReducedBasis F grevlex_key (term 1 origin ∷ []) (term 1 origin ∷ [])
  unit-reduced =
      let A = ArePolynomials-single (IsPolynomial-one L) in
      (IsReducedBasis-one grevlex_key-IsMonomialOrder L A).1 (All-head (Member F (term 1 origin ∷ [])) (term 1 origin) [] (Member-elements L A))

  pub unit-lacks : All (UsesFirst 7) (term 1 origin ∷ [])
  unit-lacks = All-cons (UsesFirst 7) (term 1 origin) [] (UsesFirst-constant 7 1) (All-nil (UsesFirst 7))

  pub colon_by_zero : {I : List Polynomial} → ArePolynomials F I → {g : Polynomial} → g ≡ empty → IsColon F I (g ∷ []) (term 1 origin ∷ [])
  colon_by_zero A {g} e = IsColon-zeros L A (All-cons (λ h. h ≡ empty) g [] e (All-nil (λ h. h ≡ empty)))

  -- What is eliminated for A and g are multiples of g. The quotients by g are the quotient, and lack t.
  module _ {A N : List Polynomial} {g : Polynomial} (P : ArePolynomials F A) (G : IsPolynomial F g) (lacks_A : All (UsesFirst 7) A) (lacks_g : UsesFirst 7 g) (e : IsEliminated F A (g ∷ []) N) where
    lacks_single : All (UsesFirst 7) (g ∷ [])
    lacks_single = All-cons (UsesFirst 7) g [] lacks_g (All-nil (UsesFirst 7))

    pub eliminated-multiples : All (Member F (g ∷ [])) N
    eliminated-multiples = (Inside-IsMeet_right L P (ArePolynomials-single G) (eliminated-meet L P (ArePolynomials-single G) e lacks_A lacks_single)).each

    module _ {Q : List Polynomial} (R : ArePolynomials F Q) (some : g ≢ empty) (is : multiples F g Q ≡ N) where
      pub quotients-colon : IsColon F A (g ∷ []) Q
      quotients-colon = IsColon-elimination L P G (basis_is L P (ArePolynomials-single G) e) lacks_A lacks_g some R (sym e.is ∙ sym is)

      pub quotients-lack : All (UsesFirst 7) Q
      quotients-lack = UsesFirst-factors L G R some (subst (All (UsesFirst 7)) (sym is) (eliminated-lacks L P (ArePolynomials-single G) e))

      pub quotients-list : IsQuotientList F A g Q
      quotients-list = record { polynomials = R; eliminated = subst (IsEliminated F A (g ∷ [])) (sym is) e }

  -- The quotient of an ideal is that of its members.
  module _ {I : WithBasis} (P : IsIdeal F I) {B : List Polynomial} (R : ArePolynomials F B) where
    pub colon_of_members : {Q : List Polynomial} → ArePolynomials F Q → IsColon F I.members B Q → IsColon F I.given B Q
    colon_of_members S c = IsColon-SameIdeal L (ArePolynomials-members L P) P.polynomials R R S S (SameIdeal-sym (SameIdeal-members L P)) (SameIdeal-refl L R) (SameIdeal-refl L S) c

  -- The reduced basis of a quotient.
  pub basis_of_quotients : {A B Q C : List Polynomial} → ArePolynomials F A → ArePolynomials F B → IsColon F A B Q → IsReducedBasis F grevlex_key Q C → IsColonBasis F A B C
  basis_of_quotients P R c S =
      let G = IsReducedBasis_polynomials grevlex_key-IsMonomialOrder L c.polynomials S in
      let same = IsReducedBasis-SameIdeal grevlex_key-IsMonomialOrder L c.polynomials S in
      record {
        colon = IsColon-SameIdeal L P P R R c.polynomials G (SameIdeal-refl L P) (SameIdeal-refl L R) same c;
        reduced = IsReducedBasis-same_ideal grevlex_key-IsMonomialOrder L c.polynomials G same S;
      }

  -- The quotient by one member more is the meet of two quotients, and what is eliminated for their bases is its basis.
  pub basis_of_meet : {A B C D N : List Polynomial} {g : Polynomial} → IsColonBasis F A B C → IsColonBasis F A (g ∷ []) D → All (UsesFirst 7) C → All (UsesFirst 7) D → IsEliminated F C D N
      → IsColonBasis F A (B ++ g ∷ []) N
  basis_of_meet b d lacks_C lacks_D e = record {
    colon = IsColon-append b.colon d.colon (eliminated-meet L b.colon.polynomials d.colon.polynomials e lacks_C lacks_D);
    reduced = eliminated-reduced L b.colon.polynomials d.colon.polynomials e;
  }

  pub colon_by_members : {I J : WithBasis} → IsIdeal F I → IsIdeal F J → {Q : List Polynomial} → IsColon F I.given J.members Q → IsColon F I.given J.given Q
  colon_by_members P R c =
      IsColon-SameIdeal L P.polynomials P.polynomials (ArePolynomials-members L R) R.polynomials c.polynomials c.polynomials (SameIdeal-refl L P.polynomials) (SameIdeal-sym (SameIdeal-members L R)) (SameIdeal-refl L c.polynomials) c

  -- The quotient of two ideals is that of their members.
  pub colon_of_bases : {I J : WithBasis} → IsIdeal F I → IsIdeal F J → {C : List Polynomial} → IsColonBasis F I.members J.members C → IsColon F I.given J.given C
  colon_of_bases P R b =
      IsColon-SameIdeal L (ArePolynomials-members L P) P.polynomials (ArePolynomials-members L R) R.polynomials b.colon.polynomials b.colon.polynomials
      (SameIdeal-sym (SameIdeal-members L P)) (SameIdeal-sym (SameIdeal-members L R)) (SameIdeal-refl L b.colon.polynomials) b.colon

  -- The members of an ideal lack t where what it was made of does.
  pub members-lack : {J : WithBasis} → IsIdeal F J → All (UsesFirst 7) J.given → All (UsesFirst 7) J.members
  members-lack P lacks = IsReducedBasis-UsesFirst grevlex_key-IsMonomialOrder L P.polynomials lacks P.reduced

-- The last of one.
pub popped : {A : Type 0} (q x : A) (xs ys : List A) (r : Option A) → ys ≡ q ∷ [] → ys ≡ xs ++ option_to_list r → r ≡ Some x → x ≡ q
popped q x xs ys r e is some = by xs (sym e ∙ is ∙ ap (λ o. xs ++ option_to_list o) some)
  where
    by : (zs : List _) → q ∷ [] ≡ zs ++ x ∷ [] → x ≡ q
    by [] h = ap (λ ws. get_or ws 0 q) (sym h)
    by (z ∷ []) h = let l = ap length h in absurd (omega (arith, l))
    by (z ∷ w ∷ zs) h = let l = ap length h in absurd (omega (arith, l))

-- The division of a multiple of g by g in Grevlex has one quotient, and g times it is the multiple.
pub record IsQuotient (F : Field) (g h : Polynomial) (quotients : List Polynomial) : Type 0 where
  pub quotient : Polynomial
  pub polynomial : IsPolynomial F quotient
  pub single : quotients ≡ quotient ∷ []
  pub whole : h ≡ product F g quotient

pub quotient_of_multiple : {F : Field} (L : IsField F) {g h : Polynomial} → IsPolynomial F g → g ≢ empty → Member F (g ∷ []) h → {M : List Polynomial} → M ≡ g ∷ []
    → {quotients : List Polynomial} {r : Polynomial} → IsDivided F grevlex_key (map given M) (given h) quotients r → IsQuotient F g h quotients
quotient_of_multiple {F} L {g} {h} P some m {M} e {quotients} {r} D =
    let divided : IsDivided F grevlex_key (map given (g ∷ [])) (given h) quotients r = subst (λ N. IsDivided F grevlex_key (map given N) (given h) quotients r) e D in
    let exact = IsDivision-IsExact L grevlex_key-IsMonomialOrder P some m divided.division.division in
    record { quotient = exact.quotient; polynomial = exact.polynomial; single = sym divided.quotients_are ∙ exact.quotients; whole = exact.whole }

module _ (F : Field) (A : List Polynomial) where
  -- The lists by one member are among those by more.
  no_more : {g : Polynomial} (h : Polynomial) (before after : List Polynomial) → g ∷ [] ≡ before ++ h ∷ after → before ≢ [] → ⊥
  no_more h [] after e some = some refl
  no_more h (x ∷ []) after e some = let l = ap length e in absurd (omega (arith, l))
  no_more h (x ∷ y ∷ before) after e some = let l = ap length e in absurd (omega (arith, l))

  met_of_one : {B G H : List Polynomial} {g : Polynomial} → Contains B g → IsMetInColon F A (g ∷ []) G H → IsMetInColon F A B G H
  met_of_one {B} {G} {H} {g} there (by_member h c some a b) = by_member h (one there c) some a b
    where
      one : Contains B g → Contains (g ∷ []) h → Contains B h
      one t (zero, l, e) = subst (Contains B) e t
      one t (suc n, l, e) = absurd (omega (arith, l))
  met_of_one there (so_far before after h is some G H) = absurd (no_more h before after is some)

  module _ (B : List Polynomial) (g : Polynomial) (there : Contains B g) where
    pub lists_of_one : (o : OrderName) (M : List Polynomial) → IsColonList F A (g ∷ []) o M → IsColonList F A B o M
    lists_of_one o M (inl e) = inl (e.0, record { first = e.1.first; second = e.1.second; met = met_of_one there e.1.met; formed = e.1.formed })
    lists_of_one o M (inr e) = inr (e.0, record { g = e.1.g; there = element there e.1.there; nonzero = e.1.nonzero; quotients = e.1.quotients })
      where
        element : Contains B g → {h : Polynomial} → Contains (g ∷ []) h → Contains B h
        element t (zero, l, e) = subst (Contains B) e t
        element t (suc n, l, e) = absurd (omega (arith, l))

    pub products_of_one : (M : List Polynomial) → IsHighInColon F A (g ∷ []) M → IsHighInColon F A B M
    products_of_one M e = record { first = e.first; second = e.second; met = met_of_one there e.met; high = e.high }

  -- The lists and the products of a meet that is taken.
  module _ (B G H : List Polynomial) (met : IsMetInColon F A B G H) where
    pub lists_of_meet : (o : OrderName) (M : List Polynomial) → RunFor Elim (IsMeetList F G H) o M → IsColonList F A B o M
    lists_of_meet o M e = inl (e.0, record { first = G; second = H; met = met; formed = e.1 })

    pub products_of_meet : (M : List Polynomial) → IsHighInMeet F G H M → IsHighInColon F A B M
    products_of_meet M e = record { first = G; second = H; met = met; high = e }

  -- The list of the quotients by one member.
  pub list_of_quotients : (B : List Polynomial) (g : Polynomial) → Contains B g → g ≢ empty → (Q : List Polynomial) → IsQuotientList F A g Q
      → (o : OrderName) (M : List Polynomial) → RunFor Grevlex (λ N. N ≡ Q) o M → IsColonList F A B o M
  list_of_quotients B g there some Q q o M e = inr (e.0, record { g = g; there = there; nonzero = some; quotients = subst (IsQuotientList F A g) (sym e.1) q })

-- The members before a place, the one there, and those after.
pub split_at : (B : List Polynomial) (k : ℕ) (g : Polynomial) → k < length B → g ≡ get_or B k g → B ≡ take k B ++ g ∷ drop (suc k) B
split_at [] k g l e = absurd (omega (arith, l))
split_at (x ∷ B) zero g l e = ap (λ y. y ∷ B) (sym e)
split_at (x ∷ B) (suc k) g l e = ap (λ ys. x ∷ ys) (split_at B k g (omega (arith, l)) e)

pub some_before : (B : List Polynomial) (k : ℕ) → 0 < k → k < length B → take k B ≢ []
some_before [] k p l e = omega (arith, l)
some_before (x ∷ B) zero p l e = omega (arith, p)
some_before (x ∷ B) (suc k) p l e = let n = ap length e in omega (arith, n)

pub one_more : (B : List Polynomial) (k : ℕ) (g : Polynomial) → k < length B → g ≡ get_or B k g → take (k + 1) B ≡ take k B ++ g ∷ []
one_more B k g l e = ap (λ n. take n B) (add-one k) ∙ take-suc B k g l ∙ ap (λ h. take k B ++ h ∷ []) (sym e)

pub some_member : (B : List Polynomial) → B ≢ [] → 0 < length B
some_member [] some = absurd (some refl)
some_member (x ∷ B) some = omega arith

pub no_member : (B : List Polynomial) → length B < 1 → B ≡ []
no_member [] l = refl
no_member (x ∷ B) l = absurd (omega (arith, l))
