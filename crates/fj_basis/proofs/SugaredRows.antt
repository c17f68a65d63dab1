-- How polynomials are made of the members that divide them with the remainder zero.
use Rattle.std.proofs.Common.{◌≡◌, true, ℕ, ◌+◌, ◌<◌, List, [], ◌∷◌, ◌++◌, length, length-append, get_or, take, All, refl, sym, ap, ap₂, ◌∙◌, subst, arith, add-one, append_assoc}
use Rattle.std.specs.FinMap.{empty}
use Rattle.std.proofs.Math.Seq.{take-suc}
use Rattle.std.proofs.lemmas.List.{append-nil, map-append}
use Rattle.std.proofs.lemmas.List.Elements.{All-nil, All-push}
use Rattle.fj_coeff.specs.Field.{Field, IsField}
use Rattle.fj_theory.specs.Exponents.{origin}
use Rattle.fj_theory.specs.MonomialOrder.{IsMonomialOrder}
use Rattle.fj_theory.specs.Polynomial.{IsPolynomial, Polynomial, negation, product, sum, term}
use Rattle.fj_theory.specs.Ideal.{ArePolynomials, list_combination}
use Rattle.fj_theory.proofs.Exponents.{IsExponents-origin}
use Rattle.fj_theory.proofs.Field.{one_below}
use Rattle.fj_theory.proofs.IdealBridge.{ArePolynomials-nil}
use Rattle.fj_theory.proofs.Polynomial.{IsPolynomial-empty, IsPolynomial-term}
use Rattle.fj_theory.proofs.PolynomialRing.{IsPolynomial-negation, sum_assoc, sum_empty, sum_negation}
use Rattle.fj_groebner.specs.Division.{DegreeAtMost, Division, IsLowDivision, IsWithinSugar, Sugared, member_at, polynomials_of}
use Rattle.fj_groebner.proofs.Division.{IsDivision-length, IsDivision-quotients, division_identity}
use Rattle.fj_groebner.proofs.Rows.{IsPolynomial-list_combination, list_combination-negation}
use Rattle.fj_groebner.proofs.Sugar.{StepsTo-IsWithinSugar}
use Rattle.fj_basis.specs.declared.history.Summand.{Summand}
use Rattle.fj_basis.specs.declared.history.Making.{Making}
use Rattle.fj_basis.specs.declared.history.History.{History}
use Rattle.fj_basis.specs.declared.members.Member.{Member}
use Rattle.fj_basis.specs.Members.{sugared, sugared_members}
use Rattle.fj_basis.specs.SugaredRun.{AreExpressed, IsExpressed}
use Rattle.fj_basis.specs.History.{IsHistoryOf, IsMaking, IsSourceOf, IsSummand, IsWithNegatives, combined, polynomial_at, subtracted}
use Rattle.fj_basis.proofs.Combined.{IsHistoryOf-push, IsSummand-at, member_at-left, subtracted-is}
use Rattle.fj_basis.proofs.Leading.{AreGood}
use Rattle.fj_basis.proofs.NextMember.{constant-degree, zero-sum}
use Rattle.fj_basis.proofs.Replacements.{both-IsPolynomial}
use Rattle.fj_basis.proofs.Rows.{negation-positive, scale-negation}

combined-none : (K R : Type 0) (F : Field) (at : ℕ → Polynomial) (first : Polynomial) → combined {K = K} {O = R} F at first [] ≡ first
unfolding combined
combined-none K R F at first = refl

negation-twice : {F : Field} (L : IsField F) {f : Polynomial} → IsPolynomial F f → negation F (negation F f) ≡ f
negation-twice {F} L {f} P =
    let Q = IsPolynomial-negation L P in
    let R = IsPolynomial-negation L Q in
    sym (zero-sum L R) ∙ ap (λ e. sum F e (negation F (negation F f))) (sym (sum_negation L P)) ∙ sum_assoc L P Q R ∙ ap (sum F f) (sum_negation L Q) ∙ sum_empty L P

module _ {K R : Type 0} {F : Field} (L : IsField F) {key : List ℕ → List ℕ} (O : IsMonomialOrder key) (G : List Sugared) (good : AreGood F key G) (f : Polynomial) (P : IsPolynomial F f) (n : ℕ)
    (bound : DegreeAtMost n f) (last : Division) (D : IsLowDivision F key G (record { polynomial = f; sugar = n }) last) (none : last.remainder ≡ empty) (all : List (Summand K R))
    (with : IsWithNegatives F [] 0 last.quotients all) (B : List Sugared) (others : ArePolynomials F (polynomials_of B)) where
  Q : ArePolynomials F last.quotients
  Q = IsDivision-quotients O L G good.polynomials good.nonzero P D.division

  long : length last.quotients ≡ length G
  long = IsDivision-length O L G good.polynomials good.nonzero P D.division

  inside : IsWithinSugar G last
  inside = StepsTo-IsWithinSugar O L G good.polynomials good.nonzero good.within (record { polynomial = f; sugar = n }) P bound D.division.states last D.division.steps

  C : IsPolynomial F (list_combination F last.quotients (polynomials_of G))
  C = IsPolynomial-list_combination L Q good.polynomials

  f-is : f ≡ list_combination F last.quotients (polynomials_of G)
  f-is = division_identity O L G good.polynomials good.nonzero P D.division ∙ ap (sum F (list_combination F last.quotients (polynomials_of G))) none ∙ sum_empty L C

  -- The sum of the multiples is the negative.
  all-sum : combined F (polynomial_at (G ++ B)) empty all ≡ negation F f
  all-sum =
      let E = IsPolynomial-empty F in
      let start = combined-none K R F (polynomial_at (G ++ B)) empty in
      with.sum_is (polynomial_at (G ++ B)) empty (both-IsPolynomial G B good.polynomials others) (subst (IsPolynomial F) (sym start) E)
      ∙ ap (λ h. subtracted F (polynomial_at (G ++ B)) h 0 last.quotients) start
      ∙ subtracted-is L (polynomial_at (G ++ B)) G good.polynomials last.quotients Q long 0 empty E
      (λ k m. ap (λ j. (member_at (G ++ B) j).polynomial) (omega arith) ∙ ap (λ g. g.polynomial) (member_at-left G B k m))
      ∙ ap (sum F empty) (list_combination-negation L Q good.polynomials) ∙ zero-sum L (IsPolynomial-negation L C) ∙ ap (negation F) (sym f-is)

  each-summand : All (IsSummand F (G ++ B) last.sugar) all
  each-summand =
      with.each (G ++ B) last.sugar (All-nil (IsSummand F (G ++ B) last.sugar))
      (λ t k m place is.
      IsSummand-at {G = G ++ B} t k (negation F (get_or last.quotients k empty)) (place ∙ omega arith) is (omega (arith, m, long, length-append G B)) (IsPolynomial-negation L (Q.each k empty m))
      (λ a p.
      let low = inside.quotients k m a (negation-positive L (get_or last.quotients k empty) a p) in
      let same = ap (λ g. g.sugar) (member_at-left G B k (omega (arith, m, long))) in
      omega (arith, low, same)))

  -- The polynomial is made so.
  pub expressed-IsMaking : (N : List Polynomial) (making : Making K R) → making.constant ≡ term (F.neg 1) origin
      → (All (IsSummand F (G ++ B) last.sugar) all → IsSourceOf F N (G ++ B) last.sugar (combined F (polynomial_at (G ++ B)) empty all) making.source)
      → IsMaking F N (G ++ B) (record { polynomial = f; sugar = last.sugar }) making
  expressed-IsMaking N making constant source = record {
    made_of = combined F (polynomial_at (G ++ B)) empty all;
    source = source each-summand;
    constant = subst (IsPolynomial F) (sym constant) (IsPolynomial-term (F.neg 1) (L.neg_below 1 (one_below L)) IsExponents-origin);
    degree = subst (DegreeAtMost 0) (sym constant) (constant-degree (F.neg 1));
    is = sym (ap₂ (product F) constant all-sum ∙ scale-negation L (IsPolynomial-negation L P) ∙ negation-twice L P);
    low = D.low;
  }

module _ {K R : Type 0} {F : Field} {N : List Polynomial} (G : List Sugared) where
  -- Nothing is expressed.
  pub expressed-none : (h : History K R) → h.is_kept ≡ true → IsHistoryOf F N G h → AreExpressed F N G [] h
  expressed-none h kept history = record {
    kept = kept;
    made = [];
    are = refl;
    polynomials = ArePolynomials-nil;
    history = subst (λ H. IsHistoryOf F N H h) (sym (append-nil G)) history;
  }

  -- One polynomial more.
  pub expressed-more : (fs : List Polynomial) (f : Polynomial) (before new : History K R) → AreExpressed F N G fs before → IsExpressed F G f before new → AreExpressed F N G (fs ++ (f ∷ [])) new
  expressed-more fs f before new old more =
      let g : Sugared = record { polynomial = f; sugar = more.sugar } in
      let one = more.recorded old.made (subst (ArePolynomials F) (sym old.are) old.polynomials) in
      record {
        kept = one.kept ∙ old.kept;
        made = old.made ++ (g ∷ []);
        are = map-append (λ h. h.polynomial) old.made (g ∷ []) ∙ ap (λ hs. hs ++ (f ∷ [])) old.are;
        polynomials = record { each = All-push (IsPolynomial F) fs f old.polynomials.each more.polynomial };
        history = subst (λ H. IsHistoryOf F N H new) (append_assoc G old.made (g ∷ [])) (IsHistoryOf-push (G ++ old.made) g before new one old.history);
      }

-- The polynomials of one member more.
pub polynomials-more : {K R : Type 0} (basis : List (Member K R)) (i : ℕ) (m : Member K R) → i < length basis → m ≡ get_or basis i m
    → polynomials_of (sugared_members (take (i + 1) basis)) ≡ polynomials_of (sugared_members (take i basis)) ++ (m.polynomial ∷ [])
polynomials-more {K} {R} basis i m l at =
    ap (λ n. polynomials_of (sugared_members (take n basis))) (add-one i) ∙ ap (λ ms. polynomials_of (sugared_members ms)) (take-suc basis i m l)
    ∙ ap polynomials_of (map-append sugared (take i basis) (get_or basis i m ∷ [])) ∙ map-append (λ g. g.polynomial) (sugared_members (take i basis)) (sugared (get_or basis i m) ∷ [])
    ∙ ap (λ (x : Member K R). polynomials_of (sugared_members (take i basis)) ++ (x.polynomial ∷ [])) (sym at)
