-- Polynomials that are congruent modulo an ideal, and lists that are thinned by remainders.
use Rattle.std.proofs.Common.{◌≡◌, ◌≢◌, ◌∙◌, List, [], ◌∷◌, ◌++◌, All, map, sym, ap, subst}
use Rattle.std.specs.FinMap.{empty}
use Rattle.std.specs.List.Sorted.{IsPermutation}
use Rattle.std.proofs.lemmas.List.Elements.{All-append, All-cons, All-nil, All-weaker, Contains-push}
use Rattle.std.proofs.lemmas.List.Sorted.{All-permutation, IsPermutation-sym}
use Rattle.fj_coeff.specs.Field.{Field, IsField}
use Rattle.fj_theory.specs.MonomialOrder.{grevlex_key}
use Rattle.fj_theory.specs.Polynomial.{Polynomial, IsPolynomial, negation, sum}
use Rattle.fj_theory.specs.Ideal.{ArePolynomials, Member, Inside, SameIdeal, list_combination}
use Rattle.fj_theory.proofs.Keys.{grevlex_key-IsMonomialOrder}
use Rattle.fj_theory.proofs.IdealBridge.{ArePolynomials-single, Member_polynomial}
use Rattle.fj_theory.proofs.PolynomialRing.{IsPolynomial-negation, sum_assoc, sum_comm, sum_empty, sum_negation}
use Rattle.fj_theory.proofs.Ideal.{ArePolynomials-append, Inside-append, Inside-nil, Inside-append_left, Inside-single, Member-Contains, Member-Inside, Member-difference, Member-from_list, Member-sum}
use Rattle.fj_groebner.specs.Division.{polynomials_of}
use Rattle.fj_groebner.specs.Run.{given}
use Rattle.fj_groebner.proofs.Division.{IsDivision-quotients}
use Rattle.fj_groebner.proofs.DegreeOrder.{polynomials_of-given}
use Rattle.fj_basis.specs.Quotients.{IsDivided}
use Rattle.fj_ideal.specs.Congruent.{AreCongruent}

module _ {F : Field} (L : IsField F) where
  -- The remainder of a division is congruent to what is divided.
  pub division_congruent : {M : List Polynomial} → ArePolynomials F M → All (λ g. g ≢ empty) M → {h r : Polynomial} {quotients : List Polynomial} → IsPolynomial F h → IsDivided F grevlex_key (map given M) (given h) quotients r
      → h ≡ sum F (list_combination F quotients M) r → AreCongruent F M h r
  unfolding given
  division_congruent {M} P N {h} {r} {quotients} H D is = record {
    between = list_combination F quotients M;
    member = Member-from_list L P quotients
        (subst (ArePolynomials F) D.quotients_are (IsDivision-quotients grevlex_key-IsMonomialOrder L (map given M) (subst (ArePolynomials F) (sym (polynomials_of-given M)) P) (subst (All (λ g. g ≢ empty)) (sym (polynomials_of-given M)) N) H D.division.division));
    is = is;
  }

  -- What is congruent to g is g less a polynomial of the ideal.
  rest_is : {a g r : Polynomial} → IsPolynomial F a → IsPolynomial F r → g ≡ sum F a r → r ≡ sum F g (negation F a)
  rest_is {a} {g} {r} A R is =
      let N = IsPolynomial-negation L A in
      sym (sum_empty L R) ∙ ap (sum F r) (sym (sum_negation L A)) ∙ sym (sum_assoc L R A N) ∙ ap (λ f. sum F f (negation F a)) (sum_comm L R A ∙ sym is)

-- So many polynomials of a list are thinned: the few polynomials found are of its ideal, and generate these.
pub record IsThinned (F : Field) (list done few : List Polynomial) : Type 0 where
  pub inside : Inside F few list
  pub done_in : All (Member F few) done
  pub polynomials : ArePolynomials F few
  pub nonzero : All (λ g. g ≢ empty) few

pub thinned_none : (F : Field) (list : List Polynomial) → IsThinned F list [] []
thinned_none F list = record { inside = Inside-nil list; done_in = All-nil (Member F []); polynomials = record { each = All-nil (IsPolynomial F) }; nonzero = All-nil (λ g. g ≢ empty) }

module _ {F : Field} (L : IsField F) {list done few : List Polynomial} (P : ArePolynomials F list) (so_far : IsThinned F list done few) {g r : Polynomial} (G : Member F list g) (C : AreCongruent F few g r) where
  between_polynomial : IsPolynomial F C.between
  between_polynomial = Member_polynomial L so_far.polynomials C.member

  -- A polynomial whose remainder is zero goes.
  pub thinned_out : r ≡ empty → IsThinned F list (done ++ g ∷ []) few
  thinned_out zero = record {
    inside = so_far.inside;
    done_in =
        let is : g ≡ C.between = C.is ∙ ap (sum F C.between) zero ∙ sum_empty L between_polynomial in
        All-append (Member F few) done (g ∷ []) so_far.done_in (All-cons (Member F few) g [] (subst (Member F few) (sym is) C.member) (All-nil (Member F few)));
    polynomials = so_far.polynomials;
    nonzero = so_far.nonzero;
  }

  -- Else its remainder is one of the few.
  pub thinned_more : IsPolynomial F r → r ≢ empty → IsThinned F list (done ++ g ∷ []) (few ++ r ∷ [])
  thinned_more R apart =
      let one : ArePolynomials F (r ∷ []) = ArePolynomials-single R in
      let more : ArePolynomials F (few ++ r ∷ []) = ArePolynomials-append so_far.polynomials one in
      let wider : Inside F few (few ++ r ∷ []) = Inside-append_left L so_far.polynomials one in
      let keeps : (h : Polynomial) → Member F few h → Member F (few ++ r ∷ []) h = λ h H. Member-Inside L so_far.polynomials more wider H in
      let inside : Member F list r =
      subst (Member F list) (sym (rest_is L between_polynomial R C.is)) (Member-difference L P G (Member-Inside L so_far.polynomials P so_far.inside C.member)) in
      let here : Member F (few ++ r ∷ []) g =
      subst (Member F (few ++ r ∷ [])) (sym C.is) (Member-sum L more (keeps C.between C.member) (Member-Contains L more (Contains-push few r))) in
      record {
        inside = Inside-append so_far.inside (Inside-single inside);
        done_in = All-append (Member F (few ++ r ∷ [])) done (g ∷ []) (All-weaker (Member F few) (Member F (few ++ r ∷ [])) keeps done so_far.done_in) (All-cons (Member F (few ++ r ∷ [])) g [] here (All-nil (Member F (few ++ r ∷ []))));
        polynomials = more;
        nonzero = All-append (λ f. f ≢ empty) few (r ∷ []) so_far.nonzero (All-cons (λ f. f ≢ empty) r [] apart (All-nil (λ f. f ≢ empty)));
      }

-- Where all are, the few generate the ideal.
pub SameIdeal-thinned : {F : Field} {list sorted few : List Polynomial} → IsThinned F list sorted few → IsPermutation list sorted → SameIdeal F few list
SameIdeal-thinned {F} {list} {sorted} {few} all moved = record { forth = all.inside; back = record { each = All-permutation (Member F few) sorted list (IsPermutation-sym list sorted moved) all.done_in } }
