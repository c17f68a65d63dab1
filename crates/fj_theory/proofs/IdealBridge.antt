-- Ideals of polynomials as finite maps, and ideals of the ring of polynomials: each fact about the one is one about the other.
use Rattle.std.proofs.Common.{◌≡◌, ℕ, suc, List, [], ◌∷◌, ◌++◌, map, All, refl, sym, ap, ap₂, ◌∙◌, subst}
use Rattle.std.proofs.lemmas.List.{map-append}
use Rattle.std.proofs.lemmas.List.Elements.{All-nil, All-cons, All-head, All-tail, All-map, All-weaker}
use Rattle.fj_coeff.specs.Field.{Field, IsField}
use Rattle.fj_algebra.specs.Ideal as ring_ideal
use Rattle.fj_algebra.specs.Frobenius as ring_frobenius
use Rattle.fj_algebra.proofs.Lists.{All-map_back}
use Rattle.fj_theory.specs.Polynomial.{Polynomial, IsPolynomial, sum, term}
use Rattle.fj_theory.specs.Exponents.{origin}
use Rattle.fj_theory.specs.Ideal.{ArePolynomials, combination, list_combination, Member, Inside, SameIdeal, multiples, products}
use Rattle.fj_theory.specs.FrobeniusPower.{frobenius_power}
use Rattle.fj_theory.proofs.Exponents.{IsExponents-origin}
use Rattle.fj_theory.proofs.Field.{one_below}
use Rattle.fj_theory.proofs.Polynomial.{IsPolynomial-empty, IsPolynomial-term, IsPolynomial-sum}
use Rattle.fj_theory.proofs.Product.{IsPolynomial-product}
use Rattle.fj_theory.proofs.PolynomialRing.{PolynomialOver, over_equal, polynomial_ring, map_zero, map_add, map_mul, map_power}

-- A polynomial as an element of the ring.
abbrev pub over : {F : Field} {f : Polynomial} → IsPolynomial F f → PolynomialOver F
over {f} P = record { map = f; is_polynomial = P }

-- The maps of a list of elements of the ring.
abbrev pub maps : {F : Field} → List (PolynomialOver F) → List Polynomial
maps L = map (λ f. f.map) L

pub ArePolynomials-maps : {F : Field} (L : List (PolynomialOver F)) → ArePolynomials F (maps L)
ArePolynomials-maps {F} L = record { each = All-map (IsPolynomial F) (λ f. f.map) L (all L) }
  where
    all : (L : List (PolynomialOver F)) → All (λ f. IsPolynomial F f.map) L
    all [] = All-nil (λ f. IsPolynomial F f.map)
    all (f ∷ L) = All-cons (λ f. IsPolynomial F f.map) f L f.is_polynomial (all L)

module _ {F : Field} where
  pub ArePolynomials-nil : ArePolynomials F []
  ArePolynomials-nil = record { each = All-nil (IsPolynomial F) }

  pub ArePolynomials-cons : {g : Polynomial} {L : List Polynomial} → IsPolynomial F g → ArePolynomials F L → ArePolynomials F (g ∷ L)
  ArePolynomials-cons {g} {L} G P = record { each = All-cons (IsPolynomial F) g L G P.each }

  pub ArePolynomials-single : {g : Polynomial} → IsPolynomial F g → ArePolynomials F (g ∷ [])
  ArePolynomials-single G = ArePolynomials-cons G ArePolynomials-nil

  pub ArePolynomials-head : {g : Polynomial} {L : List Polynomial} → ArePolynomials F (g ∷ L) → IsPolynomial F g
  ArePolynomials-head {g} {L} P = All-head (IsPolynomial F) g L P.each

  pub ArePolynomials-tail : {g : Polynomial} {L : List Polynomial} → ArePolynomials F (g ∷ L) → ArePolynomials F L
  ArePolynomials-tail {g} {L} P = record { each = All-tail (IsPolynomial F) g L P.each }

-- A list of polynomials as a list of elements of the ring.
pub record InRing (F : Field) (L : List Polynomial) : Type 0 where
  pub list : List (PolynomialOver F)
  pub are : maps list ≡ L

module _ {F : Field} where
  abbrev pub InRing-maps : (L : List (PolynomialOver F)) → InRing F (maps L)
  InRing-maps L = record { list = L; are = refl }

  abbrev pub InRing-cons : {g : Polynomial} {L : List Polynomial} → IsPolynomial F g → InRing F L → InRing F (g ∷ L)
  InRing-cons {g} {L} G X = record { list = over G ∷ X.list; are = ap (λ l. g ∷ l) X.are }

  pub in_ring : {L : List Polynomial} → ArePolynomials F L → InRing F L
  in_ring {L} P = go L P
    where
      go : (L : List Polynomial) → ArePolynomials F L → InRing F L
      go [] P = record { list = []; are = refl }
      go (g ∷ L) P = InRing-cons (ArePolynomials-head P) (go L (ArePolynomials-tail P))

  pub ArePolynomials-InRing : {L : List Polynomial} → InRing F L → ArePolynomials F L
  ArePolynomials-InRing X = subst (ArePolynomials F) X.are (ArePolynomials-maps X.list)

  abbrev pub InRing-nil : InRing F []
  InRing-nil = record { list = []; are = refl }

  abbrev pub InRing-append : {L M : List Polynomial} → InRing F L → InRing F M → InRing F (L ++ M)
  InRing-append X Y = record { list = X.list ++ Y.list; are = map-append (λ f. f.map) X.list Y.list ∙ ap₂ ◌++◌ X.are Y.are }

module _ {F : Field} (L : IsField F) where
  pub IsPolynomial-one : IsPolynomial F (term 1 origin)
  IsPolynomial-one = IsPolynomial-term 1 (one_below L) IsExponents-origin

  pub IsPolynomial-combination : {M : List Polynomial} {c : ℕ → Polynomial} → ArePolynomials F M → ((j : ℕ) → IsPolynomial F (c j)) → IsPolynomial F (combination F c M)
  unfolding combination
  IsPolynomial-combination {M = []} P C = IsPolynomial-empty F
  IsPolynomial-combination {M = g ∷ M} P C = IsPolynomial-sum L (IsPolynomial-product L (C 0) (ArePolynomials-head P)) (IsPolynomial-combination {M = M} (ArePolynomials-tail P) (λ j. C (suc j)))

  -- A member is a polynomial.
  pub Member_polynomial : {M : List Polynomial} {h : Polynomial} → ArePolynomials F M → Member F M h → IsPolynomial F h
  Member_polynomial P H = subst (IsPolynomial F) (sym H.is) (IsPolynomial-combination P H.polynomials)

  pub combination_map : (c : ℕ → PolynomialOver F) (M : List (PolynomialOver F)) → (ring_ideal.combination (polynomial_ring L) c M).map ≡ combination F (λ j. (c j).map) (maps M)
  unfolding combination
  combination_map c [] = map_zero L
  combination_map c (g ∷ M) = map_add L _ _ ∙ ap₂ (sum F) (map_mul L (c 0) g) (combination_map (λ j. c (suc j)) M)

  -- Members, inclusion and equality, to maps and back.
  module _ {M : List Polynomial} (X : InRing F M) where
    pub Member_map : {h : PolynomialOver F} → ring_ideal.Member (polynomial_ring L) X.list h → Member F M h.map
    Member_map {h} H =
        subst (λ l. Member F l h.map) X.are (record {
          cofactors = λ j. (H.cofactors j).map;
          polynomials = λ j. (H.cofactors j).is_polynomial;
          is = ap (λ x. x.map) H.is ∙ combination_map H.cofactors X.list;
        })

    from_maps : {h : PolynomialOver F} → Member F (maps X.list) h.map → ring_ideal.Member (polynomial_ring L) X.list h
    from_maps {h} H =
        let cofactors : ℕ → PolynomialOver F = λ j. over (H.polynomials j) in
        record { cofactors = cofactors; is = over_equal _ _ (H.is ∙ sym (combination_map cofactors X.list)) }

    pub Member_over : {h : Polynomial} (H : IsPolynomial F h) → Member F M h → ring_ideal.Member (polynomial_ring L) X.list (over H)
    Member_over {h} H K = from_maps (subst (λ l. Member F l h) (sym X.are) K)

  module _ {M N : List Polynomial} (X : InRing F M) (Y : InRing F N) where
    pub Inside_map : ring_ideal.Inside (polynomial_ring L) X.list Y.list → Inside F M N
    Inside_map I = record {
      each = subst (All (Member F N)) X.are (All-map (Member F N) (λ f. f.map) X.list
          (All-weaker (ring_ideal.Member (polynomial_ring L) Y.list) (λ f. Member F N f.map) (λ f H. Member_map Y H) X.list I.each));
    }

    pub Inside_over : Inside F M N → ring_ideal.Inside (polynomial_ring L) X.list Y.list
    Inside_over I = record {
      each = All-weaker (λ f. Member F N f.map) (ring_ideal.Member (polynomial_ring L) Y.list) (λ f H. Member_over Y f.is_polynomial H) X.list
          (All-map_back (Member F N) (λ f. f.map) X.list (subst (All (Member F N)) (sym X.are) I.each));
    }

  module _ {M N : List Polynomial} (X : InRing F M) (Y : InRing F N) where
    pub SameIdeal_map : ring_ideal.SameIdeal (polynomial_ring L) X.list Y.list → SameIdeal F M N
    SameIdeal_map E = record { forth = Inside_map X Y E.forth; back = Inside_map Y X E.back }

    pub SameIdeal_over : SameIdeal F M N → ring_ideal.SameIdeal (polynomial_ring L) X.list Y.list
    SameIdeal_over E = record { forth = Inside_over X Y E.forth; back = Inside_over Y X E.back }

  -- The combination with a list of cofactors.
  pub list_combination_map : (cs M : List (PolynomialOver F)) → (ring_ideal.list_combination (polynomial_ring L) cs M).map ≡ list_combination F (maps cs) (maps M)
  unfolding list_combination
  list_combination_map [] M = map_zero L
  list_combination_map (c ∷ cs) [] = map_zero L
  list_combination_map (c ∷ cs) (g ∷ M) = map_add L _ _ ∙ ap₂ (sum F) (map_mul L c g) (list_combination_map cs M)

  -- The lists that are made of others.
  pub multiples_maps : {f : Polynomial} (P : IsPolynomial F f) (M : List (PolynomialOver F)) → maps (ring_ideal.multiples (polynomial_ring L) (over P) M) ≡ multiples F f (maps M)
  multiples_maps P [] = refl
  multiples_maps P (g ∷ M) = ap₂ ◌∷◌ (map_mul L (over P) g) (multiples_maps P M)

  abbrev pub InRing-multiples : {f : Polynomial} → IsPolynomial F f → {M : List Polynomial} → InRing F M → InRing F (multiples F f M)
  InRing-multiples {f} P X = record { list = ring_ideal.multiples (polynomial_ring L) (over P) X.list; are = multiples_maps P X.list ∙ ap (multiples F f) X.are }

  pub products_maps : (M N : List (PolynomialOver F)) → maps (ring_ideal.products (polynomial_ring L) M N) ≡ products F (maps M) (maps N)
  products_maps [] N = refl
  products_maps (g ∷ M) N = map-append (λ f. f.map) (ring_ideal.multiples (polynomial_ring L) g N) _ ∙ ap₂ ◌++◌ (multiples_maps g.is_polynomial N) (products_maps M N)

  abbrev pub InRing-products : {M N : List Polynomial} → InRing F M → InRing F N → InRing F (products F M N)
  InRing-products {M} {N} X Y = record { list = ring_ideal.products (polynomial_ring L) X.list Y.list; are = products_maps X.list Y.list ∙ ap₂ (products F) X.are Y.are }

  pub frobenius_power_maps : (q : ℕ) (M : List (PolynomialOver F)) → maps (ring_frobenius.frobenius_power (polynomial_ring L) q M) ≡ frobenius_power F q (maps M)
  frobenius_power_maps q [] = refl
  frobenius_power_maps q (g ∷ M) = ap₂ ◌∷◌ (map_power L g q) (frobenius_power_maps q M)

  abbrev pub InRing-frobenius_power : (q : ℕ) {M : List Polynomial} → InRing F M → InRing F (frobenius_power F q M)
  InRing-frobenius_power q X = record { list = ring_frobenius.frobenius_power (polynomial_ring L) q X.list; are = frobenius_power_maps q X.list ∙ ap (frobenius_power F q) X.are }
