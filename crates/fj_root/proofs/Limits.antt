-- Refusals by the limit of the degree, over the polynomials of a list.
use Rattle.std.proofs.Common.{◌≡◌, ◌≢◌, ℕ, ◌<◌, List, map, length, get_or, All, Any, Option, None, Some, Result, Ok, Err, refl, sym, ap, ◌∙◌, subst, arith}
use Rattle.std.specs.Result.{IsErrAnd}
use Rattle.std.proofs.lemmas.List.{length-map, get_or-map}
use Rattle.std.proofs.lemmas.List.Elements.{All-weaker}
use Rattle.std.specs.FinMap.{empty}
use Rattle.fj_coeff.specs.Field.{Field, IsField}
use Rattle.fj_theory.specs.Ideal.{multiples}
use Rattle.fj_theory.specs.Polynomial.{Polynomial, IsPolynomial, degree, product}
use Rattle.fj_theory.proofs.Degree.{degree-product, empty_from_degree}
use Rattle.fj_poly.proofs.Limits.{IsHigh-degree, high_degree, low_empty}
use Rattle.fj_poly.specs.Limit.{IsHigh, IsHighWhere}
use Rattle.fj_poly.specs.declared.fault.PolyFault.{PolyFault}
use Rattle.fj_poly.specs.declared.fault.PolyFault.TheVariants.{High, Memory}

-- What `?` hands on has its cause in the whole where it has it in one polynomial.
pub handed_on : {T P Q : Type 0} (fault : PolyFault) (r : Result T PolyFault) → IsErrAnd r (λ y. y ≡ fault) → (P → Q) → IsHighWhere {T = T} P (Err fault) → IsHighWhere Q r
handed_on fault (Ok x) told f cause = absurd told
handed_on {T} {P} {Q} fault (Err y) told f cause = subst (λ z. IsHighWhere {T = T} Q (Err z)) (sym told) (by fault cause)
  where
    by : (fault : PolyFault) → IsHighWhere {T = T} P (Err fault) → IsHighWhere {T = T} Q (Err fault)
    by High cause = f cause
    by Memory cause = tt

-- What is true of what is made of one element is true of some element of the list of them.
pub Any-map : {X Y : Type 0} (P : Y → Type 0) (f : X → Y) (xs : List X) (k : ℕ) (x : X) → k < length xs → x ≡ get_or xs k x → P (f x) → Any P (map f xs)
Any-map P f xs k x below at holds = (k, f x, omega (arith, length-map xs f), get_or-map f xs k x (f x) below ∙ ap f (sym at), holds)

pub none_high : (L : List Polynomial) → All (λ h. IsHigh h → ⊥) L → Any IsHigh L → ⊥
none_high L low some = low some.0 some.1 some.2 (subst IsHigh (sym some.3) some.4)

-- A multiple of a polynomial that is high is high, unless it is zero: degrees add up.
pub high_multiple : {F : Field} (L : IsField F) {f g : Polynomial} → IsPolynomial F f → IsPolynomial F g → g ≢ empty → IsHigh f → IsHigh (product F f g)
high_multiple {F} L {f} {g} P Q nonzero high = by (degree f) (degree g) refl refl
  where
    by : (o r : Option ℕ) → degree f ≡ o → degree g ≡ r → IsHigh (product F f g)
    by None r d e = absurd (low_empty (empty_from_degree L P d) high)
    by (Some m) None d e = absurd (nonzero (empty_from_degree L Q e))
    by (Some m) (Some n) d e = let above = high_degree f d high in IsHigh-degree _ (degree-product L P Q d e) (omega arith)

-- So where a power is high, some multiple of it is, unless all that it is multiplied with is zero.
pub high_multiples : {F : Field} (L : IsField F) {f : Polynomial} (M : List Polynomial) → IsPolynomial F f → Any (λ g. IsPolynomial F g × (g ≢ empty)) M → IsHigh f
    → Any IsHigh (multiples F f M)
high_multiples {F} L {f} M P some high = Any-map IsHigh (product F f) M some.0 some.1 some.2 (sym some.3) (high_multiple L P some.4.0 some.4.1 high)

-- Of zeros none is high.
pub none_high_of_zeros : (L : List Polynomial) → All (λ h. h ≡ empty) L → Any IsHigh L → ⊥
none_high_of_zeros L zeros = none_high L (All-weaker (λ h. h ≡ empty) (λ h. IsHigh h → ⊥) (λ h zero. low_empty zero) L zeros)
