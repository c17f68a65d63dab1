use Rattle.std.proofs.Common.{◌≡◌, ◌+◌, ◌<◌, ◌++◌, ℕ, List, length, get_or, set, sym, ap, ap₂, ◌∙◌, subst, arith}
use Rattle.std.specs.FinMap.{empty}
use Rattle.std.proofs.lemmas.List.{get_or_default}
use Rattle.fj_coeff.specs.Field.{Field, IsField}
use Rattle.fj_theory.specs.Ideal.{ArePolynomials}
use Rattle.fj_theory.specs.Polynomial.{Polynomial, IsPolynomial, sum}
use Rattle.fj_theory.proofs.Polynomial.{IsPolynomial-empty}
use Rattle.fj_poly.specs.Slots.{sum_all}
use Rattle.fj_poly.specs.Terms.{entries}
use Rattle.fj_poly.proofs.Polynomials.{polynomial_of}
use Rattle.fj_poly.proofs.Slots.{ArePolynomials-set, sum_all-moved}
use Rattle.fj_poly.proofs.buckets.move_up.Goals as goal

moved : {F : Field} (L : IsField F) (fs : List Polynomial) → ArePolynomials F fs → (place : ℕ) → place + 1 < length fs → {x y h new none : Polynomial} → x ≡ get_or fs place x → y ≡ get_or fs (place + 1) y
    → h ≡ x → new ≡ sum F y h → none ≡ empty → sum_all F (set (set fs (place + 1) new) place none) ≡ sum_all F fs
moved {F} L fs A place l {x} {y} ex ey eh en e0 =
    ap₂ (λ p q. sum_all F (set (set fs (place + 1) p) place q))
    (en ∙ ap₂ (sum F) (ey ∙ get_or_default fs (place + 1) y empty l) (eh ∙ ex ∙ get_or_default fs place x empty (omega arith))) e0
    ∙ sum_all-moved L fs A place (omega arith) (place + 1) l (λ e. absurd (omega arith))

pub returns-clause-sum : goal.returns-clause-sum
returns-clause-sum g c =
    let rank = g.K.Coeff.rank in
    moved g.met.K.Coeff.lawful c.args.slots.now.items c.requires.polynomials c.args.place c.requires.next c.index.ensures c.index_mut.ensures.value
    (ap (λ ts. polynomial_of (entries rank ts)) (c.as_slice.ensures.value ∙ c.in_ok-extend_from_slice.ensures.items ∙ ap (λ ts. ts ++ c.terms.result.now) c.clear.ensures.items) ∙ c.terms.ensures.value)
    c.in_ok-merge.ensures.value c.clear-2.ensures

pub returns-clause-polynomials : goal.returns-clause-polynomials
returns-clause-polynomials g c =
    ArePolynomials-set _ c.args.place (ArePolynomials-set c.args.slots.now.items (c.args.place + 1) c.requires.polynomials c.in_ok-merge.ensures.polynomial)
    (subst (IsPolynomial g.K.Coeff.field) (sym c.clear-2.ensures) (IsPolynomial-empty g.K.Coeff.field))
