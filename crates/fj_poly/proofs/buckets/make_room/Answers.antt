use Rattle.std.proofs.Common.{◌≡◌, ◌++◌, ◌∷◌, [], List, length, length-append, sym, ap, ◌∙◌, subst, arith}
use Rattle.std.specs.FinMap.{empty}
use Rattle.fj_coeff.specs.Field.{Field, IsField}
use Rattle.fj_theory.specs.Ideal.{ArePolynomials}
use Rattle.fj_theory.specs.Polynomial.{Polynomial}
use Rattle.fj_theory.proofs.Polynomial.{IsPolynomial-empty}
use Rattle.fj_poly.specs.Slots.{sum_all}
use Rattle.fj_poly.proofs.Slots.{ArePolynomials-push, sum_all-push}
use Rattle.fj_poly.proofs.buckets.make_room.Goals as goal
use Rattle.fj_poly.proofs.buckets.make_room.Goals.{then-free-len+in_ok-push-2, else-free-len}

-- The list with a zero more at its end.
record IsPushed (F : Field) (fs gs : List Polynomial) : Type 0 where
  pub sum : sum_all F gs ≡ sum_all F fs
  pub polynomials : ArePolynomials F gs

pushed : {F : Field} (L : IsField F) (fs gs : List Polynomial) (f : Polynomial) → ArePolynomials F fs → gs ≡ fs ++ f ∷ [] → f ≡ empty → IsPushed F fs gs
pushed {F} L fs gs f A e z = subst (IsPushed F fs) (sym (e ∙ ap (λ x. fs ++ x ∷ []) z)) (record {
  sum = sum_all-push L fs;
  polynomials = ArePolynomials-push fs A (IsPolynomial-empty F);
})

pub grow-preserved : goal.grow-preserved
grow-preserved g c =
    let p = pushed g.met.K.Coeff.lawful c.grow.slots.items c.push.new.self.items c.new.result c.grow.invariant.1 c.in_ok-push.ensures.items c.new.ensures in
    (p.sum ∙ c.grow.invariant.0, p.polynomials)

pub carry-init : goal.carry-init
carry-init g c = elim c.if-free-len.branch [
  | then-free-len+in_ok-push-2 w ↦
      let p = pushed g.met.K.Coeff.lawful c.grow.slots.items w.push-then-free-len.new.self.items w.new-then-free-len.result c.grow.invariant.1 w.in_ok-push-2.ensures.items w.new-then-free-len.ensures in
      let long = ap length w.in_ok-push-2.ensures.items ∙ length-append c.grow.slots.items (w.new-then-free-len.result ∷ []) in
      rw w.slots-is (p.sum ∙ c.grow.invariant.0, p.polynomials, c.seek.invariant.0, omega (arith, long, c.seek.invariant.1))
  | else-free-len w ↦
      rw w.slots-is (c.grow.invariant.0, c.grow.invariant.1, c.seek.invariant.0, omega (arith, c.seek.invariant.1, w.if-free-len.false, c.len-2.ensures, c.grow.slots.ok.0))
]
