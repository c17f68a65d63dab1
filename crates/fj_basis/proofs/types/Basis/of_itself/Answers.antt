use Rattle.std.proofs.Common.{◌≡◌, ◌∙◌, ℕ, List, length, map, All, refl, sym, ap, subst}
use Rattle.std.proofs.lemmas.List.{length-map}
use Rattle.fj_algebra.proofs.Lists.{All-map_back}
use Rattle.fj_theory.specs.Ideal.{ArePolynomials}
use Rattle.fj_theory.specs.Polynomial.{Polynomial}
use Rattle.fj_groebner.specs.Rows.{AreRows}
use Rattle.fj_basis.specs.Basis.{unit_rows}
use Rattle.fj_basis.proofs.MadeRows.{AreRows-long, AreRows-wide, AreRows-unit_rows}
use Rattle.fj_basis.proofs.types.Basis.of_itself.Goals as goal

-- Tables with the views of the unit rows have their shape.
long : {A : Type 0} (items : A → List Polynomial) (rows : List A) (n : ℕ) → map items rows ≡ unit_rows n → length (unit_rows n) ≡ n → length rows ≡ n
long items rows n e l = sym (length-map rows items) ∙ ap length e ∙ l

wide : {A : Type 0} (items : A → List Polynomial) (rows : List A) (n m : ℕ) → map items rows ≡ unit_rows n → All (λ row. length row ≡ n) (unit_rows n) → m ≡ n → All (λ row. length (items row) ≡ m) rows
wide items rows n m e w same = subst (λ k. All (λ row. length (items row) ≡ k) rows) (sym same) (All-map_back (λ row. length row ≡ n) items rows (subst (All (λ row. length row ≡ n)) (sym e) w))

pub invariant_of-result : goal.invariant_of-result
invariant_of-result g c =
    let F = g.K.Coeff.field in
    let members = c.args.members.items in
    let n = length members in
    let A : ArePolynomials F members = subst (ArePolynomials F) c.deref.ensures.value c.look_over.ensures in
    let rows : AreRows F members members (unit_rows n) = AreRows-unit_rows g.met.K.Coeff.lawful members A in
    let l = AreRows-long F members members (unit_rows n) rows in
    let w = AreRows-wide F members members (unit_rows n) rows in
    let down : map (λ row. row.items) c.in_ok-down.down.items ≡ unit_rows n = c.in_ok-down.ensures ∙ ap unit_rows (c.len.ensures ∙ c.args.members.ok.0) in
    let up : map (λ row. row.items) c.in_ok-up.up.items ≡ unit_rows n = c.in_ok-up.ensures ∙ ap unit_rows (c.len-2.ensures ∙ c.args.members.ok.0) in (
      long (λ row. row.items) c.in_ok-down.down.items n down l,
      wide (λ row. row.items) c.in_ok-down.down.items n (length c.in_ok-up.up.items) down w (long (λ row. row.items) c.in_ok-up.up.items n up l),
      wide (λ row. row.items) c.in_ok-up.up.items n n up w refl,
    )

pub returns-clause-made : goal.returns-clause-made
returns-clause-made g c =
    let F = g.K.Coeff.field in
    let members = c.args.members.items in
    let n = length members in
    let A : ArePolynomials F members = subst (ArePolynomials F) c.deref.ensures.value c.look_over.ensures in
    let rows : AreRows F members members (unit_rows n) = AreRows-unit_rows g.met.K.Coeff.lawful members A in
    record {
      down = subst (AreRows F members members) (sym (c.in_ok-down.ensures ∙ ap unit_rows (c.len.ensures ∙ c.args.members.ok.0))) rows;
      up = subst (AreRows F members members) (sym (c.in_ok-up.ensures ∙ ap unit_rows (c.len-2.ensures ∙ c.args.members.ok.0))) rows;
    }
