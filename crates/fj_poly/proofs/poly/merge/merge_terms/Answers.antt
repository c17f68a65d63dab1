use Rattle.std.proofs.Common.{◌≡◌, ◌<◌, ℕ, List, [], sym, ap, ◌∙◌, inl, inr, ◌⊎◌}
use Rattle.std.proofs.lemmas.List.{map-append, map_push, nil_from_length}
use Rattle.fj_theory.proofs.MonomialOrder.{compare_by_exact}
use Rattle.fj_poly.specs.Terms.{entry, entries}
use Rattle.fj_poly.proofs.Coefficients.{positive_rank, zero_rank}
use Rattle.fj_poly.proofs.Falling.{above_from_below}
use Rattle.fj_poly.proofs.Polynomials.{polynomial_of, IsPolynomial-polynomial_of}
use Rattle.fj_poly.proofs.Merge.{merges-start, merges-swap, merges-left, merges-both, merges-neither, merges-ended, Merged}
use Rattle.fj_poly.proofs.poly.merge.merge_terms.Given as given
use Rattle.fj_poly.proofs.poly.merge.merge_terms.Goals as goal
use Rattle.fj_poly.proofs.poly.merge.merge_terms.Goals.{in_default, in_default-2}

pub merge-init : goal.merge-init
merge-init g c =
    rw c.clear.ensures.items (merges-start g.met.K.Coeff.lawful g.O.Order.key _ _ c.requires.one_falls c.requires.other_falls c.requires.one_terms c.requires.other_terms)

pub merge-preserved-in_ok-push-in-Greater : goal.merge-preserved-in_ok-push-in-Greater
merge-preserved-in_ok-push-in-Greater g c =
    let left = c.in-Some-Some.ensures.cases.0 in
    let right = c.in-Some-Some.ensures'.cases.0 in
    rw (c.in_ok-push-in-Greater.ensures.items, map_push, right)
    (merges-left g.met.K.Coeff.lawful (entry g.K.Coeff.rank c.in-Some-Some.first.now) (entry g.K.Coeff.rank c.in-Some-Some.second.now)
    (sym c.cmp.ensures ∙ c.in-Greater.is)
    (rw (left, right) at c.merge.invariant))

pub merge-preserved-in_ok-push-in-Less : goal.merge-preserved-in_ok-push-in-Less
merge-preserved-in_ok-push-in-Less g c =
    let left = c.in-Some-Some.ensures.cases.0 in
    let right = c.in-Some-Some.ensures'.cases.0 in
    let field = g.met.K.Coeff.lawful in
    let one_is = IsPolynomial-polynomial_of {F = g.K.Coeff.field} _ c.requires.one_terms in
    let other_is = IsPolynomial-polynomial_of {F = g.K.Coeff.field} _ c.requires.other_terms in
    rw (c.in_ok-push-in-Less.ensures.items, map_push, left)
    (merges-swap field other_is one_is
    (merges-left field (entry g.K.Coeff.rank c.in-Some-Some.second.now) (entry g.K.Coeff.rank c.in-Some-Some.first.now)
    (above_from_below g.O.Order.key _ _ (sym c.cmp.ensures ∙ c.in-Less.is))
    (merges-swap field one_is other_is (rw (left, right) at c.merge.invariant))))

pub merge-preserved-in_ok-push-in-Equal : goal.merge-preserved-in_ok-push-in-Equal
merge-preserved-in_ok-push-in-Equal g c =
    let left = c.in-Some-Some.ensures.cases.0 in
    let right = c.in-Some-Some.ensures'.cases.0 in
    let field = g.met.K.Coeff.lawful in
    let x : List ℕ × ℕ = entry g.K.Coeff.rank c.in-Some-Some.first.now in
    let y : List ℕ × ℕ = entry g.K.Coeff.rank c.in-Some-Some.second.now in
    let m = rw (left, right) at c.merge.invariant in
    let same : x.0 ≡ y.0 = compare_by_exact g.met.O.Order.monomial_order (record { eight = m.left_terms.0.0 }) (record { eight = m.right_terms.0.0 }) (sym c.cmp.ensures ∙ c.in-Equal.is) in
    let positive : 0 < g.K.Coeff.rank c.add-coefficient.result =
    positive_rank _ _ _ (g.met.K.Coeff.eq_is_rank c.add-coefficient.result c.zero.result) c.zero.ensures (sym c.ne.ensures ∙ c.if-ne.true) in
    rw (c.in_ok-push-in-Equal.ensures.items, map_push, c.add-coefficient.ensures)
    (merges-both field x y same (rw c.add-coefficient.ensures at positive) m)

pub merge-preserved : goal.merge-preserved
merge-preserved g c =
    let left = c.in-Some-Some.ensures.cases.0 in
    let right = c.in-Some-Some.ensures'.cases.0 in
    let field = g.met.K.Coeff.lawful in
    let x : List ℕ × ℕ = entry g.K.Coeff.rank c.in-Some-Some.first.now in
    let y : List ℕ × ℕ = entry g.K.Coeff.rank c.in-Some-Some.second.now in
    let m = rw (left, right) at c.merge.invariant in
    let same : x.0 ≡ y.0 = compare_by_exact g.met.O.Order.monomial_order (record { eight = m.left_terms.0.0 }) (record { eight = m.right_terms.0.0 }) (sym c.cmp.ensures ∙ c.in-Equal.is) in
    let none : g.K.Coeff.rank c.add-coefficient.result ≡ 0 =
    zero_rank _ _ _ (g.met.K.Coeff.eq_is_rank c.add-coefficient.result c.zero.result) c.zero.ensures (sym c.ne.ensures ∙ c.if-ne.false) in
    merges-neither field x y same (rw c.add-coefficient.ensures at none) m

merged : (g : given.Over) (c : goal.In_ok-extend_from_slice-2 g) → Merged g.K.Coeff.field g.O.Order.key (entries g.K.Coeff.rank c.extend_from_slice-2.new.self.items)
    (polynomial_of (entries g.K.Coeff.rank c.args.one.now)) (polynomial_of (entries g.K.Coeff.rank c.args.other.now))
merged g c =
    let one_is = IsPolynomial-polynomial_of {F = g.K.Coeff.field} _ c.requires.one_terms in
    let other_is = IsPolynomial-polynomial_of {F = g.K.Coeff.field} _ c.requires.other_terms in
    let used : (entries g.K.Coeff.rank c.merge.left.now ≡ []) ⊎ (entries g.K.Coeff.rank c.merge.right.now ≡ []) =
    elim c.match-split_first.branch [
      | in_default w ↦ inr (ap (entries g.K.Coeff.rank) (nil_from_length _ w.in_default.ensures'.cases))
      | in_default-2 w ↦ inl (ap (entries g.K.Coeff.rank) (nil_from_length _ w.in_default.ensures.cases))
    ] in
    rw (c.in_ok-extend_from_slice-2.ensures.items, c.in_ok-extend_from_slice.ensures.items, map-append, map-append)
    (merges-ended g.met.K.Coeff.lawful one_is other_is c.merge.invariant used)

pub returns-clause-value : goal.returns-clause-value
returns-clause-value g c = (merged g c).total

pub returns-clause-falls : goal.returns-clause-falls
returns-clause-falls g c = (merged g c).falls

pub returns-clause-terms : goal.returns-clause-terms
returns-clause-terms g c = (merged g c).terms
