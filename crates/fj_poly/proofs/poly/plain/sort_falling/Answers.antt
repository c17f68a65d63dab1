use Rattle.std.proofs.Common.{◌≡◌, rules}
use Rattle.std.specs.Ordering.{is_lt}
use Rattle.std.proofs.lemmas.Fn.{always_returns_same}
use Rattle.std.proofs.lemmas.List.Sorted.{ranks_by, IsStrictWeakOrder-flip}
use Rattle.fj_theory.specs.MonomialOrder.{compare_by}
use Rattle.fj_theory.proofs.MonomialOrder.{compare_by_total}
use Rattle.fj_poly.specs.declared.poly.Term.{Term}
use Rattle.fj_poly.proofs.poly.plain.sort_falling.Goals as goal

pub returns-clause-falls : goal.returns-clause-falls
returns-clause-falls g c =
    let key = g.O.Order.key in
    let order = IsStrictWeakOrder-flip _ (ranks_by (compare_by_total key) (λ (t : Term g.row.K.Denot). t.monomial.exponents)) in
    c.sort_unstable_by.ensures.sorted (λ s t. is_lt (compare_by key t.monomial.exponents s.monomial.exponents)) order
    (always_returns_same _ (λ a r. is_lt r ≡ is_lt (compare_by key a.1.0.now.monomial.exponents a.0.now.monomial.exponents)) _ (λ a r f called. (search rules, search rules)))
