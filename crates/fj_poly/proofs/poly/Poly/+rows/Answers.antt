use Rattle.std.proofs.Common.{◌≡◌, [], ◌∷◌, ◌++◌, IfOk, refl, ap, ap₂, sym, ◌∙◌, arith, subst, rules}
use Rattle.std.proofs.lemmas.List.{length-map, nil_from_length}
use Rattle.fj_theory.specs.Polynomial.{product, term, sum}
use Rattle.fj_poly.specs.Limit.{IsHigh}
use Rattle.fj_poly.specs.Terms.{AreTerms, entry, entries}
use Rattle.fj_poly.proofs.Polynomials.{polynomial_of, polynomial_of-term}
use Rattle.fj_poly.proofs.Changed.{at_item, single, Rows, Rows-front, Rows-back, cut, product-nil, product-append}
use Rattle.fj_poly.proofs.poly.Poly.+rows.Goals as goal

pub rows-requires : goal.rows-requires
rows-requires g t c =
    let front = c.split_at.ensures.front in
    let back = c.split_at.ensures.back in
    let whole = cut (entry g.K.Coeff.rank) c.args.left.now c.split_at.result.0.now c.split_at.result.1.now _ front back in
    let all : Rows g.K.Coeff.field g.O.Order.key (entries g.K.Coeff.rank c.split_at.result.0.now ++ entries g.K.Coeff.rank c.split_at.result.1.now) c.args.right.now =
    subst (λ ts. Rows g.K.Coeff.field g.O.Order.key ts c.args.right.now) (sym whole) (record { falls = c.requires.falls; terms = c.requires.terms; within = c.requires.within }) in
    let part : Rows g.K.Coeff.field g.O.Order.key (entries g.K.Coeff.rank c.split_at.result.0.now) c.args.right.now = Rows-front _ _ all in
    let falls = part.falls in
    let terms = part.terms in
    let within = part.within in
    let factor = c.requires.factor in
    search rules

pub rows-requires-in_default : goal.rows-requires-in_default
rows-requires-in_default g t c =
    let front = c.split_at.ensures.front in
    let back = c.split_at.ensures.back in
    let whole = cut (entry g.K.Coeff.rank) c.args.left.now c.split_at.result.0.now c.split_at.result.1.now _ front back in
    let all : Rows g.K.Coeff.field g.O.Order.key (entries g.K.Coeff.rank c.split_at.result.0.now ++ entries g.K.Coeff.rank c.split_at.result.1.now) c.args.right.now =
    subst (λ ts. Rows g.K.Coeff.field g.O.Order.key ts c.args.right.now) (sym whole) (record { falls = c.requires.falls; terms = c.requires.terms; within = c.requires.within }) in
    let part : Rows g.K.Coeff.field g.O.Order.key (entries g.K.Coeff.rank c.split_at.result.1.now) c.args.right.now = Rows-back _ _ all in
    let falls = part.falls in
    let terms = part.terms in
    let within = part.within in
    let factor = c.requires.factor in
    search rules

pub times_term-requires-clause-within : goal.times_term-requires-clause-within
times_term-requires-clause-within g t c =
    let at = at_item (entry g.K.Coeff.rank) c.args.left.now c.args.left.now 0 c.t-item.result refl (omega arith) c.t-item.is in
    subst (λ s. IsHigh (product g.K.Coeff.field (term s.1 s.0) c.args.right.now) → ⊥) at
    (c.requires.within 0 (entry g.K.Coeff.rank c.t-item.result) (omega (arith, length-map c.args.left.now (entry g.K.Coeff.rank))))

pub returns-in-empty : goal.returns-in-empty
returns-in-empty g t c =
    let none : c.args.left.now ≡ [] = nil_from_length _ (omega arith) in
    c.zero.ensures ∙ sym (ap (λ ts. product g.K.Coeff.field (polynomial_of (entries g.K.Coeff.rank ts)) c.args.right.now) none ∙ product-nil g.met.K.Coeff.lawful c.requires.factor)

pub returns-in-len1 : goal.returns-in-len1
returns-in-len1 g t c =
    let one : c.args.left.now ≡ c.t-item.result ∷ [] = single c.args.left.now c.t-item.result (omega arith) (omega arith) c.t-item.is in
    let terms : AreTerms g.K.Coeff.field (entries g.K.Coeff.rank (c.t-item.result ∷ [])) = subst (λ ts. AreTerms g.K.Coeff.field (entries g.K.Coeff.rank ts)) one c.requires.terms in
    let whole = ap (λ ts. polynomial_of (entries g.K.Coeff.rank ts)) one ∙ polynomial_of-term g.met.K.Coeff.lawful c.t-item.result.monomial.exponents (g.K.Coeff.rank c.t-item.result.coefficient) terms.0.1 in
    subst (λ h. IfOk c.times_term.result (λ p. p ≡ h)) (ap (λ f. product g.K.Coeff.field f c.args.right.now) (sym whole)) c.times_term.ensures

pub returns-in_ok-second-in_default : goal.returns-in_ok-second-in_default
returns-in_ok-second-in_default g t c =
    let whole = cut (entry g.K.Coeff.rank) c.args.left.now c.split_at.result.0.now c.split_at.result.1.now _ c.split_at.ensures.front c.split_at.ensures.back in
    let both = product-append g.met.K.Coeff.lawful c.requires.factor g.O.Order.key (entries g.K.Coeff.rank c.split_at.result.0.now) (entries g.K.Coeff.rank c.split_at.result.1.now)
    (rw whole c.requires.falls) (rw whole c.requires.terms) in
    subst (λ h. IfOk c.add.result (λ p. p ≡ h))
    (ap₂ (sum g.K.Coeff.field) c.in_ok-first-in_default.ensures c.in_ok-second-in_default.ensures ∙ sym both
    ∙ ap (λ ts. product g.K.Coeff.field (polynomial_of ts) c.args.right.now) whole)
    c.add.ensures.value
