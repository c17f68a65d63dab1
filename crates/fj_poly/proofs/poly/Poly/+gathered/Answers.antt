use Rattle.std.proofs.Common.{◌≡◌, [], ◌∷◌, IfOk, ap, ap₂, sym, ◌∙◌, arith, subst, rules}
use Rattle.std.proofs.lemmas.List.{nil_from_length}
use Rattle.fj_theory.specs.Polynomial.{IsFalling, sum}
use Rattle.fj_poly.specs.Terms.{AreTerms, entry, entries}
use Rattle.fj_poly.proofs.Falling.{terms-front, terms-back, falling-front, falling-back}
use Rattle.fj_poly.proofs.Polynomials.{polynomial_of, polynomial_of-term, sum-append}
use Rattle.fj_poly.proofs.Changed.{single, cut}
use Rattle.fj_poly.proofs.poly.Poly.+gathered.Goals as goal

pub gathered-requires : goal.gathered-requires
gathered-requires g t c =
    let whole = cut (entry g.K.Coeff.rank) c.args.list.now c.split_at.result.0.now c.split_at.result.1.now _ c.split_at.ensures.front c.split_at.ensures.back in
    let falls : IsFalling g.O.Order.key (entries g.K.Coeff.rank c.split_at.result.0.now) = falling-front g.O.Order.key _ (entries g.K.Coeff.rank c.split_at.result.1.now) (rw whole c.requires.falls) in
    let terms : AreTerms g.K.Coeff.field (entries g.K.Coeff.rank c.split_at.result.0.now) = terms-front g.K.Coeff.field _ (entries g.K.Coeff.rank c.split_at.result.1.now) (rw whole c.requires.terms) in
    search rules

pub gathered-requires-in_default : goal.gathered-requires-in_default
gathered-requires-in_default g t c =
    let whole = cut (entry g.K.Coeff.rank) c.args.list.now c.split_at.result.0.now c.split_at.result.1.now _ c.split_at.ensures.front c.split_at.ensures.back in
    let falls : IsFalling g.O.Order.key (entries g.K.Coeff.rank c.split_at.result.1.now) = falling-back g.O.Order.key (entries g.K.Coeff.rank c.split_at.result.0.now) _ (rw whole c.requires.falls) in
    let terms : AreTerms g.K.Coeff.field (entries g.K.Coeff.rank c.split_at.result.1.now) = terms-back g.K.Coeff.field (entries g.K.Coeff.rank c.split_at.result.0.now) _ (rw whole c.requires.terms) in
    search rules

pub returns-in-empty : goal.returns-in-empty
returns-in-empty g t c =
    let none : c.args.list.now ≡ [] = nil_from_length _ (omega arith) in
    c.zero.ensures ∙ sym (ap (λ ts. polynomial_of (entries g.K.Coeff.rank ts)) none)

pub returns-in-len1 : goal.returns-in-len1
returns-in-len1 g t c =
    let one : c.args.list.now ≡ c.t-item.result ∷ [] = single c.args.list.now c.t-item.result (omega arith) (omega arith) c.t-item.is in
    let terms : AreTerms g.K.Coeff.field (entries g.K.Coeff.rank (c.t-item.result ∷ [])) = subst (λ ts. AreTerms g.K.Coeff.field (entries g.K.Coeff.rank ts)) one c.requires.terms in
    let whole = ap (λ ts. polynomial_of (entries g.K.Coeff.rank ts)) one ∙ polynomial_of-term g.met.K.Coeff.lawful c.t-item.result.monomial.exponents (g.K.Coeff.rank c.t-item.result.coefficient) terms.0.1 in
    subst (λ h. IfOk c.term.result (λ p. p ≡ h)) (sym whole) c.term.ensures.value

pub returns-in_ok-second-in_default : goal.returns-in_ok-second-in_default
returns-in_ok-second-in_default g t c =
    let whole = cut (entry g.K.Coeff.rank) c.args.list.now c.split_at.result.0.now c.split_at.result.1.now _ c.split_at.ensures.front c.split_at.ensures.back in
    let both = sum-append g.met.K.Coeff.lawful g.O.Order.key (entries g.K.Coeff.rank c.split_at.result.0.now) (entries g.K.Coeff.rank c.split_at.result.1.now)
    (rw whole c.requires.falls) (rw whole c.requires.terms) in
    subst (λ h. IfOk c.add.result (λ p. p ≡ h))
    (ap₂ (sum g.K.Coeff.field) c.in_ok-first-in_default.ensures c.in_ok-second-in_default.ensures ∙ sym both ∙ ap polynomial_of whole)
    c.add.ensures.value
