use Rattle.std.proofs.Common.{refl, ◌≡◌, ◌++◌, ◌∷◌, [], sym, ap, ◌∙◌, subst, Some, None, Option, IsSome, MutBor, arith}
use Rattle.std.specs.BTreeMap.{get}
use Rattle.std.specs.Option.{option_copied_mut}
use Rattle.fj_root.specs.Groups.{IsGroup, lex, terms_at, optional_terms}
use Rattle.fj_theory.specs.Polynomial.{terms_falling}
use Rattle.fj_root.proofs.Groups.{is_at_other, on_ok, pushed_some, terms_falling-term}
use Rattle.fj_root.proofs.part.put.Goals as goal

some_found : {X : Type 0} (o : Option (MutBor X)) (p : Option X) {x : MutBor X} → option_copied_mut o ≡ p → o ≡ Some x → IsSome p
some_found o p e is = subst IsSome (ap option_copied_mut (sym is) ∙ e) refl

pub returns-in-Some-clause-others : goal.returns-in-Some-clause-others
returns-in-Some-clause-others g c =
    let written = c.get_mut.follows.holds c.push_term.new.self in
    let there = c.get_mut.ensures.value in
    on_ok c.push_term.result _ (λ a apart. (written.3 (some_found _ _ there c.in-Some.is)).2 a (is_at_other a c.args.residue apart))

pub returns-clause-there : goal.returns-clause-there
returns-clause-there g c =
    let old : get lex c.args.groups.now c.args.residue ≡ None = sym c.get_mut.ensures.value ∙ ap option_copied_mut c.in_default.is in
    let new : get lex c.insert.new.self c.args.residue ≡ Some c.in_ok-term.field-0 = c.in_ok-insert.ensures.updates.1 in
    let listed : optional_terms g.O.Order.key (Some c.in_ok-term.field-0) ≡ (c.args.m.now.exponents, g.K.Coeff.rank c.args.c) ∷ [] =
    ap (terms_falling g.O.Order.key) c.in_ok-term.ensures.value
    ∙ terms_falling-term g.met.O.Order.monomial_order g.met.K.Coeff.lawful c.args.m.now.exponents (g.K.Coeff.rank c.args.c) c.args.m.now.eight (omega (arith, c.requires.nonzero)) (g.met.K.Coeff.rank_below c.args.c) in
    subst (λ o. IsGroup g.K.Coeff.field g.O.Order.key o (terms_at g.O.Order.key c.args.groups.now c.args.residue ++ (c.args.m.now.exponents, g.K.Coeff.rank c.args.c) ∷ [])) (sym new)
    (c.in_ok-term.ensures.polynomial, listed ∙ sym (ap (λ o. optional_terms g.O.Order.key o ++ (c.args.m.now.exponents, g.K.Coeff.rank c.args.c) ∷ []) old), pushed_some _ _)

pub returns-clause-others : goal.returns-clause-others
returns-clause-others g c = λ a apart.
    c.in_ok-insert.ensures.updates.2 a (is_at_other a c.args.residue apart) ∙ ap (λ m. get lex m a) c.get_mut.follows.holds-at-none
