use Rattle.std.proofs.Common.{◌≡◌, ◌≤◌, ◌^◌, ◌++◌, ◌∷◌, [], All, take, sym, ap, ◌∙◌, subst, arith, sum}
use Rattle.std.specs.BTreeMap.{get, is_at}
use Rattle.std.specs.Map.{lookup}
use Rattle.std.proofs.lemmas.List.{take_all, take_more}
use Rattle.std.proofs.lemmas.List.Elements.{All-push}
use Rattle.fj_theory.specs.Polynomial.{terms_falling}
use Rattle.fj_theory.specs.Parts.{part_terms, iterated_root}
use Rattle.fj_theory.proofs.Frobenius.{power_positive}
use Rattle.fj_theory.proofs.Terms.{terms_falling-IsFalling, terms_falling-exponents, IsTerm-terms_falling}
use Rattle.fj_theory.proofs.Roots.{iterated_root_positive}
use Rattle.fj_mono.specs.Monomial.{Monomial}
use Rattle.fj_root.specs.Groups.{IsGroup, lex, terms_at}
use Rattle.fj_root.proofs.Gather.{part_terms-nil, nothing_gathered, is_split_at, split_below, split_gathered}
use Rattle.fj_root.proofs.part.gather.Goals as goal

pub loop-i-init : goal.loop-i-init
loop-i-init g c = record {
  gathered = λ a. nothing_gathered _ _ _ _ (ap (lookup (is_at (lex a))) c.new-groups.ensures.empty) (part_terms-nil g.K.Coeff.field c.args.e a.exponents);
  bounded = λ k d below. absurd (omega arith);
}

pub split-quotient-requires : goal.split-quotient-requires
split-quotient-requires g c = rw c.frobenius_exponent-q.ensures (power_positive g.met.K.Coeff.lawful c.args.e)

pub put-requires-clause-nonzero : goal.put-requires-clause-nonzero
put-requires-clause-nonzero g c =
    let terms = IsTerm-terms_falling g.O.Order.key c.at-c.ensures.polynomial in
    let whole = rw c.frobenius_exponent-q.ensures at c.split-quotient.ensures.whole in
    let small = rw c.frobenius_exponent-q.ensures at c.split-quotient.ensures.residue in
    let at = is_split_at {F = g.K.Coeff.field} {e = c.args.e} c.split-quotient.result.0 c.split-quotient.result.1 terms (omega (arith, c.len-i-end.ensures.terms)) c.at-c.ensures.term whole small in
    let positive = iterated_root_positive g.met.K.Coeff.lawful c.args.e (g.K.Coeff.rank c.at-c.result.0) at.is_term.nonzero at.is_term.below in
    λ zero. absurd (omega (arith, sym c.root.ensures ∙ zero, positive))

pub put-requires-clause-below : goal.put-requires-clause-below
put-requires-clause-below g c =
    let polynomial = c.at-c.ensures.polynomial in
    let order = g.met.O.Order.monomial_order in
    let terms = IsTerm-terms_falling g.O.Order.key polynomial in
    let whole = rw c.frobenius_exponent-q.ensures at c.split-quotient.ensures.whole in
    let small = rw c.frobenius_exponent-q.ensures at c.split-quotient.ensures.residue in
    let at = is_split_at {F = g.K.Coeff.field} {e = c.args.e} c.split-quotient.result.0 c.split-quotient.result.1 terms (omega (arith, c.len-i-end.ensures.terms)) c.at-c.ensures.term whole small in
    split_below g.met.K.Coeff.lawful order (terms_falling-IsFalling order polynomial) (terms_falling-exponents order polynomial) c.split-quotient.result.1 _ at (c.loop-i.invariant.gathered c.split-quotient.result.1)

pub returns : goal.returns
returns g c =
    let all : take c.loop-i.i (terms_falling g.O.Order.key c.args.h.now) ≡ terms_falling g.O.Order.key c.args.h.now = take_all _ _ (omega (arith, c.len-i-end.ensures.terms)) in
    record {
      groups = λ a. subst (λ ts. IsGroup g.K.Coeff.field g.O.Order.key (get lex c.loop-i.groups a) (part_terms g.K.Coeff.field c.args.e a.exponents ts)) all (c.loop-i.invariant.gathered a);
      polynomial = c.len-i-end.ensures.polynomial;
      bounded = subst (All (λ t. sum t.0 ≤ 2 ^ 40)) all c.loop-i.invariant.bounded;
    }

pub loop-i-preserved : goal.loop-i-preserved
loop-i-preserved g c =
    let polynomial = c.at-c.ensures.polynomial in
    let order = g.met.O.Order.monomial_order in
    let terms = IsTerm-terms_falling g.O.Order.key polynomial in
    let whole = rw c.frobenius_exponent-q.ensures at c.split-quotient.ensures.whole in
    let small = rw c.frobenius_exponent-q.ensures at c.split-quotient.ensures.residue in
    let at = is_split_at {F = g.K.Coeff.field} {e = c.args.e} c.split-quotient.result.0 c.split-quotient.result.1 terms (omega (arith, c.len-i-end.ensures.terms)) c.at-c.ensures.term whole small in
    record {
      bounded = subst (All (λ t. sum t.0 ≤ 2 ^ 40)) (sym (take_more _ c.loop-i.i _ at.within)) (All-push (λ t. sum t.0 ≤ 2 ^ 40) _ _ c.loop-i.invariant.bounded (subst (λ t. sum t.0 ≤ 2 ^ 40) (sym at.term) c.at-c.result.1.bounded));
      gathered = λ a. split_gathered g.met.K.Coeff.lawful order (terms_falling-IsFalling order polynomial) (terms_falling-exponents order polynomial) a c.split-quotient.result.1 _ _ at (c.loop-i.invariant.gathered a)
          (λ is.
          subst (λ (m : Monomial). IsGroup g.K.Coeff.field g.O.Order.key (get lex c.put.new.groups m) (terms_at g.O.Order.key c.loop-i.groups m ++ (c.split-quotient.result.0.exponents, iterated_root g.K.Coeff.field c.args.e (g.K.Coeff.rank c.at-c.result.0)) ∷ [])) (sym is)
          (subst (λ r. IsGroup g.K.Coeff.field g.O.Order.key (get lex c.put.new.groups c.split-quotient.result.1) (terms_at g.O.Order.key c.loop-i.groups c.split-quotient.result.1 ++ (c.split-quotient.result.0.exponents, r) ∷ [])) c.root.ensures c.in_ok-put.ensures.there)) (λ apart. c.in_ok-put.ensures.others a apart);
    }
