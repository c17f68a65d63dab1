use Rattle.std.proofs.Common.{◌∷◌, [], ◌∙◌, List, All, Err, refl, sym, subst}
use Rattle.fj_theory.specs.Ideal.{Member}
use Rattle.fj_theory.specs.Polynomial.{Polynomial}
use Rattle.fj_plain.specs.declared.order_name.OrderName.TheVariants.{Elim}
use Rattle.fj_ideal.specs.Lists.{RunFor}
use Rattle.fj_ideal.specs.Stop.{StopsExactlyWith}
use Rattle.fj_ideal.proofs.HighProducts.{Contains-single}
use Rattle.fj_ideal.proofs.Stops.{only_from_exactly, only_handed_on}
use Rattle.fj_elim.specs.Lists.{IsColonList, IsEliminated, IsHighInColon, IsHighInMeet, IsMeetList, IsMetInColon, by_member}
use Rattle.fj_elim.proofs.Quotients.{eliminated-multiples, lists_of_meet, products_of_meet, quotients-colon, quotients-lack, quotients-list}
use Rattle.fj_elim.proofs.bases.quotient_list.Goals as goal

pub quotients-requires-clause-multiples : goal.quotients-requires-clause-multiples
quotients-requires-clause-multiples g c =
    let F = g.K.Coeff.field in
    let A = c.args.list.now in
    let e = subst (λ H. IsEliminated F A H c.in_ok-multiples.multiples.items) c.from_ref.ensures.value c.in_ok-multiples.ensures.members in
    subst (All (Member F (c.args.g.now ∷ []))) (sym c.deref.ensures.value)
    (eliminated-multiples g.met.K.Coeff.lawful c.look_over.ensures c.is_zero.ensures.polynomial c.requires.first c.requires.second e)

pub returns-in_err-multiples-clause-stop : goal.returns-in_err-multiples-clause-stop
returns-in_err-multiples-clause-stop g c =
    let F = g.K.Coeff.field in
    let A = c.args.list.now in
    let h = c.args.g.now in
    let met : IsMetInColon F A (h ∷ []) A (h ∷ []) = by_member h (Contains-single h) c.requires.nonzero refl refl in
    let Stops : List Polynomial → Type 0 = λ H. StopsExactlyWith {T = List Polynomial} F (RunFor Elim (IsMeetList F A H)) (IsHighInMeet F A H) c.args.pairs (Err c.in_err-multiples.field-0.0) in
    only_handed_on F c.args.pairs (RunFor Elim (IsMeetList F A (h ∷ []))) (IsColonList F A (h ∷ [])) (IsHighInMeet F A (h ∷ [])) (IsHighInColon F A (h ∷ []))
    (lists_of_meet F A (h ∷ []) A (h ∷ []) met) (products_of_meet F A (h ∷ []) A (h ∷ []) met)
    c.in_err-multiples.field-0.0 c.from_residual.result c.from_residual.ensures.1
    (only_from_exactly F c.args.pairs {T = List Polynomial} (RunFor Elim (IsMeetList F A (h ∷ []))) (IsHighInMeet F A (h ∷ [])) (Err c.in_err-multiples.field-0.0)
    (subst Stops c.from_ref.ensures.value c.in_err-multiples.ensures.stop))

pub returns-clause-list : goal.returns-clause-list
returns-clause-list g c =
    let F = g.K.Coeff.field in
    let e = subst (λ H. IsEliminated F c.args.list.now H c.in_ok-multiples.multiples.items) c.from_ref.ensures.value c.in_ok-multiples.ensures.members in
    quotients-list g.met.K.Coeff.lawful c.look_over.ensures c.is_zero.ensures.polynomial c.requires.first c.requires.second e c.in_ok-quotients.ensures.polynomials c.requires.nonzero
    (c.in_ok-quotients.ensures.value ∙ c.deref.ensures.value)

pub returns-clause-colon : goal.returns-clause-colon
returns-clause-colon g c =
    let F = g.K.Coeff.field in
    let e = subst (λ H. IsEliminated F c.args.list.now H c.in_ok-multiples.multiples.items) c.from_ref.ensures.value c.in_ok-multiples.ensures.members in
    quotients-colon g.met.K.Coeff.lawful c.look_over.ensures c.is_zero.ensures.polynomial c.requires.first c.requires.second e c.in_ok-quotients.ensures.polynomials c.requires.nonzero
    (c.in_ok-quotients.ensures.value ∙ c.deref.ensures.value)

pub returns-clause-variables : goal.returns-clause-variables
returns-clause-variables g c =
    let F = g.K.Coeff.field in
    let e = subst (λ H. IsEliminated F c.args.list.now H c.in_ok-multiples.multiples.items) c.from_ref.ensures.value c.in_ok-multiples.ensures.members in
    quotients-lack g.met.K.Coeff.lawful c.look_over.ensures c.is_zero.ensures.polynomial c.requires.first c.requires.second e c.in_ok-quotients.ensures.polynomials c.requires.nonzero
    (c.in_ok-quotients.ensures.value ∙ c.deref.ensures.value)
