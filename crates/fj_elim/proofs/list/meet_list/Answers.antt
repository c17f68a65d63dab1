use Rattle.std.proofs.Common.{◌≡◌, ◌++◌, ◌∙◌, sym, ap, ap₂, subst}
use Rattle.std.proofs.lemmas.List.Elements.{All-append}
use Rattle.fj_theory.specs.Ideal.{multiples}
use Rattle.fj_poly.specs.Limit.{IsHigh}
use Rattle.fj_ideal.specs.Lists.{AreLow}
use Rattle.fj_elim.proofs.Products.{elimination_list-is}
use Rattle.fj_elim.proofs.list.meet_list.Goals as goal

pub returns-clause-list : goal.returns-clause-list
returns-clause-list g c =
    let F = g.K.Coeff.field in
    let G = c.args.list.now in
    let H = c.args.others.now in
    record {
      is = c.in_ok-append.ensures.items
          ∙ ap₂ ◌++◌ (c.in_ok-all.ensures.value ∙ ap (λ t. multiples F t G) c.in_ok-t.ensures) (c.in_ok-more.ensures.value ∙ ap (λ t. multiples F t H) c.in_ok-rest.ensures)
          ∙ sym (elimination_list-is F G H);
      low = subst AreLow (sym c.in_ok-append.ensures.items) (All-append (λ h. IsHigh h → ⊥) _ _ c.in_ok-all.ensures.low c.in_ok-more.ensures.low);
    }
