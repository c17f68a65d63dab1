use Rattle.std.proofs.Common.{All, List, ◌≡◌, sym, ap, ◌∙◌, subst}
use Rattle.std.proofs.lemmas.Option.{same_Some}
use Rattle.fj_theory.specs.Plain.{HasRanksBelow, PlainPolynomial}
use Rattle.fj_script.specs.declared.value.Value.TheVariants as values
use Rattle.fj_shell.proofs.named.generators_at.Goals as goal

same_ideal : (f g : List PlainPolynomial) → values.Ideal f ≡ values.Ideal g → f ≡ g
same_ideal f g e = cc

pub returns-clause-ranks : goal.returns-clause-ranks
returns-clause-ranks c =
    let same = same_ideal c.requires.gens c.in-Ideal.gens (sym (ap (λ v. v.1) (same_Some _ _ (sym c.get.ensures ∙ c.requires.stands))) ∙ c.in-Ideal.is) in
    subst (All (HasRanksBelow c.args.env.now.p)) same c.requires.ranks
