use Rattle.std.proofs.Common.{◌≡◌, ◌<◌, ◌^◌, All, IfOk, subst, sym}
use Rattle.fj_theory.specs.Plain.{rising_terms}
use Rattle.fj_theory.specs.Polynomial.{Polynomial}
use Rattle.fj_plain.specs.Terms.{entries}
use Rattle.fj_plain.specs.Tallied.{by_exponents}
use Rattle.fj_plain.proofs.TalliedLemmas.{ranks_from_terms}
use Rattle.fj_plain.proofs.tally.Tally.terms.Goals as goal

pub nonzero_terms-requires : goal.nonzero_terms-requires
nonzero_terms-requires c =
    ranks_from_terms (λ a. All (λ k. k < 2 ^ 64) a) (by_exponents c.self.inside.ranks) (subst (λ f. All (λ t. All (λ k. k < 2 ^ 64) t.0) (rising_terms f)) (sym c.self.view_is) c.requires)

pub returns : goal.returns
returns c = subst (λ (f : Polynomial). IfOk c.nonzero_terms.result (λ v. entries v.items ≡ rising_terms f)) c.self.view_is c.nonzero_terms.ensures
