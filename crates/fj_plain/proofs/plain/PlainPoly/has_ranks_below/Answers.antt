use Rattle.std.proofs.Common.{◌≡◌, ◌<◌, ℕ, List, All, subst, sym, ap, ◌∙◌}
use Rattle.fj_theory.specs.Plain.{PlainPolynomial}
use Rattle.fj_plain.specs.Terms.{entries}
use Rattle.fj_plain.proofs.Entries.{All-entries, All-entries_back}
use Rattle.fj_plain.proofs.plain.PlainPoly.has_ranks_below.Goals as goal

pub returns : goal.returns
returns c =
    let P : List ℕ × ℕ → Type 0 = λ t. t.1 < c.args.p in
    let same : entries c.deref.result.now ≡ c.args.self.now.terms = ap entries c.deref.ensures.value ∙ ap (λ (f : PlainPolynomial). f.terms) c.self.view_is in (
      λ yes. record { below = subst (λ ts. All P ts) same (All-entries P c.deref.result.now (c.are_below.ensures.0 yes)) },
      λ ranks. c.are_below.ensures.1 (All-entries_back P c.deref.result.now (subst (λ ts. All P ts) (sym same) ranks.below)),
    )
