use Rattle.std.proofs.Common.{◌≢◌, ◌<◌, ◌≤◌, ◌^◌, sum, All, AllPairs, subst, sym, ◌∙◌}
use Rattle.std.proofs.lemmas.Bool.{true≢false}
use Rattle.fj_plain.specs.declared.term.PlainTerm.{PlainTerm}
use Rattle.fj_plain.proofs.Distinct.{IsPlain-from_tests, HasRanksBelow-from_tests, tests-from_IsPlain, AllPairs-entries_back}
use Rattle.fj_plain.proofs.plain.PlainPoly.of.Goals as goal

pub invariant_of-result : goal.invariant_of-result
invariant_of-result c =
    let tested = subst (λ ts. All (λ (t : PlainTerm). (sum t.exps ≤ 2 ^ 41) × (0 < t.rank) × (t.rank < c.args.p)) ts) c.deref.ensures.value (c.are_terms.ensures.0 c.if-not-are_terms.false) in
    let pairs = subst (λ ts. AllPairs (λ (s t : PlainTerm). s.exps ≢ t.exps) ts) c.deref-2.ensures.value (c.are_distinct.ensures.0 c.if-not-are_distinct.false) in
    (IsPlain-from_tests c.args.p c.args.terms.items tested pairs, tt)

pub returns-then-not-are_terms-clause-plain : goal.returns-then-not-are_terms-clause-plain
returns-then-not-are_terms-clause-plain c = (
  λ no. absurd (true≢false (sym no)),
  λ both. sym c.if-not-are_terms.true ∙ c.are_terms.ensures.1
      (subst (λ ts. All (λ (t : PlainTerm). (sum t.exps ≤ 2 ^ 41) × (0 < t.rank) × (t.rank < c.args.p)) ts) (sym c.deref.ensures.value) (tests-from_IsPlain c.args.p c.args.terms.items both.0 both.1)),
)

pub returns-then-not-are_distinct-clause-plain : goal.returns-then-not-are_distinct-clause-plain
returns-then-not-are_distinct-clause-plain c = (
  λ no. absurd (true≢false (sym no)),
  λ both. sym c.if-not-are_distinct.true ∙ c.are_distinct.ensures.1
      (subst (λ ts. AllPairs (λ (s t : PlainTerm). s.exps ≢ t.exps) ts) (sym c.deref-2.ensures.value) (AllPairs-entries_back c.args.terms.items both.0.distinct)),
)

pub returns-clause-below : goal.returns-clause-below
returns-clause-below c =
    let tested = subst (λ ts. All (λ (t : PlainTerm). (sum t.exps ≤ 2 ^ 41) × (0 < t.rank) × (t.rank < c.args.p)) ts) c.deref.ensures.value (c.are_terms.ensures.0 c.if-not-are_terms.false) in
    record { below = HasRanksBelow-from_tests c.args.p c.args.terms.items tested }

pub are_distinct-requires : goal.are_distinct-requires
are_distinct-requires c =
    let tested = subst (λ ts. All (λ (t : PlainTerm). (sum t.exps ≤ 2 ^ 41) × (0 < t.rank) × (t.rank < c.args.p)) ts) c.deref.ensures.value (c.are_terms.ensures.0 c.if-not-are_terms.false) in
    subst (λ ts. All (λ (t : PlainTerm). sum t.exps ≤ 2 ^ 41) ts) (sym c.deref-2.ensures.value) (λ k d h. (tested k d h).0)
