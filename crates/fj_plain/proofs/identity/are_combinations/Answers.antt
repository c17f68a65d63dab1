use Rattle.std.proofs.Common.{◌≡◌, ◌≤◌, List, length, zip, refl, sym, ◌∙◌, arith}
use Rattle.std.proofs.lemmas.Bool.{true≢false}
use Rattle.fj_theory.specs.Plain.{PlainPolynomial, HasRanksBelow}
use Rattle.fj_theory.specs.Certificate.{AllRanksBelow, IsRowOf}
use Rattle.fj_plain.proofs.Each.{EachBefore-zero, EachBefore-more, All-from_EachBefore, All_at, slice_get_pair, length_pairs}
use Rattle.fj_plain.proofs.identity.are_combinations.Goals as goal

pub is_combination-requires-clause-target : goal.is_combination-requires-clause-target
is_combination-requires-clause-target c = All_at (HasRanksBelow c.args.p) c.args.targets.now c.loop-i.i c.get.result.now c.get.ensures c.requires.targets

pub is_combination-requires-clause-row : goal.is_combination-requires-clause-row
is_combination-requires-clause-row c = All_at (AllRanksBelow c.args.p) c.args.table.now c.loop-i.i c.get-in-loop-i.result.now c.get-in-loop-i.ensures c.requires.table

pub loop-i-init : goal.loop-i-init
loop-i-init c = EachBefore-zero (λ (e : PlainPolynomial × List PlainPolynomial). IsRowOf c.args.p c.args.sources.now e.0 e.1) (zip c.args.targets.now c.args.table.now)

pub loop-i-preserved : goal.loop-i-preserved
loop-i-preserved c =
    EachBefore-more (λ (e : PlainPolynomial × List PlainPolynomial). IsRowOf c.args.p c.args.sources.now e.0 e.1) (zip c.args.targets.now c.args.table.now) c.loop-i.i (c.get.result.now, c.get-in-loop-i.result.now)
    (slice_get_pair c.args.targets.now c.args.table.now c.loop-i.i c.get.result.now c.get-in-loop-i.result.now c.get.ensures c.get-in-loop-i.ensures)
    (c.in_ok-is_combination.ensures.0 c.if-not-branch.false) c.loop-i.invariant

pub returns-then-not-branch : goal.returns-then-not-branch
returns-then-not-branch c = (
  λ no. absurd (true≢false (sym no)),
  λ E. sym c.if-not-branch.true ∙ c.in_ok-is_combination.ensures.1
      (All_at (λ (e : PlainPolynomial × List PlainPolynomial). IsRowOf c.args.p c.args.sources.now e.0 e.1) (zip c.args.targets.now c.args.table.now) c.loop-i.i (c.get.result.now, c.get-in-loop-i.result.now)
      (slice_get_pair c.args.targets.now c.args.table.now c.loop-i.i c.get.result.now c.get-in-loop-i.result.now c.get.ensures c.get-in-loop-i.ensures) E.identities),
)

pub returns : goal.returns
returns c =
    let pairs : List (PlainPolynomial × List PlainPolynomial) = zip c.args.targets.now c.args.table.now in
    let short : length pairs ≤ c.loop-i.i = let within = length_pairs c.args.targets.now c.args.table.now in omega (arith, c.len-i-end.ensures) in
    let rows : length c.args.table.now ≡ length c.args.targets.now = sym c.len.ensures ∙ c.if-len.false ∙ c.len-2.ensures in
    (λ _. record { rows = rows; identities = All-from_EachBefore (λ (e : PlainPolynomial × List PlainPolynomial). IsRowOf c.args.p c.args.sources.now e.0 e.1) pairs c.loop-i.i short c.loop-i.invariant }, λ _. refl)
