use Rattle.std.proofs.Common.{◌≤◌, ◌^◌, List, length, zip, refl, sym, subst, ◌∙◌, arith}
use Rattle.std.proofs.lemmas.Bool.{true≢false}
use Rattle.fj_theory.specs.Plain.{PlainPolynomial, HasRanksBelow}
use Rattle.fj_theory.specs.Certificate.{AllRanksBelow, HasParts}
use Rattle.fj_coeff.specs.PrimeFieldLaws.{prime_power_fits}
use Rattle.fj_plain.proofs.Each.{EachBefore-more, All-from_EachBefore, All_at, slice_get_pair, length_pairs}
use Rattle.fj_plain.proofs.identity.are_sums_of_parts.Goals as goal

pub pow-q-requires : goal.pow-q-requires
pow-q-requires c =
    let fits = prime_power_fits c.args.p c.args.e (c.is_prime.ensures.in_table.0 c.if-not-is_prime.false) c.if-e-gt-EXPONENT_LIMIT.false in
    omega arith

pub is_sum_of_parts-requires-clause-target : goal.is_sum_of_parts-requires-clause-target
is_sum_of_parts-requires-clause-target c =
    All_at (HasRanksBelow c.args.p) c.args.members.now c.loop-i.i c.get.result.now c.get.ensures (c.have_ranks_below.ensures.0 c.if-not-have_ranks_below.false)

pub is_sum_of_parts-requires-clause-residues : goal.is_sum_of_parts-requires-clause-residues
is_sum_of_parts-requires-clause-residues c =
    All_at (AllRanksBelow c.args.p) c.args.residues.now c.loop-i.i c.get-in-loop-i.result.now c.get-in-loop-i.ensures (c.have_ranks_below-else-not-have_ranks_below.ensures.0 c.if-not-have_ranks_below-2.false)

pub is_sum_of_parts-requires-clause-parts : goal.is_sum_of_parts-requires-clause-parts
is_sum_of_parts-requires-clause-parts c =
    All_at (AllRanksBelow c.args.p) c.args.parts.now c.loop-i.i c.get-in-loop-i-2.result.now c.get-in-loop-i-2.ensures (c.have_ranks_below-else-not-have_ranks_below-2.ensures.0 c.if-not-have_ranks_below-3.false)

pub returns-then-not-branch : goal.returns-then-not-branch
returns-then-not-branch c =
    let row : PlainPolynomial × (List PlainPolynomial × List PlainPolynomial) = (c.get.result.now, (c.get-in-loop-i.result.now, c.get-in-loop-i-2.result.now)) in
    let found = slice_get_pair c.args.members.now (zip c.args.residues.now c.args.parts.now) c.loop-i.i row.0 row.1 c.get.ensures
    (slice_get_pair c.args.residues.now c.args.parts.now c.loop-i.i row.1.0 row.1.1 c.get-in-loop-i.ensures c.get-in-loop-i-2.ensures) in (
      λ no. absurd (true≢false (sym no)),
      λ R. sym c.if-not-branch.true ∙ c.in_ok-is_sum_of_parts.ensures.1
          (subst (λ q. HasParts c.args.p q row.0 row.1.0 row.1.1) (sym c.pow-q.ensures)
          (All_at (λ (r : PlainPolynomial × (List PlainPolynomial × List PlainPolynomial)). HasParts c.args.p (c.args.p ^ c.args.e) r.0 r.1.0 r.1.1) (zip c.args.members.now (zip c.args.residues.now c.args.parts.now)) c.loop-i.i row found R.sums)),
    )

pub loop-i-preserved : goal.loop-i-preserved
loop-i-preserved c =
    let row : PlainPolynomial × (List PlainPolynomial × List PlainPolynomial) = (c.get.result.now, (c.get-in-loop-i.result.now, c.get-in-loop-i-2.result.now)) in
    let found = slice_get_pair c.args.members.now (zip c.args.residues.now c.args.parts.now) c.loop-i.i row.0 row.1 c.get.ensures
    (slice_get_pair c.args.residues.now c.args.parts.now c.loop-i.i row.1.0 row.1.1 c.get-in-loop-i.ensures c.get-in-loop-i-2.ensures) in
    EachBefore-more (λ (r : PlainPolynomial × (List PlainPolynomial × List PlainPolynomial)). HasParts c.args.p (c.args.p ^ c.args.e) r.0 r.1.0 r.1.1) (zip c.args.members.now (zip c.args.residues.now c.args.parts.now)) c.loop-i.i row found
    (subst (λ q. HasParts c.args.p q row.0 row.1.0 row.1.1) c.pow-q.ensures (c.in_ok-is_sum_of_parts.ensures.0 c.if-not-branch.false)) c.loop-i.invariant

pub returns : goal.returns
returns c =
    let rows : List (PlainPolynomial × (List PlainPolynomial × List PlainPolynomial)) = zip c.args.members.now (zip c.args.residues.now c.args.parts.now) in
    let short : length rows ≤ c.loop-i.i = let within = length_pairs c.args.members.now (zip c.args.residues.now c.args.parts.now) in omega (arith, c.len-i-end.ensures) in (
      λ _. record {
        prime = c.is_prime.ensures.in_table.0 c.if-not-is_prime.false;
        exponent = c.if-e-gt-EXPONENT_LIMIT.false;
        members_below = c.have_ranks_below.ensures.0 c.if-not-have_ranks_below.false;
        residues_below = c.have_ranks_below-else-not-have_ranks_below.ensures.0 c.if-not-have_ranks_below-2.false;
        parts_below = c.have_ranks_below-else-not-have_ranks_below-2.ensures.0 c.if-not-have_ranks_below-3.false;
        residue_rows = sym c.len.ensures ∙ c.if-len.false ∙ c.len-else-not-have_ranks_below-3.ensures;
        part_rows = sym c.len-else-len.ensures ∙ c.if-len-2.false ∙ c.len-else-len-2.ensures;
        sums = All-from_EachBefore (λ (r : PlainPolynomial × (List PlainPolynomial × List PlainPolynomial)). HasParts c.args.p (c.args.p ^ c.args.e) r.0 r.1.0 r.1.1) rows c.loop-i.i short c.loop-i.invariant;
      },
      λ _. refl,
    )
