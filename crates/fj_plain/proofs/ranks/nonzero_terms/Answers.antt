use Rattle.std.proofs.Common.{◌≡◌, ◌<◌, ◌≤◌, ◌^◌, ◌++◌, ◌∷◌, [], ℕ, List, All, ◌∙◌, ap, subst, sym}
use Rattle.std.specs.Map.Iter.{deref_pair}
use Rattle.std.proofs.lemmas.Map.Iter.{rest_more}
use Rattle.std.proofs.lemmas.List.{map-append}
use Rattle.std.proofs.lemmas.List.Elements.{All-head, All-tail}
use Rattle.fj_plain.specs.Terms.{entry, entries}
use Rattle.fj_plain.specs.Tallied.{nonzero_entries}
use Rattle.fj_plain.proofs.TalliedLemmas.{entries_from_ranks}
use Rattle.fj_plain.proofs.NonzeroEntries.{nonzero_entries_push, nonzero_entries_skip}
use Rattle.fj_plain.proofs.ranks.nonzero_terms.Goals as goal

Fits : List ℕ × ℕ → Type 0
Fits t = 0 < t.1 → All (λ k. k < 2 ^ 64) t.0

pub loop-exps-preserved-in-Continue-1 : goal.loop-exps-preserved-in-Continue-1
unfolding Fits
loop-exps-preserved-in-Continue-1 c =
    let t : List ℕ × ℕ = (c.in-Some.exps.now, c.in-Some.rank.now) in
    let cut : c.loop-exps.exps-iterator ≡ t ∷ c.next.new.self = rest_more deref_pair _ _ _ (c.in-Some.exps, c.in-Some.rank) c.in-Some.is c.next.ensures.steps in
    let pushed : entries c.push.new.self.items ≡ entries c.loop-exps.terms.items ++ t ∷ [] =
    ap entries c.in_ok-push.ensures.items ∙ map-append entry c.loop-exps.terms.items _ ∙ ap (λ (a : List ℕ). entries c.loop-exps.terms.items ++ (a, c.in-Some.rank.now) ∷ []) c.narrowed.ensures in
    record {
      fits = All-tail Fits t c.next.new.self (subst (All Fits) cut c.loop-exps.invariant.fits);
      whole = ap (λ us. us ++ nonzero_entries c.next.new.self) pushed ∙ nonzero_entries_push (entries c.loop-exps.terms.items) t c.next.new.self c.if-rank-gt0.true
          ∙ ap (λ us. entries c.loop-exps.terms.items ++ us) (ap nonzero_entries (sym cut)) ∙ c.loop-exps.invariant.whole;
    }

pub loop-exps-preserved : goal.loop-exps-preserved
unfolding Fits
loop-exps-preserved c =
    let t : List ℕ × ℕ = (c.in-Some.exps.now, c.in-Some.rank.now) in
    let cut : c.loop-exps.exps-iterator ≡ t ∷ c.next.new.self = rest_more deref_pair _ _ _ (c.in-Some.exps, c.in-Some.rank) c.in-Some.is c.next.ensures.steps in
    let zero : c.in-Some.rank.now ≤ 0 = c.if-rank-gt0.false in
    record {
      fits = All-tail Fits t c.next.new.self (subst (All Fits) cut c.loop-exps.invariant.fits);
      whole = ap (λ us. entries c.loop-exps.terms.items ++ us) (sym (ap nonzero_entries cut ∙ nonzero_entries_skip t c.next.new.self zero)) ∙ c.loop-exps.invariant.whole;
    }

pub loop-exps-init : goal.loop-exps-init
unfolding Fits
loop-exps-init c =
    let all : c.into_iter-exps-iterator.result ≡ c.args.ranks.now.entries = c.into_iter-exps-iterator.ensures.into_iter_gives ∙ c.iter-exps-items.ensures.rest in
    record {
      fits = subst (All Fits) (sym all) (entries_from_ranks (λ a. All (λ k. k < 2 ^ 64) a) c.args.ranks.now c.iter-exps-items.ensures.ordered c.requires);
      whole = ap (λ us. entries us ++ nonzero_entries c.into_iter-exps-iterator.result) c.new-terms.ensures.items ∙ ap nonzero_entries all;
    }

pub narrowed-requires : goal.narrowed-requires
unfolding Fits
narrowed-requires c =
    let t : List ℕ × ℕ = (c.in-Some.exps.now, c.in-Some.rank.now) in
    let cut : c.loop-exps.exps-iterator ≡ t ∷ c.next.new.self = rest_more deref_pair _ _ _ (c.in-Some.exps, c.in-Some.rank) c.in-Some.is c.next.ensures.steps in
    All-head Fits t c.next.new.self (subst (All Fits) cut c.loop-exps.invariant.fits) c.if-rank-gt0.true
