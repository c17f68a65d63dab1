use Rattle.std.proofs.Common.{◌≡◌, ◌≢◌, ◌<◌, ◌≤◌, ◌++◌, ◌∷◌, [], ℕ, ◌+◌, Bool, List, true, false, length, length-append, inl, inr, map, take, get_or, All, Contains, sym, ap, ap₂, ◌∙◌, subst, arith}
use Rattle.std.specs.List.{range_with_len}
use Rattle.std.specs.FinMap.{empty}
use Rattle.std.proofs.lemmas.List.{length-map, take_all}
use Rattle.std.proofs.lemmas.List.FromFn.{length-map-range_with_len, get_or-map-range_with_len}
use Rattle.std.proofs.lemmas.List.Elements.{All-nil, All-weaker, All-contains}
use Rattle.fj_algebra.proofs.Pairs.{contains_cons}
use Rattle.fj_groebner.specs.Run.{is_left_out, sort_by_lead, place_by_lead}
use Rattle.fj_basis.specs.declared.members.Member.{Member}
use Rattle.fj_basis.specs.Members.{sugared, sugared_members}
use Rattle.fj_basis.proofs.FinishingActs.{kept_from, kept_from-zero, kept_from-end, kept_from-left, kept_from-kept, popped}
use Rattle.fj_basis.proofs.Subtracted.{member_at-sugared}
use Rattle.fj_basis.proofs.finishing.sorted_by_lead.Goals as goal

-- Of the members at the places below n, the last one is sorted in or left out.
module _ {K O : Type 0} (key : List ℕ → List ℕ) (xs : List (Member K O)) (n : ℕ) (m : Member K O) (l : n < length xs) (at : m ≡ get_or xs n m) where
  below : n < length (sugared_members xs)
  below = omega (arith, l, length-map xs sugared)

  kept : (sorted before : List (Member K O)) → is_left_out key (sugared_members xs) n ≡ false
      → sugared_members before ≡ sort_by_lead key (kept_from key (sugared_members xs) (n + 1))
      → sugared_members sorted ≡ place_by_lead key (sugared m) (sugared_members before)
      → sugared_members sorted ≡ sort_by_lead key (kept_from key (sugared_members xs) n)
  kept sorted before e is placed =
      placed ∙ ap₂ (place_by_lead key) (sym (member_at-sugared xs n m l ∙ ap sugared (sym at))) is ∙ sym (kept_from-kept key (sugared_members xs) n below e)

  left : (sorted : List (Member K O)) → is_left_out key (sugared_members xs) n ≡ true
      → sugared_members sorted ≡ sort_by_lead key (kept_from key (sugared_members xs) (n + 1))
      → sugared_members sorted ≡ sort_by_lead key (kept_from key (sugared_members xs) n)
  left sorted e is = is ∙ ap (sort_by_lead key) (sym (kept_from-left key (sugared_members xs) n below e))

out_at : (f : ℕ → Bool) (outs : List Bool) (count n : ℕ) (t : Bool) → n < count → outs ≡ map f (range_with_len 0 count) → t ≡ get_or outs n t → f n ≡ t
out_at f outs count n t l is at = sym (at ∙ ap (λ bs. get_or bs n t) is ∙ get_or-map-range_with_len f 0 count n n t l (omega arith))

pub loop-member-init : goal.loop-member-init
loop-member-init g c =
    let xs = c.args.members.items in
    let key = g.O.Order.key in (
      sym (take_all (length xs) xs (omega arith)),
      omega arith,
      ap sugared_members c.new-sorted.ensures.items ∙ sym (kept_from-end key (sugared_members xs) (length xs) (omega (arith, length-map xs sugared))),
      subst (All (Contains xs)) (sym c.new-sorted.ensures.items) (All-nil (Contains xs)),
    )

-- The last of the members that are left.
module _ {K O : Type 0} (key : List ℕ → List ℕ) (xs old new : List (Member K O)) (m : Member K O) (front : old ≡ take (length old) xs) (within : length old ≤ length xs) (is : old ≡ new ++ (m ∷ [])) where
  lower : length new < length xs
  lower = (popped xs old new m front within is).1

  one_less : length old ≡ length new + 1
  one_less = ap length is ∙ length-append new (m ∷ [])

  among : (sorted after : List (Member K O)) → All (Contains xs) sorted → All (Contains (m ∷ sorted)) after → All (Contains xs) after
  among sorted after before all =
      let p = popped xs old new m front within is in
      All-weaker (Contains (m ∷ sorted)) (Contains xs)
      (λ w i. elim (contains_cons m sorted w i) [
        | inl e ↦ subst (Contains xs) e (length new, p.1, sym p.2)
        | inr d ↦ All-contains (Contains xs) sorted w before d
      ]) after all

  decided : (outs : List Bool) (ds : List (Member K O)) (t : Bool) (n : ℕ) → ds ≡ xs → outs ≡ map (is_left_out key (sugared_members ds)) (range_with_len 0 (length ds)) → n ≡ length new
      → t ≡ get_or outs n t → is_left_out key (sugared_members xs) (length new) ≡ t
  decided outs ds t n same each at is_t =
      out_at (is_left_out key (sugared_members xs)) outs (length xs) (length new) t lower
      (each ∙ ap (λ (zs : List (Member K O)). map (is_left_out key (sugared_members zs)) (range_with_len 0 (length zs))) same) (is_t ∙ ap (λ k. get_or outs k t) at)

pub index-requires : goal.index-requires
index-requires g c =
    let low = lower g.O.Order.key c.args.members.items c.loop-member.members.items c.pop.new.self.items c.in-Some.member c.loop-member.invariant.0 c.loop-member.invariant.1 c.in-Some.ensures.items in
    let outs = ap length c.in_ok-out.ensures ∙ length-map-range_with_len (is_left_out g.O.Order.key (sugared_members c.deref.result.now)) 0 (length c.deref.result.now)
    ∙ ap length c.deref.ensures.value in
    let own = c.pop.new.self.ok.0 in
    let its = c.in_ok-out.out.ok.0 in
    omega (arith, low, outs, own, its, c.len.ensures)

pub place_by_lead-requires-clause-nonzero : goal.place_by_lead-requires-clause-nonzero
place_by_lead-requires-clause-nonzero g c =
    let xs = c.args.members.items in
    All-weaker (Contains xs) (λ m. m.polynomial ≢ empty) (λ m i. All-contains (λ m. m.polynomial ≢ empty) xs m c.requires i) c.loop-member.sorted.items c.loop-member.invariant.3

pub place_by_lead-requires-clause-member : goal.place_by_lead-requires-clause-member
place_by_lead-requires-clause-member g c =
    let xs = c.args.members.items in
    let p = popped xs c.loop-member.members.items c.pop.new.self.items c.in-Some.member c.loop-member.invariant.0 c.loop-member.invariant.1 c.in-Some.ensures.items in
    subst (λ m. m.polynomial ≢ empty) (sym p.2) (c.requires (length c.pop.new.self.items) c.in-Some.member p.1)

pub loop-member-preserved-in-Continue-branch-2 : goal.loop-member-preserved-in-Continue-branch-2
loop-member-preserved-in-Continue-branch-2 g c =
    let key = g.O.Order.key in
    let xs = c.args.members.items in
    let old = c.loop-member.members.items in
    let new = c.pop.new.self.items in
    let m = c.in-Some.member in
    let i = c.loop-member.invariant in
    let is = c.in-Some.ensures.items in
    let p = popped xs old new m i.0 i.1 is in
    let low : length new ≤ length xs = omega (arith, p.1) in
    let out = decided key xs old new m i.0 i.1 is c.in_ok-out.out.items c.deref.result.now c.index.result.now c.len.result c.deref.ensures.value c.in_ok-out.ensures
    (c.len.ensures ∙ c.pop.new.self.ok.0) c.index.ensures in (
      p.0,
      low,
      kept key xs (length new) m p.1 p.2 c.place_by_lead.new.sorted.items c.loop-member.sorted.items (out ∙ c.if-not-index.true)
          (i.2 ∙ ap (λ k. sort_by_lead key (kept_from key (sugared_members xs) k)) (one_less key xs old new m i.0 i.1 is)) c.in_ok-place_by_lead.ensures.value,
      among key xs old new m i.0 i.1 is c.loop-member.sorted.items c.place_by_lead.new.sorted.items i.3 c.in_ok-place_by_lead.ensures.among,
    )

pub loop-member-preserved : goal.loop-member-preserved
loop-member-preserved g c =
    let key = g.O.Order.key in
    let xs = c.args.members.items in
    let old = c.loop-member.members.items in
    let new = c.pop.new.self.items in
    let m = c.in-Some.member in
    let i = c.loop-member.invariant in
    let is = c.in-Some.ensures.items in
    let p = popped xs old new m i.0 i.1 is in
    let low : length new ≤ length xs = omega (arith, p.1) in
    let out = decided key xs old new m i.0 i.1 is c.in_ok-out.out.items c.deref.result.now c.index.result.now c.len.result c.deref.ensures.value c.in_ok-out.ensures
    (c.len.ensures ∙ c.pop.new.self.ok.0) c.index.ensures in (
      p.0,
      low,
      left key xs (length new) m p.1 p.2 c.loop-member.sorted.items (out ∙ c.if-not-index.false)
          (i.2 ∙ ap (λ k. sort_by_lead key (kept_from key (sugared_members xs) k)) (one_less key xs old new m i.0 i.1 is)),
      i.3,
    )

pub returns-clause-value : goal.returns-clause-value
returns-clause-value g c =
    let key = g.O.Order.key in
    let none : length c.loop-member.members.items ≡ 0 = (let own = c.loop-member.members.ok.0 in let empties = c.in_default.ensures.cases in omega (arith, own, empties.0)) in
    c.loop-member.invariant.2 ∙ ap (λ k. sort_by_lead key (kept_from key (sugared_members c.args.members.items) k)) none ∙ ap (sort_by_lead key) (kept_from-zero key (sugared_members c.args.members.items))
