use Rattle.std.proofs.Common.{◌≡◌, ◌+◌, ◌<◌, ◌≤◌, ℕ, List, Bool, length, replicate, max, false, ap, sym, subst, ◌∙◌, arith}
use Rattle.std.proofs.lemmas.List.{length-replicate}
use Rattle.std.proofs.lemmas.List.Elements.{All-contains}
use Rattle.fj_shell.specs.Named.{places_in}
use Rattle.fj_session.proofs.Marks.{AreMarkedTo, marked_all, marked_next, marked_start, max_below, none_marked}
use Rattle.fj_session.proofs.Stated.{places_known, session_known}
use Rattle.fj_session.proofs.lets.marks_of.Goals as goal

pub loop-above-init : goal.loop-above-init
loop-above-init c =
    let q = c.args.question.now in
    let first = c.names_in-first.result.0 in
    let second = c.names_in-first.result.1 in
    let are : c.in_ok-marks.marks.items ≡ replicate (c.max.result + 1) false = c.in_ok-marks.ensures.items_if_clones_equal (λ y e. e) in
    let known = places_known c.args.env.now q c.requires in
    let one = All-contains (λ j. j < length c.args.env.now.values) (places_in q) first known c.names_in-first.ensures.first_there in
    let two = All-contains (λ j. j < length c.args.env.now.values) (places_in q) second known c.names_in-first.ensures.second_there in
    let top = max_below first second (length c.args.env.now.values) one two in
    let greatest = c.max.ensures in
    let counted = c.len-count.ensures ∙ c.mark_names.new.marks.ok.0 in
    let kept = c.mark_names.ensures.long in
    let long : length c.in_ok-marks.marks.items ≡ c.max.result + 1 = ap length are ∙ length-replicate (c.max.result + 1) false in
    marked_start (none_marked (c.max.result + 1) are) (sym counted) (omega (arith, top, greatest, counted, kept, long)) c.mark_names.ensures

pub loop-above-preserved : goal.loop-above-preserved
loop-above-preserved c =
    let more = c.loop-above-test.true in
    marked_next (omega (arith, more)) c.loop-above.invariant c.mark_named.ensures

pub returns : goal.returns
returns c =
    let done = c.loop-above-test.false in
    let past = c.loop-above.auto.above-end in
    let all : c.loop-above.above ≡ c.len-count.result = omega (arith, done, past) in
    marked_all (subst (λ i. AreMarkedTo c.args.env.now c.args.question.now c.len-count.result i c.loop-above.marks.items) all c.loop-above.invariant)
