use Rattle.std.proofs.Common.{◌≡◌, ◌+◌, ◌-◌, ◌<◌, ◌∙◌, ℕ, List, [], ◌∷◌, All, Contains, length, take, map, ◌==◌, sym, ap, subst, arith}
use Rattle.std.proofs.lemmas.List.Elements.{All-contains}
use Rattle.fj_theory.specs.Candidates.{IsCandidate}
use Rattle.fj_theory.specs.Exponents.{origin}
use Rattle.fj_theory.specs.Fraction.{Fraction}
use Rattle.fj_theory.specs.Polynomial.{Polynomial, IsPolynomial, term}
use Rattle.fj_theory.proofs.Field.{characteristic_large}
use Rattle.fj_plain.specs.declared.order_name.OrderName.TheVariants.{Grevlex}
use Rattle.fj_ideal.specs.Lists.{RunFor}
use Rattle.fj_ideal.proofs.Stops.{answered_from_nothing}
use Rattle.fj_testideal.specs.JumpList.{AreJumps, AreOpenGaps}
use Rattle.fj_testideal.specs.TestIdeal.{IsLeftLimit, IsTestIdeal}
use Rattle.fj_testideal.proofs.TestIdeal.{test_ideal-zero}
use Rattle.fj_jump.specs.Count.{RisesByFew, RisesWithinLength}
use Rattle.fj_jump.specs.Lists.{IsHighInSearch, IsSearchList}
use Rattle.fj_jump.specs.Rows.{gap_of, jump_of}
use Rattle.fj_jump.specs.Search.{AreFoundBetween, IsMadeOfLastList, RiseBetween, zero_fraction}
use Rattle.fj_jump.proofs.Count.{search_few, search_within}
use Rattle.fj_jump.proofs.Found.{all_jumps, are_candidates, gaps_from_rows, inner_candidate, inner_unit, jumps_from_rows, last_candidate, length_of_all, made_of_last, rise_from_zero, rows_of_all, some_candidate, unit_interval, without_last}
use Rattle.fj_jump.proofs.Settling.{added_more, empty_list, memory_answered, none_told, stop_at, stop_within}
use Rattle.fj_jump.proofs.bisecting.search.Goals as goal

pub unreachable-requires : goal.unreachable-requires
unreachable-requires g c =
    let F = g.K.Coeff.field in
    let L = g.met.K.Coeff.lawful in
    let xs = c.as_slice.result.now in
    let C = are_candidates F.characteristic c.P.result c.args.e c.in_ok-list.list.items xs (c.P.ensures ∙ g.met.K.Coeff.characteristic_is) c.as_slice.ensures.value c.in_ok-list.ensures in
    some_candidate F.characteristic c.args.e (omega (arith, characteristic_large L)) xs C c.requires.positive (empty_list xs (omega (arith, c.in_default.len_below)))

pub evaluate-requires : goal.evaluate-requires
evaluate-requires g c =
    let F = g.K.Coeff.field in
    let L = g.met.K.Coeff.lawful in
    let e = c.args.e in
    let xs = c.as_slice.result.now in
    let inner = take (length xs - 1) xs in
    let last = c.last-item.result in
    let large : 1 < F.characteristic = omega (arith, characteristic_large L) in
    let C = are_candidates F.characteristic c.P.result e c.in_ok-list.list.items xs (c.P.ensures ∙ g.met.K.Coeff.characteristic_is) c.as_slice.ensures.value c.in_ok-list.ensures in
    let parts = without_last xs last c.in-len1-up.len_at_least c.last-item.is in
    unit_interval F.characteristic e large xs C last (last_candidate F.characteristic e large xs C inner last parts)

pub returns-in_err-at-clause-within : goal.returns-in_err-at-clause-within
returns-in_err-at-clause-within g c =
    let F = g.K.Coeff.field in
    let L = g.met.K.Coeff.lawful in
    let e = c.args.e in
    let xs = c.as_slice.result.now in
    let inner = take (length xs - 1) xs in
    let last = c.last-item.result in
    let large : 1 < F.characteristic = omega (arith, characteristic_large L) in
    let C = are_candidates F.characteristic c.P.result e c.in_ok-list.list.items xs (c.P.ensures ∙ g.met.K.Coeff.characteristic_is) c.as_slice.ensures.value c.in_ok-list.ensures in
    let parts = without_last xs last c.in-len1-up.len_at_least c.last-item.is in
    subst (λ (p : ℕ). RisesWithinLength p e c.args.limits.now.evaluated c.evaluate.new.self.evaluated) (sym g.met.K.Coeff.characteristic_is)
    (search_within F.characteristic e xs c.args.limits.now.evaluated c.evaluate.new.self.evaluated C c.evaluate.ensures.not_below (omega (arith, c.evaluate.ensures.counted, c.in-len1-up.len_at_least)))

pub returns-in_err-at-clause-stop : goal.returns-in_err-at-clause-stop
returns-in_err-at-clause-stop g c =
    let F = g.K.Coeff.field in
    let L = g.met.K.Coeff.lawful in
    let e = c.args.e in
    let xs = c.as_slice.result.now in
    let inner = take (length xs - 1) xs in
    let last = c.last-item.result in
    let large : 1 < F.characteristic = omega (arith, characteristic_large L) in
    let C = are_candidates F.characteristic c.P.result e c.in_ok-list.list.items xs (c.P.ensures ∙ g.met.K.Coeff.characteristic_is) c.as_slice.ensures.value c.in_ok-list.ensures in
    let parts = without_last xs last c.in-len1-up.len_at_least c.last-item.is in
    stop_at F c.args.limits.now.f c.args.limits.now.pairs (IsCandidate F.characteristic e) last
    (All-contains (IsCandidate F.characteristic e) xs last C.sound (last_candidate F.characteristic e large xs C inner last parts))
    c.in_err-at.field-0.0 c.from_residual-in_err-at.result c.from_residual-in_err-at.ensures.1 c.in_err-at.ensures.stop

pub returns-in_err-at-clause-answered : goal.returns-in_err-at-clause-answered
returns-in_err-at-clause-answered g c =
    let F = g.K.Coeff.field in
    let f = c.args.limits.now.f in
    answered_from_nothing F c.args.limits.now.pairs (RunFor Grevlex (IsSearchList F f c.args.e)) (IsHighInSearch F f c.args.e) c.from_residual-in_err-at.result (returns-in_err-at-clause-stop g c)

pub settle-requires : goal.settle-requires
settle-requires g c =
    let F = g.K.Coeff.field in
    let L = g.met.K.Coeff.lawful in
    let e = c.args.e in
    let xs = c.as_slice.result.now in
    let inner = take (length xs - 1) xs in
    let last = c.last-item.result in
    let large : 1 < F.characteristic = omega (arith, characteristic_large L) in
    let C = are_candidates F.characteristic c.P.result e c.in_ok-list.list.items xs (c.P.ensures ∙ g.met.K.Coeff.characteristic_is) c.as_slice.ensures.value c.in_ok-list.ensures in
    let parts = without_last xs last c.in-len1-up.len_at_least c.last-item.is in
    let same : c.args.limits.now.f ≡ c.evaluate.new.self.f = sym c.evaluate.ensures.f in
    let A = c.evaluate.ensures.polynomial in
    let one : c.in_ok-whole.whole.given ≡ term 1 origin ∷ [] = ap (λ J. J.given) c.in_ok-whole.ensures in
    record {
      polynomial = subst (IsPolynomial F) same A;
      rising = subst (λ (z : Fraction). RiseBetween z inner last) (sym c.zero.ensures) (rise_from_zero F.characteristic e large xs C inner last parts);
      unit = inner_unit F.characteristic e large xs C inner last parts;
      test_ideal =
          subst (λ (h : Polynomial). IsTestIdeal F h c.zero.result c.in_ok-whole.whole.given) same
          (subst (λ (S : List Polynomial). IsTestIdeal F c.args.limits.now.f c.zero.result S) (sym one)
          (test_ideal-zero L A c.zero.result (ap (λ (z : Fraction). z.numerator) c.zero.ensures)));
      left_limit = subst (λ (h : Polynomial). IsLeftLimit F h last c.in_ok-at.left.given) same c.in_ok-at.ensures.left_limit;
    }

pub returns-in_err-found-clause-within : goal.returns-in_err-found-clause-within
returns-in_err-found-clause-within g c =
    let F = g.K.Coeff.field in
    let L = g.met.K.Coeff.lawful in
    let e = c.args.e in
    let xs = c.as_slice.result.now in
    let inner = take (length xs - 1) xs in
    let last = c.last-item.result in
    let large : 1 < F.characteristic = omega (arith, characteristic_large L) in
    let C = are_candidates F.characteristic c.P.result e c.in_ok-list.list.items xs (c.P.ensures ∙ g.met.K.Coeff.characteristic_is) c.as_slice.ensures.value c.in_ok-list.ensures in
    let parts = without_last xs last c.in-len1-up.len_at_least c.last-item.is in
    let long = length_of_all xs inner last parts in
    subst (λ (p : ℕ). RisesWithinLength p e c.args.limits.now.evaluated c.settle.new.limits.evaluated) (sym g.met.K.Coeff.characteristic_is)
    (search_within F.characteristic e xs c.args.limits.now.evaluated c.settle.new.limits.evaluated C (omega (arith, c.evaluate.ensures.not_below, c.settle.ensures.not_below))
    (omega (arith, c.evaluate.ensures.counted, c.settle.ensures.at_most, long)))

pub returns-in_err-found-clause-stop : goal.returns-in_err-found-clause-stop
returns-in_err-found-clause-stop g c =
    let F = g.K.Coeff.field in
    let L = g.met.K.Coeff.lawful in
    let e = c.args.e in
    let xs = c.as_slice.result.now in
    let inner = take (length xs - 1) xs in
    let last = c.last-item.result in
    let large : 1 < F.characteristic = omega (arith, characteristic_large L) in
    let C = are_candidates F.characteristic c.P.result e c.in_ok-list.list.items xs (c.P.ensures ∙ g.met.K.Coeff.characteristic_is) c.as_slice.ensures.value c.in_ok-list.ensures in
    let parts = without_last xs last c.in-len1-up.len_at_least c.last-item.is in
    stop_within F c.args.limits.now.f c.args.limits.now.pairs (IsCandidate F.characteristic e) (Contains inner)
    (λ t there. All-contains (IsCandidate F.characteristic e) xs t C.sound (inner_candidate F.characteristic e large xs C inner last parts t there))
    c.evaluate.new.self.f c.evaluate.new.self.pairs c.evaluate.ensures.f c.evaluate.ensures.pairs
    c.in_err-found.field-0.0 c.from_residual-in_err-found.result c.from_residual-in_err-found.ensures.1 c.in_err-found.ensures.stop

pub returns-in_err-found-clause-answered : goal.returns-in_err-found-clause-answered
returns-in_err-found-clause-answered g c =
    let F = g.K.Coeff.field in
    let f = c.args.limits.now.f in
    answered_from_nothing F c.args.limits.now.pairs (RunFor Grevlex (IsSearchList F f c.args.e)) (IsHighInSearch F f c.args.e) c.from_residual-in_err-found.result (returns-in_err-found-clause-stop g c)

pub returns-in_err-push_where_changed-clause-within : goal.returns-in_err-push_where_changed-clause-within
returns-in_err-push_where_changed-clause-within g c =
    let F = g.K.Coeff.field in
    let L = g.met.K.Coeff.lawful in
    let e = c.args.e in
    let xs = c.as_slice.result.now in
    let inner = take (length xs - 1) xs in
    let last = c.last-item.result in
    let large : 1 < F.characteristic = omega (arith, characteristic_large L) in
    let C = are_candidates F.characteristic c.P.result e c.in_ok-list.list.items xs (c.P.ensures ∙ g.met.K.Coeff.characteristic_is) c.as_slice.ensures.value c.in_ok-list.ensures in
    let parts = without_last xs last c.in-len1-up.len_at_least c.last-item.is in
    let long = length_of_all xs inner last parts in
    subst (λ (p : ℕ). RisesWithinLength p e c.args.limits.now.evaluated c.settle.new.limits.evaluated) (sym g.met.K.Coeff.characteristic_is)
    (search_within F.characteristic e xs c.args.limits.now.evaluated c.settle.new.limits.evaluated C (omega (arith, c.evaluate.ensures.not_below, c.settle.ensures.not_below))
    (omega (arith, c.evaluate.ensures.counted, c.settle.ensures.at_most, long)))

pub returns-in_err-push_where_changed-clause-answered : goal.returns-in_err-push_where_changed-clause-answered
returns-in_err-push_where_changed-clause-answered g c = λ none. memory_answered c.from_residual-in_err-push_where_changed.result c.from_residual-in_err-push_where_changed.ensures.1

pub returns-clause-jumps : goal.returns-clause-jumps
returns-clause-jumps g c =
    let F = g.K.Coeff.field in
    let L = g.met.K.Coeff.lawful in
    let e = c.args.e in
    let xs = c.as_slice.result.now in
    let inner = take (length xs - 1) xs in
    let last = c.last-item.result in
    let large : 1 < F.characteristic = omega (arith, characteristic_large L) in
    let C = are_candidates F.characteristic c.P.result e c.in_ok-list.list.items xs (c.P.ensures ∙ g.met.K.Coeff.characteristic_is) c.as_slice.ensures.value c.in_ok-list.ensures in
    let parts = without_last xs last c.in-len1-up.len_at_least c.last-item.is in
    let f = c.args.limits.now.f in
    let A = c.evaluate.ensures.polynomial in
    let unit = unit_interval F.characteristic e large xs C last (last_candidate F.characteristic e large xs C inner last parts) in
    let rows = c.push_where_changed.new.rows.items in
    let both = rows_of_all L A xs inner last parts c.in_ok-at.at c.in_ok-found.found.jumps.items rows c.in_ok-found.found.gaps.items unit.above_zero
    c.in_ok-at.ensures.left_limit c.in_ok-at.ensures.test_ideal c.in_ok-at.ensures.test_list c.in_ok-at.ensures.ideals.0
    (subst (λ (h : Polynomial). AreFoundBetween {K = g.row.K.Denot} F h zero_fraction inner last c.in_ok-found.found.jumps.items c.in_ok-found.found.gaps.items) c.evaluate.ensures.f
    (subst (λ (z : Fraction). AreFoundBetween {K = g.row.K.Denot} F c.evaluate.new.self.f z inner last c.in_ok-found.found.jumps.items c.in_ok-found.found.gaps.items) c.zero.ensures c.in_ok-found.ensures.found))
    c.in_ok-push_where_changed.ensures in
    subst (λ js. AreJumps F f e (map (jump_of {K = g.row.K.Denot}) js)) (sym c.of.ensures) (jumps_from_rows L A e xs C rows both.0)

pub returns-clause-unsettled : goal.returns-clause-unsettled
returns-clause-unsettled g c =
    let F = g.K.Coeff.field in
    let L = g.met.K.Coeff.lawful in
    let e = c.args.e in
    let xs = c.as_slice.result.now in
    let inner = take (length xs - 1) xs in
    let last = c.last-item.result in
    let large : 1 < F.characteristic = omega (arith, characteristic_large L) in
    let C = are_candidates F.characteristic c.P.result e c.in_ok-list.list.items xs (c.P.ensures ∙ g.met.K.Coeff.characteristic_is) c.as_slice.ensures.value c.in_ok-list.ensures in
    let parts = without_last xs last c.in-len1-up.len_at_least c.last-item.is in
    let f = c.args.limits.now.f in
    let A = c.evaluate.ensures.polynomial in
    let unit = unit_interval F.characteristic e large xs C last (last_candidate F.characteristic e large xs C inner last parts) in
    let rows = c.push_where_changed.new.rows.items in
    let both = rows_of_all L A xs inner last parts c.in_ok-at.at c.in_ok-found.found.jumps.items rows c.in_ok-found.found.gaps.items unit.above_zero
    c.in_ok-at.ensures.left_limit c.in_ok-at.ensures.test_ideal c.in_ok-at.ensures.test_list c.in_ok-at.ensures.ideals.0
    (subst (λ (h : Polynomial). AreFoundBetween {K = g.row.K.Denot} F h zero_fraction inner last c.in_ok-found.found.jumps.items c.in_ok-found.found.gaps.items) c.evaluate.ensures.f
    (subst (λ (z : Fraction). AreFoundBetween {K = g.row.K.Denot} F c.evaluate.new.self.f z inner last c.in_ok-found.found.jumps.items c.in_ok-found.found.gaps.items) c.zero.ensures c.in_ok-found.ensures.found))
    c.in_ok-push_where_changed.ensures in
    subst (λ gs. AreOpenGaps F f e (map gap_of gs)) (sym c.of-2.ensures) (gaps_from_rows L f e xs C c.in_ok-found.found.gaps.items both.1)

pub returns-clause-complete : goal.returns-clause-complete
returns-clause-complete g c =
    let told = none_told c.in_ok-found.found.gaps.items c.is_empty-complete.result (c.is_empty-complete.ensures ∙ ap (λ n. n == 0) c.in_ok-found.found.gaps.ok.0) in (
      λ complete. c.of-2.ensures ∙ told.0 complete,
      λ none. told.1 (sym c.of-2.ensures ∙ none),
    )

pub returns-clause-all : goal.returns-clause-all
returns-clause-all g c =
    λ told t unit. all_jumps g.met.K.Coeff.lawful c.evaluate.ensures.polynomial c.args.e c.requires.positive c.of.result c.of-2.result (returns-clause-jumps g c) (returns-clause-unsettled g c)
    ((returns-clause-complete g c).0 told) t unit

pub returns-clause-ideals : goal.returns-clause-ideals
returns-clause-ideals g c =
    let F = g.K.Coeff.field in
    let L = g.met.K.Coeff.lawful in
    let e = c.args.e in
    let xs = c.as_slice.result.now in
    let inner = take (length xs - 1) xs in
    let last = c.last-item.result in
    let large : 1 < F.characteristic = omega (arith, characteristic_large L) in
    let C = are_candidates F.characteristic c.P.result e c.in_ok-list.list.items xs (c.P.ensures ∙ g.met.K.Coeff.characteristic_is) c.as_slice.ensures.value c.in_ok-list.ensures in
    let parts = without_last xs last c.in-len1-up.len_at_least c.last-item.is in
    let f = c.args.limits.now.f in
    let A = c.evaluate.ensures.polynomial in
    let unit = unit_interval F.characteristic e large xs C last (last_candidate F.characteristic e large xs C inner last parts) in
    let rows = c.push_where_changed.new.rows.items in
    let both = rows_of_all L A xs inner last parts c.in_ok-at.at c.in_ok-found.found.jumps.items rows c.in_ok-found.found.gaps.items unit.above_zero
    c.in_ok-at.ensures.left_limit c.in_ok-at.ensures.test_ideal c.in_ok-at.ensures.test_list c.in_ok-at.ensures.ideals.0
    (subst (λ (h : Polynomial). AreFoundBetween {K = g.row.K.Denot} F h zero_fraction inner last c.in_ok-found.found.jumps.items c.in_ok-found.found.gaps.items) c.evaluate.ensures.f
    (subst (λ (z : Fraction). AreFoundBetween {K = g.row.K.Denot} F c.evaluate.new.self.f z inner last c.in_ok-found.found.jumps.items c.in_ok-found.found.gaps.items) c.zero.ensures c.in_ok-found.ensures.found))
    c.in_ok-push_where_changed.ensures in
    subst (All (IsMadeOfLastList {K = g.row.K.Denot} F f)) (sym c.of.ensures) (made_of_last L A xs rows both.0)

pub returns-clause-few : goal.returns-clause-few
returns-clause-few g c =
    let F = g.K.Coeff.field in
    let L = g.met.K.Coeff.lawful in
    let e = c.args.e in
    let xs = c.as_slice.result.now in
    let inner = take (length xs - 1) xs in
    let last = c.last-item.result in
    let large : 1 < F.characteristic = omega (arith, characteristic_large L) in
    let C = are_candidates F.characteristic c.P.result e c.in_ok-list.list.items xs (c.P.ensures ∙ g.met.K.Coeff.characteristic_is) c.as_slice.ensures.value c.in_ok-list.ensures in
    let parts = without_last xs last c.in-len1-up.len_at_least c.last-item.is in
    let jumps = ap length c.of.ensures in
    let gaps = ap length c.of-2.ensures in
    let more = added_more F last c.in_ok-at.left.given c.in_ok-at.at c.in_ok-found.found.jumps.items c.push_where_changed.new.rows.items c.in_ok-push_where_changed.ensures in
    subst (λ (p : ℕ). RisesByFew p e (length c.of.result + length c.of-2.result) c.args.limits.now.evaluated c.settle.new.limits.evaluated) (sym g.met.K.Coeff.characteristic_is)
    (search_few F.characteristic e xs (length inner) (length c.of.result + length c.of-2.result) (length c.in_ok-found.found.jumps.items + length c.in_ok-found.found.gaps.items)
    c.args.limits.now.evaluated c.evaluate.new.self.evaluated c.settle.new.limits.evaluated C (length_of_all xs inner last parts) (omega (arith, c.evaluate.ensures.counted)) c.in_ok-found.ensures.few
    (omega (arith, jumps, gaps, more)))

pub returns-clause-within : goal.returns-clause-within
returns-clause-within g c =
    let F = g.K.Coeff.field in
    let L = g.met.K.Coeff.lawful in
    let e = c.args.e in
    let xs = c.as_slice.result.now in
    let inner = take (length xs - 1) xs in
    let last = c.last-item.result in
    let large : 1 < F.characteristic = omega (arith, characteristic_large L) in
    let C = are_candidates F.characteristic c.P.result e c.in_ok-list.list.items xs (c.P.ensures ∙ g.met.K.Coeff.characteristic_is) c.as_slice.ensures.value c.in_ok-list.ensures in
    let parts = without_last xs last c.in-len1-up.len_at_least c.last-item.is in
    let long = length_of_all xs inner last parts in
    subst (λ (p : ℕ). RisesWithinLength p e c.args.limits.now.evaluated c.settle.new.limits.evaluated) (sym g.met.K.Coeff.characteristic_is)
    (search_within F.characteristic e xs c.args.limits.now.evaluated c.settle.new.limits.evaluated C (omega (arith, c.evaluate.ensures.not_below, c.settle.ensures.not_below))
    (omega (arith, c.evaluate.ensures.counted, c.settle.ensures.at_most, long)))
