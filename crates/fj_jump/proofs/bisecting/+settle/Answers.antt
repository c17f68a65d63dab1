use Rattle.std.proofs.Common.{◌≡◌, ◌+◌, ◌-◌, ℕ, List, [], ◌∷◌, Contains, length, drop, take, sym, ap₂, ◌∙◌, subst, true≢false, arith}
use Rattle.fj_theory.specs.Fraction.{Fraction}
use Rattle.fj_theory.specs.Polynomial.{Polynomial, IsPolynomial}
use Rattle.fj_testideal.specs.TestIdeal.{IsLeftLimit, IsTestIdeal}
use Rattle.fj_jump.specs.Count.{RisesByFewAmong}
use Rattle.fj_jump.specs.Search.{AreFoundBetween, RiseBetween}
use Rattle.fj_jump.proofs.Bisection.{open_by_ends, settled_by_ends}
use Rattle.fj_jump.proofs.Count.{few_halves}
use Rattle.fj_jump.proofs.Settling.{all_lower, all_upper, empty_list, found_as, found_in_halves, halves_fit, in_lower, in_middle, in_upper, lower_part, middle_length, middle_parts, none_in_halves, some_rows, stop_at, stop_within, upper_part}
use Rattle.fj_jump.proofs.bisecting.+settle.Goals as goal

pub returns-then-same-clause-found : goal.returns-then-same-clause-found
returns-then-same-clause-found g t c =
    found_as g.K.Coeff.field c.args.limits.now.f c.args.from.now c.args.inner.now c.args.to.now c.nothing.ensures.jumps c.nothing.ensures.gaps
    (settled_by_ends g.met.K.Coeff.lawful c.requires.polynomial c.args.from.now c.args.to.now c.args.inner.now c.requires.rising c.requires.test_ideal c.requires.left_limit
    (c.same.ensures.0 c.if-same.true))

pub returns-in_default-clause-found : goal.returns-in_default-clause-found
returns-in_default-clause-found g t c =
    let F = g.K.Coeff.field in
    let f = c.args.limits.now.f in
    let s = c.args.from.now in
    let u = c.args.to.now in
    let empty : c.args.inner.now ≡ [] = empty_list c.args.inner.now (omega (arith, c.split_at.ensures.back_len, c.in_default.len_below)) in
    found_as F f s c.args.inner.now u c.in_ok-open_gap.ensures.jumps c.in_ok-open_gap.ensures.gaps
    (subst (λ (ts : List Fraction). AreFoundBetween {K = g.row.K.Denot} F f s ts u [] (record { from = s; to = u } ∷ [])) (sym empty)
    (open_by_ends g.met.K.Coeff.lawful c.requires.polynomial s u (subst (λ (ts : List Fraction). RiseBetween s ts u) empty c.requires.rising) c.requires.test_ideal c.requires.left_limit
    (λ same. true≢false (sym (c.same.ensures.1 same) ∙ c.if-same.false))))

pub returns-in_err-at-clause-stop : goal.returns-in_err-at-clause-stop
returns-in_err-at-clause-stop g t c =
    let inner = c.args.inner.now in
    let rest = c.split_at.result.1.now in
    let m = c.middle-item.result in
    let parts = middle_parts inner c.split_at.result.0.now rest _ m c.split_at.ensures.front c.split_at.ensures.back c.in-len1-up.len_at_least c.middle-item.is in
    stop_at g.K.Coeff.field c.args.limits.now.f c.args.limits.now.pairs (Contains inner) m
    (in_middle c.args.from.now m c.args.to.now inner c.split_at.result.0.now (take (length rest - 1) (drop 1 rest)) parts)
    c.in_err-at.field-0.0 c.from_residual-in_err-at.result c.from_residual-in_err-at.ensures.1 c.in_err-at.ensures.stop

pub settle-requires : goal.settle-requires
settle-requires g t c κs within =
    let F = g.K.Coeff.field in
    let inner = c.args.inner.now in
    let below = c.split_at.result.0.now in
    let rest = c.split_at.result.1.now in
    let above = take (length rest - 1) (drop 1 rest) in
    let s = c.args.from.now in
    let m = c.middle-item.result in
    let u = c.args.to.now in
    let L = g.met.K.Coeff.lawful in
    let A = c.requires.polynomial in
    let parts = middle_parts inner below rest _ m c.split_at.ensures.front c.split_at.ensures.back c.in-len1-up.len_at_least c.middle-item.is in
    let same : c.args.limits.now.f ≡ c.evaluate.new.self.f = sym c.evaluate.ensures.f in (
      omega (arith, c.decreases, c.split_at.ensures.front_len, c.split_at.ensures.back_len, c.in-len1-up.len_at_least),
      (
        within,
        (
          subst (IsPolynomial F) same A,
          (
            lower_part s m u inner below above parts c.requires.rising,
            (
              all_lower s m u inner below above parts c.requires.unit,
              (
                subst (λ (h : Polynomial). IsTestIdeal F h s c.args.test_ideal.now.given) same c.requires.test_ideal,
                subst (λ (h : Polynomial). IsLeftLimit F h m c.in_ok-at.left.given) same c.in_ok-at.ensures.left_limit,
              ),
            ),
          ),
        ),
      ),
    )

pub returns-in_err-found-clause-stop : goal.returns-in_err-found-clause-stop
returns-in_err-found-clause-stop g t c =
    let inner = c.args.inner.now in
    let below = c.split_at.result.0.now in
    let rest = c.split_at.result.1.now in
    let m = c.middle-item.result in
    let parts = middle_parts inner below rest _ m c.split_at.ensures.front c.split_at.ensures.back c.in-len1-up.len_at_least c.middle-item.is in
    stop_within g.K.Coeff.field c.args.limits.now.f c.args.limits.now.pairs (Contains inner) (Contains below)
    (in_lower c.args.from.now m c.args.to.now inner below (take (length rest - 1) (drop 1 rest)) parts)
    c.evaluate.new.self.f c.evaluate.new.self.pairs c.evaluate.ensures.f c.evaluate.ensures.pairs
    c.in_err-found.field-0.0 c.from_residual-in_err-found.result c.from_residual-in_err-found.ensures.1 c.in_err-found.ensures.stop

pub settle-requires-2 : goal.settle-requires-2
settle-requires-2 g t c κs within =
    let F = g.K.Coeff.field in
    let inner = c.args.inner.now in
    let below = c.split_at.result.0.now in
    let rest = c.split_at.result.1.now in
    let above = take (length rest - 1) (drop 1 rest) in
    let s = c.args.from.now in
    let m = c.middle-item.result in
    let u = c.args.to.now in
    let L = g.met.K.Coeff.lawful in
    let A = c.requires.polynomial in
    let parts = middle_parts inner below rest _ m c.split_at.ensures.front c.split_at.ensures.back c.in-len1-up.len_at_least c.middle-item.is in
    let long = middle_length inner below above m parts in
    let same : c.args.limits.now.f ≡ c.settle.new.limits.f = sym (c.settle.ensures.f ∙ c.evaluate.ensures.f) in (
      omega (arith, c.decreases, long),
      (
        within,
        (
          subst (IsPolynomial F) same A,
          (
            upper_part s m u inner below above parts c.requires.rising,
            (
              all_upper s m u inner below above parts c.requires.unit,
              (
                subst (λ (h : Polynomial). IsTestIdeal F h m c.in_ok-at.at.given) same c.in_ok-at.ensures.test_ideal,
                subst (λ (h : Polynomial). IsLeftLimit F h u c.args.left_limit.now.given) same c.requires.left_limit,
              ),
            ),
          ),
        ),
      ),
    )

pub returns-in_err-others-clause-stop : goal.returns-in_err-others-clause-stop
returns-in_err-others-clause-stop g t c =
    let inner = c.args.inner.now in
    let below = c.split_at.result.0.now in
    let rest = c.split_at.result.1.now in
    let above = take (length rest - 1) (drop 1 rest) in
    let m = c.middle-item.result in
    let parts = middle_parts inner below rest _ m c.split_at.ensures.front c.split_at.ensures.back c.in-len1-up.len_at_least c.middle-item.is in
    stop_within g.K.Coeff.field c.args.limits.now.f c.args.limits.now.pairs (Contains inner) (Contains above)
    (in_upper c.args.from.now m c.args.to.now inner below above parts)
    c.settle.new.limits.f c.settle.new.limits.pairs (c.settle.ensures.f ∙ c.evaluate.ensures.f) (c.settle.ensures.pairs ∙ c.evaluate.ensures.pairs)
    c.in_err-others.field-0.0 c.from_residual-in_err-others.result c.from_residual-in_err-others.ensures.1 c.in_err-others.ensures.stop

pub returns-clause-found : goal.returns-clause-found
returns-clause-found g t c =
    let F = g.K.Coeff.field in
    let f = c.args.limits.now.f in
    let inner = c.args.inner.now in
    let below = c.split_at.result.0.now in
    let rest = c.split_at.result.1.now in
    let above = take (length rest - 1) (drop 1 rest) in
    let s = c.args.from.now in
    let m = c.middle-item.result in
    let u = c.args.to.now in
    let L = g.met.K.Coeff.lawful in
    let A = c.requires.polynomial in
    let parts = middle_parts inner below rest _ m c.split_at.ensures.front c.split_at.ensures.back c.in-len1-up.len_at_least c.middle-item.is in
    found_as F f s inner u c.in_ok-joined.ensures.jumps c.in_ok-joined.ensures.gaps
    (found_in_halves s m u inner below above parts L A c.in_ok-at.at c.in_ok-at.ensures.left_limit c.in_ok-at.ensures.test_ideal c.requires.unit c.in_ok-at.ensures.test_list c.in_ok-at.ensures.ideals.0
    (subst (λ (h : Polynomial). AreFoundBetween {K = g.row.K.Denot} F h s below m c.in_ok-found.found.jumps.items c.in_ok-found.found.gaps.items) c.evaluate.ensures.f c.in_ok-found.ensures.found)
    c.in_ok-push_where_changed.ensures
    (subst (λ (h : Polynomial). AreFoundBetween {K = g.row.K.Denot} F h m above u c.in_ok-others.others.jumps.items c.in_ok-others.others.gaps.items) (c.settle.ensures.f ∙ c.evaluate.ensures.f) c.in_ok-others.ensures.found))

pub returns-clause-none : goal.returns-clause-none
returns-clause-none g t c =
    let F = g.K.Coeff.field in
    let inner = c.args.inner.now in
    let below = c.split_at.result.0.now in
    let rest = c.split_at.result.1.now in
    let above = take (length rest - 1) (drop 1 rest) in
    let s = c.args.from.now in
    let m = c.middle-item.result in
    let u = c.args.to.now in
    let L = g.met.K.Coeff.lawful in
    let A = c.requires.polynomial in
    let parts = middle_parts inner below rest _ m c.split_at.ensures.front c.split_at.ensures.back c.in-len1-up.len_at_least c.middle-item.is in
    let rows = ap₂ (λ j h. length j + length h) c.in_ok-joined.ensures.jumps c.in_ok-joined.ensures.gaps in
    λ none. none_in_halves s m u inner below above parts L A c.in_ok-at.at c.in_ok-at.ensures.left_limit c.in_ok-at.ensures.test_ideal c.requires.test_ideal c.requires.left_limit
    c.in_ok-found.found.jumps.items c.push_where_changed.new.rows.items c.in_ok-others.others.jumps.items c.in_ok-found.found.gaps.items c.in_ok-others.others.gaps.items
    c.in_ok-found.ensures.none c.in_ok-push_where_changed.ensures c.in_ok-others.ensures.none (sym rows ∙ none)

pub returns-clause-few : goal.returns-clause-few
returns-clause-few g t c =
    let F = g.K.Coeff.field in
    let inner = c.args.inner.now in
    let below = c.split_at.result.0.now in
    let rest = c.split_at.result.1.now in
    let above = take (length rest - 1) (drop 1 rest) in
    let s = c.args.from.now in
    let m = c.middle-item.result in
    let u = c.args.to.now in
    let L = g.met.K.Coeff.lawful in
    let A = c.requires.polynomial in
    let parts = middle_parts inner below rest _ m c.split_at.ensures.front c.split_at.ensures.back c.in-len1-up.len_at_least c.middle-item.is in
    let rows = ap₂ (λ j h. length j + length h) c.in_ok-joined.ensures.jumps c.in_ok-joined.ensures.gaps in
    let some = some_rows _ (λ none. none_in_halves s m u inner below above parts L A c.in_ok-at.at c.in_ok-at.ensures.left_limit c.in_ok-at.ensures.test_ideal c.requires.test_ideal c.requires.left_limit
    c.in_ok-found.found.jumps.items c.push_where_changed.new.rows.items c.in_ok-others.others.jumps.items c.in_ok-found.found.gaps.items c.in_ok-others.others.gaps.items
    c.in_ok-found.ensures.none c.in_ok-push_where_changed.ensures c.in_ok-others.ensures.none none) (λ same. true≢false (sym (c.same.ensures.1 same) ∙ c.if-same.false)) in
    let fit = halves_fit F m c.in_ok-at.left.given c.in_ok-at.at c.in_ok-found.found.jumps.items _ c.in_ok-others.others.jumps.items c.in_ok-found.found.gaps.items c.in_ok-others.others.gaps.items c.in_ok-push_where_changed.ensures in
    subst (λ (n : ℕ). RisesByFewAmong (length inner) n c.args.limits.now.evaluated c.settle-2.new.limits.evaluated) (sym rows)
    (few_halves (length inner) (length below) (length above) _ _ _ c.args.limits.now.evaluated c.evaluate.new.self.evaluated c.settle.new.limits.evaluated c.settle-2.new.limits.evaluated
    c.split_at.ensures.front_len (middle_length inner below above m parts) (omega (arith, c.evaluate.ensures.counted)) c.in_ok-found.ensures.few c.in_ok-others.ensures.few fit some)
