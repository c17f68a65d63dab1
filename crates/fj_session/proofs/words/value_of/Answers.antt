use Rattle.std.proofs.Common.{◌≡◌, ◌<◌, ◌≤◌, ℕ, List, length, take, get_or, arith}
use Rattle.std.proofs.lemmas.Int.Digits.{digits_more, digits_value_more}
use Rattle.std.proofs.lemmas.List.{length-take-le}
use Rattle.std.proofs.lemmas.Str.{digit_value_digit}
use Rattle.std.proofs.lemmas.Str.Parse.{digit_at, digit_from_value, digits_value_short, numerals_by_value, tells_digits}
use Rattle.std.specs.Str.Parse.{AllDigits, digits_value}
use Rattle.fj_session.proofs.words.value_of.Goals as goal

-- The first digits write a number of four digits at most.
short : (ds : List ℕ) (i : ℕ) → i < length ds → length ds ≤ 4 → AllDigits 10 (take i ds) → digits_value 10 (take i ds) < 10000
short ds i within few digits =
    let long = length-take-le i ds (omega (arith, within)) in
    digits_value_short (numerals_by_value (AllDigits 10) tells_digits) (take i ds) 4 digits (omega (arith, long, within, few))

pub returns-then-not-is_ascii_digit-clause-none : goal.returns-then-not-is_ascii_digit-clause-none
returns-then-not-is_ascii_digit-clause-none c = λ none digits.
    let here = digit_at c.args.digits.now c.loop-digit.digit-index digits c.loop-digit-test.true in
    let other = c.if-not-is_ascii_digit.ensures.cases in
    absurd (omega (arith, here, other))

pub overflow_mul-value : goal.overflow_mul-value
overflow_mul-value c =
    let before = c.loop-digit.invariant in
    let small = short c.args.digits.now c.loop-digit.digit-index c.loop-digit-test.true c.requires before.0 in
    let value = before.1 in
    omega (arith, small, value)

pub overflow_add-value : goal.overflow_add-value
overflow_add-value c =
    let before = c.loop-digit.invariant in
    let small = short c.args.digits.now c.loop-digit.digit-index c.loop-digit-test.true c.requires before.0 in
    let value = before.1 in
    let digit = c.from.ensures in
    let bound = c.if-not-is_ascii_digit.ensures.cases in
    omega (arith, small, value, digit, bound)

pub loop-digit-preserved : goal.loop-digit-preserved
loop-digit-preserved c =
    let ds = c.args.digits.now in
    let i = c.loop-digit.digit-index in
    let before = c.loop-digit.invariant in
    let here = c.if-not-is_ascii_digit.ensures.bound in
    let digit = digit_value_digit (get_or ds i 0) (digit_from_value (get_or ds i 0) here) in
    let more = digits_value_more 10 ds i c.loop-digit-test.true in
    let value = before.1 in
    let number = c.from.ensures in
    (digits_more 10 ds i c.loop-digit-test.true before.0 here, omega (arith, digit, more, value, number))
