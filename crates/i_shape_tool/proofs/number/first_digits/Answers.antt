use Rattle.std.proofs.Common.{ℕ, ◌<◌, sym, subst, arith}
use Rattle.std.specs.Char.{digit_value, IsNotAsciiDigit}
use Rattle.std.proofs.lemmas.List.{nil_from_length}
use Rattle.std.proofs.lemmas.Str.Parse.{digit_from_value}
use Rattle.i_shape_tool.specs.Steps.Numeral.{EndsDigits}
use Rattle.i_shape_tool.proofs.Reading.Numerals.{take_digit, too_large, no_digits, ends_before}
use Rattle.i_shape_tool.proofs.number.first_digits.Goals as goal
use Rattle.i_shape_tool.proofs.number.first_digits.Goals.{in-Some+then-not-is_ascii_digit, in_default}

no_digit : (b : ℕ) → IsNotAsciiDigit b → digit_value b < 10 → ⊥
no_digit b not digit = let range = digit_from_value b digit in omega (arith, not, range)

pub returns-then-size-gt-LARGEST-clause-none : goal.returns-then-size-gt-LARGEST-clause-none
returns-then-size-gt-LARGEST-clause-none c =
    let more = take_digit c.args.text.now c.loop-first.rest.now c.in-Some.after.now c.in-Some.first.now c.loop-first.size c.from.result c.loop-first.invariant.0 c.in-Some.ensures.cases.0 c.if-not-is_ascii_digit.ensures.bound c.from.ensures in
    too_large c.args.text.now c.in-Some.after.now _ 2147483648 more c.if-size-gt-LARGEST.true

pub returns-then-rest-text-clause-none : goal.returns-then-rest-text-clause-none
returns-then-rest-text-clause-none c =
    let stops : EndsDigits c.loop-first.rest.now = elim c.match-split_first.branch [ in-Some+then-not-is_ascii_digit w ↦ ends_before c.loop-first.rest.now w.in-Some.after.now w.in-Some.first.now w.in-Some.ensures.cases.0 (no_digit w.in-Some.first.now w.if-not-is_ascii_digit.ensures.cases) | in_default w ↦ subst EndsDigits (sym (nil_from_length c.loop-first.rest.now w.in_default.ensures.cases)) tt ] in
    λ digits rest is ends numeral. absurd (no_digits c.args.text.now c.loop-first.rest.now c.loop-first.size c.loop-first.invariant.0 c.if-rest-text.true stops digits rest is ends numeral)
