use Rattle.std.proofs.Common.{subst}
use Rattle.std.specs.Int.{w32}
use Rattle.std.proofs.lemmas.Int.{to_z-of_z}
use Rattle.i_shape_tool.specs.Steps.Numeral.{EndsWord}
use Rattle.i_shape_tool.proofs.Reading.Numerals.{says_last, says_before, no_number, number_of_word}
use Rattle.i_shape_tool.proofs.number.first_number.Goals as goal

pub returns-in_err-size-clause-no_decimal : goal.returns-in_err-size-clause-no_decimal
returns-in_err-size-clause-no_decimal c =
    rw c.from_residual.ensures (no_number c.args.text.now c.without_sign-negative.result.1.now c.without_sign-negative.ensures.left c.in_err-size.ensures.none)

pub returns-in_err-number-clause-no_decimal : goal.returns-in_err-number-clause-no_decimal
returns-in_err-number-clause-no_decimal c =
    let sign = c.without_sign-negative in
    rw c.from_residual-in_err-number.ensures
    (λ word more z words decimal. c.in_err-number.ensures.none (number_of_word c.args.text.now sign.result.1.now c.in_ok-size.rest.now sign.result.0 c.in_ok-size.size sign.ensures.minus sign.ensures.left c.in_ok-size.ensures.writes word more z words decimal).0)

pub returns-in_default-clause-says : goal.returns-in_default-clause-says
returns-in_default-clause-says c =
    let sign = c.without_sign-negative in
    let number = c.in_ok-number.ensures.number in
    rw (to_z-of_z w32 c.in_ok-number.number number.1)
    (says_last c.args.text.now sign.result.1.now c.in_ok-size.rest.now sign.result.0 c.in_ok-size.size c.in_ok-number.number sign.ensures.minus sign.ensures.left c.in_ok-size.ensures.writes number.0 number.1 c.in_default.ensures.cases)

pub returns-then-next-ne32-clause-no_decimal : goal.returns-then-next-ne32-clause-no_decimal
returns-then-next-ne32-clause-no_decimal c =
    let sign = c.without_sign-negative in
    λ word more z words decimal. c.if-next-ne32.true
    (subst EndsWord c.in-Some.ensures.cases.0 (number_of_word c.args.text.now sign.result.1.now c.in_ok-size.rest.now sign.result.0 c.in_ok-size.size sign.ensures.minus sign.ensures.left c.in_ok-size.ensures.writes word more z words decimal).1)

pub returns-clause-says : goal.returns-clause-says
returns-clause-says c =
    let sign = c.without_sign-negative in
    let number = c.in_ok-number.ensures.number in
    rw (to_z-of_z w32 c.in_ok-number.number number.1)
    (says_before c.args.text.now sign.result.1.now c.in_ok-size.rest.now c.in-Some.rest.now c.in-Some.next.now sign.result.0 c.in_ok-size.size c.in_ok-number.number sign.ensures.minus sign.ensures.left c.in_ok-size.ensures.writes number.0 number.1 c.in-Some.ensures.cases.0 c.if-next-ne32.false)
