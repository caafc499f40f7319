use Rattle.std.proofs.Common.{◌≡◌, ◌+◌, ◌-◌, ◌<◌, length, arith}
use Rattle.std.proofs.lemmas.Fmt.{decimal_digit}
use Rattle.std.proofs.lemmas.List.{drop-set}
use Rattle.i_shape_tool.proofs.Showing.Decimals.{length_one}
use Rattle.i_shape_tool.proofs.decimal.write_digits.Goals as goal

pub returns-clause-written : goal.returns-clause-written
returns-clause-written c =
    let l = c.loop-left in
    let long = length_one l.left c.if-left-ge10.false in
    let back : l.start - 1 + 1 ≡ l.start = omega (arith, long, l.invariant.0) in
    let inside : l.start - 1 < length l.text = omega (arith, long, l.invariant.0, l.invariant.1, l.auto.text, c.requires.1) in
    rw (drop-set l.text (l.start - 1) (48 + l.left) inside, back) (rw (decimal_digit l.left c.if-left-ge10.false) at l.invariant.3)
