use Rattle.std.proofs.Common.{◌≤◌, ◌^◌, length}
use Rattle.i_shape_tool.proofs.Reading.Numerals.{HasTaken}
use Rattle.i_shape_tool.proofs.number.first_digits.Given as goal

abbrev pub invariant-loop-first : goal.invariant-loop-first
invariant-loop-first l = HasTaken l.text l.rest l.size × (l.size ≤ 2 ^ 31)

abbrev pub decreases-loop-first : goal.decreases-loop-first
decreases-loop-first l = length l.rest
