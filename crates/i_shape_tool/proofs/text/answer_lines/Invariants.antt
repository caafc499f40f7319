use Rattle.std.proofs.Common.{length, string_bytes}
use denote.Text.{Utf8}
use denote.Shadow.{shadow}
use Rattle.i_shape_tool.proofs.Running.Lines.{HasAnswered}
use Rattle.i_shape_tool.proofs.text.answer_lines.Given as goal

abbrev pub invariant-loop-rest : goal.invariant-loop-rest
invariant-loop-rest g l = shadow (Utf8 l.rest) × HasAnswered l.command g.A.ContourAnswer.answers l.text l.rest (string_bytes l.output) l.number

abbrev pub decreases-loop-rest : goal.decreases-loop-rest
decreases-loop-rest g l = length l.rest
