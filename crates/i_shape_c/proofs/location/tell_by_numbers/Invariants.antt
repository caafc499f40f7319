use Rattle.std.proofs.Common.{◌≡◌, take, drop}
use Rattle.std.specs.List.{AllZip}
use Rattle.i_shape_c.proofs.location.tell_by_numbers.Given as goal

abbrev pub invariant-loop-place : goal.invariant-loop-place
invariant-loop-place g l = record {
  each : AllZip (g.T.Telling.tells l.rule) (take l.place l.numbers) (take l.place l.out);
  rest : drop l.place l.out ≡ drop l.place l.fn.out;
}
