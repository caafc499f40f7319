use Rattle.std.proofs.Common.{◌≡◌, map, take, drop}
use Rattle.std.specs.List.{AllZip, range_with_len}
use Rattle.i_shape.specs.IntPoint.{point_of}
use Rattle.i_shape_c.specs.Kinds.{IsKindOfPair}
use Rattle.i_shape_c.proofs.kinds.write_kinds.Given as goal

abbrev pub invariant-loop-pair : goal.invariant-loop-pair
invariant-loop-pair g l = record {
  each : AllZip (IsKindOfPair (map (λ p. point_of g.P.Coordinate.IntNumber.value (g.P.ContourPoint.point p)) l.edges)) (range_with_len 0 l.pair) (take l.pair l.out);
  rest : drop l.pair l.out ≡ drop l.pair l.fn.out;
}
