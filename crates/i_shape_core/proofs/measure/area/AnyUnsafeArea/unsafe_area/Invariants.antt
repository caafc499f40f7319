use Rattle.i_shape_core.proofs.Sums.AreaWalk.{IsSummed}
use Rattle.i_shape_core.proofs.measure.area.AnyUnsafeArea.unsafe_area.Given as goal

abbrev pub invariant-loop-point : goal.invariant-loop-point
invariant-loop-point g l = IsSummed g.I.IntNumber.value g.I.Wide.WideIntNumber.width l.first l.yielded l.previous (g.I.Wide.WideIntNumber.value l.area)
