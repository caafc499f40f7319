use Rattle.std.proofs.Common.{◌≡◌, ◌++◌, take, drop, map, cond, nat_eq}
use Rattle.i_shape_touching.proofs.circles.relabel.Given as goal

abbrev pub invariant-loop-label : goal.invariant-loop-label
invariant-loop-label l = l.labels ≡ map (λ label. cond (nat_eq label l.left) l.kept label) (take l.label-index l.fn.labels) ++ drop l.label-index l.fn.labels
