use Rattle.std.proofs.Common.{◌≡◌, take}
use Rattle.i_shape_c.specs.Validity.{rebased}
use Rattle.i_shape_c.proofs.validity.rebase.Given as goal

abbrev pub invariant-loop-place : goal.invariant-loop-place
invariant-loop-place l = take l.place l.own ≡ take l.place (rebased l.offsets)
