-- Parts of a flat buffer that are lent to be written.
use Rattle.std.specs.Prelude.{ℕ, List, [], ◌∷◌}
use Rattle.std.specs.Borrow.{Lends, MutBor, Fml, RattleType, Array}
use Rattle.std.specs.Vec.{with_items_from}
use Rattle.std.specs.declared.ops.Range.{Range}
use Rattle.i_shape_core.specs.declared.point.IntPoint.{IntPoint}
use Rattle.i_shape.specs.declared.flat.buffer.contours.FlatContoursBuffer.{FlatContoursBuffer}
use Rattle.i_shape.specs.contracts.flat.buffer.contours.FlatContoursBuffer.{the_row}
use Rattle.i_shape_core.specs.contracts.point.IntPoint.{the_row as point_row}

-- the start of the first contour
abbrev pub first_start : List (Range ℕ) → ℕ
first_start [] = 0
first_start (range ∷ ranges) = range.start

-- the buffer with these points written over its first contour
abbrev pub with_first : {T : Type 0} → FlatContoursBuffer T → List (IntPoint T) → FlatContoursBuffer T
with_first buffer contour = record buffer { points = with_items_from buffer.points (first_start buffer.ranges.items) contour }

-- r borrows the first contour of the buffer, which ends with r's last value written over that contour
abbrev pub LendsFirst : (T : RattleType) → MutBor (FlatContoursBuffer T.Denot) → MutBor (List (IntPoint T.Denot)) → Fml
LendsFirst T buffer r = Lends (the_row T) (Array (point_row T) 0) buffer r (with_first buffer.now)
