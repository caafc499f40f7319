-- The plane at twice its size, in which the middle between two points has whole coordinates.
use Rattle.std.specs.Prelude.{◌+ℤ◌, ℤ}
use Rattle.i_shape_core.specs.Point.{Point}
use Rattle.i_shape_core.specs.Edges.{Edge}
use Rattle.i_shape_core.specs.IntPoint.{point_of}
use Rattle.i_shape_core.specs.declared.point.IntPoint.{IntPoint}
use Rattle.i_shape_touching.specs.Places.{sum_of_points}
use Rattle.i_shape_touching.specs.declared.middle.Middle.{Middle}

-- twice the integer that a coordinate represents
abbrev pub doubled : {I : Type 0} → (I → ℤ) → I → ℤ
doubled value i = value i +ℤ value i

-- twice the point that a program's point represents
abbrev pub twice_point : {I : Type 0} → (I → ℤ) → IntPoint I → Point
twice_point value p = point_of (doubled value) p

-- twice the middle between the two points
abbrev pub twice_middle : {I : Type 0} → (I → ℤ) → Middle I → Point
twice_middle value m = sum_of_points (point_of value m.first) (point_of value m.second)

-- the edge from start to end, at twice its size
abbrev pub twice_edge : {I : Type 0} → (I → ℤ) → IntPoint I → IntPoint I → Edge
twice_edge value start end = record { start = twice_point value start; end = twice_point value end }
