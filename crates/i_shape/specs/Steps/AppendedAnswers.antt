-- What steps of cleaning inside a flat buffer append. Only private functions cite this.
use Rattle.std.specs.Prelude.{◌≡◌, ◌++◌, ℕ, ℤ, List, Option, length, option_map}
use Rattle.std.specs.Option.{option_to_list}
use Rattle.std.specs.declared.ops.Range.{Range}
use Rattle.i_shape_core.specs.Point.{Point}
use Rattle.i_shape_core.specs.declared.point.IntPoint.{IntPoint}
use Rattle.i_shape.specs.declared.flat.buffer.shapes.FlatShapesBuffer.{FlatShapesBuffer}
use Rattle.i_shape_source.specs.Paths.{concatenated}
use Rattle.i_shape.specs.Flat.{end_to_end}
use Rattle.i_shape.specs.ShapeAnswers.{ShapeClean}
use Rattle.i_shape.specs.Buffers.{contours_of}

-- the points and ranges of `more` are appended to the lists
pub record Grows {T : Type 0} (points after : List (IntPoint T)) (ranges ranges_after : List (Range ℕ)) (more : List (List (IntPoint T))) : Type 0 where
  pub points_are : after ≡ points ++ concatenated more
  pub ranges_are : ranges_after ≡ ranges ++ end_to_end (length points) more

-- the new buffer is the old one with the shape's answer appended, or nothing if its outer contour collapses
pub record AppendsShapeAnswer {T : Type 0} (Answer : List Point → Option (List Point) → Type 0) (value : T → ℤ) (shape : List (List (IntPoint T))) (old new : FlatShapesBuffer T) : Type 0 where
  pub answer : Option (List (List (IntPoint T)))
  pub cleaned : ShapeClean Answer (contours_of value shape) (option_map (contours_of value) answer)
  pub grown : Grows old.points.items new.points.items old.contour_ranges.items new.contour_ranges.items (concatenated (option_to_list answer))
  pub shape_ranges : new.shape_ranges.items ≡ old.shape_ranges.items ++ end_to_end (length old.contour_ranges.items) (option_to_list answer)
