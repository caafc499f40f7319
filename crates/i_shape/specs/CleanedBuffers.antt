-- What a call that cleans within a flat buffer leaves.
use Rattle.std.specs.Prelude.{◌≡◌, ◌↔◌, Bool, true, false, Option, Result, Ok, List, ℤ, OnOk}
use Rattle.std.specs.Int.{Width}
use Rattle.std.specs.List.{All}
use Rattle.i_shape_core.specs.Point.{Point}
use Rattle.i_shape_core.specs.IntPoint.{IsSafe}
use Rattle.i_shape_core.specs.declared.error.ShapeError.{ShapeError}
use Rattle.i_shape_source.specs.ShapeLists.{IsSafeList}
use Rattle.i_shape.specs.declared.flat.buffer.contours.FlatContoursBuffer.{FlatContoursBuffer}
use Rattle.i_shape.specs.declared.flat.buffer.shapes.FlatShapesBuffer.{FlatShapesBuffer}
use Rattle.i_shape.specs.Flat.{slices}
use Rattle.i_shape.specs.Buffers.{CanReadContours, HoldsContours, contours_in, CanReadShapes, HoldsShapes, shapes_in, named_shapes}
use Rattle.i_shape.specs.ShapeAnswers.{Survivors, ListClean, EachShape, AreKept, ListKept}

-- `old` and `new` are a buffer before and after a call that cleans its contours and returned r. `Passes` is the test of
-- a contour, and `Answer` relates a contour to its cleaned contour
pub record CleansBuffer {T : Type 0} (Passes : List Point → Type 0) (Answer : List Point → Option (List Point) → Type 0) (width : Width) (value : T → ℤ) (old new : FlatContoursBuffer T) (r : Result Bool ShapeError) : Type 0 where
  -- without an error, the cleaned contours are left, in order, without those that collapse
  pub cleaned : OnOk r (Survivors Answer (contours_in value old) (contours_in value new))
  -- it returns false exactly if each contour passes
  pub clean : r ≡ Ok false ↔ All Passes (contours_in value old)
  -- whatever it returns, the contours together keep their double area, and about each point the inside count and the
  -- total winding number
  pub kept : AreKept (contours_in value old) (contours_in value new)
  -- unless it returns true, the buffer is unchanged
  pub unchanged : (r ≡ Ok true → ⊥) → new ≡ old
  -- if it returns true, the buffer holds the contours end to end, and nothing else
  pub end_to_end : r ≡ Ok true → HoldsContours new (slices new.points.items new.ranges.items)
  -- whatever it returns, the contours can be read
  pub readable : CanReadContours new
  -- whatever it returns, the contours have safe points
  pub safe : All (All (IsSafe width)) (contours_in value new)

-- `old` and `new` are a buffer before and after a call that cleans its shapes and returned r
pub record CleansShapesBuffer {T : Type 0} (Passes : List Point → Type 0) (Answer : List Point → Option (List Point) → Type 0) (width : Width) (value : T → ℤ) (old new : FlatShapesBuffer T) (r : Result Bool ShapeError) : Type 0 where
  -- without an error, the cleaned shapes are left, in order, without the contours that collapse and the shapes whose
  -- first contour collapses
  pub cleaned : OnOk r (ListClean Answer (named_shapes value old) (named_shapes value new))
  -- it returns false exactly if each contour of each shape passes
  pub clean : r ≡ Ok false ↔ EachShape Passes (named_shapes value old)
  -- without an error, each shape that is left keeps its double area, and about each point the inside count and the
  -- total winding number
  pub kept : OnOk r (ListKept Answer (named_shapes value old) (named_shapes value new))
  -- unless it returns true, the buffer is unchanged
  pub unchanged : (r ≡ Ok true → ⊥) → new ≡ old
  -- if it returns true, the buffer holds the shapes end to end, and nothing else
  pub end_to_end : r ≡ Ok true → HoldsShapes new (shapes_in new)
  -- whatever it returns, the shapes can be read
  pub readable : CanReadShapes new
  -- whatever it returns, the shapes have safe points
  pub safe : IsSafeList width (named_shapes value new)
