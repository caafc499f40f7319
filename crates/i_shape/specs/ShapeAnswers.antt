-- What cleaning leaves of a shape and of a list of shapes. `Answer` relates a contour to its cleaned contour, or to
-- none if it collapses.
use Rattle.std.specs.Prelude.{◌≡◌, List, Option, ℕ, ◌<◌, ◌%◌, ℤ, [], ◌∷◌, length, map, get_or, Some, None, IfSome}
use Rattle.std.specs.Global.{Vec}
use Rattle.std.specs.Int.{Width}
use Rattle.std.specs.List.{count_by, sum_by, All}
use Rattle.i_shape_core.specs.IntPoint.{answered}
use Rattle.i_shape_core.specs.declared.point.IntPoint.{IntPoint}
use Rattle.i_shape_source.specs.ShapeLists.{shape_of, shapes_of, IsSafeShape, IsSafeList}
use Rattle.i_shape_core.specs.Point.{Point}
use Rattle.i_shape_core.specs.Edges.{edges, is_right, shoelace}
use Rattle.i_shape_core.specs.Moves.{moved, scaling}
use Rattle.i_shape_core.specs.Boundary.{IsOnEdge}
pub use Rattle.i_shape_core.specs.Edges.{sum_of}
pub use Rattle.i_shape_core.specs.Winding.{shape_winding}
pub use Rattle.i_shape_core.specs.Survivors.{Survivors}

-- twice the area of a shape is the sum over its contours
abbrev pub shape_shoelace : List (List Point) → ℤ
shape_shoelace contours = sum_of shoelace contours

-- twice the area of a list is the sum over its shapes
abbrev pub shapes_shoelace : List (List (List Point)) → ℤ
shapes_shoelace shapes = sum_of shape_shoelace shapes

-- the number of contours that p is inside: an odd number of their edges lie to the right of p
unfoldable pub inside_count : List (List Point) → Point → ℕ
inside_count contours p = sum_by (λ c. count_by (is_right p) (edges c) % 2) contours

-- p lies on an edge of one of the contours
pub record IsOnBoundary (contours : List (List Point)) (p : Point) : Type 0 where
  pub place : ℕ
  pub within : place < length contours
  pub on : IsOnEdge (get_or contours place []) p

-- the contour has at least one point
abbrev pub HasPoints : List Point → Type 0
HasPoints c = 0 < length c

-- there is an outer contour, and it has fewer than three points
abbrev pub HasShortOuter : List (List Point) → Type 0
HasShortOuter [] = ⊥
HasShortOuter (outer ∷ holes) = length outer < 3

-- a shape is left out if its outer contour collapses; otherwise its holes that collapse are left out; an empty shape
-- stays empty
abbrev pub ShapeClean : (List Point → Option (List Point) → Type 0) → List (List Point) → Option (List (List Point)) → Type 0
ShapeClean Answer [] r = r ≡ Some []
ShapeClean Answer (outer ∷ holes) None = Answer outer None
ShapeClean Answer (outer ∷ holes) (Some []) = ⊥
ShapeClean Answer (outer ∷ holes) (Some (contour ∷ kept)) = Answer outer (Some contour) × Survivors Answer holes kept

-- the cleaned shapes in order, without those that are left out
abbrev pub ListClean : (List Point → Option (List Point) → Type 0) → List (List (List Point)) → List (List (List Point)) → Type 0
ListClean Answer shapes kept = Survivors (ShapeClean Answer) shapes kept

-- the contours left have the same total double area; each point is inside as many of them and has the same total
-- winding number, also if all contours are scaled by any n
pub record AreKept (contours left : List (List Point)) : Type 0 where
  pub area : shape_shoelace left ≡ shape_shoelace contours
  pub inside : (p : Point) → inside_count left p ≡ inside_count contours p
  pub between : (n : ℤ) (p : Point) → shape_winding (map (moved (scaling n)) left) p ≡ shape_winding (map (moved (scaling n)) contours) p
  pub winding : (p : Point) → shape_winding left p ≡ shape_winding contours p

-- the cleaned shapes, each of which keeps its shape's measures
pub record ListKept (Answer : List Point → Option (List Point) → Type 0) (shapes kept : List (List (List Point))) : Type 0 where
  pub each : Survivors (λ shape r. ShapeClean Answer shape r × IfSome r (AreKept shape)) shapes kept

-- r is the cleaned shape, keeps its measures, and is safe; `Answer` relates a contour to its cleaned contour
pub record IsCleanedShape (Answer : List Point → Option (List Point) → Type 0) (width : Width) (shape : List (List Point)) (r : Option (List (List Point))) : Type 0 where
  pub answer : ShapeClean Answer shape r
  pub kept : IfSome r (AreKept shape)
  pub safe : IfSome r (IsSafeShape width)

-- `left` is the cleaned list, keeps the measures of each shape, and is safe
pub record IsCleanedList (Answer : List Point → Option (List Point) → Type 0) (width : Width) (shapes left : List (List (List Point))) : Type 0 where
  pub answer : ListClean Answer shapes left
  pub kept : ListKept Answer shapes left
  pub safe : IsSafeList width left

-- r is the cleaned shape in points of the program; `value` returns the number that a coordinate represents
abbrev pub CleansShapeTo : {I : Type 0} → (List Point → Option (List Point) → Type 0) → Width → (I → ℤ) → List (List Point) → Option (Vec (Vec (IntPoint I))) → Type 0
CleansShapeTo Answer width value shape r = IsCleanedShape Answer width shape (answered (shape_of value) r)

abbrev pub CleansListTo : {I : Type 0} → (List Point → Option (List Point) → Type 0) → Width → (I → ℤ) → List (List (List Point)) → Vec (Vec (Vec (IntPoint I))) → Type 0
CleansListTo Answer width value shapes r = IsCleanedList Answer width shapes (shapes_of value r.items)

-- each contour of the shape passes its test
abbrev pub EachContour : (List Point → Type 0) → List (List Point) → Type 0
EachContour Passes shape = All Passes shape

-- each contour of each shape passes its test
abbrev pub EachShape : (List Point → Type 0) → List (List (List Point)) → Type 0
EachShape Passes shapes = All (EachContour Passes) shapes
