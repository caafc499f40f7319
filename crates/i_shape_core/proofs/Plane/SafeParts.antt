-- Parts of a safe list.
use Rattle.std.proofs.Common.{◌≡◌, ◌<◌, ℕ, ℤ, List, map, length, get_or, arith, All}
use Rattle.std.specs.Int.{Width}
use Rattle.i_shape_core.proofs.Common.{point_of, contour_of, IsSafe, IntPoint}
use Rattle.i_shape_core.proofs.Plane.Contours.{read-safe}
use Rattle.i_shape_core.proofs.Plane.PointLists.{points-length, points-item}

-- a point that is read from a list of safe points is safe
pub item_safe : {A I : Type 0} (width : Width) (value : I → ℤ) (point : A → IntPoint I) (points : List A → List (IntPoint I)) (each : (list : List A) → points list ≡ map point list)
    → (list : List A) (k : ℕ) (a : A) (p : IntPoint I) → All (IsSafe width) (contour_of value (points list)) → p ≡ point a → k < length list → a ≡ get_or list k a → IsSafe width (point_of value p)
item_safe width value point points each list k a p safe is within read =
    read-safe width value (points list) k p safe (omega (arith, within, points-length point points each list)) (points-item point points each list k a p is within read)
