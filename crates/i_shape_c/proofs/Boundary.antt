-- Points of C, and what cleaning leaves of them.
use Rattle.std.proofs.Common.{◌≡◌, ℕ, ℤ, List, map, take, ap, ◌∙◌, All}
use Rattle.std.specs.Int.{Width}
use Rattle.std.proofs.lemmas.Simd.{map-map}
use Rattle.std.proofs.lemmas.List.Elements.{All-map}
use Rattle.i_shape_core.proofs.Common.{point_of, contour_of, IsSafe, Point}
use Rattle.i_shape.specs.IntPoints.{IntPoint}
use Rattle.i_shape.specs.Cleaning.{Cleaning}
use Rattle.i_shape.specs.Written.{IsWritten}
use Rattle.i_shape_c.specs.Cleaned.{AreSafe}

module _ {P I : Type 0} (width : Width) (value : I → ℤ) (to : P → IntPoint I) where
  -- copying points and reading them returns the points that they represent
  pub copied_points : (given : List P) (copy : List (IntPoint I)) → copy ≡ map to given → contour_of value copy ≡ map (λ p. point_of value (to p)) given
  copied_points given copy is = ap (contour_of value) is ∙ map-map (point_of value) to given

  -- copied points are safe if the given ones are
  pub safe_contour : (given : List P) (copy : List (IntPoint I)) → copy ≡ map to given → AreSafe width (λ p. point_of value (to p)) given → All (IsSafe width) (contour_of value copy)
  safe_contour given copy is safe = rw (copied_points given copy is) (All-map (IsSafe width) (λ p. point_of value (to p)) given safe)

-- `IsWritten` holds by one way of reading lists if it does by an equal one
pub written_as : {P : Type 0} (cleaning : Cleaning) (width : Width) (read other : List P → List Point) (given old new : List P) (n : ℕ) → ((list : List P) → read list ≡ other list)
    → IsWritten cleaning width read given old new n → IsWritten cleaning width other given old new n
written_as cleaning width read other given old new n same written = record {
  fewer = written.fewer;
  picked = written.picked;
  cleaned = rw (← same given, ← same (take n new)) written.cleaned;
  rest = written.rest;
}
