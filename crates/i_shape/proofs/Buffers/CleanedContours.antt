-- Cleaning inside a flat buffer.
use Rattle.std.proofs.Common.{◌≡◌, ℕ, ◌+◌, ◌<◌, ◌≤◌, ℤ, List, length, get_or, take, map, refl, Option, Some, None, option_map, All, option_to_list, take_all}
use Rattle.i_shape.proofs.Common.{Range, Point, contour_of, IntPoint, part_of, slices}
use Rattle.std.proofs.lemmas.Simd.{map-map}
use Rattle.i_shape.proofs.Lists.Surviving.{same_read, mapped-read, mapped-more}

-- the contour that a range of points names, in unbounded integers
abbrev pub contour_at : {T : Type 0} → (T → ℤ) → List (IntPoint T) → Range ℕ → List Point
contour_at value points range = contour_of value (part_of points range)

-- the contours of the slices are those that the ranges name, one by one
pub contours_in-map : {T : Type 0} (value : T → ℤ) (points : List (IntPoint T)) (ranges : List (Range ℕ)) → map (contour_of value) (slices points ranges) ≡ map (contour_at value points) ranges
contours_in-map value points ranges = map-map (contour_of value) (part_of points) ranges

-- A loop over ranges, at index i.
module _ {T : Type 0} (value : T → ℤ) (points : List (IntPoint T)) (ranges : List (Range ℕ)) (i : ℕ) (d : Range ℕ) (lt : i < length ranges) where
  -- what holds of all contours holds of the one that range i names
  pub contour-read : (P : List Point → Type 0) → All P (map (contour_of value) (slices points ranges)) → P (contour_at value points (get_or ranges i d))
  contour-read P all = mapped-read (contour_at value points) P ranges i (get_or ranges i d) lt (same_read ranges i d lt) (rw (contours_in-map value points ranges) at all)

  -- if P holds of the first i contours and of the next, it holds of the first i + 1
  pub contours-more : (P : List Point → Type 0) → All P (map (contour_at value points) (take i ranges)) → P (contour_at value points (get_or ranges i d)) →
      All P (map (contour_at value points) (take (i + 1) ranges))
  contours-more P before here = mapped-more (contour_at value points) P ranges i (get_or ranges i d) lt (same_read ranges i d lt) before here

-- at the end of the loop, P of the contours of the first i ranges is P of all contours
pub contours-all : {T : Type 0} (value : T → ℤ) (points : List (IntPoint T)) (ranges : List (Range ℕ)) (i : ℕ) (P : List (List Point) → Type 0) → length ranges ≤ i →
    P (map (contour_at value points) (take i ranges)) → P (map (contour_of value) (slices points ranges))
contours-all value points ranges i P done holds = rw (contours_in-map value points ranges) (rw (take_all i ranges done) at holds)

-- mapping an answer and listing it is listing it and mapping the list
pub map-option_to_list : {X Y : Type 0} (f : X → Y) (a : Option X) → map f (option_to_list a) ≡ option_to_list (option_map f a)
map-option_to_list f None = refl
map-option_to_list f (Some x) = refl
