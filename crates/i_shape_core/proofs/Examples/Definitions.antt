-- The definitions at literal contours.
use Rattle.std.proofs.Common.{◌≡◌, ℕ, ℤ, List, [], ◌∷◌, ◌++◌, pos, negsuc, refl, reverse, lit≤, lit<}
use Rattle.i_shape_core.specs.Point.{Point, cross, dot, IsZeroTurn}
use Rattle.i_shape_core.specs.Contour.{Reach, stay, step}
use Rattle.i_shape_core.specs.Edges.{shoelace, area_of_edge, Inside, is_right}
use Rattle.i_shape_core.specs.Winding.{winding, winding_of_edge}
use Rattle.i_shape_core.specs.Convex.{dedup, is_same, cross_at}

-- a point by its coordinates
abbrev pub at : ℕ → ℕ → Point
at x y = record { x = pos x; y = pos y }

abbrev box : List Point
box = at 0 0 ∷ at 10 0 ∷ at 10 10 ∷ at 0 10 ∷ []

box_area : shoelace box ≡ pos 200
unfolding shoelace area_of_edge
box_area = refl

box_reversed : shoelace (reverse box) ≡ negsuc 199
unfolding shoelace area_of_edge
box_reversed = refl

box_inside : Inside box (at 5 5)
unfolding Inside is_right cross
box_inside = refl

box_outside : Inside box (at 15 5) → ⊥
unfolding Inside is_right cross
box_outside h = cc

-- a point on the right edge isn't inside, one on the left edge is
box_edges : (Inside box (at 10 5) → ⊥) × Inside box (at 0 5)
unfolding Inside is_right cross
box_edges = (λ h. cc, refl)

-- a contour that turns left winds once about a point inside, one that turns right -1 times; one that goes around twice
-- winds twice, and an even number of its edges are right of the point
box_winds : (winding box (at 5 5) ≡ pos 1) × (winding (reverse box) (at 5 5) ≡ negsuc 0) × (winding box (at 15 5) ≡ pos 0) × (winding (box ++ box) (at 5 5) ≡ pos 2) × (Inside (box ++ box) (at 5 5) → ⊥)
unfolding winding winding_of_edge Inside is_right cross
box_winds = (refl, refl, refl, refl, λ h. cc)

-- two rings in one direction, one within the other, add up their winding numbers; in opposite directions they cancel
rings_wind : (winding (box ++ at 0 0 ∷ at 2 2 ∷ at 8 2 ∷ at 8 8 ∷ at 2 8 ∷ at 2 2 ∷ []) (at 5 5) ≡ pos 2) × (winding (box ++ at 0 0 ∷ at 2 2 ∷ at 2 8 ∷ at 8 8 ∷ at 8 2 ∷ at 2 2 ∷ []) (at 5 5) ≡ pos 0)
unfolding winding winding_of_edge is_right cross
rings_wind = (refl, refl)

repeats : dedup (at 1 1 ∷ at 1 1 ∷ at 2 1 ∷ at 2 1 ∷ at 3 5 ∷ at 1 1 ∷ []) ≡ at 2 1 ∷ at 3 5 ∷ at 1 1 ∷ []
unfolding dedup is_same
repeats = refl

corner : cross_at box 1 ≡ pos 100
unfolding cross_at cross
corner = refl

-- ---- turns: the cross, the dot, and the kind
abbrev point : ℤ → ℤ → Point
point x y = record { x = x; y = y }

turns_left : (cross (point (pos 0) (pos 0)) (point (pos 2) (pos 0)) (point (pos 2) (pos 3)) ≡ pos 6) × (dot (point (pos 0) (pos 0)) (point (pos 2) (pos 0)) (point (pos 2) (pos 3)) ≡ pos 0)
unfolding cross dot
turns_left = (refl, refl)

turns_right : (cross (point (pos 0) (pos 0)) (point (pos 2) (pos 0)) (point (pos 2) (negsuc 2)) ≡ negsuc 5) × (dot (point (pos 0) (pos 0)) (point (pos 2) (pos 0)) (point (pos 2) (negsuc 2)) ≡ pos 0)
unfolding cross dot
turns_right = (refl, refl)

goes_on : (cross (point (pos 0) (pos 0)) (point (pos 2) (pos 0)) (point (pos 5) (pos 0)) ≡ pos 0) × (dot (point (pos 0) (pos 0)) (point (pos 2) (pos 0)) (point (pos 5) (pos 0)) ≡ pos 6)
unfolding cross dot
goes_on = (refl, refl)

goes_on_aslant : (cross (point (pos 1) (pos 1)) (point (pos 3) (pos 5)) (point (pos 4) (pos 7)) ≡ pos 0) × (dot (point (pos 1) (pos 1)) (point (pos 3) (pos 5)) (point (pos 4) (pos 7)) ≡ pos 10)
unfolding cross dot
goes_on_aslant = (refl, refl)

goes_back : (cross (point (pos 0) (pos 0)) (point (pos 2) (pos 0)) (point (pos 1) (pos 0)) ≡ pos 0) × (dot (point (pos 0) (pos 0)) (point (pos 2) (pos 0)) (point (pos 1) (pos 0)) ≡ negsuc 1)
unfolding cross dot
goes_back = (refl, refl)

goes_back_whole : (cross (point (pos 0) (pos 0)) (point (pos 2) (pos 0)) (point (pos 0) (pos 0)) ≡ pos 0) × (dot (point (pos 0) (pos 0)) (point (pos 2) (pos 0)) (point (pos 0) (pos 0)) ≡ negsuc 3)
unfolding cross dot
goes_back_whole = (refl, refl)

stands_at_first : (cross (point (pos 0) (pos 0)) (point (pos 0) (pos 0)) (point (pos 1) (pos 4)) ≡ pos 0) × (dot (point (pos 0) (pos 0)) (point (pos 0) (pos 0)) (point (pos 1) (pos 4)) ≡ pos 0)
unfolding cross dot
stands_at_first = (refl, refl)

stands_at_last : (cross (point (pos 3) (pos 1)) (point (pos 5) (pos 5)) (point (pos 5) (pos 5)) ≡ pos 0) × (dot (point (pos 3) (pos 1)) (point (pos 5) (pos 5)) (point (pos 5) (pos 5)) ≡ pos 0)
unfolding cross dot
stands_at_last = (refl, refl)

turns_at_the_safe_bound : (cross (point (negsuc 16382) (negsuc 16382)) (point (pos 16383) (pos 16383)) (point (pos 16383) (negsuc 16382)) ≡ negsuc 1073610755)
    × (dot (point (negsuc 16382) (negsuc 16382)) (point (pos 16383) (pos 16383)) (point (pos 16383) (negsuc 16382)) ≡ negsuc 1073610755)
unfolding cross dot
turns_at_the_safe_bound = (refl, refl)

-- ---- three collinear points collapse: the middle one is removed, and two are left
flat_three : List Point
flat_three = at 0 0 ∷ at 1 0 ∷ at 2 0 ∷ []

collapses : Reach IsZeroTurn flat_three (at 0 0 ∷ at 2 0 ∷ [])
unfolding flat_three cross
collapses = step (record { place = 1; removable = record { enough = lit≤ tt; within = lit< tt; passes = refl }; left = refl }) stay
