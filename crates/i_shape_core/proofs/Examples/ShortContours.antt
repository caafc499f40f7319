-- The definitions at the empty list, at one, two and three points, at repeated points, and at the limits of the safe
-- range.
use Rattle.std.proofs.Common.{◌≡◌, ◌<◌, ℕ, zero, suc, List, [], ◌∷◌, length, pos, negsuc, refl, lit≤, lit<, inl, inr, arith, w16, w32}
use Rattle.i_shape_core.specs.Point.{Point, cross, dot, IsZeroTurn}
use Rattle.i_shape_core.proofs.Common.{place_before, place_after, IsRemovable, Step, stay, End, IsSimple, IsSafeCoordinate, IsBefore, IsAtMost, started_at}
use Rattle.i_shape_core.specs.Edges.{shoelace, area_of_edge, Inside, is_right}
use Rattle.i_shape_core.specs.Convex.{dedup, is_same, cross_at, IsReversal, NoSpikes, Convex}
use Rattle.i_shape_core.proofs.Examples.Definitions.{at}

p : Point
p = at 3 4

q : Point
q = at 9 1

-- ---- area and containment
no_area : (shoelace [] ≡ pos 0) × (shoelace (p ∷ []) ≡ pos 0) × (shoelace (p ∷ q ∷ []) ≡ pos 0)
unfolding shoelace area_of_edge p q
no_area = (refl, refl, refl)

none_inside : (Inside [] p → ⊥) × (Inside (p ∷ []) p → ⊥) × (Inside (p ∷ q ∷ []) p → ⊥)
unfolding Inside is_right cross p q
none_inside = (λ h. cc, λ h. cc, λ h. cc)

-- ---- the neighbours of the first and the last place, and of the only one
neighbours : (place_before 4 0 ≡ 3) × (place_after 4 3 ≡ 0) × (place_before 4 2 ≡ 1) × (place_before 1 0 ≡ 0) × (place_after 1 0 ≡ 0)
neighbours = (refl, refl, refl, refl, refl)

-- ---- fewer than three points: nothing is removable, so such a list is its own end and has collapsed, and it isn't
-- simple
fewer_end : (c : List Point) → length c < 3 → End IsZeroTurn c c
fewer_end c fewer = record { reached = stay; none_left = λ k removable. omega (arith, fewer, removable.enough) }

fewer_not_simple : (c : List Point) → length c < 3 → IsSimple c → ⊥
fewer_not_simple c fewer simple = omega (arith, fewer, simple.enough)

-- ---- repeated points: the closing one is removed too, and copies of one point leave none
repeats : (dedup [] ≡ []) × (dedup (p ∷ []) ≡ []) × (dedup (p ∷ p ∷ p ∷ []) ≡ []) × (dedup (p ∷ q ∷ []) ≡ p ∷ q ∷ []) × (dedup (p ∷ q ∷ q ∷ p ∷ []) ≡ q ∷ p ∷ [])
unfolding dedup is_same p q
repeats = (refl, refl, refl, refl, refl)

no_spikes_of_fewer : (NoSpikes [] → ⊥) × (NoSpikes (p ∷ p ∷ q ∷ []) → ⊥)
unfolding dedup is_same p q
no_spikes_of_fewer = (λ n. omega (arith, n.enough), λ n. omega (arith, n.enough))

convex_of_fewer : Convex [] × Convex (p ∷ p ∷ q ∷ [])
unfolding dedup is_same p q
convex_of_fewer = (inl (lit≤ tt), inl (lit≤ tt))

-- ---- the order of points and lists
ordered : IsBefore (at 1 9) (at 2 0) × IsBefore (at 1 0) (at 1 9) × (IsBefore (at 1 0) (at 1 0) → ⊥)
ordered = (inl (omega arith), inr (refl, omega arith), before_itself)
  where
    before_itself : IsBefore (at 1 0) (at 1 0) → ⊥
    before_itself (inl less) = omega (arith, less)
    before_itself (inr less) = omega (arith, less.1)

first_list : IsAtMost [] (p ∷ []) × (IsAtMost (p ∷ []) [] → ⊥) × IsAtMost (p ∷ []) (p ∷ q ∷ []) × (started_at (p ∷ q ∷ []) 1 ≡ q ∷ p ∷ [])
first_list = (tt, λ never. never, inr (refl, tt), refl)

-- ---- the limits of the safe range
safe_limits : IsSafeCoordinate w16 (pos 16383) × (IsSafeCoordinate w16 (pos 16384) → ⊥) × IsSafeCoordinate w16 (negsuc 16382) × (IsSafeCoordinate w16 (negsuc 16383) → ⊥)
safe_limits = ((omega arith, omega arith), λ safe. omega (arith, safe.1), (omega arith, omega arith), λ safe. omega (arith, safe.0))

safe_limits_32 : IsSafeCoordinate w32 (pos 1073741823) × (IsSafeCoordinate w32 (pos 1073741824) → ⊥) × IsSafeCoordinate w32 (negsuc 1073741822) × (IsSafeCoordinate w32 (negsuc 1073741823) → ⊥)
safe_limits_32 = ((omega arith, omega arith), λ safe. omega (arith, safe.1), (omega arith, omega arith), λ safe. omega (arith, safe.0))

-- ---- three points: a spike passes at each place, a corner at none
spike : List Point
spike = at 0 0 ∷ at 2 0 ∷ at 1 0 ∷ []

spike_goes_back : IsReversal spike 1
unfolding spike cross_at cross dot
spike_goes_back = record { within = lit< tt; straight = refl; back = omega arith }

spike_collapses : Step IsZeroTurn spike (at 0 0 ∷ at 1 0 ∷ [])
unfolding spike cross
spike_collapses = record { place = 1; removable = record { enough = lit≤ tt; within = lit< tt; passes = refl }; left = refl }

corner : List Point
corner = at 0 0 ∷ at 4 0 ∷ at 4 4 ∷ []

corner_bends : (k : ℕ) → IsRemovable IsZeroTurn corner k → ⊥
unfolding corner cross
corner_bends zero removable = let turn : pos 16 ≡ pos 0 = removable.passes in cc
corner_bends (suc zero) removable = let turn : pos 16 ≡ pos 0 = removable.passes in cc
corner_bends (suc (suc zero)) removable = let turn : pos 16 ≡ pos 0 = removable.passes in cc
corner_bends (suc (suc (suc k))) removable = let within : suc (suc (suc k)) < 3 = removable.within in omega (arith, within)
