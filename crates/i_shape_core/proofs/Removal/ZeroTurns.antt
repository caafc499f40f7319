-- The laws of contours, for zero turns of the plane.
use Rattle.std.proofs.Common.{◌≡◌, ℕ, ◌<◌, ◌≤◌, List, length, pos, refl, arith}
use Rattle.std.proofs.Math.IntN.{ℤ_discrete}
use Rattle.i_shape_core.proofs.Common.{Point, cross, IsZeroTurn, IsBack, Test, IsRemovable, Reach, stay, step, End, Rotation, SameEnd, collapsed, rotated, IsCollapsed}
use Rattle.i_shape_core.proofs.Removal.Tests.{Decided, Slides, BothWays}
use Rattle.i_shape_core.proofs.Plane.CrossProducts.{zero_slides, zero_reversed}
use native.Mathlib.Decide.{dec_lt}
use Rattle.i_shape_core.specs.Laws.{RotatedEnds, ReversedEnds, Twice, Agreed, EveryOrder}
use Rattle.i_shape_core.proofs.Removal.Reversal.{reversed_alike}
use Rattle.i_shape_core.proofs.Removal.Ends as ends
use Rattle.i_shape_core.proofs.Removal.Ends.{ends_alike, has_end, no_step, reach_by_weaker}
use Rattle.i_shape_core.proofs.Removal.BackFirst.{end_by_weaker, keeps_three}
use Rattle.i_shape_core.proofs.Removal.WithoutBack.{back_straightens}

-- whether a turn is a zero turn is decidable
pub zero_turn_decided : Decided IsZeroTurn
zero_turn_decided a b c = ℤ_discrete (cross a b c) (pos 0)

-- if p and q are adjacent zero turns, each is one without the other, unless p and q are equal
pub zero_turn_slides : Slides IsZeroTurn
zero_turn_slides = zero_slides

-- reversing a zero turn leaves a zero turn
pub zero_turn_both_ways : BothWays IsZeroTurn
zero_turn_both_ways = zero_reversed

-- two ends are rotations of each other, or both have collapsed
pub one_end : (c e f : List Point) → End IsZeroTurn c e → End IsZeroTurn c f → SameEnd e f
one_end c e f a b = ends.one_end zero_turn_slides zero_turn_decided a b

-- rotations have the same ends
pub rotated_ends : (c d : List Point) → RotatedEnds c d
rotated_ends c d r e f a b = ends_alike zero_turn_slides zero_turn_decided r a b

-- the ends of a contour read backwards are its ends read backwards
pub reversed_ends : (c : List Point) → ReversedEnds c
reversed_ends c e f a b = reversed_alike zero_turn_slides zero_turn_decided zero_turn_both_ways a b

-- from a contour without removable points only itself is reached
reach_from_done : {P : Test} (c d : List Point) → ((k : ℕ) → IsRemovable P c k → ⊥) → Reach P c d → d ≡ c
reach_from_done c d n stay = refl
reach_from_done c d n (step s r) = absurd (no_step n s)

-- an end is its own end
pub end_of_end : (c : List Point) → Twice c
end_of_end c = record {
  again = λ e f a b. reach_from_done e f a.none_left b.reached;
  simple = λ s d r. reach_from_done c d s.none r;
}

is_alone : {e f : List Point} → SameEnd e f → IsCollapsed e → IsCollapsed f
is_alone (collapsed a b) h = b
is_alone (rotated a b r) h = absurd (omega arith)

rotated_by : {e f : List Point} → SameEnd e f → 3 ≤ length f → Rotation e f
rotated_by (collapsed a b) h = absurd (omega arith)
rotated_by (rotated a b r) h = r

-- a collapsed list that is reached is an end
end_of_collapsed : {P : Test} {c d : List Point} → Reach P c d → IsCollapsed d → End P c d
end_of_collapsed r h = record { reached = r; none_left = λ k m. absurd (omega (arith, m.enough)) }

-- the ends without back vertices agree with those without zero turns
pub ends_agree : (c : List Point) → Agreed c
ends_agree c = record {
  alike = λ d e w a. (collapses d e w a, stands d e w a);
  ends = λ d e f w h a b. rotated_by (one_end c e f a (end_by_weaker back_straightens w.reached b)) (keeps_three back_straightens w h b);
}
  where
    collapses : (d e : List Point) → End IsBack c d → End IsZeroTurn c e → IsCollapsed d → IsCollapsed e
    collapses d e w a h = is_alone (one_end c d e (end_of_collapsed (reach_by_weaker back_straightens.weaker w.reached) h) a) h

    stands : (d e : List Point) → End IsBack c d → End IsZeroTurn c e → IsCollapsed e → IsCollapsed d
    stands d e w a h = go (dec_lt (length d) 3)
      where
        go : Dec (IsCollapsed d) → IsCollapsed d
        go (yes x) = x
        go (no x) =
            let f = has_end zero_turn_decided d in
            let l : 3 ≤ length f.0 = keeps_three back_straightens w (omega arith) f.1 in
            let m : length f.0 < 3 = is_alone (one_end c e f.0 a (end_by_weaker back_straightens w.reached f.1)) h in
            absurd (omega arith)

is_rotated : {e f : List Point} → SameEnd e f → 3 ≤ length e → (3 ≤ length f) × Rotation e f
is_rotated (collapsed a b) h = absurd (omega arith)
is_rotated (rotated a b r) h = (b, r)

-- a contour collapses in every order of removal or in none
pub every_order : (c : List Point) → EveryOrder c
every_order c = record {
  some = λ e f a h b. is_rotated (one_end c e f a b) h;
  none = λ d f r h b. is_alone (one_end c d f (end_of_collapsed r h) b) h;
  exists = has_end zero_turn_decided c;
}
