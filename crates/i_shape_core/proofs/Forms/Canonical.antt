-- Joined contours have one canonical form.
use Rattle.std.proofs.Common.{◌≡◌, ◌≤◌, List, length, sym, subst, arith}
use Rattle.i_shape_core.proofs.Common.{Point, IsZeroTurn, Test, Reach, stay, step, End, Rotation, SameEnd, collapsed, rotated, IsLink, by_rotation, by_removal, by_insertion, Joined, alone, link, IsLeast, CanonicalJoined}
use Rattle.i_shape_core.proofs.Removal.Tests.{Slides, Decided}
use Rattle.i_shape_core.proofs.Removal.Rotations.{rotation_sym, rotation_trans, rotation_length}
use Rattle.i_shape_core.proofs.Removal.Ends.{ends_alike, one_end, has_end, end_of_step, same_end_trans, reach_shrinks, step_length}
use Rattle.i_shape_core.proofs.LeastRotation.Order.{at_most_antisym}
use Rattle.i_shape_core.proofs.Removal.ZeroTurns.{zero_turn_slides, zero_turn_decided}

-- the first of joined contours has at least three points
pub joined_first : {P : Test} {c d : List Point} → Joined P c d → 3 ≤ length c
joined_first (alone h) = h
joined_first (link h l j) = h

-- being joined is transitive
pub joined_trans : {P : Test} {c d e : List Point} → Joined P c d → Joined P d e → Joined P c e
joined_trans (alone h) k = k
joined_trans (link h l j) k = link h l (joined_trans j k)

link_sym : {P : Test} {c d : List Point} → IsLink P c d → IsLink P d c
link_sym (by_rotation r) = by_rotation (rotation_sym r)
link_sym (by_removal s) = by_insertion s
link_sym (by_insertion s) = by_removal s

-- being joined is symmetric
pub joined_sym : {P : Test} {c d : List Point} → Joined P c d → Joined P d c
joined_sym (alone h) = alone h
joined_sym (link h l j) = joined_trans (joined_sym j) (link (joined_first j) (link_sym l) (alone h))

-- a contour is joined to what removals leave of it if that has at least three points
pub joined_by_reach : {P : Test} {c e : List Point} → Reach P c e → 3 ≤ length e → Joined P c e
joined_by_reach stay h = alone h
joined_by_reach (step s r) h = link (omega (arith, step_length s, reach_shrinks r)) (by_removal s) (joined_by_reach r h)

-- a contour is joined to its rotations
pub joined_by_rotation : {P : Test} {c d : List Point} → Rotation c d → 3 ≤ length c → Joined P c d
joined_by_rotation r h = link h (by_rotation r) (alone (omega (arith, rotation_length r)))

-- linked contours have the same ends
ends_of_link : {P : Test} → Slides P → Decided P → {c d e f : List Point} → IsLink P c d → End P c e → End P d f → SameEnd e f
ends_of_link sl dec (by_rotation r) a b = ends_alike sl dec r a b
ends_of_link sl dec (by_removal s) a b = one_end sl dec a (end_of_step s b)
ends_of_link sl dec (by_insertion s) a b = one_end sl dec (end_of_step s a) b

-- joined contours have the same ends
pub ends_of_joined : {P : Test} → Slides P → Decided P → {c d e f : List Point} → Joined P c d → End P c e → End P d f → SameEnd e f
ends_of_joined sl dec (alone h) a b = one_end sl dec a b
ends_of_joined sl dec (link {d = m} h l j) a b =
    let w = has_end dec m in
    same_end_trans (ends_of_link sl dec l a w.1) (ends_of_joined sl dec j w.1 b)

-- rotations of each other have the same least rotation
least_alone : {c d l m : List Point} → Rotation c d → IsLeast c l → IsLeast d m → l ≡ m
least_alone {l = l} {m = m} r a b = at_most_antisym l m (a.first m (rotation_trans r b.rotation)) (b.first l (rotation_trans (rotation_sym r) a.rotation))

-- contours have the same canonical form exactly if they are joined
pub canonical_joined : (c d : List Point) → CanonicalJoined c d
canonical_joined c d e f l m a i b j x y = (to, from)
  where
    to : l ≡ m → Joined IsZeroTurn c d
    to h =
        let r : Rotation e f = rotation_trans x.rotation (subst (λ (z : List Point). Rotation z f) (sym h) (rotation_sym y.rotation)) in
        joined_trans (joined_by_reach a.reached i) (joined_trans (joined_by_rotation r i) (joined_sym (joined_by_reach b.reached j)))

    same : SameEnd e f → l ≡ m
    same (collapsed p q) = absurd (omega arith)
    same (rotated p q r) = least_alone r x y

    from : Joined IsZeroTurn c d → l ≡ m
    from k = same (ends_of_joined zero_turn_slides zero_turn_decided k a b)
