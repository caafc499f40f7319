-- What the ends of a contour without spikes share with it.
use Rattle.std.proofs.Common.{◌≡◌, ℕ, ◌≤◌, List, length, pos, ◌<ℤ◌, sym, ap, subst, arith, ◌⊎◌, inl, inr, ◌↔◌}
use Rattle.i_shape_core.proofs.Common.{Point, cross, dot, IsZeroTurn, IsBack, point_at, place_before, place_after, IsRemovable, End}
use Rattle.i_shape_core.specs.Convex.{dedup, cross_at, IsReversal, NoSpikes, BendsOneWay, Bulges, Convex}
use Rattle.i_shape_core.proofs.Plane.Back.{back_cases, cross_same-first}
use Rattle.i_shape_core.proofs.Removal.WithoutBack.{HasNoBack, no_back_kept}
use Rattle.i_shape_core.proofs.Convex.Removal.{one_way_kept}
use Rattle.i_shape_core.proofs.Removal.Dedup.{IsApart, dedup_apart, dedup-same, apart_places, apart_from_places, next_differs}

no_back : (c : List Point) → 3 ≤ length c → IsApart c → ((k : ℕ) → IsReversal c k → ⊥) → HasNoBack c
unfolding cross_at
no_back c h a r = record { enough = h; none = λ k b. go k b (back_cases (point_at c (place_before (length c) k)) (point_at c k) (point_at c (place_after (length c) k)) b.passes) }
  where
    go : (k : ℕ) → IsRemovable IsBack c k → (point_at c (place_before (length c) k) ≡ point_at c k) ⊎ ((point_at c k ≡ point_at c (place_after (length c) k))
        ⊎ ((cross (point_at c (place_before (length c) k)) (point_at c k) (point_at c (place_after (length c) k)) ≡ pos 0) × (dot (point_at c (place_before (length c) k)) (point_at c k) (point_at c (place_after (length c) k)) <ℤ pos 0))) → ⊥
    go k b (inl e) = apart_places c k a b.within e
    go k b (inr (inl e)) = next_differs c k a b.within e
    go k b (inr (inr e)) = r k (record { within = b.within; straight = e.0; back = e.1 })

-- a contour without spikes has no back vertex once repeated points are removed
pub spikeless_no_back : (c : List Point) → NoSpikes c → HasNoBack (dedup c)
spikeless_no_back c h = no_back (dedup c) h.enough (dedup_apart c) h.none

-- a contour of at least three points without zero turns has no repeated points
apart_end : (e : List Point) → 3 ≤ length e → ((k : ℕ) → IsRemovable IsZeroTurn e k → ⊥) → IsApart e
apart_end e h none = apart_from_places e (λ k l f. none k (record {
  enough = h;
  within = l;
  passes = subst (λ (q : Point). cross (point_at e (place_before (length e) k)) q (point_at e (place_after (length e) k)) ≡ pos 0) f
      (cross_same-first (point_at e (place_before (length e) k)) (point_at e (place_after (length e) k)));
}))

no_reversal : (e : List Point) → 3 ≤ length e → ((k : ℕ) → IsRemovable IsZeroTurn e k → ⊥) → (k : ℕ) → IsReversal e k → ⊥
unfolding cross_at
no_reversal e h none k r = none k (record { enough = h; within = r.within; passes = r.straight })

-- an end of at least three points is convex exactly if it turns to one side
pub convex_of_end : (e : List Point) → 3 ≤ length e → ((k : ℕ) → IsRemovable IsZeroTurn e k → ⊥) → Convex e ↔ BendsOneWay e
convex_of_end e h none = (to, λ w. inr (subst Bulges (sym same) (record { none = no_reversal e h none; bends = w })))
  where
    same : dedup e ≡ e
    same = dedup-same e (apart_end e h none)

    to : Convex e → BendsOneWay e
    to (inl l) = absurd (omega (arith, ap length same))
    to (inr b) = (subst Bulges same b).bends

-- a contour without spikes is convex exactly if it turns to one side once repeated points are removed
pub convex_of_spikeless : (c : List Point) → NoSpikes c → Convex c ↔ BendsOneWay (dedup c)
convex_of_spikeless c h = (to, λ w. inr (record { none = h.none; bends = w }))
  where
    to : Convex c → BendsOneWay (dedup c)
    to (inl l) = let g = h.enough in absurd (omega arith)
    to (inr b) = b.bends

-- an end of the contour without repeated points doesn't collapse, and is convex exactly if the contour is
pub convex_of_reached : (c e : List Point) → NoSpikes c → End IsZeroTurn (dedup c) e → (3 ≤ length e) × (Convex c ↔ Convex e)
convex_of_reached c e h r = (left.enough, (λ x. b.1 (a.0 (d.0 x)), λ x. d.1 (a.1 (b.0 x))))
  where
    left : HasNoBack e
    left = no_back_kept (dedup c) e (spikeless_no_back c h) r.reached

    a : BendsOneWay (dedup c) ↔ BendsOneWay e
    a = one_way_kept (dedup c) e (spikeless_no_back c h) r.reached

    b : Convex e ↔ BendsOneWay e
    b = convex_of_end e left.enough r.none_left

    d : Convex c ↔ BendsOneWay (dedup c)
    d = convex_of_spikeless c h
