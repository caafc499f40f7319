-- The first fault of a polygon whose rings may touch.
use Rattle.std.proofs.Common.{◌≡◌, ◌↔◌, ℕ, pos, ◌<◌, ◌<ℤ◌, List, length, refl, sym, subst, ◌∙◌, arith, inl, inr}
use Rattle.std.proofs.lemmas.Int.{ints}
use Rattle.i_shape_core.specs.Point.{Point}
use Rattle.i_shape_core.specs.Contour.{point_at}
use Rattle.i_shape_core.specs.Rings.{nth_ring}
use Rattle.i_shape_contacts.specs.Contacts.{IsRingContact, NoContact}
use Rattle.i_shape_contacts.specs.Courses.{DividesPoints}
use Rattle.i_shape_contacts.specs.Validity.{NoDegenerateRing, IsHoleOutside, IsHoleWithin, NoHoleOutside, NoHoleWithin, IsLeast, IsFirstWithin}
use Rattle.i_shape_touching.specs.Places.{IsOnRing}
use Rattle.i_shape_touching.specs.Touching.{IsEdgeOf, AreTouching, IsFaultyContact, LeavesOuter, EntersHole, AreJoined, NoneJoinedTwice, IsTouchingPolygon, IsLess, ClosesCircle, IsOutsideFault, IsWithinFault, IsFirstTouchingFault}
use Rattle.i_shape_touching.specs.Touching.AreJoined.{same, chain}
use Rattle.i_shape_touching.specs.declared.validity.TouchingValidity.{TouchingValidity}
use Rattle.i_shape_touching.specs.declared.validity.TouchingValidity.TheVariants.{Valid, TooFewPoints, Contact, HoleOutside, HoleWithin, Disconnected}
use Rattle.i_shape_touching.proofs.Scaled.{winding_whole}
use Rattle.i_shape_touching.proofs.TouchPoints.{start_lies, edges_touch}
use Rattle.i_shape_touching.proofs.PieceEdges.{edge_on_ring}
use Rattle.i_shape_touching.proofs.PieceLaws.{off_others, same_as_vertex}

-- rings that some points join are joined by more of them too
joined_by_more : (offsets : List ℕ) (c : List Point) (P Q : Point → Type 0) (r s : ℕ) → ((p : Point) → P p → Q p) → AreJoined offsets c P r s → AreJoined offsets c Q r s
joined_by_more offsets c P Q r s more same = same
joined_by_more offsets c P Q r s more (chain p here share rest) = chain p (more p here) share (joined_by_more offsets c P Q _ s more rest)

-- a lesser point isn't the same
less_differs : (p q : Point) → IsLess q p → q ≡ p → ⊥
less_differs p q less equal = never p (subst (λ (z : Point). IsLess z p) equal less)
  where
    never : (p : Point) → IsLess p p → ⊥
    never p (inl h) = omega (arith, ints, h)
    never p (inr h) = let l = h.1 in omega (arith, ints, l)

above : pos 0 <ℤ pos 1
above = omega (arith, ints)

-- a vertex lies on its ring
vertex_on : (ring : List Point) (v : ℕ) → v < length ring → IsOnRing (pos 1) (point_at ring v) ring
vertex_on ring v within = record { place = v; within = within; on = start_lies _ _ }

module _ (offsets : List ℕ) (c : List Point) (divides : DividesPoints (length c) offsets) where
  -- edges that close a circle are of two rings, which share the point, and which other points join
  circle_joins : NoContact (IsFaultyContact offsets c) → NoneJoinedTwice offsets c → (p : Point) (i j : ℕ) → ClosesCircle offsets c p i j → ⊥
  circle_joins clear none p i j closes = none p closes.ring closes.other (record {
    share = record {
      is_ring = closes.first_of.is_ring;
      is_other = closes.second_of.is_ring;
      differ = λ equal. touching.differ closes.other (subst (λ (r : ℕ). IsEdgeOf offsets r i) equal closes.first_of) closes.second_of;
      on_ring = edge_on_ring offsets c divides closes.ring i closes.on_first.end (pos 1) p closes.first_of closes.on_first.follows closes.on_first.on;
      on_other = edge_on_ring offsets c divides closes.other j closes.on_second.end (pos 1) p closes.second_of closes.on_second.follows closes.on_second.on;
    };
    joined = joined_by_more offsets c (λ (q : Point). IsLess q p) (λ (q : Point). q ≡ p → ⊥) closes.ring closes.other (less_differs p) closes.joined;
  })
    where
      touching : AreTouching offsets c i j
      touching = edges_touch offsets c divides.divides clear i j closes.contact

  -- no fault is the first exactly where the polygon is valid
  pub valid_by_fault : (v : TouchingValidity) → IsFirstTouchingFault offsets c v → (v ≡ Valid) ↔ IsTouchingPolygon offsets c
  valid_by_fault Valid f = (λ e. f, λ w. refl)
  valid_by_fault (TooFewPoints k) f = (λ e. absurd (cc), λ w. absurd (w.no_degenerate k f.is))
  valid_by_fault (Contact it) f = (λ e. absurd (cc), λ w. absurd (w.no_contact.none it.first it.second f.first.first.contact))
  valid_by_fault (HoleOutside k) f = (λ e. absurd (cc), λ w. absurd (w.none_leaves k f.first.is))
  valid_by_fault (HoleWithin k j) f = (λ e. absurd (cc), λ w. absurd (w.none_enters k j f.first.first_other.is))
  valid_by_fault (Disconnected it) f = (λ e. absurd (cc), λ w. absurd (circle_joins w.no_contact w.none_joined f.first.point it.first it.second f.first.closes))

  -- ---- where no edges are in contact
  module _ (clear : NoContact (IsRingContact offsets c)) where
    -- no contact is faulty
    none_faulty : NoContact (IsFaultyContact offsets c)
    none_faulty = record { none = λ i j h. clear.none i j h.contact }

    -- no rings share a point
    none_joined : NoneJoinedTwice offsets c
    none_joined p r s h = off_others offsets c divides clear r s h.share.is_ring h.share.is_other h.share.differ (pos 1) p above h.share.on_ring h.share.on_other

    -- a hole has a point outside the outer contour where it has such a vertex
    leaves_outside : (k : ℕ) → LeavesOuter offsets c k → IsHoleOutside offsets c k
    leaves_outside k h =
        let some = h.is_hole.not_outer in
        let is_ring = h.is_hole.is_ring in
        let vertex = same_as_vertex offsets c divides clear k 0 is_ring (omega (arith, is_ring)) (λ e. omega (arith, e, some)) h.outside.divisor h.outside.scaled h.outside.positive h.outside.on in
        record { is_hole = h.is_hole; outside = record { vertex = vertex.0; is_vertex = vertex.1; outside = sym vertex.2 ∙ h.outside.lies.outside } }

    outside_leaves : (k : ℕ) → IsHoleOutside offsets c k → LeavesOuter offsets c k
    outside_leaves k h =
        let some = h.is_hole.not_outer in
        let is_ring = h.is_hole.is_ring in
        let ring = nth_ring c offsets k in
        let p = point_at ring h.outside.vertex in
        let on = vertex_on ring h.outside.vertex h.outside.is_vertex in
        record {
          is_hole = h.is_hole;
          outside = record {
            divisor = pos 1;
            positive = above;
            scaled = p;
            on = on;
            lies = record {
              off = off_others offsets c divides clear k 0 is_ring (omega (arith, is_ring)) (λ e. omega (arith, e, some)) (pos 1) p above on;
              outside = winding_whole (nth_ring c offsets 0) p ∙ h.outside.outside;
            };
          };
        }

    -- a hole has a point inside another where it has such a vertex
    enters_within : (k j : ℕ) → EntersHole offsets c k j → IsHoleWithin offsets c k j
    enters_within k j h =
        let vertex = same_as_vertex offsets c divides clear k j h.is_hole.is_ring h.other_is_hole.is_ring h.differ h.inside.divisor h.inside.scaled h.inside.positive h.inside.on in
        record {
          is_hole = h.is_hole;
          other_is_hole = h.other_is_hole;
          differ = h.differ;
          within = record { vertex = vertex.0; is_vertex = vertex.1; within = λ e. h.inside.lies.inside (vertex.2 ∙ e) };
        }

    within_enters : (k j : ℕ) → IsHoleWithin offsets c k j → EntersHole offsets c k j
    within_enters k j h =
        let ring = nth_ring c offsets k in
        let p = point_at ring h.within.vertex in
        let on = vertex_on ring h.within.vertex h.within.is_vertex in
        record {
          is_hole = h.is_hole;
          other_is_hole = h.other_is_hole;
          differ = h.differ;
          inside = record {
            divisor = pos 1;
            positive = above;
            scaled = p;
            on = on;
            lies = record {
              off = off_others offsets c divides clear k j h.is_hole.is_ring h.other_is_hole.is_ring h.differ (pos 1) p above on;
              inside = λ e. h.within.within (sym (winding_whole (nth_ring c offsets j) p) ∙ e);
            };
          };
        }

    -- a valid polygon
    pub touching_if_valid : NoDegenerateRing offsets c → NoHoleOutside offsets c → NoHoleWithin offsets c → IsTouchingPolygon offsets c
    touching_if_valid whole no_outside no_within = record {
      no_degenerate = whole;
      no_contact = none_faulty;
      none_leaves = λ k h. no_outside k (leaves_outside k h);
      none_enters = λ k j h. no_within k j (enters_within k j h);
      none_joined = none_joined;
    }

    -- the first hole outside
    pub outside_fault : NoDegenerateRing offsets c → (k : ℕ) → IsLeast (IsHoleOutside offsets c) k → IsOutsideFault offsets c k
    outside_fault whole k first = record {
      no_degenerate = whole;
      no_contact = none_faulty;
      first = record { is = outside_leaves k first.is; least = λ j h. first.least j (leaves_outside j h) };
    }

    -- the first hole within another
    pub within_fault : NoDegenerateRing offsets c → NoHoleOutside offsets c → (k j : ℕ) → IsFirstWithin offsets c k j → IsWithinFault offsets c k j
    within_fault whole no_outside k j first = record {
      no_degenerate = whole;
      no_contact = none_faulty;
      none_leaves = λ i h. no_outside i (leaves_outside i h);
      first = record {
        first_other = record { is = within_enters k j first.first_other.is; least = λ l h. first.first_other.least l (enters_within k l h) };
        none_before = λ i l less h. first.none_before i l less (enters_within i l h);
      };
    }
