-- How points of a ring's edges lie to another ring.
use Rattle.std.proofs.Common.{◌≡◌, [], ◌∷◌, ℕ, zero, suc, ℤ, pos, ◌+◌, ◌-◌, ◌<◌, ◌+ℤ◌, ◌-ℤ◌, ◌*ℤ◌, ◌<ℤ◌, ◌≤ℤ◌, List, length, refl, sym, ap, ◌∙◌, arith, inl, inr}
use Rattle.std.proofs.lemmas.Bool.{cases_lt}
use Rattle.std.proofs.lemmas.Int.{ints}
use Rattle.std.proofs.lemmas.List.Elements.{All-contains}
use Rattle.i_shape_core.specs.Point.{Point}
use Rattle.i_shape_core.specs.Contour.{point_at}
use Rattle.i_shape_core.specs.Rings.{offset, nth_ring}
use Rattle.i_shape_core.specs.Winding.{winding}
use Rattle.i_shape_core.proofs.Arithmetic.Polynomials.{number, variable, plus, times, minus, by_polynomials}
use Rattle.i_shape_contacts.specs.Contacts.{IsAfter, IsRingContact, NoContact}
use Rattle.i_shape_contacts.specs.Courses.{DividesPoints}
use Rattle.i_shape_contacts.specs.Meeting.{IsOnSegment}
use Rattle.i_shape_contacts.specs.Validity.{NoDegenerateRing}
use Rattle.i_shape_contacts.proofs.Nesting.{ends_within}
use Rattle.i_shape_contacts.proofs.Parting.{times_point}
use Rattle.i_shape_contacts.proofs.Signs.{product_positive, compared}
use Rattle.i_shape_touching.specs.Places.{LiesOn, IsOnRing, winding_at, sum_of_points}
use Rattle.i_shape_touching.specs.Touching.{IsEdgeOf, IsFaultyContact}
use Rattle.i_shape_touching.specs.Steps.Pieces.{IsPiece, IsListed, MarkOf, AreMarks}
use Rattle.i_shape_touching.specs.Steps.Pieces.IsMark.{shared}
use Rattle.i_shape_touching.proofs.Scaled.{winding_whole}
use Rattle.i_shape_touching.proofs.Along.{same_along}
use Rattle.i_shape_touching.proofs.PieceSegments.{lies_same, lies_meet, lies_between, lies_at_start, lies_at_end, lies_middle}
use Rattle.i_shape_touching.proofs.PieceEdges.{in_ring, after_in, next_of, first_of, edge_end, edge_on_ring, ring_on_edge, rings_apart}
use Rattle.i_shape_touching.proofs.PieceEnds.{ends_differ}
use Rattle.i_shape_touching.proofs.PieceOrder.{Axis, axis_of, height, share_height}
use Rattle.i_shape_touching.proofs.PieceMarks.{mark_on, shared_at}
use Rattle.i_shape_touching.proofs.PieceGaps.{IsOutside, gap_of, whole_gap, above_first, below_second, listed_or_not}

-- a piece of an edge of ring r that is one to look at: ring s winds as often about its middle as about x divided by d
pub record Sample (offsets : List ℕ) (c : List Point) (r s : ℕ) (d : ℤ) (x : Point) : Type 0 where
  pub edge : ℕ
  pub is_edge : IsEdgeOf offsets r edge
  pub listed : IsListed offsets c edge
  pub first : Point
  pub second : Point
  pub piece : IsPiece offsets c edge first second
  pub same : winding_at (nth_ring c offsets s) d x ≡ winding_at (nth_ring c offsets s) (pos 2) (sum_of_points first second)

-- heights of sums and multiples
height_middle : (m n d : ℤ) (p q : Point) → height m n (times_point d (sum_of_points p q)) ≡ d *ℤ (height m n p +ℤ height m n q)
height_middle m n d p q = by_polynomials (m ∷ n ∷ d ∷ p.x ∷ p.y ∷ q.x ∷ q.y ∷ [])
    (plus (times (variable 0) (times (variable 2) (plus (variable 3) (variable 5)))) (times (variable 1) (times (variable 2) (plus (variable 4) (variable 6)))))
    (times (variable 2) (plus (plus (times (variable 0) (variable 3)) (times (variable 1) (variable 4))) (plus (times (variable 0) (variable 5)) (times (variable 1) (variable 6))))) refl

height_times : (m n f : ℤ) (p : Point) → height m n (times_point f p) ≡ f *ℤ height m n p
height_times m n f p = by_polynomials (m ∷ n ∷ f ∷ p.x ∷ p.y ∷ [])
    (plus (times (variable 0) (times (variable 2) (variable 3))) (times (variable 1) (times (variable 2) (variable 4))))
    (times (variable 2) (plus (times (variable 0) (variable 3)) (times (variable 1) (variable 4)))) refl

-- z is n times v
height_point : (m n f : ℤ) (z v : Point) → z.x ≡ f *ℤ v.x → z.y ≡ f *ℤ v.y → height m n z ≡ f *ℤ height m n v
height_point m n f z v x y = ap (λ (w : ℤ). m *ℤ w +ℤ n *ℤ z.y) x ∙ ap (λ (w : ℤ). m *ℤ (f *ℤ v.x) +ℤ n *ℤ w) y ∙ height_times m n f v

module _ (offsets : List ℕ) (c : List Point) (divides : DividesPoints (length c) offsets) where
  -- ---- rings that don't touch
  module _ (clear : NoContact (IsRingContact offsets c)) (r s : ℕ) (is_ring : r + 1 < length offsets) (is_other : s + 1 < length offsets) (differ : r ≡ s → ⊥) where
    -- a point of an edge of ring r isn't one of ring s
    off_edge : (k m : ℕ) (d : ℤ) (x : Point) → IsEdgeOf offsets r k → IsAfter offsets k m → pos 0 <ℤ d → LiesOn d x (point_at c k) (point_at c m) → IsOnRing d x (nth_ring c offsets s) → ⊥
    off_edge k m d x e after above on other =
        let second = ring_on_edge offsets c divides s d x is_other other in
        rings_apart offsets c divides r s k m second.edge second.end e second.is_edge after second.after differ clear (lies_meet d x _ _ _ _ above on second.on)

    -- a point of ring r isn't one of ring s
    pub off_others : (d : ℤ) (x : Point) → pos 0 <ℤ d → IsOnRing d x (nth_ring c offsets r) → IsOnRing d x (nth_ring c offsets s) → ⊥
    off_others d x above on other =
        let first = ring_on_edge offsets c divides r d x is_ring on in
        off_edge first.edge first.end d x first.is_edge first.after above first.on other

    -- ring s winds as often about a point of ring r as about some vertex of ring r
    pub same_as_vertex : (d : ℤ) (x : Point) → pos 0 <ℤ d → IsOnRing d x (nth_ring c offsets r) → (v : ℕ) × (v < length (nth_ring c offsets r)) × (winding_at (nth_ring c offsets s) d x ≡ winding (nth_ring c offsets s) (point_at (nth_ring c offsets r) v))
    same_as_vertex d x above on =
        let first = ring_on_edge offsets c divides r d x is_ring on in
        let k = first.edge in
        let m = first.end in
        let place = in_ring offsets c divides r k m first.is_edge first.after in
        let one : pos 0 <ℤ pos 1 = omega (arith, ints) in
        let same = same_along (nth_ring c offsets s) d (pos 1) x (point_at c k) above one (λ g z g_above between other.
        off_edge k m (g *ℤ (d *ℤ pos 1)) z first.is_edge first.after (product_positive g (d *ℤ pos 1) g_above (product_positive d (pos 1) above one))
        (lies_between (point_at c k) (point_at c m) d (pos 1) g x (point_at c k) z above one first.on (lies_at_start (point_at c k) (point_at c m)) between) other) in
        (place.place, place.within, same ∙ winding_whole (nth_ring c offsets s) (point_at c k) ∙ ap (winding (nth_ring c offsets s)) (sym place.start))

  -- ---- rings that touch
  module _ (whole : NoDegenerateRing offsets c) (clear : NoContact (IsFaultyContact offsets c)) where
    -- the middle of a piece lies on the edge's ring
    pub middle_on : (r k : ℕ) (p q : Point) → IsEdgeOf offsets r k → IsPiece offsets c k p q → IsOnRing (pos 2) (sum_of_points p q) (nth_ring c offsets r)
    middle_on r k p q e piece =
        let next = edge_end offsets c divides r k e in
        edge_on_ring offsets c divides r k next.end (pos 2) (sum_of_points p q) e next.after
        (lies_middle p q (point_at c k) (point_at c next.end) (mark_on offsets c divides r k next.end p e next.after piece.first) (mark_on offsets c divides r k next.end q e next.after piece.second))

    -- and on no other
    pub middle_off : (r s k : ℕ) (p q : Point) → IsEdgeOf offsets r k → s + 1 < length offsets → (r ≡ s → ⊥) → IsPiece offsets c k p q → IsOnRing (pos 2) (sum_of_points p q) (nth_ring c offsets s) → ⊥
    middle_off r s k p q e is_other differ piece other =
        let next = edge_end offsets c divides r k e in
        let m = next.end in
        let f = next.after in
        let axis = axis_of (point_at c k) (point_at c m) (ends_differ offsets c divides whole clear r k m e f) in
        let p_on = mark_on offsets c divides r k m p e f piece.first in
        let q_on = mark_on offsets c divides r k m q e f piece.second in
        let at = shared_at offsets c divides clear r s k m (pos 2) (sum_of_points p q) e f is_other differ (omega (arith, ints)) (lies_middle p q (point_at c k) (point_at c m) p_on q_on) other in
        let v = at.point in
        let v_on = mark_on offsets c divides r k m v e f (shared at.is_shared) in
        let up = axis.less p q p_on q_on piece.order in
        let twice = sym (height_middle axis.along axis.across (pos 1) p q) ∙ height_times axis.along axis.across (pos 1) (sum_of_points p q) ∙ ap (λ (w : ℤ). pos 1 *ℤ w) (height_point axis.along axis.across (pos 2) (sum_of_points p q) v at.is.x at.is.y) in
        piece.none v (shared at.is_shared)
        (axis.more p v p_on v_on (above (height axis.along axis.across p) (height axis.along axis.across q) (height axis.along axis.across v) up twice))
        (axis.more v q v_on q_on (below (height axis.along axis.across p) (height axis.along axis.across q) (height axis.along axis.across v) up twice))
      where
        above : (p q v : ℤ) → p <ℤ q → pos 1 *ℤ (p +ℤ q) ≡ pos 1 *ℤ (pos 2 *ℤ v) → p <ℤ v
        above p q v h e = omega (arith, ints)

        below : (p q v : ℤ) → p <ℤ q → pos 1 *ℤ (p +ℤ q) ≡ pos 1 *ℤ (pos 2 *ℤ v) → v <ℤ q
        below p q v h e = omega (arith, ints)

    module _ (marks : List MarkOf) (are : AreMarks offsets c marks) (r s : ℕ) (is_ring : r + 1 < length offsets) (is_other : s + 1 < length offsets) (differ : r ≡ s → ⊥) where
      within : (k : ℕ) → IsEdgeOf offsets r k → k < length c
      within k e =
          let all = ends_within offsets c divides r is_ring in
          let below = e.below in
          omega (arith, all, below)

      -- from a point of a piece to its middle
      module _ (k m : ℕ) (e : IsEdgeOf offsets r k) (f : IsAfter offsets k m) (axis : Axis (point_at c k) (point_at c m)) (p q : Point) (piece : IsPiece offsets c k p q)
          (d : ℤ) (x : Point) (above : pos 0 <ℤ d) (on : LiesOn d x (point_at c k) (point_at c m)) (off : IsOnRing d x (nth_ring c offsets s) → ⊥)
          (low : (d *ℤ height axis.along axis.across p) ≤ℤ height axis.along axis.across x) (high : height axis.along axis.across x ≤ℤ (d *ℤ height axis.along axis.across q)) where
        p_on : LiesOn (pos 1) p (point_at c k) (point_at c m)
        p_on = mark_on offsets c divides r k m p e f piece.first

        q_on : LiesOn (pos 1) q (point_at c k) (point_at c m)
        q_on = mark_on offsets c divides r k m q e f piece.second

        -- the start itself is off ring s
        at_start : (g : ℤ) (z : Point) → pos 0 <ℤ g → (on_way : IsOnSegment g z (times_point (pos 2) x) (times_point d (sum_of_points p q))) → on_way.share ≡ pos 0 → IsOnRing (g *ℤ (d *ℤ pos 2)) z (nth_ring c offsets s) → ⊥
        at_start g z g_above on_way none other = off (record {
          place = other.place;
          within = other.within;
          on = lies_same (g *ℤ (d *ℤ pos 2)) d z x _ _ (product_positive g (d *ℤ pos 2) g_above (product_positive d (pos 2) above (omega (arith, ints)))) above
              (scaled z.x x.x (d *ℤ (p.x +ℤ q.x)) on_way.x) (scaled z.y x.y (d *ℤ (p.y +ℤ q.y)) on_way.y) other.on;
        })
          where
            scaled : (z x w : ℤ) → z ≡ g *ℤ (pos 2 *ℤ x) +ℤ on_way.share *ℤ (w -ℤ pos 2 *ℤ x) → d *ℤ z ≡ (g *ℤ (d *ℤ pos 2)) *ℤ x
            scaled z x w h = ap (λ (v : ℤ). d *ℤ v) (h ∙ ap (λ (t : ℤ). g *ℤ (pos 2 *ℤ x) +ℤ t *ℤ (w -ℤ pos 2 *ℤ x)) none)
                ∙ by_polynomials (g ∷ d ∷ x ∷ w ∷ [])
                (times (variable 1) (plus (times (variable 0) (times (number (pos 2)) (variable 2))) (times (number (pos 0)) (plus (variable 3) (minus (times (number (pos 2)) (variable 2)))))))
                (times (times (variable 0) (times (variable 1) (number (pos 2)))) (variable 2)) refl

        -- so are the other points
        off_way : (g : ℤ) (z : Point) → pos 0 <ℤ g → IsOnSegment g z (times_point (pos 2) x) (times_point d (sum_of_points p q)) → IsOnRing (g *ℤ (d *ℤ pos 2)) z (nth_ring c offsets s) → ⊥
        off_way g z g_above on_way other = elim (compared on_way.share (pos 0)) [
          | inl none ↦ at_start g z g_above on_way (both on_way.share none on_way.least) other
          | inr some ↦ (let two : pos 0 <ℤ pos 2 = omega (arith, ints) in
              let z_on = lies_between (point_at c k) (point_at c m) d (pos 2) g x (sum_of_points p q) z above two on (lies_middle p q (point_at c k) (point_at c m) p_on q_on) on_way in
              let at = shared_at offsets c divides clear r s k m (g *ℤ (d *ℤ pos 2)) z e f is_other differ (product_positive g (d *ℤ pos 2) g_above (product_positive d (pos 2) above two)) z_on other in
              let v_on = mark_on offsets c divides r k m at.point e f (shared at.is_shared) in
              let up = axis.less p q p_on q_on piece.order in
              let whole = height_point axis.along axis.across (g *ℤ (d *ℤ pos 2)) z at.point at.is.x at.is.y in
              let is = share_height axis.along axis.across g z (times_point (pos 2) x) (times_point d (sum_of_points p q)) on_way
              ∙ ap (λ (w : ℤ). g *ℤ w +ℤ on_way.share *ℤ (height axis.along axis.across (times_point d (sum_of_points p q)) -ℤ w)) (height_times axis.along axis.across (pos 2) x)
              ∙ ap (λ (w : ℤ). g *ℤ (pos 2 *ℤ height axis.along axis.across x) +ℤ on_way.share *ℤ (w -ℤ pos 2 *ℤ height axis.along axis.across x)) (height_middle axis.along axis.across d p q) in
              piece.none at.point (shared at.is_shared)
              (axis.more p at.point p_on v_on (above_first g on_way.share d (height axis.along axis.across x) (height axis.along axis.across p) (height axis.along axis.across q) (height axis.along axis.across z) (height axis.along axis.across at.point) some on_way.most above low high up is whole))
              (axis.more at.point q v_on q_on (below_second g on_way.share d (height axis.along axis.across x) (height axis.along axis.across p) (height axis.along axis.across q) (height axis.along axis.across z) (height axis.along axis.across at.point) some on_way.most above low high up is whole)))
        ]
          where
            both : (t : ℤ) → t ≤ℤ pos 0 → pos 0 ≤ℤ t → t ≡ pos 0
            both t h l = omega (arith, ints)

        same_middle : winding_at (nth_ring c offsets s) d x ≡ winding_at (nth_ring c offsets s) (pos 2) (sum_of_points p q)
        same_middle = same_along (nth_ring c offsets s) d (pos 2) x (sum_of_points p q) above (omega (arith, ints)) off_way

      -- a point of an edge to look at
      sample_listed : (k m : ℕ) (d : ℤ) (x : Point) → IsEdgeOf offsets r k → IsAfter offsets k m → IsListed offsets c k → pos 0 <ℤ d → LiesOn d x (point_at c k) (point_at c m) → (IsOnRing d x (nth_ring c offsets s) → ⊥) → Sample offsets c r s d x
      sample_listed k m d x e f listed above on off =
          let axis = axis_of (point_at c k) (point_at c m) (ends_differ offsets c divides whole clear r k m e f) in
          let gap = gap_of offsets c k axis.along axis.across d x marks are.each (whole_gap offsets c k axis.along axis.across d x m (within k e) f axis.differ on) in
          let p = gap.first in
          let q = gap.second in
          let p_on = mark_on offsets c divides r k m p e f gap.is_first in
          let q_on = mark_on offsets c divides r k m q e f gap.is_second in
          let piece : IsPiece offsets c k p q = record {
            first = gap.is_first;
            second = gap.is_second;
            order = axis.more p q p_on q_on gap.order;
            none = λ v mark lower upper. (let v_on = mark_on offsets c divides r k m v e f mark in
                All-contains (IsOutside k axis.along axis.across p q) marks (record { edge = k; point = v }) gap.none (are.all k v listed mark) refl (axis.less p v p_on v_on lower) (axis.less v q v_on q_on upper));
          } in
          record {
            edge = k;
            is_edge = e;
            listed = listed;
            first = p;
            second = q;
            piece = piece;
            same = same_middle k m e f axis p q piece d x above on off gap.low gap.high;
          }

      -- an edge that isn't one to look at shares no point with ring s
      unlisted_off : (k m : ℕ) (d : ℤ) (x : Point) → IsEdgeOf offsets r k → IsAfter offsets k m → (IsListed offsets c k → ⊥) → pos 0 <ℤ d → LiesOn d x (point_at c k) (point_at c m) → IsOnRing d x (nth_ring c offsets s) → ⊥
      unlisted_off k m d x e f none above on other =
          let at = shared_at offsets c divides clear r s k m d x e f is_other differ above on other in
          none (inr (record { point = at.point; shared = at.is_shared }))

      -- so ring s winds as often about its end
      same_end : (k m : ℕ) (d : ℤ) (x : Point) → IsEdgeOf offsets r k → IsAfter offsets k m → (IsListed offsets c k → ⊥) → pos 0 <ℤ d → LiesOn d x (point_at c k) (point_at c m)
          → winding_at (nth_ring c offsets s) d x ≡ winding_at (nth_ring c offsets s) (pos 1) (point_at c m)
      same_end k m d x e f none above on =
          let one : pos 0 <ℤ pos 1 = omega (arith, ints) in
          same_along (nth_ring c offsets s) d (pos 1) x (point_at c m) above one (λ g z g_above between other.
          unlisted_off k m (g *ℤ (d *ℤ pos 1)) z e f none (product_positive g (d *ℤ pos 1) g_above (product_positive d (pos 1) above one))
          (lies_between (point_at c k) (point_at c m) d (pos 1) g x (point_at c m) z above one on (lies_at_end (point_at c k) (point_at c m)) between) other)

      moved_sample : (d e : ℤ) (x y : Point) → winding_at (nth_ring c offsets s) d x ≡ winding_at (nth_ring c offsets s) e y → Sample offsets c r s e y → Sample offsets c r s d x
      moved_sample d e x y same h = record {
        edge = h.edge;
        is_edge = h.is_edge;
        listed = h.listed;
        first = h.first;
        second = h.second;
        piece = h.piece;
        same = same ∙ h.same;
      }

      -- from edge to edge, up to one to look at
      sample_from : (n k m : ℕ) (d : ℤ) (x : Point) → k + n ≡ offset offsets (r + 1) → IsEdgeOf offsets r k → IsAfter offsets k m → pos 0 <ℤ d → LiesOn d x (point_at c k) (point_at c m) → (IsOnRing d x (nth_ring c offsets s) → ⊥) → Sample offsets c r s d x
      sample_from zero k m d x left e f above on off = absurd (let below = e.below in omega (arith, left, below))
      sample_from (suc n) k m d x left e f above on off = elim (listed_or_not offsets c k marks (within k e) are) [
        | inl listed ↦ sample_listed k m d x e f listed above on off
        | inr none ↦ (let e' = after_in offsets c divides r k m e f in
            let next = edge_end offsets c divides r m e' in
            let on' = lies_at_start (point_at c m) (point_at c next.end) in
            let one : pos 0 <ℤ pos 1 = omega (arith, ints) in
            let off' = unlisted_off k m (pos 1) (point_at c m) e f none one (lies_at_end (point_at c k) (point_at c m)) in
            moved_sample d (pos 1) x (point_at c m) (same_end k m d x e f none above on) (elim (cases_lt (k + 1) (offset offsets (r + 1))) [
              | inl l ↦ (let up = next_of offsets c divides r k m e f l in
                  sample_from n m next.end (pos 1) (point_at c m) (omega (arith, left, up)) e' next.after one on' off')
              | inr l ↦ (let below = e.below in
                  let round = first_of offsets c divides r k m e f (omega (arith, l, below)) in
                  sample_listed m next.end (pos 1) (point_at c m) e' next.after (inl (record { ring = r; is_ring = is_ring; is_first = round })) one on' off')
            ]))
      ]

      -- for each point of ring r that is off ring s there is a piece to look at about whose middle ring s winds as often
      pub sample_of : (d : ℤ) (x : Point) → pos 0 <ℤ d → IsOnRing d x (nth_ring c offsets r) → (IsOnRing d x (nth_ring c offsets s) → ⊥) → Sample offsets c r s d x
      sample_of d x above on off =
          let first = ring_on_edge offsets c divides r d x is_ring on in
          let below = first.is_edge.below in
          sample_from (offset offsets (r + 1) - first.edge) first.edge first.end d x (omega (arith, below)) first.is_edge first.after above first.on off
