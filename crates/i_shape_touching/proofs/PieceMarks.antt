-- Where an edge meets another ring: at a point that is shared.
use Rattle.std.proofs.Common.{◌≡◌, [], ◌∷◌, ℕ, ℤ, pos, ◌+◌, ◌<◌, ◌<ℤ◌, ◌*ℤ◌, List, length, refl, sym, ap, subst, ◌∙◌, arith, inl, inr}
use Rattle.std.proofs.lemmas.Int.{ints}
use Rattle.i_shape_core.specs.Point.{Point}
use Rattle.i_shape_core.specs.Contour.{point_at}
use Rattle.i_shape_core.specs.Rings.{nth_ring}
use Rattle.i_shape_core.proofs.Arithmetic.Polynomials.{number, variable, times, by_polynomials}
use Rattle.i_shape_contacts.specs.Contacts.{IsAfter, NoContact}
use Rattle.i_shape_contacts.specs.Courses.{DividesPoints}
use Rattle.i_shape_contacts.specs.Kinds.{DoTouch}
use Rattle.i_shape_contacts.specs.Meeting.{IsPoint}
use Rattle.i_shape_contacts.proofs.Courses.{after_unique}
use Rattle.i_shape_contacts.proofs.Parting.{times_point}
use Rattle.i_shape_contacts.proofs.Signs.{product_positive}
use Rattle.i_shape_touching.specs.Places.{LiesOn, IsOnRing}
use Rattle.i_shape_touching.specs.Touching.{IsEdgeOf, IsFaultyContact}
use Rattle.i_shape_touching.specs.Steps.Pieces.{IsShared, IsMark}
use Rattle.i_shape_touching.specs.Steps.Pieces.IsMark.{start, end, shared}
use Rattle.i_shape_touching.proofs.TouchPoints.{edge_unique, IsAtEnd, touch_end, meet_lies, sole_point}
use Rattle.i_shape_touching.proofs.PieceNumbers.{cancel_same}
use Rattle.i_shape_touching.proofs.PieceSegments.{lies_on_both, lies_meet, lies_at_start, lies_at_end}
use Rattle.i_shape_touching.proofs.PieceEdges.{ring_on_edge, rings_touch}

-- a point of both segments
record OfBoth (a b c e : Point) : Type 0 where
  point : Point
  on_first : LiesOn (pos 1) point a b
  on_second : LiesOn (pos 1) point c e

end_of_both : (a b c e : Point) → IsAtEnd a b c e → OfBoth a b c e
end_of_both a b c e (inl h) = record { point = a; on_first = lies_at_start a b; on_second = meet_lies a c e h }
end_of_both a b c e (inr (inl h)) = record { point = b; on_first = lies_at_end a b; on_second = meet_lies b c e h }
end_of_both a b c e (inr (inr (inl h))) = record { point = c; on_first = meet_lies c a b h; on_second = lies_at_start c e }
end_of_both a b c e (inr (inr (inr h))) = record { point = e; on_first = meet_lies e a b h; on_second = lies_at_end c e }

-- the points that touching segments share are one
touch_point : (a b c e : Point) (d : ℤ) (y v : Point) → DoTouch a b c e → pos 0 <ℤ d → LiesOn d y a b → LiesOn d y c e → LiesOn (pos 1) v a b → LiesOn (pos 1) v c e → IsPoint d y v
touch_point a b c e d y v touch above f g f' g' =
    let p = lies_on_both d y a b c e f g in
    let q = lies_on_both (pos 1) v a b c e f' g' in
    let one = sole_point a b c e (p.factor *ℤ d) (q.factor *ℤ pos 1) (times_point p.factor y) (times_point q.factor v) touch
    (product_positive p.factor d p.positive above) (product_positive q.factor (pos 1) q.positive (omega (arith, ints))) p.on_first p.on_second q.on_first q.on_second in
    record { x = cleared p.factor q.factor d y.x v.x p.positive q.positive (ap (λ (z : Point). z.x) one); y = cleared p.factor q.factor d y.y v.y p.positive q.positive (ap (λ (z : Point). z.y) one) }
  where
    cleared : (f g d y v : ℤ) → pos 0 <ℤ f → pos 0 <ℤ g → (g *ℤ pos 1) *ℤ (f *ℤ y) ≡ (f *ℤ d) *ℤ (g *ℤ v) → y ≡ d *ℤ v
    cleared f g d y v f_above g_above same = cancel_same (f *ℤ g) y (d *ℤ v) (product_positive f g f_above g_above) (
        by_polynomials (f ∷ g ∷ y ∷ []) (times (times (variable 0) (variable 1)) (variable 2)) (times (times (variable 1) (number (pos 1))) (times (variable 0) (variable 2))) refl
        ∙ same
        ∙ by_polynomials (f ∷ g ∷ d ∷ v ∷ []) (times (times (variable 0) (variable 2)) (times (variable 1) (variable 3))) (times (times (variable 0) (variable 1)) (times (variable 2) (variable 3))) refl)

-- y divided by d is a point that edge k shares
pub record SharedAt (offsets : List ℕ) (c : List Point) (k : ℕ) (d : ℤ) (y : Point) : Type 0 where
  pub point : Point
  pub is_shared : IsShared offsets c k point
  pub is : IsPoint d y point

module _ (offsets : List ℕ) (c : List Point) (divides : DividesPoints (length c) offsets) where
  -- marks of an edge lie on it
  pub mark_on : (r k m : ℕ) (p : Point) → IsEdgeOf offsets r k → IsAfter offsets k m → IsMark offsets c k p → LiesOn (pos 1) p (point_at c k) (point_at c m)
  mark_on r k m p e f (start h same) = subst (λ (v : Point). LiesOn (pos 1) v (point_at c k) (point_at c m)) (sym same) (lies_at_start (point_at c k) (point_at c m))
  mark_on r k m p e f (end n g same) =
      subst (λ (v : Point). LiesOn (pos 1) v (point_at c k) (point_at c m)) (sym (same ∙ ap (point_at c) (after_unique offsets k n m divides.divides g f))) (lies_at_end (point_at c k) (point_at c m))
  mark_on r k m p e f (shared s) =
      subst (λ (n : ℕ). LiesOn (pos 1) p (point_at c k) (point_at c n)) (after_unique offsets k s.on_edge.end m divides.divides s.on_edge.follows f) s.on_edge.on

  module _ (clear : NoContact (IsFaultyContact offsets c)) where
    -- a point of an edge that is on another ring is one that the edge shares
    pub shared_at : (r s k m : ℕ) (d : ℤ) (y : Point) → IsEdgeOf offsets r k → IsAfter offsets k m → s + 1 < length offsets → (r ≡ s → ⊥) → pos 0 <ℤ d
        → LiesOn d y (point_at c k) (point_at c m) → IsOnRing d y (nth_ring c offsets s) → SharedAt offsets c k d y
    shared_at r s k m d y e f is_other differ above on other =
        let second = ring_on_edge offsets c divides s d y is_other other in
        let touch = rings_touch offsets c divides r s k m second.edge second.end e second.is_edge f second.after differ clear (lies_meet d y _ _ _ _ above on second.on) in
        let at = end_of_both _ _ _ _ (touch_end _ _ _ _ touch) in
        record {
          point = at.point;
          is_shared = record {
            other = second.edge;
            on_edge = record { end = m; follows = f; on = at.on_first };
            on_other = record { end = second.end; follows = second.after; on = at.on_second };
            differ = λ t g h. differ (sym (edge_unique offsets k t r divides.divides g e) ∙ edge_unique offsets second.edge t s divides.divides h second.is_edge);
          };
          is = touch_point _ _ _ _ d y at.point touch above on second.on at.on_first at.on_second;
        }
