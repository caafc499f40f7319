-- The winding number of a moved contour about the moved point: for a point off the edges the direction in which heights
-- are measured doesn't matter.
use Rattle.std.proofs.Common.{◌≡◌, ℕ, suc, ◌<◌, List, [], ◌∷◌, ◌++◌, length, map, get_or, ℤ, pos, negsuc, ◌+ℤ◌, ◌-ℤ◌, ◌*ℤ◌, ◌<ℤ◌, ◌≤ℤ◌, neg_ℤ, Bool, true, false, cond, int_lt, refl, sym, ap, ap₂, subst, ◌∙◌, arith, inl, inr, add-one}
use Rattle.std.proofs.lemmas.Int.{ints, by_lt_z}
use Rattle.std.proofs.lemmas.List.{get_or_append_left, get_or_at}
use Rattle.i_shape_core.specs.Point.{Point, origin, cross, cross_of, dot, dot_of}
use Rattle.i_shape_core.specs.Contour.{point_at, place_after}
use Rattle.i_shape_core.specs.Edges.{Edge, edges_between, edges, sum_of}
use Rattle.i_shape_core.specs.Winding.{winding_of_edge, winding}
use Rattle.i_shape_core.specs.Moves.{Move, determinant, moved_point, moved}
use Rattle.i_shape_core.specs.Boundary.{IsBetween, IsOnEdge}
use Rattle.i_shape_core.proofs.Arithmetic.Polynomials.{Term, number, variable, plus, times, minus, by_polynomials}
use Rattle.i_shape_core.proofs.Plane.CrossProducts.{Place, coordinates, cross_term, dot_term, A, B, C, D, edge, cross_reversed}
use Rattle.i_shape_core.proofs.Arithmetic.WholeNumbers.{alike_scaled, drop_last, not_positive_of, one-mul, zero_not_above, zero_not_below}
use Rattle.i_shape_core.proofs.Sums.Inside.{right_when}
use Rattle.i_shape_core.proofs.Sums.Edges.{sum_alike}
use Rattle.i_shape_core.proofs.Sums.Windings.{bit}
use Rattle.i_shape_core.proofs.Removal.Places.{after_is, Follows}
use Rattle.i_shape_core.proofs.Moved.ZeroTurns.{cross_moved}
use Rattle.i_shape_core.proofs.Plane.Back.{way_squared, square_term, dot_same-first}
use Rattle.i_shape_laws.specs.Moved.{WindingMoved}
use Rattle.i_shape_laws.proofs.Moved.Back.{equal_of_low_distance}

-- ---- what an edge adds, by which of its ends are above the point, and the side of the edge that the point is on
abbrev crossing : Bool → Bool → Bool → Bool → ℤ
crossing true true left right = pos 0
crossing true false left right = cond right (negsuc 0) (pos 0)
crossing false true left right = cond left (pos 1) (pos 0)
crossing false false left right = pos 0

-- the same by a number k: below 0 for a point on the left, above 0 for one on the right
abbrev crossing_by : Bool → Bool → ℤ → ℤ
crossing_by s t k = crossing s t (int_lt k (pos 0)) (int_lt (neg_ℤ k) (pos 0))

edge_crossing : (p a b : Point) → winding_of_edge p (edge a b) ≡ crossing_by (int_lt p.y a.y) (int_lt p.y b.y) (cross a p b)
unfolding winding_of_edge
edge_crossing p a b = go (int_lt p.y a.y) (int_lt p.y b.y) refl refl
  where
    go : (s t : Bool) → int_lt p.y a.y ≡ s → int_lt p.y b.y ≡ t → winding_of_edge p (edge a b) ≡ crossing_by s t (cross a p b)
    go true true e f = rw (right_when p a b true true e f) refl
    go false false e f = rw (right_when p a b false false e f) refl
    go true false e f = rw (right_when p a b true false e f, cross_reversed a p b, e, f) refl
    go false true e f = rw (right_when p a b false true e f, e, f) refl

-- ---- heights along another direction
-- whether a is above p along l
abbrev tall : Point → Point → Point → Bool
tall l p a = int_lt (dot_of l p) (dot_of l a)

-- what an edge adds if heights are measured along l
abbrev crossing_along : Point → Point → Edge → ℤ
crossing_along l p e = crossing_by (tall l p e.start) (tall l p e.end) (cross e.start p e.end)

-- 1 for a point above p along the first direction alone, otherwise 0
abbrev corner : Bool → Bool → ℤ
corner s t = cond t (pos 0) (bit s)

-- the height of a above p
abbrev rise : Point → Point → Point → ℤ
rise l p a = dot_of l a -ℤ dot_of l p

abbrev rise_term : Place → Place → Place → Term
rise_term l p a = plus (plus (times l.x a.x) (times l.y a.y)) (minus (plus (times l.x p.x) (times l.y p.y)))

abbrev E : Place
E = record { x = variable 8; y = variable 9 }

-- the heights of two points along two directions decide the side
sides : (l m a p b : Point) → cross_of l m *ℤ cross a p b ≡ rise m p a *ℤ rise l p b -ℤ rise l p a *ℤ rise m p b
unfolding cross
sides l m a p b = by_polynomials (coordinates (l ∷ m ∷ a ∷ p ∷ b ∷ []))
    (times (plus (times A.x B.y) (minus (times A.y B.x))) (cross_term C D E))
    (plus (times (rise_term B D C) (rise_term A D E)) (minus (times (rise_term A D C) (rise_term B D E)))) refl

-- ---- orders and products
-- equal differences are in the same order
same_order : (x y u v : ℤ) → y -ℤ x ≡ v -ℤ u → int_lt x y ≡ int_lt u v
same_order x y u v e = grind (arith, ints)

-- a number not below 0 times one not above 0 isn't above 0
not_above : (q d e : ℤ) → pos 0 ≤ℤ q → d ≤ℤ pos 0 → q *ℤ d ≡ e → e ≤ℤ pos 0
not_above q d e h k is = not_positive_of q (pos 1) d e h (omega (arith, ints)) (is ∙ sym (one-mul e)) k

low_low : (x y : ℤ) → x ≤ℤ pos 0 → y ≤ℤ pos 0 → pos 0 ≤ℤ (x *ℤ y)
low_low x y h k =
    let e = not_above (neg_ℤ x) y (neg_ℤ (x *ℤ y)) (omega (arith, ints)) k (by_polynomials (x ∷ y ∷ []) (times (minus (variable 0)) (variable 1)) (minus (times (variable 0) (variable 1))) refl) in
    omega (arith, ints)

high_high : (x y : ℤ) → pos 0 <ℤ x → pos 0 <ℤ y → pos 0 ≤ℤ (x *ℤ y)
high_high x y h k =
    let e = not_above x (neg_ℤ y) (neg_ℤ (x *ℤ y)) (omega (arith, ints)) (omega (arith, ints)) (by_polynomials (x ∷ y ∷ []) (times (variable 0) (minus (variable 1))) (minus (times (variable 0) (variable 1))) refl) in
    omega (arith, ints)

low_high : (x y : ℤ) → x ≤ℤ pos 0 → pos 0 <ℤ y → (x *ℤ y) ≤ℤ pos 0
low_high x y h k = not_above y x _ (omega (arith, ints)) h (by_polynomials (x ∷ y ∷ []) (times (variable 1) (variable 0)) (times (variable 0) (variable 1)) refl)

high_low : (x y : ℤ) → pos 0 <ℤ x → y ≤ℤ pos 0 → (x *ℤ y) ≤ℤ pos 0
high_low x y h k = not_above x y _ (omega (arith, ints)) k refl

low : (l p a : Point) → tall l p a ≡ false → rise l p a ≤ℤ pos 0
low l p a e = omega (arith, ints)

high : (l p a : Point) → tall l p a ≡ true → pos 0 <ℤ rise l p a
high l p a e = omega (arith, ints)

-- ---- off the edges
-- p isn't on the edge
abbrev Off : Point → Edge → Type 0
Off p e = IsBetween e.start p e.end → ⊥

abbrev AllOff : Point → List Edge → Type 0
AllOff p [] = Unit {0}
AllOff p (e ∷ es) = Off p e × AllOff p es

-- the height of b above p along l, times the squared distance of p and a, by the height of a and `cross a p b`
in_line : (l a p b : Point) → way_squared p a *ℤ rise l p b ≡ neg_ℤ (dot a p b) *ℤ rise l p a +ℤ (l.x *ℤ (a.y -ℤ p.y) -ℤ l.y *ℤ (a.x -ℤ p.x)) *ℤ cross a p b
unfolding way_squared cross dot
in_line l a p b = by_polynomials (coordinates (a ∷ p ∷ b ∷ l ∷ []))
    (times (square_term B A) (rise_term D B C))
    (plus (times (minus (dot_term A B C)) (rise_term D B A)) (times (plus (times D.x (plus A.y (minus B.y))) (minus (times D.y (plus A.x (minus B.x))))) (cross_term A B C))) refl

-- so if p, a and b are collinear, and p is off the edge, both ends are above p or neither is
same_side : (l a p b : Point) → cross a p b ≡ pos 0 → Off p (edge a b) → tall l p a ≡ tall l p b
same_side l a p b z off = go (int_lt (dot a p b) (pos 0)) refl
  where
    above : (x y : ℤ) → int_lt (pos 0) (y -ℤ x) ≡ int_lt x y
    above x y = same_order (pos 0) (y -ℤ x) x y (omega (arith, ints))

    back : p ≡ a → int_lt (dot a p b) (pos 0) ≡ true → ⊥
    back same e = let none = subst (λ (q : Point). dot q p b ≡ pos 0) same (dot_same-first p b) in omega (arith, ints)

    go : (s : Bool) → int_lt (dot a p b) (pos 0) ≡ s → tall l p a ≡ tall l p b
    go false e = absurd (off (record { straight = z; ahead = omega (arith, ints) }))
    go true e =
        let ways = drop_last (way_squared p a *ℤ rise l p b) (neg_ℤ (dot a p b) *ℤ rise l p a) _ (cross a p b) (in_line l a p b) z in
        let there : pos 0 <ℤ neg_ℤ (dot a p b) = omega (arith, ints) in
        let apart : pos 0 <ℤ way_squared p a = by_lt_z (pos 0) (way_squared p a) (λ h. h) (λ h. absurd (back (equal_of_low_distance p a h) e)) in
        let alike = alike_scaled (way_squared p a) (neg_ℤ (dot a p b)) (rise l p a) (rise l p b) apart there (sym ways) in
        sym (above (dot_of l p) (dot_of l a)) ∙ alike.above ∙ above (dot_of l p) (dot_of l b)

-- ---- one edge, with heights along l and along m, where m is left of l
-- if the point is left of the edge, the two counts differ by the corners of its ends
on_left : (l m p a b : Point) → pos 0 <ℤ cross_of l m → int_lt (cross a p b) (pos 0) ≡ true
    → crossing (tall l p a) (tall l p b) true false ≡ crossing (tall m p a) (tall m p b) true false +ℤ (corner (tall l p b) (tall m p b) -ℤ corner (tall l p a) (tall m p a))
on_left l m p a b d k = go (tall l p a) (tall m p a) (tall l p b) (tall m p b) refl refl refl refl
  where
    side : (rise m p a *ℤ rise l p b -ℤ rise l p a *ℤ rise m p b) <ℤ pos 0
    side = below (cross_of l m) (cross a p b) _ d k (sides l m a p b)
      where
        below : (x y z : ℤ) → pos 0 <ℤ x → int_lt y (pos 0) ≡ true → x *ℤ y ≡ z → z <ℤ pos 0
        below x y z h e f = let sign = (alike_scaled x (pos 1) z y h (omega (arith, ints)) (one-mul z ∙ sym f)).below ∙ e in omega (arith, ints)

    wrong : pos 0 ≤ℤ (rise m p a *ℤ rise l p b) → (rise l p a *ℤ rise m p b) ≤ℤ pos 0 → ⊥
    wrong f g = omega (arith, ints, side)

    go : (u v s t : Bool) → tall l p a ≡ u → tall m p a ≡ v → tall l p b ≡ s → tall m p b ≡ t → crossing u s true false ≡ crossing v t true false +ℤ (corner s t -ℤ corner u v)
    go false false false false e f g h = refl
    go false false false true e f g h = absurd (wrong (low_low _ _ (low m p a f) (low l p b g)) (low_high _ _ (low l p a e) (high m p b h)))
    go false false true false e f g h = refl
    go false false true true e f g h = refl
    go false true false false e f g h = refl
    go false true false true e f g h = refl
    go false true true false e f g h = refl
    go false true true true e f g h = absurd (wrong (high_high _ _ (high m p a f) (high l p b g)) (low_high _ _ (low l p a e) (high m p b h)))
    go true false false false e f g h = absurd (wrong (low_low _ _ (low m p a f) (low l p b g)) (high_low _ _ (high l p a e) (low m p b h)))
    go true false false true e f g h = refl
    go true false true false e f g h = refl
    go true false true true e f g h = refl
    go true true false false e f g h = refl
    go true true false true e f g h = refl
    go true true true false e f g h = absurd (wrong (high_high _ _ (high m p a f) (high l p b g)) (high_low _ _ (high l p a e) (low m p b h)))
    go true true true true e f g h = refl

-- a reversed edge with the point on its right adds the negative of the edge with the point on its left
crossing_backwards : (s t : Bool) → crossing s t false true ≡ neg_ℤ (crossing t s true false)
crossing_backwards true true = refl
crossing_backwards true false = refl
crossing_backwards false true = refl
crossing_backwards false false = refl

-- if the point is right of the edge, the two counts differ by the corners of its ends
on_right : (l m p a b : Point) → pos 0 <ℤ cross_of l m → int_lt (neg_ℤ (cross a p b)) (pos 0) ≡ true
    → crossing (tall l p a) (tall l p b) false true ≡ crossing (tall m p a) (tall m p b) false true +ℤ (corner (tall l p b) (tall m p b) -ℤ corner (tall l p a) (tall m p a))
on_right l m p a b d k =
    let left = on_left l m p b a d (rw (cross_reversed a p b) k) in
    rw (crossing_backwards (tall l p a) (tall l p b), crossing_backwards (tall m p a) (tall m p b)) (omega (arith, ints))

in_between : (s t : Bool) → crossing s s false false ≡ crossing t t false false +ℤ (corner s t -ℤ corner s t)
in_between true true = refl
in_between true false = refl
in_between false true = refl
in_between false false = refl

one_edge : (l m p a b : Point) → pos 0 <ℤ cross_of l m → Off p (edge a b) → crossing_along l p (edge a b) ≡ crossing_along m p (edge a b) +ℤ (corner (tall l p b) (tall m p b) -ℤ corner (tall l p a) (tall m p a))
one_edge l m p a b d off = go (int_lt (cross a p b) (pos 0)) (int_lt (neg_ℤ (cross a p b)) (pos 0)) refl refl
  where
    go : (s t : Bool) → int_lt (cross a p b) (pos 0) ≡ s → int_lt (neg_ℤ (cross a p b)) (pos 0) ≡ t
        → crossing (tall l p a) (tall l p b) s t ≡ crossing (tall m p a) (tall m p b) s t +ℤ (corner (tall l p b) (tall m p b) -ℤ corner (tall l p a) (tall m p a))
    go true true e f = absurd (omega (arith, ints))
    go true false e f = on_left l m p a b d e
    go false true e f = on_right l m p a b d f
    go false false e f =
        let z : cross a p b ≡ pos 0 = omega (arith, ints) in
        rw (sym (same_side l a p b z off), sym (same_side m a p b z off)) (in_between (tall l p a) (tall m p a))

-- ---- all edges
-- if f and g differ on each edge by the rise of a height along it, they have the same sum around a contour
module _ (f g : Edge → ℤ) (height : Point → ℤ) (p : Point) (each : (a b : Point) → Off p (edge a b) → f (edge a b) ≡ g (edge a b) +ℤ (height b -ℤ height a)) where
  along_path : (a : Point) (bs : List Point) (z : Point) → AllOff p (edges_between a bs z) → sum_of f (edges_between a bs z) ≡ sum_of g (edges_between a bs z) +ℤ (height z -ℤ height a)
  along_path a [] z off = let one = each a z off.0 in omega (arith, ints)
  along_path a (b ∷ bs) z off = let one = each a b off.0 in let rest = along_path b bs z off.1 in omega (arith, ints)

  around : (c : List Point) → AllOff p (edges c) → sum_of f (edges c) ≡ sum_of g (edges c)
  around [] off = refl
  around (a ∷ bs) off = let all = along_path a bs a off in omega (arith, ints)

contour_by : (l m p : Point) → pos 0 <ℤ cross_of l m → (c : List Point) → AllOff p (edges c) → sum_of (crossing_along l p) (edges c) ≡ sum_of (crossing_along m p) (edges c)
contour_by l m p d = around (crossing_along l p) (crossing_along m p) (λ q. corner (tall l p q) (tall m p q)) p (λ a b. one_edge l m p a b d)

-- the direction of y
abbrev up : Point
up = record { x = pos 0; y = pos 1 }

abbrev back : Point
back = record { x = negsuc 0; y = pos 0 }

-- for a point off the edges, heights along any direction give the same sum
by_any : (l p : Point) (c : List Point) → ((l.x ≡ pos 0) → (l.y ≡ pos 0) → ⊥) → AllOff p (edges c) → sum_of (crossing_along l p) (edges c) ≡ sum_of (crossing_along up p) (edges c)
by_any l p c some off =
    by_lt_z l.x (pos 0) (λ h. sym (contour_by up l p (omega (arith, ints)) c off)) (λ f. by_lt_z (pos 0) l.x (λ h. contour_by l up p (omega (arith, ints)) c off) (λ g. along_y f g))
  where
    along_y : pos 0 ≤ℤ l.x → l.x ≤ℤ pos 0 → sum_of (crossing_along l p) (edges c) ≡ sum_of (crossing_along up p) (edges c)
    along_y f g =
        let flat : l.x ≡ pos 0 = omega (arith, ints) in
        by_lt_z (pos 0) l.y (λ h. contour_by l back p (omega (arith, ints)) c off ∙ sym (contour_by up back p (omega (arith, ints)) c off))
        (λ h. by_lt_z l.y (pos 0) (λ k. sym (contour_by back l p (omega (arith, ints)) c off) ∙ sym (contour_by up back p (omega (arith, ints)) c off)) (λ k. absurd (some flat (omega (arith, ints)))))

-- ---- the plane mirrored
abbrev swapped : Point → Point → Edge → ℤ
swapped l p e = crossing (tall l p e.start) (tall l p e.end) (int_lt (neg_ℤ (cross e.start p e.end)) (pos 0)) (int_lt (cross e.start p e.end) (pos 0))

edge_swapped : (l p a b : Point) → Off p (edge a b) → swapped l p (edge a b) ≡ neg_ℤ (crossing_along l p (edge a b)) +ℤ (bit (tall l p b) -ℤ bit (tall l p a))
edge_swapped l p a b off = go (tall l p a) (tall l p b) (int_lt (cross a p b) (pos 0)) (int_lt (neg_ℤ (cross a p b)) (pos 0)) refl refl refl refl
  where
    same : (s t : Bool) → tall l p a ≡ s → tall l p b ≡ t → int_lt (cross a p b) (pos 0) ≡ false → int_lt (neg_ℤ (cross a p b)) (pos 0) ≡ false → s ≡ t
    same s t e f g h = let z : cross a p b ≡ pos 0 = omega (arith, ints) in sym e ∙ same_side l a p b z off ∙ f

    go : (s t n q : Bool) → tall l p a ≡ s → tall l p b ≡ t → int_lt (cross a p b) (pos 0) ≡ n → int_lt (neg_ℤ (cross a p b)) (pos 0) ≡ q
        → crossing s t q n ≡ neg_ℤ (crossing s t n q) +ℤ (bit t -ℤ bit s)
    go s t true true e f g h = absurd (omega (arith, ints))
    go true true n q e f g h = refl
    go false false n q e f g h = refl
    go true false true false e f g h = refl
    go true false false true e f g h = refl
    go false true true false e f g h = refl
    go false true false true e f g h = refl
    go true false false false e f g h = let no = same true false e f g h in absurd (cc)
    go false true false false e f g h = let no = same false true e f g h in absurd (cc)

sum_negated : (f : Edge → ℤ) (es : List Edge) → sum_of (λ e. neg_ℤ (f e)) es ≡ neg_ℤ (sum_of f es)
sum_negated f [] = refl
sum_negated f (e ∷ es) = let rest = sum_negated f es in omega (arith, ints)

contour_swapped : (l p : Point) (c : List Point) → AllOff p (edges c) → sum_of (swapped l p) (edges c) ≡ neg_ℤ (sum_of (crossing_along l p) (edges c))
contour_swapped l p c off = around (swapped l p) (λ e. neg_ℤ (crossing_along l p e)) (λ q. bit (tall l p q)) p (edge_swapped l p) c off ∙ sum_negated (crossing_along l p) (edges c)

-- ---- the moved contour
-- the direction before the move of heights along y after it
abbrev heights : Move → Point
heights m = record { x = m.yx; y = m.yy }

shifted : (x y z : ℤ) → int_lt (x +ℤ z) (y +ℤ z) ≡ int_lt x y
shifted x y z = same_order (x +ℤ z) (y +ℤ z) x y (omega (arith, ints))

-- what an edge adds after the move
abbrev after : Move → Point → Edge → ℤ
after m p e = crossing_by (tall (heights m) p e.start) (tall (heights m) p e.end) (determinant m *ℤ cross e.start p e.end)

edge_after : (m : Move) (p a b : Point) → winding_of_edge (moved_point m p) (edge (moved_point m a) (moved_point m b)) ≡ after m p (edge a b)
edge_after m p a b =
    edge_crossing (moved_point m p) (moved_point m a) (moved_point m b)
    ∙ ap (crossing_by (int_lt (moved_point m p).y (moved_point m a).y) (int_lt (moved_point m p).y (moved_point m b).y)) (cross_moved m a p b)
    ∙ ap₂ (λ (s t : Bool). crossing_by s t (determinant m *ℤ cross a p b))
    (shifted (dot_of (heights m) p) (dot_of (heights m) a) m.y) (shifted (dot_of (heights m) p) (dot_of (heights m) b) m.y)

path_after : (m : Move) (p a : Point) (bs : List Point) (z : Point)
    → sum_of (winding_of_edge (moved_point m p)) (edges_between (moved_point m a) (map (moved_point m) bs) (moved_point m z)) ≡ sum_of (after m p) (edges_between a bs z)
path_after m p a [] z = ap (λ (n : ℤ). n +ℤ pos 0) (edge_after m p a z)
path_after m p a (b ∷ bs) z = ap₂ (λ (n s : ℤ). n +ℤ s) (edge_after m p a b) (path_after m p b bs z)

winding_after : (m : Move) (p : Point) (c : List Point) → winding (moved m c) (moved_point m p) ≡ sum_of (after m p) (edges c)
unfolding winding
winding_after m p [] = refl
winding_after m p (a ∷ bs) = path_after m p a bs a

-- the winding number measures heights along y
winding_up : (p : Point) (c : List Point) → winding c p ≡ sum_of (crossing_along up p) (edges c)
unfolding winding
winding_up p c = sum_alike (winding_of_edge p) (crossing_along up p) each (edges c)
  where
    plain : (q : Point) → dot_of up q ≡ q.y
    plain q = by_polynomials (coordinates (q ∷ [])) (plus (times (number (pos 0)) A.x) (times (number (pos 1)) A.y)) A.y refl

    tall_up : (a : Point) → int_lt p.y a.y ≡ tall up p a
    tall_up a = sym (ap₂ (λ (x y : ℤ). int_lt x y) (plain p) (plain a))

    each : (e : Edge) → winding_of_edge p e ≡ crossing_along up p e
    each e = edge_crossing p e.start e.end ∙ ap₂ (λ (s t : Bool). crossing_by s t (cross e.start p e.end)) (tall_up e.start) (tall_up e.end)

-- ---- a point off the edges of a contour
path_off : (p a : Point) (bs : List Point) (z : Point) → ((k : ℕ) → k < suc (length bs) → IsBetween (get_or (a ∷ bs) k origin) p (get_or (bs ++ z ∷ []) k origin) → ⊥) → AllOff p (edges_between a bs z)
path_off p a [] z h = (h 0 (omega arith), tt)
path_off p a (b ∷ bs) z h = (h 0 (omega arith), path_off p b bs z (λ k l. h (suc k) (omega arith)))

edges_off : (c : List Point) (p : Point) → (IsOnEdge c p → ⊥) → AllOff p (edges c)
edges_off [] p off = tt
edges_off (a ∷ bs) p off = path_off p a bs a (λ k l w. off (record { place = k; within = l; between = subst (λ (q : Point). IsBetween (point_at (a ∷ bs) k) p q) (next k l (after_is (suc (length bs)) k l)) w }))
  where
    next : (k : ℕ) → k < suc (length bs) → Follows (suc (length bs)) k (place_after (suc (length bs)) k) → get_or (bs ++ a ∷ []) k origin ≡ point_at (a ∷ bs) (place_after (suc (length bs)) k)
    next k l (inl f) = get_or_append_left bs (a ∷ []) origin k (let g = f.0 in omega arith) ∙ sym (ap (λ (j : ℕ). point_at (a ∷ bs) j) (f.1 ∙ add-one k))
    next k l (inr f) = get_or_at bs a [] origin k (let g = f.0 in omega arith) ∙ sym (ap (λ (j : ℕ). point_at (a ∷ bs) j) f.1)

-- ---- signs
factor_kept : (s t : Bool) (d k : ℤ) → pos 0 <ℤ d → crossing_by s t (d *ℤ k) ≡ crossing_by s t k
factor_kept s t d k h = ap₂ (λ (n q : Bool). crossing s t n q)
    (alike_scaled d (pos 1) (d *ℤ k) k h (omega (arith, ints)) (by_polynomials (d ∷ k ∷ []) (times (number (pos 1)) (times (variable 0) (variable 1))) (times (variable 0) (variable 1)) refl)).below
    (alike_scaled d (pos 1) (neg_ℤ (d *ℤ k)) (neg_ℤ k) h (omega (arith, ints)) (by_polynomials (d ∷ k ∷ []) (times (number (pos 1)) (minus (times (variable 0) (variable 1)))) (times (variable 0) (minus (variable 1))) refl)).below

factor_mirrored : (s t : Bool) (d k : ℤ) → d <ℤ pos 0 → crossing_by s t (d *ℤ k) ≡ crossing s t (int_lt (neg_ℤ k) (pos 0)) (int_lt k (pos 0))
factor_mirrored s t d k h =
    let above : pos 0 <ℤ neg_ℤ d = omega (arith, ints) in
    ap₂ (λ (n q : Bool). crossing s t n q)
    (alike_scaled (neg_ℤ d) (pos 1) (d *ℤ k) (neg_ℤ k) above (omega (arith, ints)) (by_polynomials (d ∷ k ∷ []) (times (number (pos 1)) (times (variable 0) (variable 1))) (times (minus (variable 0)) (minus (variable 1))) refl)).below
    (alike_scaled (neg_ℤ d) (pos 1) (neg_ℤ (d *ℤ k)) k above (omega (arith, ints)) (by_polynomials (d ∷ k ∷ []) (times (number (pos 1)) (minus (times (variable 0) (variable 1)))) (times (minus (variable 0)) (variable 1)) refl)).below

-- the direction before the move isn't 0 if the determinant isn't
some_heights : (m : Move) → (determinant m ≡ pos 0 → ⊥) → m.yx ≡ pos 0 → m.yy ≡ pos 0 → ⊥
some_heights m h e f = h (ap₂ (λ (x y : ℤ). m.xx *ℤ y -ℤ m.xy *ℤ x) e f ∙ by_polynomials (m.xx ∷ m.xy ∷ []) (plus (times (variable 0) (number (pos 0))) (minus (times (variable 1) (number (pos 0))))) (number (pos 0)) refl)

-- for a point off the edges, a moved contour's winding number about the moved point is the contour's, with the sign of
-- the determinant
pub winding_moved : (m : Move) (c : List Point) (p : Point) → (IsOnEdge c p → ⊥) → WindingMoved m c p
winding_moved m c p off =
    let all = edges_off c p off in
    record {
      kept = λ d. winding_after m p c ∙ sum_alike (after m p) (crossing_along (heights m) p) (λ e. factor_kept _ _ (determinant m) (cross e.start p e.end) d) (edges c)
          ∙ by_any (heights m) p c (some_heights m (λ z. zero_not_above (determinant m) z d)) all ∙ sym (winding_up p c);
      mirrored = λ d. winding_after m p c ∙ sum_alike (after m p) (swapped (heights m) p) (λ e. factor_mirrored _ _ (determinant m) (cross e.start p e.end) d) (edges c)
          ∙ contour_swapped (heights m) p c all ∙ ap neg_ℤ (by_any (heights m) p c (some_heights m (λ z. zero_not_below (determinant m) z d)) all ∙ sym (winding_up p c));
    }
