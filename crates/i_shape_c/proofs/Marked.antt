-- What is written where points are on edges of contours.
use Rattle.std.proofs.Common.{◌↔◌, Bool, true, false, IsTrue, int_lt, ◌≡◌, ◌∙◌, ◌⊎◌, inl, inr, zero, suc, ℕ, ◌+◌, ◌-◌, ◌<◌, ◌≤◌, List, [], ◌∷◌, map, length, take, drop, set, get_or, ℤ, pos, negsuc, ◌-ℤ◌, ◌+ℤ◌, ◌*ℤ◌, ◌<ℤ◌, ◌≤ℤ◌, refl, ap, sym, subst, arith, IsPermutation}
use Rattle.std.proofs.lemmas.Bool.{cases_lt, cases_eq}
use Rattle.std.proofs.lemmas.Int.{ints, by_lt_z}
use Rattle.std.proofs.lemmas.List.{get_or-map, length-map, get_or-set_same, get_or-set_other, get_or_default, get_or-take, get_or-drop, length-take, length-drop, length-set, same_lists}
use Rattle.std.proofs.lemmas.List.Elements.{All-contains}
use Rattle.std.proofs.lemmas.Slice.Zip.{AllZip-long}
use Rattle.i_shape_core.proofs.Common.{place_before, place_after, Point, origin, point_of, point_at, contour_of}
use Rattle.i_shape.specs.IntPoints.{IntPoint}
use Rattle.i_shape_core.specs.Point.{cross, dot}
use Rattle.i_shape_core.specs.Boundary.{IsBetween, IsOnEdge}
use Rattle.i_shape_core.specs.Heights.{asks}
use Rattle.i_shape_core.specs.declared.measure.heights.Asked.{Asked}
use Rattle.i_shape_core.proofs.Arithmetic.Polynomials.{plus, times, minus, by_polynomials}
use Rattle.i_shape_core.proofs.Arithmetic.WholeNumbers.{not_positive_of, drop_last}
use Rattle.i_shape_core.proofs.Plane.Back.{way_squared, square_term, square_at_least, equal_of_distance}
use Rattle.i_shape_core.proofs.Plane.CrossProducts.{coordinates, cross_term, dot_term, A, B, C}
use Rattle.i_shape_core.proofs.Removal.Places.{after_is, after_within, before_from}
use Rattle.i_shape_core.proofs.Sums.BoundaryWalk.{EndsOn, on_edge}
use Rattle.i_shape_core.proofs.Sums.Heights.{IsOf, asked-of, each-asked}
use Rattle.i_shape_c.specs.Batch.{nth_contour}
use Rattle.i_shape_c.specs.Locations.{IsOnContours, AreTold}
use Rattle.i_shape_c.specs.Marked.{IsMarked, IsThere}
use Rattle.i_shape_c.specs.Steps.AskedFor.{IsAskedFor}
use Rattle.i_shape_c.proofs.Told.{zip_at, zip_of}

-- ---- heights
-- the dot product at p times the rise from p to b, by the squared distance of p and b, and the cross product at p
rise_scaled : (a p b : Point) → dot a p b *ℤ (b.y -ℤ p.y) ≡ way_squared p b *ℤ (p.y -ℤ a.y) +ℤ (b.x -ℤ p.x) *ℤ cross a p b
unfolding way_squared cross dot
rise_scaled a p b = by_polynomials (coordinates (a ∷ p ∷ b ∷ []))
    (times (dot_term A B C) (plus C.y (minus B.y)))
    (plus (times (square_term B C) (plus B.y (minus A.y))) (times (plus C.x (minus B.x)) (cross_term A B C))) refl

-- the same with the signs of both rises turned
fall_scaled : (a p b : Point) → dot a p b *ℤ (p.y -ℤ b.y) ≡ way_squared p b *ℤ (a.y -ℤ p.y) +ℤ (p.x -ℤ b.x) *ℤ cross a p b
unfolding way_squared cross dot
fall_scaled a p b = by_polynomials (coordinates (a ∷ p ∷ b ∷ []))
    (times (dot_term A B C) (plus B.y (minus C.y)))
    (plus (times (square_term B C) (plus A.y (minus B.y))) (times (plus B.x (minus C.x)) (cross_term A B C))) refl

-- points at different heights are apart
apart : (p b : Point) → (p.y ≡ b.y → ⊥) → pos 0 <ℤ way_squared p b
apart p b other =
    let least = square_at_least p b in
    let some : way_squared p b ≡ pos 0 → ⊥ = λ e. other (ap (λ (q : Point). q.y) (equal_of_distance p b e)) in
    above (way_squared p b) least some
  where
    above : (s : ℤ) → pos 0 ≤ℤ s → (s ≡ pos 0 → ⊥) → pos 0 <ℤ s
    above (pos zero) h n = absurd (n refl)
    above (pos (suc s)) h n = omega (arith, ints)
    above (negsuc s) h n = absurd (omega (arith, ints))

-- no point of an edge is lower than both ends
pub not_lower : (a p b : Point) → p.y <ℤ a.y → p.y <ℤ b.y → IsBetween a p b → ⊥
not_lower a p b low_a low_b on =
    let scaled = drop_last _ (way_squared p b *ℤ (a.y -ℤ p.y)) (p.x -ℤ b.x) (cross a p b) (fall_scaled a p b) on.straight in
    let told = not_positive_of (dot a p b) (way_squared p b) (p.y -ℤ b.y) (a.y -ℤ p.y) on.ahead (apart p b (λ e. omega (arith, ints))) scaled (omega (arith, ints)) in
    omega (arith, ints)

-- no point of an edge is higher than both ends
pub not_higher : (a p b : Point) → a.y <ℤ p.y → b.y <ℤ p.y → IsBetween a p b → ⊥
not_higher a p b high_a high_b on =
    let scaled = drop_last _ (way_squared p b *ℤ (p.y -ℤ a.y)) (b.x -ℤ p.x) (cross a p b) (rise_scaled a p b) on.straight in
    let told = not_positive_of (dot a p b) (way_squared p b) (b.y -ℤ p.y) (p.y -ℤ a.y) on.ahead (apart p b (λ e. omega (arith, ints))) scaled (omega (arith, ints)) in
    omega (arith, ints)

-- a height at most one that tests below `low` is below it
pub still_low : (b : Bool) (x y low : ℤ) → b ≡ int_lt y low → b ≡ true → x ≤ℤ y → x <ℤ low
still_low b x y low told t up = let h : int_lt y low ≡ true = sym told ∙ t in omega (arith, ints)

-- a test of x ≤ y that is false
pub not_at_most : (b : Bool) (x y : ℤ) → IsTrue b ↔ (x ≤ℤ y) → b ≡ false → y <ℤ x
not_at_most b x y told f = by_lt_z y x (λ l. l) (λ h. let t : IsTrue b = told.1 h in absurd (cc))

-- ---- marks
module _ {X : Type 0} (mark : X) where
  -- nothing is marked where `At` never holds
  pub none_marked : (At : ℕ → Type 0) (items : List X) → ((k : ℕ) → At k → ⊥) → IsMarked At mark items items
  none_marked At items none = record { room = refl; marked = λ k d at. absurd (none k at); kept = λ k d. inr refl }

  -- the marks of conditions that say the same are the same
  pub marked_as : (At Of : ℕ → Type 0) (old new : List X) → ((k : ℕ) → At k → Of k) → ((k : ℕ) → Of k → At k) → IsMarked At mark old new → IsMarked Of mark old new
  marked_as At Of old new to from is = record {
    room = is.room;
    marked = λ k d of. is.marked k d (from k of);
    kept = λ k d. elim (is.kept k d) [ inl was ↦ inl (to k was.0, was.1) | inr same ↦ inr same ];
  }

  -- marks after marks are those of both conditions
  pub marked_both : (At Of Both : ℕ → Type 0) (old between new : List X) → IsMarked At mark old between → IsMarked Of mark between new
      → ((k : ℕ) → At k → Both k) → ((k : ℕ) → Of k → Both k) → ((k : ℕ) → Both k → At k ⊎ Of k) → IsMarked Both mark old new
  marked_both At Of Both old between new first then left right parts = record {
    room = then.room ∙ first.room;
    marked = λ k d both. elim (parts k both) [
      | inl at ↦ elim (then.kept k d) [ inl was ↦ was.1 | inr same ↦ same ∙ first.marked k d at ]
      | inr of ↦ then.marked k d of
    ];
    kept = λ k d. elim (then.kept k d) [
      | inl was ↦ inl (right k was.0, was.1)
      | inr same ↦ elim (first.kept k d) [ inl was ↦ inl (left k was.0, same ∙ was.1) | inr before ↦ inr (same ∙ before) ]
    ];
  }

  -- writing the mark at one index marks that
  pub one_marked : (At : ℕ → Type 0) (items : List X) (n : ℕ) → n < length items → ((k : ℕ) → At k → k ≡ n) → At n → IsMarked At mark items (set items n mark)
  one_marked At items n within only here = record {
    room = length-set items n mark;
    marked = λ k d at. ap (λ (i : ℕ). get_or (set items n mark) i d) (only k at) ∙ get_or-set_same items n mark d within;
    kept = λ k d. elim (cases_eq k n) [
      | inl e ↦ inl (subst At (sym e) here, ap (λ (i : ℕ). get_or (set items n mark) i d) e ∙ get_or-set_same items n mark d within)
      | inr other ↦ inr (get_or-set_other items n k mark d other)
    ];
  }

-- ---- the points of which a condition holds
-- an entry is asked for by a weaker condition too
pub asked_as : {I : Type 0} (value : I → ℤ) (On Of : Point → Type 0) (asked : List (Asked I)) → ((p : Point) → On p → Of p) → (k : ℕ) → IsAskedFor value On asked k → IsAskedFor value Of asked k
asked_as value On Of asked to k is = record { entry = is.entry; among = is.among; place = is.place; on = to (point_of value is.entry.point) is.on }

-- an entry asked for by a condition that implies one of two is asked for by one of these two
pub asked_parts : {I : Type 0} (value : I → ℤ) (On Of Both : Point → Type 0) (asked : List (Asked I)) → ((p : Point) → Both p → On p ⊎ Of p) → (k : ℕ) → IsAskedFor value Both asked k → IsAskedFor value On asked k ⊎ IsAskedFor value Of asked k
asked_parts value On Of Both asked parts k is = elim (parts (point_of value is.entry.point) is.on) [
  | inl on ↦ inl (record { entry = is.entry; among = is.among; place = is.place; on = on })
  | inr of ↦ inr (record { entry = is.entry; among = is.among; place = is.place; on = of })
]

-- marks of the entries on one more part of what `Both` says
pub asked_more : {I X : Type 0} (value : I → ℤ) (mark : X) (On Of Both : Point → Type 0) (asked : List (Asked I)) (old between new : List X)
    → IsMarked (IsAskedFor value On asked) mark old between → IsMarked (IsAskedFor value Of asked) mark between new
    → ((p : Point) → On p → Both p) → ((p : Point) → Of p → Both p) → ((p : Point) → Both p → On p ⊎ Of p) → IsMarked (IsAskedFor value Both asked) mark old new
asked_more value mark On Of Both asked old between new first then left right parts =
    marked_both mark (IsAskedFor value On asked) (IsAskedFor value Of asked) (IsAskedFor value Both asked) old between new first then
    (asked_as value On Both asked left) (asked_as value Of Both asked right) (asked_parts value On Of Both asked parts)

-- the entries of a permutation of points with their indices are the points
pub there_asked : {I : Type 0} (value : I → ℤ) (On : Point → Type 0) (points : List (IntPoint I)) (asked : List (Asked I)) → IsPermutation (asks 0 points) asked → (k : ℕ) → IsAskedFor value On asked k → IsThere On (contour_of value points) k
there_asked value On points asked moved k is =
    let of = All-contains (IsOf points) asked is.entry (asked-of points asked moved) is.among in
    let within : k < length points = subst (λ n. n < length points) is.place of.within in
    let at : point_at (contour_of value points) k ≡ point_of value is.entry.point =
    get_or-map (point_of value) points k is.entry.point origin within ∙ ap (point_of value) (ap (λ n. get_or points n is.entry.point) (sym is.place) ∙ sym (of.is is.entry.point)) in
    record { within = omega (arith, within, length-map points (point_of value)); on = subst On (sym at) is.on }

pub asked_there : {I : Type 0} (value : I → ℤ) (On : Point → Type 0) (points : List (IntPoint I)) (asked : List (Asked I)) → IsPermutation (asks 0 points) asked → (k : ℕ) → IsThere On (contour_of value points) k → IsAskedFor value On asked k
asked_there value On points asked moved k is =
    let within : k < length points = omega (arith, is.within, length-map points (point_of value)) in
    some points within (λ e. record {
      entry = record { point = get_or points k e; place = k };
      among = each-asked points asked k e moved within;
      place = refl;
      on = subst On (get_or-map (point_of value) points k e origin within) is.on;
    })
  where
    some : {A R : Type 0} (items : List A) → k < length items → (A → R) → R
    some [] h f = absurd (omega arith)
    some (a ∷ items) h f = f a

-- an entry before index n with place k has a point of which `On` holds
pub record IsAskedBefore {I : Type 0} (value : I → ℤ) (On : Point → Type 0) (asked : List (Asked I)) (n k : ℕ) : Type 0 where
  pub index : ℕ
  pub before : index < n
  pub within : index < length asked
  pub entry : Asked I
  pub read : entry ≡ get_or asked index entry
  pub place : entry.place ≡ k
  pub on : On (point_of value entry.point)

module _ {I X : Type 0} (value : I → ℤ) (mark : X) (On : Point → Type 0) (asked : List (Asked I)) where
  pub same_entry : (i j : ℕ) (q r : Asked I) → i < length asked → i ≡ j → q ≡ get_or asked i q → r ≡ get_or asked j r → q ≡ r
  same_entry i j q r within e of_q of_r = of_q ∙ get_or_default asked i q r within ∙ ap (λ (n : ℕ). get_or asked n r) e ∙ sym of_r

  later : (n k : ℕ) → IsAskedBefore value On asked n k → IsAskedBefore value On asked (n + 1) k
  later n k is = let before = is.before in record { index = is.index; before = omega (arith, before); within = is.within; entry = is.entry; read = is.read; place = is.place; on = is.on }

  sooner : (n k : ℕ) → (is : IsAskedBefore value On asked (n + 1) k) → (is.index ≡ n → ⊥) → IsAskedBefore value On asked n k
  sooner n k is other = let before = is.before in record { index = is.index; before = omega (arith, before, other); within = is.within; entry = is.entry; read = is.read; place = is.place; on = is.on }

  -- nothing is marked where no entry before index n is asked for
  pub asked_none : (items : List X) (n : ℕ) → ((j : ℕ) (q : Asked I) → j < n → j < length asked → q ≡ get_or asked j q → On (point_of value q.point) → ⊥) → IsMarked (IsAskedBefore value On asked n) mark items items
  asked_none items n none = none_marked mark (IsAskedBefore value On asked n) items (λ k is. none is.index is.entry is.before is.within is.read is.on)

  -- the entry at index n is asked for: its place is marked
  pub asked_on : (old items : List X) (n : ℕ) (q : Asked I) → n < length asked → q ≡ get_or asked n q → q.place < length items → On (point_of value q.point)
      → IsMarked (IsAskedBefore value On asked n) mark old items → IsMarked (IsAskedBefore value On asked (n + 1)) mark old (set items q.place mark)
  asked_on old items n q within read room on known =
      marked_both mark (IsAskedBefore value On asked n) (λ k. k ≡ q.place) (IsAskedBefore value On asked (n + 1)) old items (set items q.place mark) known
      (one_marked mark (λ k. k ≡ q.place) items q.place room (λ k e. e) refl) (later n)
      (λ k e. record { index = n; before = omega arith; within = within; entry = q; read = read; place = sym e; on = on })
      (λ k is. elim (cases_eq is.index n) [
        | inl e ↦ inr (sym is.place ∙ ap (λ (r : Asked I). r.place) (same_entry is.index n is.entry q is.within e is.read read))
        | inr other ↦ inl (sooner n k is other)
      ])

  -- the entry at index n isn't asked for
  pub asked_off : (old items : List X) (n : ℕ) (q : Asked I) → q ≡ get_or asked n q → (On (point_of value q.point) → ⊥)
      → IsMarked (IsAskedBefore value On asked n) mark old items → IsMarked (IsAskedBefore value On asked (n + 1)) mark old items
  asked_off old items n q read off known = marked_as mark (IsAskedBefore value On asked n) (IsAskedBefore value On asked (n + 1)) old items (later n)
      (λ k is. elim (cases_eq is.index n) [
        | inl e ↦ absurd (off (subst (λ (r : Asked I). On (point_of value r.point)) (same_entry is.index n is.entry q is.within e is.read read) is.on))
        | inr other ↦ sooner n k is other
      ]) known

  -- no entry from index n on is asked for
  pub asked_all : (old new : List X) (n : ℕ) → ((j : ℕ) (q : Asked I) → n ≤ j → j < length asked → q ≡ get_or asked j q → On (point_of value q.point) → ⊥)
      → IsMarked (IsAskedBefore value On asked n) mark old new → IsMarked (IsAskedFor value On asked) mark old new
  asked_all old new n none known = marked_as mark (IsAskedBefore value On asked n) (IsAskedFor value On asked) old new
      (λ k is. record { entry = is.entry; among = (is.index, is.within, sym is.read); place = is.place; on = is.on })
      (λ k is.
      let among = is.among in
      elim (cases_lt among.0 n) [
        | inl before ↦ record { index = among.0; before = before; within = among.1; entry = is.entry; read = sym among.2; place = is.place; on = is.on }
        | inr after ↦ absurd (none among.0 is.entry after among.1 (sym among.2) is.on)
      ]) known

-- ---- the first points of a list
module _ {X : Type 0} (mark : X) (There : ℕ → Type 0) where
  -- index n is one that is marked
  pub first_on : (old items : List X) (n : ℕ) → n < length items → There n → IsMarked (λ k. (k < n) × There k) mark old items → IsMarked (λ k. (k < n + 1) × There k) mark old (set items n mark)
  first_on old items n within here known =
      marked_both mark (λ k. (k < n) × There k) (λ k. k ≡ n) (λ k. (k < n + 1) × There k) old items (set items n mark) known
      (one_marked mark (λ k. k ≡ n) items n within (λ k e. e) refl)
      (λ k at. let h = at.0 in (omega (arith, h), at.1))
      (λ k e. (omega (arith, e), subst There (sym e) here))
      (λ k at. elim (cases_eq k n) [ inl e ↦ inr e | inr other ↦ let h = at.0 in inl (omega (arith, h, other), at.1) ])

  -- index n is none that is marked
  pub first_off : (old items : List X) (n : ℕ) → (There n → ⊥) → IsMarked (λ k. (k < n) × There k) mark old items → IsMarked (λ k. (k < n + 1) × There k) mark old items
  first_off old items n off known = marked_as mark (λ k. (k < n) × There k) (λ k. (k < n + 1) × There k) old items
      (λ k at. let h = at.0 in (omega (arith, h), at.1))
      (λ k at. elim (cases_eq k n) [ inl e ↦ absurd (off (subst There e at.1)) | inr other ↦ let h = at.0 in (omega (arith, h, other), at.1) ]) known

  -- all are below n
  pub first_all : (old new : List X) (n : ℕ) → ((k : ℕ) → There k → k < n) → IsMarked (λ k. (k < n) × There k) mark old new → IsMarked There mark old new
  first_all old new n all known = marked_as mark (λ k. (k < n) × There k) There old new (λ k at. at.1) (λ k at. (all k at, at)) known

-- ---- the edges of a contour
-- p is on an edge that ends before place n
pub record EndsBefore (c : List Point) (p : Point) (n : ℕ) : Type 0 where
  pub place : ℕ
  pub before : place < n
  pub within : place < length c
  pub ends : EndsOn c p place

-- the edges that end before place n + 1 are those that end before n, and the one that ends at n
pub ends_more : (c : List Point) (p : Point) (n : ℕ) → EndsBefore c p (n + 1) → EndsBefore c p n ⊎ EndsOn c p n
ends_more c p n is = elim (cases_eq is.place n) [
  | inl e ↦ inr (subst (EndsOn c p) e is.ends)
  | inr other ↦ let before = is.before in inl (record { place = is.place; before = omega (arith, other, before); within = is.within; ends = is.ends })
]

pub ends_later : (c : List Point) (p : Point) (n : ℕ) → EndsBefore c p n → EndsBefore c p (n + 1)
ends_later c p n is = let before = is.before in record { place = is.place; before = omega (arith, before); within = is.within; ends = is.ends }

pub ends_here : (c : List Point) (p : Point) (n : ℕ) → n < length c → EndsOn c p n → EndsBefore c p (n + 1)
ends_here c p n within ends = record { place = n; before = omega arith; within = within; ends = ends }

-- an edge of the contour ends before place n if that is its length
pub on_of_ends : (c : List Point) (p : Point) (n : ℕ) → EndsBefore c p n → IsOnEdge c p
on_of_ends c p n is = on_edge c p is.place is.within is.ends

pub ends_of_on : (c : List Point) (p : Point) (n : ℕ) → length c ≤ n → IsOnEdge c p → EndsBefore c p n
ends_of_on c p n all w =
    let next = place_after (length c) w.place in
    let within = after_within (length c) w.place w.within in
    let back : place_before (length c) next ≡ w.place = before_from (length c) w.place next w.within within (after_is (length c) w.place w.within) in
    record { place = next; before = omega (arith, within, all); within = within; ends = subst (λ j. IsBetween (point_at c j) p (point_at c next)) (sym back) w.between }

-- ---- the contours
-- p is on an edge of one of the contours before contour n - 1
pub record IsOnBefore {P : Type 0} (point : P → Point) (points : List P) (offsets : List ℕ) (n : ℕ) (p : Point) : Type 0 where
  pub place : ℕ
  pub before : place + 1 < n
  pub within : place + 1 < length offsets
  pub on : IsOnEdge (map point (nth_contour points offsets place)) p

module _ {P : Type 0} (point : P → Point) (points : List P) (offsets : List ℕ) where
  pub on_later : (n : ℕ) (p : Point) → IsOnBefore point points offsets n p → IsOnBefore point points offsets (n + 1) p
  on_later n p is = let before = is.before in record { place = is.place; before = omega (arith, before); within = is.within; on = is.on }

  -- the contour before offset n is one of those before contour n
  pub on_here : (n : ℕ) (p : Point) → 0 < n → n < length offsets → IsOnEdge (map point (nth_contour points offsets (n - 1))) p → IsOnBefore point points offsets (n + 1) p
  on_here n p some inside on = record { place = n - 1; before = omega (arith, some); within = omega (arith, some, inside); on = on }

  -- p is on an edge of the contour before offset n, or of one before that
  pub on_parts : (n : ℕ) (p : Point) → IsOnBefore point points offsets (n + 1) p → IsOnBefore point points offsets n p ⊎ IsOnEdge (map point (nth_contour points offsets (n - 1))) p
  on_parts n p is =
      let before = is.before in
      elim (cases_lt (is.place + 1) n) [
        | inl less ↦ inl (record { place = is.place; before = less; within = is.within; on = is.on })
        | inr more ↦ let here : is.place ≡ n - 1 = omega (arith, before, more) in inr (subst (λ k. IsOnEdge (map point (nth_contour points offsets k)) p) here is.on)
      ]

  -- all contours are those before the number of offsets
  pub on_some : (n : ℕ) (p : Point) → IsOnBefore point points offsets n p → IsOnContours point points offsets p
  on_some n p is = record { place = is.place; within = is.within; on = is.on }

  pub on_all : (n : ℕ) (p : Point) → length offsets ≤ n → IsOnContours point points offsets p → IsOnBefore point points offsets n p
  on_all n p all is = let within = is.within in record { place = is.place; before = omega (arith, within, all); within = within; on = is.on }

-- ---- the results
-- results of points on no edge, and then the mark of those on one, are the results
pub told_marked : {P X : Type 0} (point : P → Point) (On : Point → Type 0) (Off Gives : Point → X → Type 0) (mark : X) (about : List P) (old between new : List X)
    → ((p : Point) → On p → Gives p mark) → ((p : Point) (x : X) → (On p → ⊥) → Off p x → Gives p x) → ((p : Point) → Off p mark → ⊥)
    → AreTold Off point about old between → IsMarked (IsThere On (map point about)) mark between new → AreTold Gives point about old new
told_marked {P} {X} point On Off Gives mark about old between new on off apart told is = record {
  each = zip_of (λ q. Gives (point q)) about (take n new) many_new at;
  rest = same_lists (drop n new) (drop n between) (length-drop n new ∙ ap (λ m. m - n) is.room ∙ sym (length-drop n between)) (λ k d h. get_or-drop n new k d ∙ past k d ∙ sym (get_or-drop n between k d)) ∙ told.rest;
}
  where
    n : ℕ
    n = length about

    many : length (take n between) ≡ n
    many = AllZip-long (λ q. Off (point q)) about (take n between) told.each

    many_new : length (take n new) ≡ n
    many_new = let a = length-take n new in let b = length-take n between in let room = is.room in let e = many in omega (arith, a, b, room, e)

    past : (k : ℕ) (d : X) → get_or new (n + k) d ≡ get_or between (n + k) d
    past k d = elim (is.kept (n + k) d) [
      | inl was ↦ let within = was.0.within in absurd (omega (arith, within, length-map about point))
      | inr same ↦ same
    ]

    at : (k : ℕ) (d : P) (e : X) → k < length about → Gives (point (get_or about k d)) (get_or (take n new) k e)
    at k d e h =
        let p = point (get_or about k d) in
        let read : point_at (map point about) k ≡ p = get_or-map point about k d origin h in
        let told_here : Off p (get_or between k e) = subst (Off p) (get_or-take n between k e h) (zip_at (λ q. Off (point q)) about (take n between) told.each k d e h) in
        let there : On p → IsThere On (map point about) k = λ o. record { within = omega (arith, h, length-map about point); on = subst On (sym read) o } in
        subst (Gives p) (sym (get_or-take n new k e h)) (elim (is.kept k e) [
          | inl was ↦ subst (Gives p) (sym was.1) (on p (subst On read was.0.on))
          | inr same ↦ subst (Gives p) (sym same) (off p (get_or between k e) (λ o. apart p (subst (Off p) (sym same ∙ is.marked k e (there o)) told_here)) told_here)
        ])
