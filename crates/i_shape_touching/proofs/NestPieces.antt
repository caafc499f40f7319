-- Neighbouring marks of an edge bound its pieces.
use Rattle.std.proofs.Common.{◌≡◌, ℕ, zero, suc, ◌+◌, ◌-◌, ◌<◌, ◌≤◌, List, [], ◌∷◌, ◌++◌, length, get_or, map, All, AllPairs, Contains, ℤ, Bool, true, false, not, ◌&&◌, IsTrue, ◌↔◌, refl, sym, ap, ap₂, subst, ◌∙◌, arith, ◌⊎◌, inl, inr}
use Rattle.std.proofs.lemmas.Bool.{cases_lt}
use Rattle.std.proofs.lemmas.List.{get_or-map, map-append, get_or_default}
use Rattle.std.proofs.lemmas.List.Elements.{All-push, Contains-push, Contains-append_left}
use Rattle.std.proofs.lemmas.List.Quantifiers.{all_pairs_push}
use Rattle.i_shape_core.specs.Point.{Point, origin}
use Rattle.i_shape_core.specs.IntPoint.{point_of}
use Rattle.i_shape_core.specs.Rings.{offset}
use Rattle.i_shape_core.specs.declared.point.IntPoint.{IntPoint}
use Rattle.i_shape_core.proofs.Lists.Rings.{rises_to}
use Rattle.i_shape_contacts.specs.Courses.{DividesPoints}
use Rattle.i_shape_touching.specs.Touching.{IsEdgeOf, IsLess}
use Rattle.i_shape_touching.specs.Steps.Pieces.{MarkOf, IsMark, start, end, shared, IsListed, IsOrdered, AreMarks, IsPiece, PieceOf, IsRingPiece, ArePieces}
use Rattle.i_shape_touching.proofs.MarkTouches.{edge_of, edge_within}
use Rattle.i_shape_touching.proofs.MarkSteps.{mark}
use Rattle.i_shape_touching.proofs.MarkOrder.{less_less, not_less_itself}

-- the mark at place i
abbrev pub mark_at : List MarkOf → ℕ → MarkOf
mark_at ms i = get_or ms i (record { edge = 0; point = origin })

-- the piece from one mark to the next
abbrev pub made : ℕ → MarkOf → MarkOf → PieceOf
made r a b = record { ring = r; first = a.point; second = b.point }

-- the marks are of one edge, and of two points
abbrev pub AreParted : MarkOf → MarkOf → Type 0
AreParted a b = (a.edge ≡ b.edge) × (a.point ≡ b.point → ⊥)

-- the list has the pieces between the first n marks, and nothing else
pub record PiecesUpTo (offsets : List ℕ) (c : List Point) (ms : List MarkOf) (n : ℕ) (pieces : List PieceOf) : Type 0 where
  pub each : All (IsRingPiece offsets c) pieces
  pub found : (i : ℕ) → i + 1 < n → AreParted (mark_at ms i) (mark_at ms (i + 1)) → (r : ℕ) → IsEdgeOf offsets r (mark_at ms i).edge → Contains pieces (made r (mark_at ms i) (mark_at ms (i + 1)))
  pub order : AllPairs (λ p q. p.ring ≤ q.ring) pieces
  pub behind : All (λ p. offset offsets p.ring ≤ (mark_at ms (n - 1)).edge) pieces

-- a mark of the program at a place
pub mark_read : {X : Type 0} (f : X → MarkOf) (items : List X) (i : ℕ) (m : X) → i < length items → m ≡ get_or items i m → mark_at (map f items) i ≡ f m
mark_read f items i m h e = get_or-map f items i m _ h ∙ ap f (sym e)

-- a place of a contained mark
place_of : (ms : List MarkOf) (m : MarkOf) → Contains ms m → (i : ℕ) × ((i < length ms) × (mark_at ms i ≡ m))
place_of ms m h = (h.0, (h.1, get_or_default ms h.0 (record { edge = 0; point = origin }) m h.1 ∙ h.2))

-- a ring that starts up to an edge is the edge's ring or one before it
rings_rise : (offsets : List ℕ) (n : ℕ) → DividesPoints n offsets → (r s k : ℕ) → r + 1 < length offsets → offset offsets r ≤ k → IsEdgeOf offsets s k → r ≤ s
rings_rise offsets n d r s k is_ring from f = elim (cases_lt s r) [
  | inr m ↦ m
  | inl m ↦ (let below = f.below in
      let up = rises_to offsets (length offsets) (s + 1) r d.divides.order (omega (arith, m)) (omega (arith, is_ring)) in
      absurd (omega (arith, from, below, up)))
]

-- ordered marks of one edge
same_edge : (k : ℕ) (p q : Point) → IsOrdered (mark k p) (mark k q) → (p ≡ q) ⊎ IsLess p q
same_edge k p q (inl l) = absurd (omega (arith, l))
same_edge k p q (inr h) = h.1

-- no mark comes before one of a lesser point
never_back : (k : ℕ) (p q : Point) → IsLess p q → IsOrdered (mark k q) (mark k p) → ⊥
never_back k p q less h = elim (same_edge k q p h) [
  | inl e ↦ not_less_itself q (subst (λ (r : Point). IsLess r q) (sym e) less)
  | inr l ↦ not_less_itself p (less_less p q p less l)
]

module _ (offsets : List ℕ) (c : List Point) (divides : DividesPoints (length c) offsets) where
  -- a mark's edge is one of the contour's
  pub mark_within : (k : ℕ) (p : Point) → IsMark offsets c k p → k < length c
  mark_within k p (start h e) = h
  mark_within k p (end m f e) = edge_within offsets c divides f.ring k (edge_of offsets k m f)
  mark_within k p (shared s) = edge_within offsets c divides s.on_edge.follows.ring k (edge_of offsets k s.on_edge.end s.on_edge.follows)

  module _ (ms : List MarkOf) (are : AreMarks offsets c ms) where
    -- each item of the list is a mark
    pub is_mark_at : (i : ℕ) → i < length ms → IsMark offsets c (mark_at ms i).edge (mark_at ms i).point
    is_mark_at i h = are.each i (record { edge = 0; point = origin }) h

    -- an item comes before each later one
    in_order : (i j : ℕ) → i < j → j < length ms → IsOrdered (mark_at ms i) (mark_at ms j)
    in_order i j h k = are.order i j (record { edge = 0; point = origin }) h k

    -- no mark lies between two neighbours
    none_between : (i : ℕ) (k : ℕ) (p q v : Point) → i + 1 < length ms → mark_at ms i ≡ mark k p → mark_at ms (i + 1) ≡ mark k q → Contains ms (mark k v) → IsLess p v → IsLess v q → ⊥
    none_between i k p q v within is_p is_q found lower upper =
        let at = place_of ms (mark k v) found in
        let j = at.0 in
        let inside = at.1.0 in
        let is_v = at.1.1 in
        elim (cases_lt j i) [
          | inl l ↦ never_back k p v lower (subst (λ (m : MarkOf). IsOrdered m (mark k p)) is_v (subst (λ (m : MarkOf). IsOrdered (mark_at ms j) m) is_p (in_order j i l (omega (arith, within)))))
          | inr l ↦ elim (cases_lt i j) [
            | inr m ↦ (let same : j ≡ i = omega (arith, l, m) in
                let one : v ≡ p = ap (λ (m : MarkOf). m.point) (sym is_v ∙ ap (mark_at ms) same ∙ is_p) in
                not_less_itself p (subst (IsLess p) one lower))
            | inl m ↦ elim (cases_lt (i + 1) j) [
              | inl n ↦ never_back k v q upper (subst (λ (m : MarkOf). IsOrdered m (mark k v)) is_q (subst (λ (m : MarkOf). IsOrdered (mark_at ms (i + 1)) m) is_v (in_order (i + 1) j n inside)))
              | inr n ↦ (let same : j ≡ i + 1 = omega (arith, m, n) in
                  let one : v ≡ q = ap (λ (m : MarkOf). m.point) (sym is_v ∙ ap (mark_at ms) same ∙ is_q) in
                  not_less_itself q (subst (λ (r : Point). IsLess r q) one upper))
            ]
          ]
        ]

    -- two neighbours of one edge whose points differ bound a piece
    pub neighbours_piece : (i : ℕ) → i + 1 < length ms → AreParted (mark_at ms i) (mark_at ms (i + 1)) → IsPiece offsets c (mark_at ms i).edge (mark_at ms i).point (mark_at ms (i + 1)).point
    neighbours_piece i within parted =
        let a = mark_at ms i in
        let b = mark_at ms (i + 1) in
        let moved : mark_at ms (i + 1) ≡ mark a.edge b.point = ap (λ (k : ℕ). mark k b.point) (sym parted.0) in
        record {
          first = is_mark_at i (omega (arith, within));
          second = subst (λ (k : ℕ). IsMark offsets c k b.point) (sym parted.0) (is_mark_at (i + 1) within);
          order = elim (same_edge a.edge a.point b.point (subst (IsOrdered a) moved (in_order i (i + 1) (omega arith) within))) [
            | inl e ↦ absurd (parted.1 e)
            | inr l ↦ l
          ];
          none = λ v is lower upper. none_between i a.edge a.point b.point v within refl moved (are.all a.edge v (are.listed i (record { edge = 0; point = origin }) (omega (arith, within))) is) lower upper;
        }

    -- two neighbours in the list that bound the piece
    pub record Neighbours (k : ℕ) (p q : Point) : Type 0 where
      pub place : ℕ
      pub within : place + 1 < length ms
      pub first : mark_at ms place ≡ mark k p
      pub second : mark_at ms (place + 1) ≡ mark k q

    -- an item between two marks of an edge is of it
    between : (k : ℕ) (p q : Point) (m : MarkOf) → IsOrdered (mark k p) m → IsOrdered m (mark k q) → (m ≡ mark k m.point) × (((p ≡ m.point) ⊎ IsLess p m.point) × ((m.point ≡ q) ⊎ IsLess m.point q))
    between k p q m (inl f) (inl g) = absurd (omega (arith, f, g))
    between k p q m (inl f) (inr g) = let e = g.0 in absurd (omega (arith, f, e))
    between k p q m (inr f) (inl g) = let e = f.0 in absurd (omega (arith, e, g))
    between k p q m (inr f) (inr g) = (ap (λ (n : ℕ). mark n m.point) g.0, (f.1, g.1))

    -- from a mark of the first point on, up to one of the second
    search_from : (k : ℕ) (p q : Point) → IsPiece offsets c k p q → (n i j : ℕ) → i + suc n ≡ j → j < length ms → mark_at ms i ≡ mark k p → mark_at ms j ≡ mark k q → Neighbours k p q
    search_from k p q piece zero i j gap within is_p is_q =
        let next : j ≡ i + 1 = omega (arith, gap) in
        record { place = i; within = omega (arith, within, next); first = is_p; second = sym (ap (mark_at ms) next) ∙ is_q }
    search_from k p q piece (suc n) i j gap within is_p is_q =
        let m = mark_at ms (i + 1) in
        let lower = subst (λ (a : MarkOf). IsOrdered a m) is_p (in_order i (i + 1) (omega arith) (omega (arith, gap, within))) in
        let upper = subst (IsOrdered m) is_q (in_order (i + 1) j (omega (arith, gap)) within) in
        let told = between k p q m lower upper in
        let is = subst (λ (a : MarkOf). IsMark offsets c a.edge a.point) told.0 (is_mark_at (i + 1) (omega (arith, gap, within))) in
        elim told.1.0 [
          | inl e ↦ search_from k p q piece n (i + 1) j (omega (arith, gap)) within (told.0 ∙ ap (mark k) (sym e)) is_q
          | inr l ↦ elim told.1.1 [
            | inl e ↦ record { place = i; within = omega (arith, gap, within); first = is_p; second = told.0 ∙ ap (mark k) e }
            | inr u ↦ absurd (piece.none m.point is l u)
          ]
        ]

    -- each piece of an edge to look at lies between two neighbours
    pub piece_neighbours : (k : ℕ) (p q : Point) → IsListed offsets c k → IsPiece offsets c k p q → Neighbours k p q
    piece_neighbours k p q listed piece =
        let first = place_of ms (mark k p) (are.all k p listed piece.first) in
        let second = place_of ms (mark k q) (are.all k q listed piece.second) in
        let i = first.0 in
        let j = second.0 in
        elim (cases_lt i j) [
          | inl l ↦ search_from k p q piece (j - (i + 1)) i j (omega (arith, l)) second.1.0 first.1.1 second.1.1
          | inr l ↦ absurd (elim (cases_lt j i) [
            | inl m ↦ never_back k p q piece.order (subst (λ (a : MarkOf). IsOrdered a (mark k p)) second.1.1 (subst (IsOrdered (mark_at ms j)) first.1.1 (in_order j i m first.1.0)))
            | inr m ↦ (let same : j ≡ i = omega (arith, l, m) in
                let one : q ≡ p = ap (λ (a : MarkOf). a.point) (sym second.1.1 ∙ ap (mark_at ms) same ∙ first.1.1) in
                not_less_itself p (subst (IsLess p) one piece.order))
          ])
        ]

    -- ---- one pair of neighbours after another
    pub none_yet : PiecesUpTo offsets c ms 1 []
    none_yet = record {
      each = λ k d h. absurd (omega (arith, h));
      found = λ i h. absurd (omega (arith, h));
      order = λ i j d h k. absurd (omega (arith, k));
      behind = λ k d h. absurd (omega (arith, h));
    }

    -- edges rise from one item to the next
    edges_rise : (n : ℕ) → 0 < n → n < length ms → (mark_at ms (n - 1)).edge ≤ (mark_at ms (n + 1 - 1)).edge
    edges_rise n some within =
        let here : n + 1 - 1 ≡ n = omega arith in
        subst (λ (i : ℕ). (mark_at ms (n - 1)).edge ≤ (mark_at ms i).edge) (sym here) (at_most (mark_at ms (n - 1)) (mark_at ms n) (in_order (n - 1) n (omega (arith, some)) within))
      where
        at_most : (a b : MarkOf) → IsOrdered a b → a.edge ≤ b.edge
        at_most a b (inl l) = omega (arith, l)
        at_most a b (inr e) = let same = e.0 in omega (arith, same)

    -- so pieces stay behind
    behind_more : (n : ℕ) (pieces : List PieceOf) → 0 < n → n < length ms → All (λ p. offset offsets p.ring ≤ (mark_at ms (n - 1)).edge) pieces → All (λ p. offset offsets p.ring ≤ (mark_at ms (n + 1 - 1)).edge) pieces
    behind_more n pieces some within all = let up = edges_rise n some within in λ k d h. on (all k d h) up
      where
        on : {x y z : ℕ} → x ≤ y → y ≤ z → x ≤ z
        on f g = omega (arith, f, g)

    -- neighbours that bound no piece
    pub no_piece : (n : ℕ) (pieces : List PieceOf) → 0 < n → n < length ms → (AreParted (mark_at ms (n - 1)) (mark_at ms n) → ⊥) → PiecesUpTo offsets c ms n pieces → PiecesUpTo offsets c ms (n + 1) pieces
    no_piece n pieces some within none known = record {
      each = known.each;
      found = λ i h parted r e. elim (cases_lt (i + 1) n) [
        | inl l ↦ known.found i l parted r e
        | inr l ↦ (let last : n ≡ i + 1 = omega (arith, h, l) in
            let before : n - 1 ≡ i = omega (arith, last) in
            absurd (none (subst (λ (j : ℕ). AreParted (mark_at ms j) (mark_at ms n)) (sym before) (subst (λ (j : ℕ). AreParted (mark_at ms i) (mark_at ms j)) (sym last) parted))))
      ];
      order = known.order;
      behind = behind_more n pieces some within known.behind;
    }

    -- neighbours that bound a piece
    pub one_piece : (n s : ℕ) (pieces longer : List PieceOf) → 0 < n → n < length ms → AreParted (mark_at ms (n - 1)) (mark_at ms n) → IsEdgeOf offsets s (mark_at ms (n - 1)).edge
        → longer ≡ pieces ++ made s (mark_at ms (n - 1)) (mark_at ms n) ∷ [] → PiecesUpTo offsets c ms n pieces → PiecesUpTo offsets c ms (n + 1) longer
    one_piece n s pieces longer some within parted is_edge e known =
        let it = made s (mark_at ms (n - 1)) (mark_at ms n) in
        let next : n - 1 + 1 ≡ n = omega (arith, some) in
        let parted' = subst (λ (j : ℕ). AreParted (mark_at ms (n - 1)) (mark_at ms j)) (sym next) parted in
        let piece = subst (λ (j : ℕ). IsPiece offsets c (mark_at ms (n - 1)).edge (mark_at ms (n - 1)).point (mark_at ms j).point) next (neighbours_piece (n - 1) (omega (arith, within, next)) parted') in
        let is : IsRingPiece offsets c it = record { edge = (mark_at ms (n - 1)).edge; is_edge = is_edge; listed = are.listed (n - 1) (record { edge = 0; point = origin }) (omega (arith, within)); piece = piece } in
        let up = edges_rise n some within in
        subst (PiecesUpTo offsets c ms (n + 1)) (sym e) (record {
          each = All-push (IsRingPiece offsets c) pieces it known.each is;
          found = λ i h parts r f. elim (cases_lt (i + 1) n) [
            | inl l ↦ Contains-append_left pieces (it ∷ []) (made r (mark_at ms i) (mark_at ms (i + 1))) (known.found i l parts r f)
            | inr l ↦ (let last : n ≡ i + 1 = omega (arith, h, l) in
                let before : n - 1 ≡ i = omega (arith, last) in
                let f' = subst (λ (j : ℕ). IsEdgeOf offsets r (mark_at ms j).edge) (sym before) f in
                let low = rings_rise offsets (length c) divides r s _ f'.is_ring f'.from is_edge in
                let high = rings_rise offsets (length c) divides s r _ is_edge.is_ring is_edge.from f' in
                let ring : s ≡ r = omega (arith, low, high) in
                let same : it ≡ made r (mark_at ms i) (mark_at ms (i + 1)) = ap (λ (t : ℕ). made t (mark_at ms (n - 1)) (mark_at ms n)) ring
                ∙ ap (λ (j : ℕ). made r (mark_at ms j) (mark_at ms n)) before ∙ ap (λ (j : ℕ). made r (mark_at ms i) (mark_at ms j)) last in
                subst (Contains (pieces ++ it ∷ [])) same (Contains-push pieces it))
          ];
          order = all_pairs_push (λ p q. p.ring ≤ q.ring) pieces it known.order
              (λ k d h. rings_rise offsets (length c) divides (get_or pieces k d).ring s _ (known.each k d h).is_edge.is_ring (known.behind k d h) is_edge);
          behind = All-push (λ p. offset offsets p.ring ≤ (mark_at ms (n + 1 - 1)).edge) pieces it (behind_more n pieces some within known.behind) (let from = is_edge.from in omega (arith, from, up));
        })

    -- between all marks lie all pieces
    pub all_pieces : (n : ℕ) (pieces : List PieceOf) → length ms ≤ n → PiecesUpTo offsets c ms n pieces → ArePieces offsets c pieces
    all_pieces n pieces past known = record {
      each = known.each;
      all = λ p is. (let at = piece_neighbours is.edge p.first p.second is.listed is.piece in
          let i = at.place in
          let within = at.within in
          let parted : AreParted (mark_at ms i) (mark_at ms (i + 1)) = (
            ap (λ (a : MarkOf). a.edge) at.first ∙ sym (ap (λ (a : MarkOf). a.edge) at.second),
            λ e. not_less_itself p.second (subst (λ (q : Point). IsLess q p.second) (sym (ap (λ (a : MarkOf). a.point) at.first) ∙ e ∙ ap (λ (a : MarkOf). a.point) at.second) is.piece.order),
          ) in
          let edge = subst (λ (k : ℕ). IsEdgeOf offsets p.ring k) (sym (ap (λ (a : MarkOf). a.edge) at.first)) is.is_edge in
          let same : made p.ring (mark_at ms i) (mark_at ms (i + 1)) ≡ p = ap₂ (λ (a b : MarkOf). made p.ring a b) at.first at.second in
          subst (Contains pieces) same (known.found i (omega (arith, within, past)) parted p.ring edge));
      order = known.order;
      marks = ms;
      are_marks = are;
    }

-- ---- what the program compares
-- an item is appended
pub item_pushed : {X Y : Type 0} (f : X → Y) (old new : List X) (x : X) (y : Y) → new ≡ old ++ x ∷ [] → f x ≡ y → map f new ≡ map f old ++ y ∷ []
item_pushed f old new x y e g = ap (map f) e ∙ map-append f old (x ∷ []) ∙ ap (λ (z : _). map f old ++ z ∷ []) g

module _ {I : Type 0} (value : I → ℤ) (eq : I → I → Bool) (tells : (a b : I) → IsTrue (eq a b) ↔ (value a ≡ value b)) where
  -- points that test different differ
  pub differ_told : (p q : IntPoint I) (r : Bool) → r ≡ not (eq p.x q.x && eq p.y q.y) → r ≡ true → point_of value p ≡ point_of value q → ⊥
  differ_told p q r e t same = go (eq p.x q.x) (eq p.y q.y) ((tells p.x q.x).1 (ap (λ (z : Point). z.x) same)) ((tells p.y q.y).1 (ap (λ (z : Point). z.y) same)) (sym e ∙ t)
    where
      go : (s u : Bool) → IsTrue s → IsTrue u → not (s && u) ≡ true → ⊥
      go true true f g h = absurd (cc)
      go true false f g h = absurd (cc)
      go false u f g h = absurd (cc)

  -- points that don't test different are equal
  pub same_told : (p q : IntPoint I) (r : Bool) → r ≡ not (eq p.x q.x && eq p.y q.y) → r ≡ false → point_of value p ≡ point_of value q
  same_told p q r e t = go (eq p.x q.x) (eq p.y q.y) refl refl (sym e ∙ t)
    where
      go : (s u : Bool) → eq p.x q.x ≡ s → eq p.y q.y ≡ u → not (s && u) ≡ false → point_of value p ≡ point_of value q
      go true true f g h = ap₂ (λ (x y : ℤ). record { x = x; y = y }) ((tells p.x q.x).0 f) ((tells p.y q.y).0 g)
      go true false f g h = absurd (cc)
      go false u f g h = absurd (cc)
