-- Marks of one edge after another are listed.
use Rattle.std.proofs.Common.{◌≡◌, ℕ, ◌+◌, ◌<◌, List, [], ◌∷◌, ◌++◌, length, get_or, take, map, All, Contains, ℤ, refl, sym, ap, ap₂, subst, ◌∙◌, arith, ◌⊎◌, inl, inr, append_assoc}
use Rattle.std.proofs.lemmas.Bool.{cases_lt}
use Rattle.std.proofs.lemmas.List.{get_or-map, length-map, map-append}
use Rattle.std.proofs.lemmas.List.Elements.{All-contains, All-cons, All-append, All-more, All-weaker, Contains-get_or, Contains-append_left, Contains-append_right}
use Rattle.i_shape_core.specs.Point.{Point, origin}
use Rattle.i_shape_core.specs.Contour.{point_at}
use Rattle.i_shape_core.specs.Rings.{offset, nth_ring}
use Rattle.i_shape_core.specs.IntPoint.{point_of, contour_of}
use Rattle.i_shape_core.specs.declared.point.IntPoint.{IntPoint}
use Rattle.i_shape_core.proofs.Plane.PointLists.{item_read}
use Rattle.i_shape_contacts.specs.Contacts.{IsAfter, NoContact}
use Rattle.i_shape_contacts.specs.Courses.{DividesPoints}
use Rattle.i_shape_contacts.specs.declared.plain.Contact.{Contact}
use Rattle.i_shape_contacts.specs.Validity.{NoDegenerateRing}
use Rattle.i_shape_contacts.proofs.Courses.{after_unique}
use Rattle.i_shape_contacts.proofs.Nesting.{ring_length, ends_within}
use Rattle.i_shape_touching.specs.Touching.{IsOnEdge, IsFaultyContact}
use Rattle.i_shape_touching.specs.Steps.Touches.{IsTouch, AreTouches}
use Rattle.i_shape_touching.specs.Steps.Pieces.{IsShared, IsMark, start, end, shared, IsListed, MarkOf, AddsEnds, AddsTouch}
use Rattle.i_shape_touching.specs.declared.touches.Touch.{Touch}
use Rattle.i_shape_touching.proofs.MarkTouches.{contacted, rings_differ}

-- ---- lists
-- two items are appended
pub two_pushed : {A B : Type 0} (f : A → B) (old one two : List A) (a b : A) (x y : B) → one ≡ old ++ a ∷ [] → two ≡ one ++ b ∷ [] → f a ≡ x → f b ≡ y → map f two ≡ map f old ++ (x ∷ y ∷ [])
two_pushed f old one two a b x y g h e k =
    ap (map f) h ∙ map-append f one (b ∷ []) ∙ ap (λ (l : List _). map f l ++ f b ∷ []) g ∙ ap (λ (l : List _). l ++ f b ∷ []) (map-append f old (a ∷ []))
    ∙ append_assoc (map f old) (f a ∷ []) (f b ∷ []) ∙ ap₂ (λ (u v : _). map f old ++ (u ∷ v ∷ [])) e k

-- one more
pub one_pushed : {A B : Type 0} (f : A → B) (old two three : List A) (a : A) (x y z : B) → map f two ≡ map f old ++ (x ∷ y ∷ []) → three ≡ two ++ a ∷ [] → f a ≡ z → map f three ≡ map f old ++ (x ∷ y ∷ z ∷ [])
one_pushed f old two three a x y z g h e =
    ap (map f) h ∙ map-append f two (a ∷ []) ∙ ap (λ (l : List _). l ++ f a ∷ []) g ∙ append_assoc (map f old) (x ∷ y ∷ []) (f a ∷ []) ∙ ap (λ (u : _). map f old ++ (x ∷ y ∷ u ∷ [])) e

-- an item of a mapped list is the image of an item
pub item_of_mapped : {A B : Type 0} (f : A → B) (xs : List A) (y : B) → Contains (map f xs) y → (x : A) × (Contains xs x × (f x ≡ y))
item_of_mapped f [] y h = let within = h.1 in absurd (omega arith)
item_of_mapped f (a ∷ xs) y h =
    let within : h.0 < length (a ∷ xs) = let w = h.1 in omega (arith, w, length-map (a ∷ xs) f) in
    let x = get_or (a ∷ xs) h.0 a in
    (x, (Contains-get_or (a ∷ xs) h.0 a within, sym (get_or-map f (a ∷ xs) h.0 a y within) ∙ h.2))

-- a caller's point at a place is that of the contour there
pub read_at : {A I : Type 0} (value : I → ℤ) (point : A → IntPoint I) (points : List A → List (IntPoint I)) (each : (list : List A) → points list ≡ map point list) (list : List A) (k : ℕ) (a : A) (p : IntPoint I)
    → p ≡ point a → k < length list → a ≡ get_or list k a → point_of value p ≡ point_at (contour_of value (points list)) k
read_at value point points each list k a p is within read =
    let item = item_read point points each list k a p is within read in
    ap (point_of value) item.1 ∙ sym (get_or-map (point_of value) (points list) k p origin item.0)

-- what holds of two items holds of each item of their list
all_two : {A : Type 0} (P : A → Type 0) (a b : A) → P a → P b → All P (a ∷ b ∷ [])
all_two P a b f g = All-cons P a (b ∷ []) f (All-cons P b [] g (λ k d h. absurd (omega (arith, h))))

-- and so it is for three items
all_three : {A : Type 0} (P : A → Type 0) (a b c : A) → P a → P b → P c → All P (a ∷ b ∷ c ∷ [])
all_three P a b c f g h = All-cons P a (b ∷ c ∷ []) f (all_two P b c g h)

-- no item is lost
abbrev pub Keeps : {A : Type 0} → List A → List A → Type 0
Keeps {A} old new = (m : A) → Contains old m → Contains new m

-- appending loses nothing
keeps_front : {A : Type 0} (old more new : List A) → new ≡ old ++ more → Keeps old new
keeps_front old more new e m h = subst (λ (l : List _). Contains l m) (sym e) (Contains-append_left old more m h)

-- what is appended is contained
at_back : {A : Type 0} (old more new : List A) (m : A) → new ≡ old ++ more → Contains more m → Contains new m
at_back old more new m e h = subst (λ (l : List _). Contains l m) (sym e) (Contains-append_right old more m h)

-- a mark of edge k
abbrev pub mark : ℕ → Point → MarkOf
mark k p = record { edge = k; point = p }

module _ (offsets : List ℕ) (c : List Point) where
  -- each item of the list is a mark of an edge to look at
  pub record Only (marks : List MarkOf) : Type 0 where
    pub each : All (λ m. IsMark offsets c m.edge m.point) marks
    pub listed : All (λ m. IsListed offsets c m.edge) marks

  -- the list has marks for both ends of edge k
  pub record HasEnds (k : ℕ) (marks : List MarkOf) : Type 0 where
    pub at_start : Contains marks (mark k (point_at c k))
    pub at_end : (m : ℕ) → IsAfter offsets k m → Contains marks (mark k (point_at c m))

  -- marks for both ends stay where none is lost
  pub ends_kept : (k : ℕ) (old new : List MarkOf) → Keeps old new → HasEnds k old → HasEnds k new
  ends_kept k old new keeps h = record { at_start = keeps (mark k (point_at c k)) h.at_start; at_end = λ m f. keeps (mark k (point_at c m)) (h.at_end m f) }

  -- the empty list has no other items
  pub none_only : Only []
  none_only = record { each = λ k d h. absurd (omega (arith, h)); listed = λ k d h. absurd (omega (arith, h)) }

  -- ---- both ends of an edge
  pub adds_keep : (k : ℕ) (old new : List MarkOf) → AddsEnds offsets c k old new → Keeps old new
  adds_keep k old new a = keeps_front old _ new a.added

  -- marks for both ends of an edge to look at are such items
  pub adds_only : (k : ℕ) (old new : List MarkOf) → AddsEnds offsets c k old new → k < length c → IsListed offsets c k → Only old → Only new
  adds_only k old new a within listed only = record {
    each = subst (All (λ m. IsMark offsets c m.edge m.point)) (sym a.added) (All-append (λ m. IsMark offsets c m.edge m.point) old _ only.each (all_two (λ m. IsMark offsets c m.edge m.point) (mark k (point_at c k)) (mark k (point_at c a.next)) (start within refl) (end a.next a.follows refl)));
    listed = subst (All (λ m. IsListed offsets c m.edge)) (sym a.added) (All-append (λ m. IsListed offsets c m.edge) old _ only.listed (all_two (λ m. IsListed offsets c m.edge) (mark k (point_at c k)) (mark k (point_at c a.next)) listed listed));
  }

  -- ---- both ends, and a point
  pub touch_keeps : (k : ℕ) (p : Point) (old new : List MarkOf) → AddsTouch offsets c k p old new → Keeps old new
  touch_keeps k p old new a = keeps_front old _ new a.added

  -- marks for an edge that shares a point are such items too
  pub touch_only : (k : ℕ) (p : Point) (old new : List MarkOf) → AddsTouch offsets c k p old new → k < length c → IsShared offsets c k p → Only old → Only new
  touch_only k p old new a within s only =
      let listed : IsListed offsets c k = inr (record { point = p; shared = s }) in
      record {
        each = subst (All (λ m. IsMark offsets c m.edge m.point)) (sym a.added) (All-append (λ m. IsMark offsets c m.edge m.point) old _ only.each (all_three (λ m. IsMark offsets c m.edge m.point) (mark k (point_at c k)) (mark k (point_at c a.next)) (mark k p) (start within refl) (end a.next a.follows refl) (shared s)));
        listed = subst (All (λ m. IsListed offsets c m.edge)) (sym a.added) (All-append (λ m. IsListed offsets c m.edge) old _ only.listed (all_three (λ m. IsListed offsets c m.edge) (mark k (point_at c k)) (mark k (point_at c a.next)) (mark k p) listed listed listed));
      }

  -- the point itself is marked
  pub touch_point_in : (k : ℕ) (p : Point) (old new : List MarkOf) → AddsTouch offsets c k p old new → Contains new (mark k p)
  touch_point_in k p old new a = at_back old _ new (mark k p) a.added (2, omega arith, refl)

  module _ {I : Type 0} (value : I → ℤ) where
    -- the list has marks for both edges of a touch
    pub record HasTouch (marks : List MarkOf) (t : Touch I) : Type 0 where
      pub first : HasEnds t.contact.first marks
      pub second : HasEnds t.contact.second marks
      pub at_first : Contains marks (mark t.contact.first (point_of value t.point))
      pub at_second : Contains marks (mark t.contact.second (point_of value t.point))

    -- marks for a touch stay where none is lost
    pub has_kept : (old new : List MarkOf) (t : Touch I) → Keeps old new → HasTouch old t → HasTouch new t
    has_kept old new t keeps h = record {
      first = ends_kept t.contact.first old new keeps h.first;
      second = ends_kept t.contact.second old new keeps h.second;
      at_first = keeps (mark t.contact.first (point_of value t.point)) h.at_first;
      at_second = keeps (mark t.contact.second (point_of value t.point)) h.at_second;
    }

  module _ (divides : DividesPoints (length c) offsets) where
    -- a ring has a first edge
    pub ring_within : NoDegenerateRing offsets c → (r : ℕ) → r + 1 < length offsets → offset offsets r < length c
    ring_within whole r is_ring =
        let count = ring_length offsets c divides r is_ring in
        let within = ends_within offsets c divides r is_ring in
        elim (cases_lt (length (nth_ring c offsets r)) 3) [
          | inl few ↦ absurd (whole r (record { is_ring = is_ring; degenerate = inl few }))
          | inr enough ↦ omega (arith, count, within, enough)
        ]

    -- both ends are marked
    pub adds_ends : (k : ℕ) (old new : List MarkOf) → AddsEnds offsets c k old new → HasEnds k new
    adds_ends k old new a = record {
      at_start = at_back old _ new _ a.added (0, omega arith, refl);
      at_end = λ m f. at_back old _ new _ a.added (1, omega arith, ap (λ (n : ℕ). mark k (point_at c n)) (sym (after_unique offsets k m a.next divides.divides f a.follows)));
    }

    -- both ends of an edge that touches are marked
    pub touch_ends : (k : ℕ) (p : Point) (old new : List MarkOf) → AddsTouch offsets c k p old new → HasEnds k new
    touch_ends k p old new a = record {
      at_start = at_back old _ new _ a.added (0, omega arith, refl);
      at_end = λ m f. at_back old _ new _ a.added (1, omega arith, ap (λ (n : ℕ). mark k (point_at c n)) (sym (after_unique offsets k m a.next divides.divides f a.follows)));
    }

    -- the first edge of one ring more is marked
    pub ring_marked : (ring : ℕ) (old new : List MarkOf) → ((r : ℕ) → r < ring → HasEnds (offset offsets r) old) → AddsEnds offsets c (offset offsets ring) old new → (r : ℕ) → r < ring + 1 → HasEnds (offset offsets r) new
    ring_marked ring old new done a r h = elim (cases_lt r ring) [
      | inl l ↦ ends_kept (offset offsets r) old new (adds_keep (offset offsets ring) old new a) (done r l)
      | inr l ↦ (let same : ring ≡ r = omega (arith, h, l) in subst (λ (n : ℕ). HasEnds (offset offsets n) new) same (adds_ends (offset offsets ring) old new a))
    ]

    -- the first edge of a ring is one to look at
    pub first_listed : (r : ℕ) → r + 1 < length offsets → IsListed offsets c (offset offsets r)
    first_listed r is_ring = inl (record { ring = r; is_ring = is_ring; is_first = refl })

    module _ (clear : NoContact (IsFaultyContact offsets c)) {I : Type 0} (value : I → ℤ) where
      -- the point of a touch is one that its first edge shares with another ring
      pub shared_first : (t : Touch I) → IsTouch value offsets c t → IsShared offsets c t.contact.first (point_of value t.point)
      shared_first t is = record { other = t.contact.second; on_edge = is.on_first; on_other = is.on_second; differ = rings_differ offsets c divides clear t.contact.first t.contact.second is.contact }

      -- and so is it for its second edge
      pub shared_second : (t : Touch I) → IsTouch value offsets c t → IsShared offsets c t.contact.second (point_of value t.point)
      shared_second t is = record { other = t.contact.first; on_edge = is.on_second; on_other = is.on_first; differ = λ r f g. rings_differ offsets c divides clear t.contact.first t.contact.second is.contact r g f }

      -- both edges of a touch are marked
      pub has_touch : (old mid new : List MarkOf) (t : Touch I) → AddsTouch offsets c t.contact.first (point_of value t.point) old mid → AddsTouch offsets c t.contact.second (point_of value t.point) mid new → HasTouch value new t
      has_touch old mid new t a b =
          let keeps = touch_keeps t.contact.second (point_of value t.point) mid new b in
          record {
            first = ends_kept t.contact.first mid new keeps (touch_ends t.contact.first (point_of value t.point) old mid a);
            second = touch_ends t.contact.second (point_of value t.point) mid new b;
            at_first = keeps (mark t.contact.first (point_of value t.point)) (touch_point_in t.contact.first (point_of value t.point) old mid a);
            at_second = touch_point_in t.contact.second (point_of value t.point) mid new b;
          }

      -- what one touch more adds
      pub record Marked (touches : List (Touch I)) (i : ℕ) (marks : List MarkOf) : Type 0 where
        pub only : Only marks
        pub ends : (r : ℕ) → r + 1 < length offsets → HasEnds (offset offsets r) marks
        pub touched : All (HasTouch value marks) (take i touches)

      -- both edges of one touch more are marked
      pub touch_marked : (touches : List (Touch I)) (i : ℕ) (t : Touch I) (old mid new : List MarkOf) → i < length touches → t ≡ get_or touches i t → IsTouch value offsets c t
          → AddsTouch offsets c t.contact.first (point_of value t.point) old mid → AddsTouch offsets c t.contact.second (point_of value t.point) mid new → Only old
          → ((r : ℕ) → r + 1 < length offsets → HasEnds (offset offsets r) old) → All (HasTouch value old) (take i touches) → Marked touches (i + 1) new
      touch_marked touches i t old mid new h is_item is a b only ends touched =
          let p = point_of value t.point in
          let within = is.contact.within in
          let order = is.contact.order in
          let keeps : Keeps old new = λ m f. touch_keeps t.contact.second p mid new b m (touch_keeps t.contact.first p old mid a m f) in
          let one : HasTouch value new (get_or touches i t) = subst (HasTouch value new) is_item (has_touch old mid new t a b) in
          record {
            only = touch_only t.contact.second p mid new b within (shared_second t is) (touch_only t.contact.first p old mid a (omega (arith, within, order)) (shared_first t is) only);
            ends = λ r f. ends_kept (offset offsets r) old new keeps (ends r f);
            touched = All-more (HasTouch value new) touches i t h (All-weaker (HasTouch value old) (HasTouch value new) (λ u f. has_kept value old new u keeps f) (take i touches) touched) one;
          }

      module _ (touches : List (Touch I)) (are : AreTouches value offsets c touches) where
        -- a touch of edge k, at p
        record TouchFor (k : ℕ) (p : Point) : Type 0 where
          touch : Touch I
          is_in : Contains touches touch
          one_of : (k ≡ touch.contact.first) ⊎ (k ≡ touch.contact.second)
          same : point_of value touch.point ≡ p

        -- a point that an edge shares with another ring is that of a touch
        touch_for : (k : ℕ) (p : Point) → IsShared offsets c k p → TouchFor k p
        touch_for k p s =
            let con = contacted offsets c divides clear k p s in
            let found = item_of_mapped (λ (t : Touch I). t.contact) touches (record { first = con.first; second = con.second }) (are.all con.first con.second con.contact) in
            let t = found.0 in
            let is = All-contains (IsTouch value offsets c) touches t are.each found.1.0 in
            let at_first : t.contact.first ≡ con.first = ap (λ (it : Contact). it.first) found.1.1 in
            let at_second : t.contact.second ≡ con.second = ap (λ (it : Contact). it.second) found.1.1 in
            record {
              touch = t;
              is_in = found.1.0;
              one_of = elim con.is_one [ inl e ↦ inl (e ∙ sym at_first) | inr e ↦ inr (e ∙ sym at_second) ];
              same = con.sole (point_of value t.point) (subst (λ (n : ℕ). IsOnEdge offsets c (point_of value t.point) n) at_first is.on_first) (subst (λ (n : ℕ). IsOnEdge offsets c (point_of value t.point) n) at_second is.on_second);
            }

        module _ (marks : List MarkOf) (rings : (r : ℕ) → r + 1 < length offsets → HasEnds (offset offsets r) marks) (touched : All (HasTouch value marks) touches) where
          -- both ends of an edge that shares a point are marked
          ends_of_shared : (k : ℕ) (p : Point) → IsShared offsets c k p → HasEnds k marks
          ends_of_shared k p s =
              let t = touch_for k p s in
              let has = All-contains (HasTouch value marks) touches t.touch touched t.is_in in
              elim t.one_of [
                | inl e ↦ subst (λ (n : ℕ). HasEnds n marks) (sym e) has.first
                | inr e ↦ subst (λ (n : ℕ). HasEnds n marks) (sym e) has.second
              ]

          -- both ends of each edge to look at are marked
          ends_of_listed : (k : ℕ) → IsListed offsets c k → HasEnds k marks
          ends_of_listed k (inl f) = subst (λ (n : ℕ). HasEnds n marks) (sym f.is_first) (rings f.ring f.is_ring)
          ends_of_listed k (inr s) = ends_of_shared k s.point s.shared

          -- the list has all marks of the edges to look at
          pub all_marked : (k : ℕ) (p : Point) → IsListed offsets c k → IsMark offsets c k p → Contains marks (mark k p)
          all_marked k p listed (start h e) = subst (λ (q : Point). Contains marks (mark k q)) (sym e) (ends_of_listed k listed).at_start
          all_marked k p listed (end m f e) = subst (λ (q : Point). Contains marks (mark k q)) (sym e) ((ends_of_listed k listed).at_end m f)
          all_marked k p listed (shared s) =
              let t = touch_for k p s in
              let has = All-contains (HasTouch value marks) touches t.touch touched t.is_in in
              subst (λ (q : Point). Contains marks (mark k q)) t.same (elim t.one_of [
                | inl e ↦ subst (λ (n : ℕ). Contains marks (mark n (point_of value t.touch.point))) (sym e) has.at_first
                | inr e ↦ subst (λ (n : ℕ). Contains marks (mark n (point_of value t.touch.point))) (sym e) has.at_second
              ])
