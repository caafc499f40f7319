-- Labels of rings: rings that are joined have the same.
use Rattle.std.specs.Prelude.{◌≡◌, ◌+◌, ◌-◌, ◌<◌, ◌≤◌, ◌↔◌, ℕ, ℤ, List, length, get_or, map, Option, Some, None, ◌⊎◌}
use Rattle.i_shape_core.specs.Point.{Point}
use Rattle.i_shape_core.specs.Contour.{point_at}
use Rattle.i_shape_core.specs.IntPoint.{point_of}
use Rattle.i_shape_core.specs.Rings.{offset}
use Rattle.i_shape_contacts.specs.declared.plain.Contact.{Contact}
use Rattle.i_shape_contacts.specs.Listing.{AreBefore}
use Rattle.i_shape_touching.specs.Touching.{AreJoined, IsEdgeOf}
use Rattle.i_shape_touching.specs.declared.touches.Touch.{Touch}

-- there is a label for each ring, and two rings have the same label exactly if points for which Joins is true join them
pub record AreLabels (offsets : List ℕ) (c : List Point) (Joins : Point → Type 0) (labels : List ℕ) : Type 0 where
  pub count : length labels + 1 ≡ length offsets
  pub same : (r s : ℕ) → r + 1 < length offsets → s + 1 < length offsets → (get_or labels r 0 ≡ get_or labels s 0) ↔ AreJoined offsets c Joins r s

-- each of n rings has its own label
pub record AreOwn (labels : List ℕ) (n : ℕ) : Type 0 where
  pub count : length labels ≡ n
  pub each : (k : ℕ) → k < n → get_or labels k 0 ≡ k

-- the points at which rings touch
abbrev pub touch_points : {I : Type 0} → (I → ℤ) → List (Touch I) → List Point
touch_points value touches = map (λ t. point_of value t.point) touches

-- the edges that touch
abbrev pub touch_contacts : {I : Type 0} → List (Touch I) → List Contact
touch_contacts touches = map (λ t. t.contact) touches

-- the contact at a place
abbrev pub contact_at : List Contact → ℕ → Contact
contact_at contacts k = get_or contacts k (record { first = 0; second = 0 })

-- from place `from` to below place `to` the points are equal, and then comes another or none
pub record IsGroup (ps : List Point) (from to : ℕ) : Type 0 where
  pub some : from < to
  pub within : to ≤ length ps
  pub same : (k : ℕ) → from ≤ k → k < to → point_at ps k ≡ point_at ps from
  pub next : to < length ps → point_at ps to ≡ point_at ps from → ⊥

-- each contact is one of edges of the rings
pub record AreOfRings (offsets : List ℕ) (contacts : List Contact) : Type 0 where
  pub first : (k : ℕ) → k < length contacts → (contact_at contacts k).first < offset offsets (length offsets - 1)
  pub second : (k : ℕ) → k < length contacts → (contact_at contacts k).second < offset offsets (length offsets - 1)

-- the rings of the edges i and j have the same label
pub record HaveSameLabel (offsets labels : List ℕ) (i j : ℕ) : Type 0 where
  pub ring : ℕ
  pub first_of : IsEdgeOf offsets ring i
  pub other : ℕ
  pub second_of : IsEdgeOf offsets other j
  pub same : get_or labels ring 0 ≡ get_or labels other 0

-- the contact `it` is one of the first n of the contacts, its rings have the same label, and none of them that comes
-- before it has such rings
pub record IsFirstSame (offsets labels : List ℕ) (contacts : List Contact) (n : ℕ) (it : Contact) : Type 0 where
  pub place : ℕ
  pub before : place < n
  pub is : it ≡ contact_at contacts place
  pub closes : HaveSameLabel offsets labels it.first it.second
  pub first : (k : ℕ) → k < n → HaveSameLabel offsets labels (contact_at contacts k).first (contact_at contacts k).second
      → AreBefore it.first it.second (contact_at contacts k).first (contact_at contacts k).second → ⊥

-- `result` is the first of a contact and another, if there is another
abbrev pub IsEarlier : Option Contact → Contact → Option Contact → Type 0
IsEarlier None contact result = result ≡ Some contact
IsEarlier (Some other) contact result =
    ((result ≡ Some other) × AreBefore contact.first contact.second other.first other.second)
    ⊎ ((result ≡ Some contact) × (AreBefore contact.first contact.second other.first other.second → ⊥))

-- none of the first n contacts has rings with the same label
pub record NoneSame (offsets labels : List ℕ) (contacts : List Contact) (n : ℕ) : Type 0 where
  pub none : (k : ℕ) → k < n → HaveSameLabel offsets labels (contact_at contacts k).first (contact_at contacts k).second → ⊥

-- equal labels and contacts lead from ring r to ring s
pub data AreLinked (offsets labels : List ℕ) (contacts : List Contact) : ℕ → ℕ → Type 0 where
  alike : {r s : ℕ} → r < length labels → s < length labels → get_or labels r 0 ≡ get_or labels s 0 → AreLinked offsets labels contacts r s
  across : {r s : ℕ} (k : ℕ) → k < length contacts → IsEdgeOf offsets r (contact_at contacts k).first → IsEdgeOf offsets s (contact_at contacts k).second → AreLinked offsets labels contacts r s
  back : {r s : ℕ} → AreLinked offsets labels contacts r s → AreLinked offsets labels contacts s r
  through : {r s t : ℕ} → AreLinked offsets labels contacts r s → AreLinked offsets labels contacts s t → AreLinked offsets labels contacts r t

-- rings with the same label still have the same, the rings of each of the first n contacts have the same, and only
-- rings to which equal labels and contacts lead have the same
pub record AreMerged (offsets : List ℕ) (contacts : List Contact) (n : ℕ) (old new : List ℕ) : Type 0 where
  pub count : length new ≡ length old
  pub keeps : (r s : ℕ) → r < length old → s < length old → get_or old r 0 ≡ get_or old s 0 → get_or new r 0 ≡ get_or new s 0
  pub merges : (k : ℕ) → k < n → HaveSameLabel offsets new (contact_at contacts k).first (contact_at contacts k).second
  pub only : (r s : ℕ) → r < length old → s < length old → get_or new r 0 ≡ get_or new s 0 → AreLinked offsets old contacts r s
