-- The list of touches, sorted by their points.
use Rattle.std.proofs.Common.{◌≡◌, ◌⊎◌, ◌+◌, ◌-◌, ◌<◌, ◌≤◌, ℕ, zero, suc, ℤ, List, [], ◌∷◌, length, get_or, map, take, drop, slice_range, false, IsPermutation, IsSortedByKey, Ordering, Less, Equal, Greater, int_cmp, is_lt, refl, sym, ap, subst, ◌∙◌, arith, inl, inr}
use Rattle.std.specs.Ordering.{MatchOrdering}
use Rattle.std.proofs.lemmas.Bool.{cases_lt, cases_eq, true≢false}
use Rattle.std.proofs.lemmas.List.{length-map, get_or-take, get_or-drop, take-map, drop-map, length-take-le, length-drop}
use Rattle.std.proofs.lemmas.List.Elements.{All-get_or, at_from_Contains}
use Rattle.std.proofs.lemmas.List.Sorted.{All-permutation, Contains-permutation, IsPermutation-map}
use Rattle.i_shape_core.specs.Point.{Point}
use Rattle.i_shape_core.specs.Contour.{point_at}
use Rattle.i_shape_core.specs.IntPoint.{point_of}
use Rattle.i_shape_core.proofs.Forms.ContourOrder.{point_cmp, points_told}
use Rattle.i_shape_contacts.specs.declared.plain.Contact.{Contact}
use Rattle.i_shape_contacts.specs.Contacts.{IsRingContact, NoContact}
use Rattle.i_shape_contacts.specs.Courses.{DividesPoints}
use Rattle.i_shape_touching.specs.Touching.{IsEdgeOf, IsOnEdge, IsFaultyContact, SharePoint, IsLess}
use Rattle.i_shape_touching.specs.Steps.Touches.{IsTouch, AreTouches}
use Rattle.i_shape_touching.specs.Steps.Labels.{touch_points, touch_contacts, contact_at}
use Rattle.i_shape_touching.specs.declared.touches.Touch.{Touch}
use Rattle.i_shape_touching.proofs.JoinChains.{less, equal, more, compare, not_less, not_both, less_through, swapped}
use Rattle.i_shape_touching.proofs.CircleEdges.{one_point, contact_at as shared_contact}
use Rattle.i_shape_touching.proofs.CircleSteps.{point_read, contact_read}

-- ---- the sort
-- the touches in another order
pub touches_moved : {I : Type 0} (value : I → ℤ) (offsets : List ℕ) (c : List Point) (ts us : List (Touch I)) → IsPermutation ts us → AreTouches value offsets c ts → AreTouches value offsets c us
touches_moved value offsets c ts us moved h = record {
  each = All-permutation (IsTouch value offsets c) ts us moved h.each;
  all = λ i j contact. Contains-permutation (map (λ t. t.contact) ts) (map (λ t. t.contact) us) (record { first = i; second = j }) (IsPermutation-map (λ t. t.contact) ts us moved) (h.all i j contact);
}

-- no point is less than one before it
pub record AreAscending (ps : List Point) : Type 0 where
  pub ascend : (i j : ℕ) → i ≤ j → j < length ps → IsLess (point_at ps j) (point_at ps i) → ⊥

-- if neither of two points is less than the one before it, the last is not less than the first
not_less_through : (p q r : Point) → (IsLess q p → ⊥) → (IsLess r q → ⊥) → IsLess r p → ⊥
not_less_through p q r h k l = elim (compare q p) [
  | less m ↦ h m
  | equal e ↦ k (subst (IsLess r) (sym e) l)
  | more m ↦ k (less_through r p q l m)
]

-- nor is a point less than one any number of places before it
ascending_by : (ps : List Point) → ((k : ℕ) → k + 1 < length ps → IsLess (point_at ps (k + 1)) (point_at ps k) → ⊥) → (i n : ℕ) → i + n < length ps → IsLess (point_at ps (i + n)) (point_at ps i) → ⊥
ascending_by ps step i zero h l = not_less _ _ l (ap (point_at ps) (let e : i + 0 ≡ i = omega arith in e))
ascending_by ps step i (suc n) h l =
    let next : i + suc n ≡ i + n + 1 = omega arith in
    not_less_through (point_at ps i) (point_at ps (i + n)) (point_at ps (i + n + 1)) (ascending_by ps step i n (omega (arith, h))) (step (i + n) (omega (arith, h))) (subst (λ m. IsLess (point_at ps m) (point_at ps i)) next l)

module _ {I : Type 0} (value : I → ℤ) (cmp : I → I → Ordering) (order : (a b : I) → cmp a b ≡ int_cmp (value a) (value b)) where
  -- the sorted touches ascend by their points
  pub ascending : (ts : List (Touch I)) → IsSortedByKey (λ t. t.point) (point_cmp value cmp order) ts → AreAscending (touch_points value ts)
  ascending [] sorted = record { ascend = λ i j h k. absurd (omega (arith, k)) }
  ascending (t ∷ ts) sorted = record {
    ascend = λ i j h k l.
        let same : j ≡ i + (j - i) = omega (arith, h) in
        ascending_by (touch_points value (t ∷ ts)) step i (j - i) (omega (arith, k, same)) (subst (λ m. IsLess (point_at (touch_points value (t ∷ ts)) m) (point_at (touch_points value (t ∷ ts)) i)) same l);
  }
    where
      told : (p q : Point) (o : Ordering) → MatchOrdering o (IsLess p q) (p ≡ q) (IsLess q p) → is_lt o ≡ false → IsLess p q → ⊥
      told p q Less h e l = absurd (true≢false e)
      told p q Equal h e l = not_less p q l h
      told p q Greater h e l = not_both p q l h

      step : (k : ℕ) → k + 1 < length (touch_points value (t ∷ ts)) → IsLess (point_at (touch_points value (t ∷ ts)) (k + 1)) (point_at (touch_points value (t ∷ ts)) k) → ⊥
      step k h l =
          let count = length-map (t ∷ ts) (λ u. point_of value u.point) in
          let within : k + 1 < length (t ∷ ts) = omega (arith, h, count) in
          let first = point_read value (t ∷ ts) (k + 1) _ t within refl in
          let second = point_read value (t ∷ ts) k _ t (omega (arith, within)) refl in
          told _ _ (point_cmp value cmp order (get_or (t ∷ ts) (k + 1) t).point (get_or (t ∷ ts) k t).point)
          (points_told value cmp order (get_or (t ∷ ts) (k + 1) t).point (get_or (t ∷ ts) k t).point) (sorted k t (omega arith) within)
          (subst (λ p. IsLess p (point_of value (get_or (t ∷ ts) k t).point)) first (subst (λ q. IsLess (point_at (touch_points value (t ∷ ts)) (k + 1)) q) second l))

-- ---- touches
-- the edges of a contact are in contact at p
pub record TouchesAt (offsets : List ℕ) (c : List Point) (p : Point) (i j : ℕ) : Type 0 where
  pub contact : IsRingContact offsets c i j
  pub on_first : IsOnEdge offsets c p i
  pub on_second : IsOnEdge offsets c p j

-- the edges i and j, and p, are those of the touch at a place
pub record IsListedAt (ps : List Point) (contacts : List Contact) (p : Point) (i j : ℕ) : Type 0 where
  pub place : ℕ
  pub within : place < length ps
  pub contact : contact_at contacts place ≡ record { first = i; second = j }
  pub point : p ≡ point_at ps place

-- two rings that share p are those of the touch at a place
pub record IsSharedAt (offsets : List ℕ) (ps : List Point) (contacts : List Contact) (p : Point) (r s : ℕ) : Type 0 where
  pub place : ℕ
  pub within : place < length ps
  pub point : p ≡ point_at ps place
  pub rings : (IsEdgeOf offsets r (contact_at contacts place).first × IsEdgeOf offsets s (contact_at contacts place).second)
      ⊎ (IsEdgeOf offsets s (contact_at contacts place).first × IsEdgeOf offsets r (contact_at contacts place).second)

module _ {I : Type 0} (value : I → ℤ) (offsets : List ℕ) (c : List Point) (d : DividesPoints (length c) offsets) (clear : NoContact (IsFaultyContact offsets c)) where
  -- the touch at a place
  pub touch_read : (ts : List (Touch I)) → AreTouches value offsets c ts → (k : ℕ) → k < length ts → TouchesAt offsets c (point_at (touch_points value ts) k) (contact_at (touch_contacts ts) k).first (contact_at (touch_contacts ts) k).second
  touch_read [] are k h = absurd (omega (arith, h))
  touch_read (t ∷ ts) are k h =
      let one = All-get_or (IsTouch value offsets c) (t ∷ ts) k t h are.each in
      subst (λ (q : Contact). TouchesAt offsets c (point_at (touch_points value (t ∷ ts)) k) q.first q.second) (sym (contact_read (t ∷ ts) k t h))
      (subst (λ p. TouchesAt offsets c p (get_or (t ∷ ts) k t).contact.first (get_or (t ∷ ts) k t).contact.second) (sym (point_read value (t ∷ ts) k _ t h refl))
      (record { contact = one.contact; on_first = one.on_first; on_second = one.on_second }))

  module _ (ts : List (Touch I)) (are : AreTouches value offsets c ts) where
    -- there are as many points as touches
    points_count : length (touch_points value ts) ≡ length ts
    points_count = length-map ts (λ u. point_of value u.point)

    -- there are as many contacts as touches
    contacts_count : length (touch_contacts ts) ≡ length ts
    contacts_count = length-map ts (λ u. u.contact)

    -- each contact is that of a touch, and there is only one point at which it may be
    pub listed_at : (p : Point) (i j : ℕ) → TouchesAt offsets c p i j → IsListedAt (touch_points value ts) (touch_contacts ts) p i j
    listed_at p i j h =
        let found = at_from_Contains (touch_contacts ts) (record { first = i; second = j }) (are.all i j h.contact) in
        let place = found.0 in
        let contact : contact_at (touch_contacts ts) place ≡ record { first = i; second = j } = found.2 (record { first = 0; second = 0 }) in
        let within : place < length ts = omega (arith, found.1, contacts_count) in
        let there = subst (λ (q : Contact). TouchesAt offsets c (point_at (touch_points value ts) place) q.first q.second) contact (touch_read ts are place within) in
        record {
          place = place;
          within = omega (arith, within, points_count);
          contact = contact;
          point = one_point offsets c d clear i j p _ h.contact h.on_first h.on_second there.on_first there.on_second;
        }

    -- two rings that share a point, in order, are those of a touch there
    shared_in_order : (p : Point) (r s : ℕ) → r < s → SharePoint offsets c p r s → IsSharedAt offsets (touch_points value ts) (touch_contacts ts) p r s
    shared_in_order p r s l share =
        let m = shared_contact offsets c d p r s l share in
        let at = listed_at p m.first m.second (record { contact = m.contact; on_first = m.on_first; on_second = m.on_second }) in
        record {
          place = at.place;
          within = at.within;
          point = at.point;
          rings = inl (subst (λ (q : Contact). IsEdgeOf offsets r q.first) (sym at.contact) m.first_of, subst (λ (q : Contact). IsEdgeOf offsets s q.second) (sym at.contact) m.second_of);
        }

    -- and each point that two rings share is that of a touch of theirs
    pub shared_at : (p : Point) (r s : ℕ) → SharePoint offsets c p r s → IsSharedAt offsets (touch_points value ts) (touch_contacts ts) p r s
    shared_at p r s share = elim (cases_lt r s) [
      | inl l ↦ shared_in_order p r s l share
      | inr l ↦ (let back = shared_in_order p s r (elim (cases_eq r s) [ inl e ↦ absurd (share.differ e) | inr n ↦ omega (arith, l, n) ]) (swapped offsets c p r s share) in
          record { place = back.place; within = back.within; point = back.point; rings = turned back.place back.rings })
    ]
      where
        turned : (k : ℕ) → (IsEdgeOf offsets s (contact_at (touch_contacts ts) k).first × IsEdgeOf offsets r (contact_at (touch_contacts ts) k).second)
            ⊎ (IsEdgeOf offsets r (contact_at (touch_contacts ts) k).first × IsEdgeOf offsets s (contact_at (touch_contacts ts) k).second)
            → (IsEdgeOf offsets r (contact_at (touch_contacts ts) k).first × IsEdgeOf offsets s (contact_at (touch_contacts ts) k).second)
            ⊎ (IsEdgeOf offsets s (contact_at (touch_contacts ts) k).first × IsEdgeOf offsets r (contact_at (touch_contacts ts) k).second)
        turned k (inl h) = inr h
        turned k (inr h) = inl h

-- ---- a part of the list
pub part_contacts : {I : Type 0} (ts : List (Touch I)) (from to : ℕ) → touch_contacts (slice_range ts from to) ≡ slice_range (touch_contacts ts) from to
part_contacts ts from to = sym (ap (take (to - from)) (drop-map (λ t. t.contact) from ts) ∙ take-map (λ t. t.contact) (to - from) (drop from ts))

-- the contact at a place of the part
pub part_read : {I : Type 0} (ts : List (Touch I)) (from to k : ℕ) → k < to - from → contact_at (touch_contacts (slice_range ts from to)) k ≡ contact_at (touch_contacts ts) (from + k)
part_read ts from to k h = ap (λ l. contact_at l k) (part_contacts ts from to) ∙ get_or-take (to - from) (drop from (touch_contacts ts)) k _ h ∙ get_or-drop from (touch_contacts ts) k _

-- the length of the part
pub part_count : {I : Type 0} (ts : List (Touch I)) (from to : ℕ) → to ≤ length ts → length (slice_range ts from to) ≡ to - from
part_count ts from to h = let rest = length-drop from ts in length-take-le (to - from) (drop from ts) (omega (arith, h, rest))
