-- Contacts of rings, and of the same rings as a list of only their own points.
use Rattle.std.proofs.Common.{◌≡◌, ◌∙◌, ℕ, ℤ, ◌+◌, ◌-◌, ◌<◌, ◌≤◌, List, [], ◌∷◌, ◌++◌, ◌^◌, map, length, length-append, take, drop, min, get_or, slice_range, All, ap, ap₂, sym, subst, subst₂, refl, arith, inl, inr, Option, Some, None, MatchOption, to_z, of_z, w32}
use Rattle.std.proofs.lemmas.Bool.{cases_lt}
use Rattle.std.proofs.lemmas.List.{get_or-take, get_or-drop, get_or-map, length-map, length-take, take-map, drop-map, take_all, drop_all, take_at, drop_at, append-nil, get_or_append_left}
use Rattle.std.proofs.Math.Seq.{get_or-append_seam}
use Rattle.i_shape.specs.Point.{Point, origin}
use Rattle.i_shape.specs.Contour.{point_at}
use Rattle.i_shape_core.proofs.Lists.Rings.{rises_to}
use Rattle.i_shape_contacts.specs.Meeting.{IsOnSegment, IsPoint}
use Rattle.i_shape_contacts.specs.Contacts.{SharePoint, IsAfter, IsRingContact, NoContact, IsFirstContact}
use Rattle.i_shape_contacts.specs.Listing.{AreBefore, AreContacts, AreWritten}
use Rattle.i_shape_contacts.specs.declared.plain.Contact.{Contact}
use Rattle.i_shape_c.specs.Batch.{offset, AreRising}
use Rattle.i_shape_c.specs.Codes.{Refuses}
use Rattle.i_shape_c.specs.Contacts.{ContactAnswer, IsContactWritten, AreRebased, moved_contact}
use Rattle.i_shape_c.proofs.Refusals.{not_refused}

-- mapping a part is taking that part of the mapped list
pub map_part : {A B : Type 0} (f : A → B) (list : List A) (a b : ℕ) → map f (slice_range list a b) ≡ slice_range (map f list) a b
map_part f list a b = sym (take-map f (b - a) (drop a list)) ∙ ap (take (b - a)) (sym (drop-map f a list))

-- point k of a part is point k + a
point_of_part : (c : List Point) (a b k : ℕ) → k + a < b → point_at (slice_range c a b) k ≡ point_at c (k + a)
point_of_part c a b k within =
    let turn : a + k ≡ k + a = omega arith in
    get_or-take (b - a) (drop a c) k origin (omega (arith, within)) ∙ get_or-drop a c k origin ∙ ap (point_at c) turn

-- what two segments of d share, the segments of c between the same points share, if places that are one in c are one in
-- d
shared_as : (d c : List Point) (i i' j j' k k' l l' : ℕ) → point_at d i ≡ point_at c k → point_at d i' ≡ point_at c k' → point_at d j ≡ point_at c l → point_at d j' ≡ point_at c l'
    → (k' ≡ l → i' ≡ j) → (l' ≡ k → j' ≡ i) → SharePoint d i i' j j' → SharePoint c k k' l l'
shared_as d c i i' j j' k k' l l' at at' by by' next before s = record {
  divisor = s.divisor;
  positive = s.positive;
  scaled = s.scaled;
  on_first = subst₂ (λ p q. IsOnSegment s.divisor s.scaled p q) at at' s.on_first;
  on_second = subst₂ (λ p q. IsOnSegment s.divisor s.scaled p q) by by' s.on_second;
  not_next = λ e w. s.not_next (next e) (subst (IsPoint s.divisor s.scaled) (sym by) w);
  not_before = λ e w. s.not_before (before e) (subst (IsPoint s.divisor s.scaled) (sym at) w);
}

-- the contact with these places
abbrev contact_at : ℕ → ℕ → Contact
contact_at i j = record { first = i; second = j }

-- `start` ≤ k < `last`
record IsInside (start last k : ℕ) : Type 0 where
  from : start ≤ k
  below : k < last

-- `own` are `offsets` less the first of them, and divide only the points from `start` on.
module _ (offsets own : List ℕ) (start last : ℕ) (order : AreRising offsets (length offsets)) (first : offset offsets 0 ≡ start) (end : offset offsets (length offsets - 1) ≡ last)
    (count : length own ≡ length offsets) (each : (k : ℕ) → k < length offsets → offset own k + start ≡ offset offsets k) where
  -- if m follows k by `own`, m + start follows k + start by `offsets`
  after_given : (k m : ℕ) → IsAfter own k m → IsAfter offsets (k + start) (m + start)
  after_given k m w =
      let inside : w.ring + 1 < length offsets = subst (λ n. w.ring + 1 < n) count w.is_ring in
      let low = each w.ring (omega (arith, inside)) in
      let high = each (w.ring + 1) inside in
      let from = w.from in
      let below = w.below in
      record {
        ring = w.ring;
        is_ring = inside;
        from = omega (arith, low, from);
        below = omega (arith, high, below);
        on = λ h. let e = w.on (omega (arith, h, high)) in omega (arith, e);
        round = λ h. let e = w.round (omega (arith, h, high)) in omega (arith, e, low);
      }

  -- if m + start follows k + start by `offsets`, m follows k by `own`
  after_own : (k m : ℕ) → IsAfter offsets (k + start) (m + start) → IsAfter own k m
  after_own k m w =
      let inside = w.is_ring in
      let low = each w.ring (omega (arith, inside)) in
      let high = each (w.ring + 1) inside in
      let from = w.from in
      let below = w.below in
      record {
        ring = w.ring;
        is_ring = subst (λ n. w.ring + 1 < n) (sym count) inside;
        from = omega (arith, low, from);
        below = omega (arith, high, below);
        on = λ h. let e = w.on (omega (arith, h, high)) in omega (arith, e);
        round = λ h. let e = w.round (omega (arith, h, high)) in omega (arith, e, low);
      }

  -- an index that one follows is at or after the start
  from_start : (k m : ℕ) → IsAfter offsets k m → start ≤ k
  from_start k m w =
      let inside = w.is_ring in
      let from = w.from in
      let up = rises_to offsets (length offsets) 0 w.ring order (omega arith) (omega (arith, inside)) in
      omega (arith, up, from, first)

  -- an index that one follows is before the end
  before_end : (k m : ℕ) → IsAfter offsets k m → k < last
  before_end k m w =
      let inside = w.is_ring in
      let below = w.below in
      let up = rises_to offsets (length offsets) (w.ring + 1) (length offsets - 1) order (omega (arith, inside)) (omega (arith, inside)) in
      omega (arith, up, below, end)

  -- an index that follows another is between start and end
  next_inside : (k m : ℕ) → IsAfter offsets k m → IsInside start last m
  next_inside k m w =
      let inside = w.is_ring in
      let from = w.from in
      let below = w.below in
      let low = rises_to offsets (length offsets) 0 w.ring order (omega arith) (omega (arith, inside)) in
      let high = rises_to offsets (length offsets) (w.ring + 1) (length offsets - 1) order (omega (arith, inside)) (omega (arith, inside)) in
      elim (cases_lt (k + 1) (offset offsets (w.ring + 1))) [
        | inl less ↦ (let e = w.on less in record { from = omega (arith, e, low, from, first); below = omega (arith, e, less, high, end) })
        | inr more ↦ (let e = w.round (omega (arith, more, below)) in record { from = omega (arith, e, low, first); below = omega (arith, e, from, below, high, end) })
      ]

  module _ (c d : List Point) (part : d ≡ slice_range c start last) (many : length d + start ≡ last) (within : last ≤ length c) where
    -- own point k is point k + start
    same_point : (k : ℕ) → k + start < last → point_at d k ≡ point_at c (k + start)
    same_point k below = ap (λ list. point_at list k) part ∙ point_of_part c start last k below

    -- a contact of the own rings is one of all points, shifted by start
    contact_given : (i j : ℕ) → IsRingContact own d i j → IsRingContact offsets c (i + start) (j + start)
    contact_given i j w =
        let f = after_given i w.first_end w.first_follows in
        let g = after_given j w.second_end w.second_follows in
        let less = w.order in
        let below = before_end (j + start) (w.second_end + start) g in
        record {
          order = omega (arith, less);
          within = omega (arith, below, within);
          first_end = w.first_end + start;
          first_follows = f;
          second_end = w.second_end + start;
          second_follows = g;
          shared = shared_as d c i w.first_end j w.second_end (i + start) (w.first_end + start) (j + start) (w.second_end + start)
              (same_point i (before_end (i + start) (w.first_end + start) f)) (same_point w.first_end (next_inside (i + start) (w.first_end + start) f).below)
              (same_point j below) (same_point w.second_end (next_inside (j + start) (w.second_end + start) g).below)
              (λ e. omega (arith, e)) (λ e. omega (arith, e)) w.shared;
        }

    -- a contact of all points is one of the own rings, shifted back
    contact_own : (i j : ℕ) → IsRingContact offsets c (i + start) (j + start) → IsRingContact own d i j
    contact_own i j w =
        let f = next_inside (i + start) w.first_end w.first_follows in
        let g = next_inside (j + start) w.second_end w.second_follows in
        let f-from = f.from in
        let g-from = g.from in
        let i' : w.first_end ≡ w.first_end - start + start = omega (arith, f-from) in
        let j' : w.second_end ≡ w.second_end - start + start = omega (arith, g-from) in
        let less = w.order in
        let below = before_end (j + start) w.second_end w.second_follows in
        record {
          order = omega (arith, less);
          within = omega (arith, below, many);
          first_end = w.first_end - start;
          first_follows = after_own i (w.first_end - start) (subst (λ m. IsAfter offsets (i + start) m) i' w.first_follows);
          second_end = w.second_end - start;
          second_follows = after_own j (w.second_end - start) (subst (λ m. IsAfter offsets (j + start) m) j' w.second_follows);
          shared = shared_as c d (i + start) w.first_end (j + start) w.second_end i (w.first_end - start) j (w.second_end - start)
              (sym (same_point i (before_end (i + start) w.first_end w.first_follows))) (ap (point_at c) i' ∙ sym (same_point (w.first_end - start) (subst (λ m. m < last) i' f.below)))
              (sym (same_point j below)) (ap (point_at c) j' ∙ sym (same_point (w.second_end - start) (subst (λ m. m < last) j' g.below)))
              (λ e. omega (arith, e, i')) (λ e. omega (arith, e, j')) w.shared;
        }

    contact_back : (i j : ℕ) → IsRingContact offsets c i j → IsRingContact own d (i - start) (j - start)
    contact_back i j w =
        let i-from = from_start i w.first_end w.first_follows in
        let j-from = from_start j w.second_end w.second_follows in
        let is : i ≡ i - start + start = omega (arith, i-from) in
        let js : j ≡ j - start + start = omega (arith, j-from) in
        contact_own (i - start) (j - start) (subst₂ (λ k l. IsRingContact offsets c k l) is js w)

    -- the first contact of the own rings is the first of all points, shifted by start
    pub first_given : (i j : ℕ) → IsFirstContact (IsRingContact own d) i j → IsFirstContact (IsRingContact offsets c) (i + start) (j + start)
    first_given i j w = record {
      first = record {
        contact = contact_given i j w.first.contact;
        least = λ k t.
            let same : i + start - start ≡ i = omega arith in
            let least = w.first.least (k - start) (subst (λ n. IsRingContact own d n (k - start)) same (contact_back (i + start) k t)) in
            let from = from_start k t.second_end t.second_follows in
            omega (arith, least, from);
      };
      none_before = λ k l less t.
          let from = from_start k t.first_end t.first_follows in
          w.none_before (k - start) (l - start) (omega (arith, less, from)) (contact_back k l t);
    }

    pub none_given : NoContact (IsRingContact own d) → NoContact (IsRingContact offsets c)
    none_given w = record { none = λ i j t. w.none (i - start) (j - start) (contact_back i j t) }

    -- if the first offset is 0, the contacts are the same
    pub given_from_zero : (found : Option Contact) → start ≡ 0 → MatchOption found (NoContact (IsRingContact own d)) (λ it. IsFirstContact (IsRingContact own d) it.first it.second)
        → MatchOption found (NoContact (IsRingContact offsets c)) (λ it. IsFirstContact (IsRingContact offsets c) it.first it.second)
    given_from_zero None zero w = none_given w
    given_from_zero (Some it) zero w =
        let first : it.first + start ≡ it.first = omega (arith, zero) in
        let second : it.second + start ≡ it.second = omega (arith, zero) in
        subst₂ (λ (i j : ℕ). IsFirstContact (IsRingContact offsets c) i j) first second (first_given it.first it.second w)

    -- all contacts are the same, so many places further on
    pub contacts_given : (list : List Contact) → AreContacts (IsRingContact own d) list → AreContacts (IsRingContact offsets c) (map (moved_contact start) list)
    contacts_given list are = record {
      each = λ k e h. subst (λ (it : Contact). IsRingContact offsets c it.first it.second) (sym (moved k e h)) (let it = get_or list k e in contact_given it.first it.second (are.each k e (inside k h)));
      all = λ i j t.
          let i-from = from_start i t.first_end t.first_follows in
          let j-from = from_start j t.second_end t.second_follows in
          let is : i - start + start ≡ i = omega (arith, i-from) in
          let js : j - start + start ≡ j = omega (arith, j-from) in
          let found = are.all (i - start) (j - start) (contact_back i j t) in
          let same : moved_contact start (contact_at (i - start) (j - start)) ≡ contact_at i j = ap₂ contact_at is js in
          (found.0, subst (λ n. found.0 < n) (sym many_moved) found.1, get_or-map (moved_contact start) list found.0 (contact_at (i - start) (j - start)) (contact_at i j) found.1 ∙ ap (moved_contact start) found.2 ∙ same);
      order = λ k l e less h. subst₂ (λ (one other : Contact). AreBefore other.first other.second one.first one.second) (sym (moved k e (omega (arith, less, h)))) (sym (moved l e h))
          (let one = get_or list k e in let other = get_or list l e in before other.first other.second one.first one.second (are.order k l e less (inside l h)));
    }
      where
        many_moved : length (map (moved_contact start) list) ≡ length list
        many_moved = length-map list (moved_contact start)

        inside : (k : ℕ) → k < length (map (moved_contact start) list) → k < length list
        inside k h = subst (λ n. k < n) many_moved h

        moved : (k : ℕ) (e : Contact) → k < length (map (moved_contact start) list) → get_or (map (moved_contact start) list) k e ≡ moved_contact start (get_or list k e)
        moved k e h = get_or-map (moved_contact start) list k e e (inside k h)

        before : (i j k l : ℕ) → AreBefore i j k l → AreBefore (i + start) (j + start) (k + start) (l + start)
        before i j k l (inl h) = inl (omega (arith, h))
        before i j k l (inr h) = inr (ap (λ n. n + start) h.0, let less = h.1 in omega (arith, less))

    -- and the same places where no point lies before them
    pub contacts_from_zero : (list : List Contact) → start ≡ 0 → AreContacts (IsRingContact own d) list → AreContacts (IsRingContact offsets c) list
    contacts_from_zero list zero are = record {
      each = λ k e h. let it = get_or list k e in
          let first : it.first + start ≡ it.first = omega (arith, zero) in
          let second : it.second + start ≡ it.second = omega (arith, zero) in
          subst₂ (λ (i j : ℕ). IsRingContact offsets c i j) first second (contact_given it.first it.second (are.each k e h));
      all = λ i j t.
          let first : i - start ≡ i = omega (arith, zero) in
          let second : j - start ≡ j = omega (arith, zero) in
          are.all i j (subst₂ (λ (k l : ℕ). IsRingContact own d k l) first second (contact_back i j t));
      order = are.order;
    }

-- what is written of a list of contacts, and what is behind it
pub record AreTaken (list old mid : List Contact) (count : ℕ) : Type 0 where
  pub front : take count mid ≡ take (length old) list
  pub behind : drop count mid ≡ drop (length list) old

pub taken : (list old mid : List Contact) (count : ℕ) → length old ≤ 2 ^ 64 - 1 → AreWritten (2 ^ 64 - 1) list old mid count → AreTaken list old mid count
taken list old mid count most w = elim (cases_lt (length list) (length old)) [
  | inl less ↦ (
      let counted = w.count in
      let end : count ≡ length list = omega (arith, less, most, counted) in
      let all : take (length old) list ≡ list = take_all (length old) list (omega (arith, less)) in
      let is : mid ≡ list ++ drop (length list) old = w.written ∙ ap (λ (front : List Contact). front ++ drop (length list) old) all in
      record {
        front = ap₂ (λ (n : ℕ) (l : List Contact). take n l) end is ∙ take_at list (drop (length list) old) (length list) refl ∙ sym all;
        behind = ap₂ (λ (n : ℕ) (l : List Contact). drop n l) end is ∙ drop_at list (drop (length list) old) (length list) refl;
      })
  | inr more ↦ (
      let counted = w.count in
      let none : drop (length list) old ≡ [] = drop_all (length list) old more in
      let is : mid ≡ take (length old) list = w.written ∙ ap (λ (behind : List Contact). take (length old) list ++ behind) none ∙ append-nil (take (length old) list) in
      let size = length-take (length old) list in
      let same : length mid ≡ length (take (length old) list) = ap length is in
      let past : length mid ≤ count = omega (arith, same, size, more, most, counted) in
      record { front = take_all count mid past ∙ is; behind = drop_all count mid past ∙ sym none })
]

-- contacts that are written, and then moved
pub written_moved : (start : ℕ) (list old mid new : List Contact) (count : ℕ) → length old ≤ 2 ^ 64 - 1 → AreWritten (2 ^ 64 - 1) list old mid count → new ≡ map (moved_contact start) (take count mid) ++ drop count mid → AreWritten (2 ^ 64 - 1) (map (moved_contact start) list) old new count
written_moved start list old mid new count most w is =
    let parts = taken list old mid count most w in
    let same : length (map (moved_contact start) list) ≡ length list = length-map list (moved_contact start) in
    let counted = w.count in
    record {
      written = is ∙ ap₂ (λ (a b : List Contact). map (moved_contact start) a ++ b) parts.front parts.behind ∙ ap₂ (λ (a : List Contact) (n : ℕ). a ++ drop n old) (sym (take-map (moved_contact start) (length old) list)) (sym same);
      count = counted ∙ ap (λ n. min n (2 ^ 64 - 1)) (sym same);
    }

-- the written ones can be moved
pub can_move : (Touch : ℕ → ℕ → Type 0) (start n : ℕ) (list old mid : List Contact) (count : ℕ) → ((i j : ℕ) → Touch i j → (i < j) × (j < n)) → n + start ≤ 2 ^ 64 - 1 → length old ≤ 2 ^ 64 - 1 → AreContacts Touch list → AreWritten (2 ^ 64 - 1) list old mid count
    → All (λ (it : Contact). (it.first ≤ it.second) × (it.second + start < 2 ^ 64)) (take count mid)
can_move Touch start n list old mid count within fits most are w = subst (All (λ (it : Contact). (it.first ≤ it.second) × (it.second + start < 2 ^ 64))) (sym (taken list old mid count most w).front) each
  where
    each : All (λ (it : Contact). (it.first ≤ it.second) × (it.second + start < 2 ^ 64)) (take (length old) list)
    each k e h =
        let size = length-take (length old) list in
        let inside : k < length list = omega (arith, h, size) in
        let room : k < length old = omega (arith, h, size) in
        let it = get_or list k e in
        let bounds = within it.first it.second (are.each k e inside) in
        let less = bounds.0 in
        let below = bounds.1 in
        subst (λ (it : Contact). (it.first ≤ it.second) × (it.second + start < 2 ^ 64)) (sym (get_or-take (length old) list k e room)) (omega (arith, less), omega (arith, below, fits))

-- appending offset n less the first extends the rebased offsets
pub rebased_more : (offsets own longer : List ℕ) (n x : ℕ) → longer ≡ own ++ x ∷ [] → AreRebased offsets own n → x + offset offsets 0 ≡ offset offsets n → AreRebased offsets longer (n + 1)
rebased_more offsets own longer n x is so_far last = record {
  count = ap length is ∙ length-append own (x ∷ []) ∙ (let many = so_far.count in omega (arith, many));
  each = λ k h. elim (cases_lt k n) [
    | inl l ↦ subst (λ (z : ℕ). z + offset offsets 0 ≡ offset offsets k) (sym (old k l)) (so_far.each k l)
    | inr l ↦ (let this : k ≡ n = omega (arith, h, l) in subst (λ (j : ℕ). offset longer j + offset offsets 0 ≡ offset offsets j) (sym this) (subst (λ (z : ℕ). z + offset offsets 0 ≡ offset offsets n) (sym new) last))
  ];
}
  where
    old : (k : ℕ) → k < n → offset longer k ≡ offset own k
    old k h = ap (λ (l : List ℕ). get_or l k 0) is ∙ get_or_append_left own (x ∷ []) 0 k (let many = so_far.count in omega (arith, h, many))

    new : offset longer n ≡ x
    new = ap (λ (l : List ℕ). get_or l n 0) is ∙ subst (λ (k : ℕ). get_or (own ++ x ∷ []) k 0 ≡ x) so_far.count (get_or-append_seam own x [] 0)

module _ {Parted Room Safe Spared : Type 0} (fit : Parted × Room × Safe) where
  -- a contact that is written is the one returned
  pub told_contact : (Touch : ℕ → ℕ → Type 0) (found : Option Contact) (old new : List ℕ) (result : ℤ) → MatchOption found (NoContact Touch) (λ it. IsFirstContact Touch it.first it.second) → IsContactWritten found old new result
      → ContactAnswer Touch old new (to_z w32 (of_z w32 result)) × Refuses Parted Room Safe Spared (to_z w32 (of_z w32 result))
  told_contact Touch None old new result none written = rw written.0 ((none, written.1), not_refused fit 0)
  told_contact Touch (Some it) old new result first written = rw written.0 (record { first = it.first; second = it.second; is = first; written = written.1 }, not_refused fit 1)
