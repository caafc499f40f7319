-- Steps of the search for the first contact of rings with the same label.
use Rattle.std.proofs.Common.{◌≡◌, ◌⊎◌, ◌↔◌, ◌+◌, ◌-◌, ◌<◌, ℕ, ℤ, List, length, get_or, Bool, true, false, not, ◌&&◌, IsTrue, Option, Some, None, MatchOption, refl, sym, ap, ap₂, subst, ◌∙◌, arith, inl, inr}
use Rattle.std.proofs.lemmas.Bool.{cases_lt, cases_eq}
use Rattle.std.proofs.lemmas.List.{get_or-map, length-map}
use Rattle.i_shape_core.specs.Point.{Point, origin}
use Rattle.i_shape_core.specs.Contour.{point_at}
use Rattle.i_shape_core.specs.IntPoint.{point_of}
use Rattle.i_shape_core.specs.Rings.{offset}
use Rattle.i_shape_core.specs.declared.point.IntPoint.{IntPoint}
use Rattle.i_shape_contacts.specs.declared.plain.Contact.{Contact}
use Rattle.i_shape_contacts.specs.Courses.{Divides}
use Rattle.i_shape_contacts.specs.Listing.{AreBefore}
use Rattle.i_shape_touching.specs.Touching.{IsEdgeOf}
use Rattle.i_shape_touching.specs.Steps.Labels.{touch_points, touch_contacts, contact_at, AreOfRings, HaveSameLabel, IsFirstSame, NoneSame, IsEarlier}
use Rattle.i_shape_touching.specs.declared.touches.Touch.{Touch}
use Rattle.i_shape_touching.proofs.CircleEdges.{one_ring}

-- ---- reading
pub point_read : {I : Type 0} (value : I → ℤ) (ts : List (Touch I)) (k : ℕ) (t d : Touch I) → k < length ts → t ≡ get_or ts k d → point_at (touch_points value ts) k ≡ point_of value t.point
point_read value ts k t d within e = get_or-map (λ u. point_of value u.point) ts k d origin within ∙ ap (λ (u : Touch _). point_of value u.point) (sym e)

-- the contact of a touch
pub contact_read : {I : Type 0} (ts : List (Touch I)) (k : ℕ) (d : Touch I) → k < length ts → contact_at (touch_contacts ts) k ≡ (get_or ts k d).contact
contact_read ts k d within = get_or-map (λ u. u.contact) ts k d (record { first = 0; second = 0 }) within

-- the contact of a touch that was read from the list
pub item_contact : {I : Type 0} (ts : List (Touch I)) (k : ℕ) (t : Touch I) → k < length ts → t ≡ get_or ts k t → t.contact ≡ contact_at (touch_contacts ts) k
item_contact ts k t within e = ap (λ (u : Touch _). u.contact) e ∙ sym (contact_read ts k t within)

-- its edges are edges of the rings
pub item_within : {I : Type 0} (offsets : List ℕ) (ts : List (Touch I)) (k : ℕ) (t : Touch I) → k < length ts → t ≡ get_or ts k t → AreOfRings offsets (touch_contacts ts)
    → (t.contact.first < offset offsets (length offsets - 1)) × (t.contact.second < offset offsets (length offsets - 1))
item_within offsets ts k t within e h =
    let count = length-map ts (λ u. u.contact) in
    let inside : k < length (touch_contacts ts) = omega (arith, within, count) in
    let same = sym (item_contact ts k t within e) in (
      subst (λ (q : Contact). q.first < offset offsets (length offsets - 1)) same (h.first k inside),
      subst (λ (q : Contact). q.second < offset offsets (length offsets - 1)) same (h.second k inside),
    )

-- ---- the program's test of points
both : (x y : Bool) (X Y : Type 0) → IsTrue x ↔ X → IsTrue y ↔ Y → (x && y) ≡ true → X × Y
both true true X Y f g e = (f.0 refl, g.0 refl)
both true false X Y f g e = absurd cc
both false y X Y f g e = absurd cc

-- if the test of two facts is false, not both hold
either_not : (x y : Bool) (X Y : Type 0) → IsTrue x ↔ X → IsTrue y ↔ Y → (x && y) ≡ false → X → Y → ⊥
either_not x y X Y f g e h k = let one : x ≡ true = f.1 h in let other : y ≡ true = g.1 k in grind arith

-- what a test says if its opposite is true
flipped : (b t : Bool) → b ≡ not t → b ≡ true → t ≡ false
flipped b true e f = absurd cc
flipped b false e f = refl

-- and if its opposite is false
flipped_false : (b t : Bool) → b ≡ not t → b ≡ false → t ≡ true
flipped_false b true e f = refl
flipped_false b false e f = absurd cc

module _ {I : Type 0} (value : I → ℤ) (eq : I → I → Bool) (equality : (a b : I) → IsTrue (eq a b) ↔ (value a ≡ value b)) (p q : IntPoint I) (b : Bool) (told : b ≡ not (eq p.x q.x && eq p.y q.y)) where
  -- if the test for a difference is true, the points differ
  pub differ : b ≡ true → point_of value p ≡ point_of value q → ⊥
  differ e f = either_not _ _ _ _ (equality p.x q.x) (equality p.y q.y) (flipped b _ told e) (ap (λ (v : Point). v.x) f) (ap (λ (v : Point). v.y) f)

  -- if it is false, they are equal
  pub agree : b ≡ false → point_of value p ≡ point_of value q
  agree e = let h = both _ _ _ _ (equality p.x q.x) (equality p.y q.y) (flipped_false b _ told e) in ap₂ (λ (x y : ℤ). record { x = x; y = y }) h.0 h.1

-- ---- the order of contacts
before_itself : (i j : ℕ) → AreBefore i j i j → ⊥
before_itself i j (inl h) = omega (arith, h)
before_itself i j (inr h) = let l = h.1 in omega (arith, l)

-- what comes before one contact comes before another that isn't before that
before_through : (i j k l m n : ℕ) → (AreBefore i j k l → ⊥) → AreBefore i j m n → AreBefore k l m n
before_through i j k l m n later (inl h) = elim (cases_lt m k) [ inl b ↦ inl b | inr b ↦ absurd (later (inl (omega (arith, h, b)))) ]
before_through i j k l m n later (inr h) = elim (cases_lt m k) [
  | inl b ↦ inl b
  | inr b ↦ elim (cases_lt k i) [
    | inl a ↦ absurd (later (inl a))
    | inr a ↦ (let e = h.0 in elim (cases_lt n l) [
      | inl f ↦ inr (omega (arith, e, a, b), f)
      | inr f ↦ (let g = h.1 in absurd (later (inr (omega (arith, e, a, b), omega (arith, f, g)))))
    ])
  ]
]

-- no two contacts come before each other
before_both : (i j k l : ℕ) → AreBefore i j k l → AreBefore k l i j → ⊥
before_both i j k l (inl h) (inl b) = omega (arith, h, b)
before_both i j k l (inl h) (inr b) = let e = b.0 in omega (arith, h, e)
before_both i j k l (inr h) (inl b) = let e = h.0 in omega (arith, e, b)
before_both i j k l (inr h) (inr b) = let e = h.1 in let f = b.1 in omega (arith, e, f)

-- ---- the search
module _ (offsets labels : List ℕ) (contacts : List Contact) (k : ℕ) where
  -- rings with other labels
  pub other_labels : (d : Divides offsets) (i j r s : ℕ) → IsEdgeOf offsets r i → IsEdgeOf offsets s j → (get_or labels r 0 ≡ get_or labels s 0 → ⊥) → HaveSameLabel offsets labels i j → ⊥
  other_labels d i j r s first second differ h =
      differ (ap (λ (q : ℕ). get_or labels q 0) (one_ring offsets d i r h.ring first h.first_of) ∙ h.same ∙ ap (λ (q : ℕ). get_or labels q 0) (one_ring offsets d j h.other s h.second_of second))

  -- a number below k + 1 is k or below k
  split : (j : ℕ) → j < k + 1 → (j ≡ k) ⊎ (j < k)
  split j h = elim (cases_eq j k) [ inl e ↦ inl e | inr n ↦ inr (omega (arith, h, n)) ]

  -- none of no contacts has rings with the same label
  pub none_first : NoneSame offsets labels contacts 0
  none_first = record { none = λ j h _. omega (arith, h) }

  -- one more contact, of rings with other labels
  pub same_found : (found : Option Contact) → (HaveSameLabel offsets labels (contact_at contacts k).first (contact_at contacts k).second → ⊥)
      → MatchOption found (NoneSame offsets labels contacts k) (IsFirstSame offsets labels contacts k) → MatchOption found (NoneSame offsets labels contacts (k + 1)) (IsFirstSame offsets labels contacts (k + 1))
  same_found None not_here h = record {
    none = λ j b same. elim (split j b) [
      | inl e ↦ not_here (subst (λ m. HaveSameLabel offsets labels (contact_at contacts m).first (contact_at contacts m).second) e same)
      | inr l ↦ h.none j l same
    ];
  }
  same_found (Some it) not_here h = let early = h.before in record {
    place = h.place;
    before = omega (arith, early);
    is = h.is;
    closes = h.closes;
    first = λ j b same before. elim (split j b) [
      | inl e ↦ not_here (subst (λ m. HaveSameLabel offsets labels (contact_at contacts m).first (contact_at contacts m).second) e same)
      | inr l ↦ h.first j l same before
    ];
  }

  -- one more contact, of rings with the same label
  pub earlier_found : (found result : Option Contact) (contact : Contact) → contact ≡ contact_at contacts k → HaveSameLabel offsets labels contact.first contact.second → IsEarlier found contact result
      → MatchOption found (NoneSame offsets labels contacts k) (IsFirstSame offsets labels contacts k) → MatchOption result (NoneSame offsets labels contacts (k + 1)) (IsFirstSame offsets labels contacts (k + 1))
  earlier_found None result contact is here e h = subst (λ r. MatchOption r (NoneSame offsets labels contacts (k + 1)) (IsFirstSame offsets labels contacts (k + 1))) (sym e) first
    where
      first : IsFirstSame offsets labels contacts (k + 1) contact
      first = record {
        place = k;
        before = omega arith;
        is = is;
        closes = here;
        first = λ j b same before. elim (split j b) [
          | inl e ↦ before_itself contact.first contact.second (subst (λ (q : Contact). AreBefore contact.first contact.second q.first q.second) (ap (contact_at contacts) e ∙ sym is) before)
          | inr l ↦ h.none j l same
        ];
      }
  earlier_found (Some it) result contact is here (inl e) h = subst (λ r. MatchOption r (NoneSame offsets labels contacts (k + 1)) (IsFirstSame offsets labels contacts (k + 1))) (sym e.0) first
    where
      first : IsFirstSame offsets labels contacts (k + 1) it
      first = let early = h.before in record {
        place = h.place;
        before = omega (arith, early);
        is = h.is;
        closes = h.closes;
        first = λ j b same before. elim (split j b) [
          | inl f ↦ before_both contact.first contact.second it.first it.second e.1 (subst (λ (q : Contact). AreBefore it.first it.second q.first q.second) (ap (contact_at contacts) f ∙ sym is) before)
          | inr l ↦ h.first j l same before
        ];
      }
  earlier_found (Some it) result contact is here (inr e) h = subst (λ r. MatchOption r (NoneSame offsets labels contacts (k + 1)) (IsFirstSame offsets labels contacts (k + 1))) (sym e.0) first
    where
      first : IsFirstSame offsets labels contacts (k + 1) contact
      first = record {
        place = k;
        before = omega arith;
        is = is;
        closes = here;
        first = λ j b same before. elim (split j b) [
          | inl f ↦ before_itself contact.first contact.second (subst (λ (q : Contact). AreBefore contact.first contact.second q.first q.second) (ap (contact_at contacts) f ∙ sym is) before)
          | inr l ↦ h.first j l same (before_through contact.first contact.second it.first it.second _ _ e.1 before)
        ];
      }
