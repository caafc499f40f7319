-- What the calls return and write that find contacts of edges.
use Rattle.std.specs.Prelude.{◌≡◌, ℕ, ℤ, ◌+◌, ◌-◌, ◌^◌, ◌<◌, ◌≤◌, pos, negsuc, zero, suc, List, ◌∷◌, map, length, drop, Option, Some, None}
use Rattle.std.specs.Int.{Width}
use Rattle.i_shape.specs.Point.{Point}
use Rattle.i_shape_contacts.specs.Contacts.{IsContact, IsRingContact, NoContact, IsFirstContact}
use Rattle.i_shape_contacts.specs.Listing.{ListsContacts}
use Rattle.i_shape_contacts.specs.declared.plain.Contact.{Contact}
use Rattle.i_shape_c.specs.Batch.{offset, PartsPoints, AreSafeContours}
use Rattle.i_shape_c.specs.Cleaned.{AreSafe}
use Rattle.i_shape_c.specs.Codes.{Refuses}

-- the new items begin with the indices of the two edges of the first contact, and are otherwise unchanged
pub record WritesContact (Touch : ℕ → ℕ → Type 0) (old new : List ℕ) : Type 0 where
  pub first : ℕ
  pub second : ℕ
  pub is : IsFirstContact Touch first second
  pub written : new ≡ first ∷ second ∷ drop 2 old

-- 1 and the first contact, 0 if there is none, or a code; with 0 and with a code nothing is written
abbrev pub ContactAnswer : (ℕ → ℕ → Type 0) → List ℕ → List ℕ → ℤ → Type 0
ContactAnswer Touch old new (pos zero) = NoContact Touch × (new ≡ old)
ContactAnswer Touch old new (pos (suc zero)) = WritesContact Touch old new
ContactAnswer Touch old new (pos (suc (suc n))) = ⊥
ContactAnswer Touch old new (negsuc n) = (n < 4) × (new ≡ old)

-- what a call returns and writes for the first contact of a contour, and exactly when it returns each code; it never
-- returns that for memory
pub record FindsContact {P : Type 0} (width : Width) (point : P → Point) (points : List P) (old new : List ℕ) (result : ℤ) : Type 0 where
  pub answer : ContactAnswer (IsContact (map point points)) old new result
  pub refuses : Refuses (Unit {0}) (2 ≤ length old) (AreSafe width point points) (Unit {0}) result

-- what a call returns and writes for the first contact of the rings that offsets delimit, and exactly when it returns
-- each code; if the first offset is 0, it never returns that for memory
pub record FindsRingContact {P : Type 0} (width : Width) (point : P → Point) (points : List P) (offsets old new : List ℕ) (result : ℤ) : Type 0 where
  pub answer : ContactAnswer (IsRingContact offsets (map point points)) old new result
  pub refuses : Refuses (PartsPoints (length points) offsets) (2 ≤ length old) (AreSafeContours width point points offsets) (offset offsets 0 ≡ 0) result

-- what is written of a contact, and returned: 1, or 0 if there is none
abbrev pub IsContactWritten : Option Contact → List ℕ → List ℕ → ℤ → Type 0
IsContactWritten None old new result = (result ≡ pos 0) × (new ≡ old)
IsContactWritten (Some it) old new result = (result ≡ pos 1) × (new ≡ it.first ∷ it.second ∷ drop 2 old)

-- `own` are the first n offsets, each less the first
pub record AreRebased (offsets own : List ℕ) (n : ℕ) : Type 0 where
  pub count : length own ≡ n
  pub each : (k : ℕ) → k < n → offset own k + offset offsets 0 ≡ offset offsets k

-- how many contacts there are, with these written as far as there is room, or a code and nothing written
abbrev pub ContactsAnswer : (ℕ → ℕ → Type 0) → List Contact → List Contact → ℤ → Type 0
ContactsAnswer Touch old new (pos n) = ListsContacts (2 ^ 63 - 1) Touch old new n
ContactsAnswer Touch old new (negsuc n) = (n < 4) × (new ≡ old)

-- what a call returns and writes for all contacts of a contour, and exactly when it returns a code: that of points that
-- aren't safe alone
pub record FindsContacts {P : Type 0} (width : Width) (point : P → Point) (points : List P) (old new : List Contact) (result : ℤ) : Type 0 where
  pub answer : ContactsAnswer (IsContact (map point points)) old new result
  pub refuses : Refuses (Unit {0}) (Unit {0}) (AreSafe width point points) (Unit {0}) result

-- what a call returns and writes for all contacts of the rings that offsets give, and exactly when it returns which code:
-- none for memory where the first offset is 0
pub record FindsRingContacts {P : Type 0} (width : Width) (point : P → Point) (points : List P) (offsets : List ℕ) (old new : List Contact) (result : ℤ) : Type 0 where
  pub answer : ContactsAnswer (IsRingContact offsets (map point points)) old new result
  pub refuses : Refuses (PartsPoints (length points) offsets) (Unit {0}) (AreSafeContours width point points offsets) (offset offsets 0 ≡ 0) result

-- the contact with places so many further on
abbrev pub moved_contact : ℕ → Contact → Contact
moved_contact start it = record { first = it.first + start; second = it.second + start }
