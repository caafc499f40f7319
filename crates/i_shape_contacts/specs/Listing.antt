-- All contacts, in order.
use Rattle.std.specs.Prelude.{◌≡◌, ◌<◌, ◌++◌, ℕ, List, length, take, drop, min, All, AllPairs, Contains, ◌⊎◌}
use Rattle.i_shape_contacts.specs.declared.plain.Contact.{Contact}

-- the edges k and l come before the edges i and j: by the first of them, and where this is the same by the second
abbrev pub AreBefore : ℕ → ℕ → ℕ → ℕ → Type 0
AreBefore i j k l = (k < i) ⊎ ((k ≡ i) × (l < j))

-- the list has each contact once, in order, and nothing else
pub record AreContacts (Touch : ℕ → ℕ → Type 0) (list : List Contact) : Type 0 where
  pub each : All (λ it. Touch it.first it.second) list
  pub all : (i j : ℕ) → Touch i j → Contains list (record { first = i; second = j })
  pub order : AllPairs (λ one other. AreBefore other.first other.second one.first one.second) list

-- the list, as far as there is room, is at the front of the new items, and behind it they are as before; `total` is the
-- length of the list, or `most` where that is less
pub record AreWritten (most : ℕ) (list old new : List Contact) (total : ℕ) : Type 0 where
  pub written : new ≡ take (length old) list ++ drop (length list) old
  pub count : total ≡ min (length list) most

-- all contacts are written so, and counted
pub record ListsContacts (most : ℕ) (Touch : ℕ → ℕ → Type 0) (old new : List Contact) (total : ℕ) : Type 0 where
  pub contacts : List Contact
  pub are : AreContacts Touch contacts
  pub are_written : AreWritten most contacts old new total

-- the edges k and l are in contact, and the pair comes before i and j
abbrev pub Earlier : (ℕ → ℕ → Type 0) → ℕ → ℕ → ℕ → ℕ → Type 0
Earlier Touch i j k l = Touch k l × AreBefore i j k l
