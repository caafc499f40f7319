-- The codes that the calls return in place of a result, and exactly when.
use Rattle.std.specs.Prelude.{◌≡◌, ◌↔◌, ℤ, negsuc, Option, Some, None}
use Rattle.i_shape_c.specs.declared.codes.Refusal.{Refusal}
use Rattle.i_shape_c.specs.declared.codes.Refusal.TheVariants.{Unsafe, BadOffsets, NoMemory, NoRoom}

-- the code of points that aren't safe
abbrev pub unsafe_code : ℤ
unsafe_code = negsuc 0

-- the code of offsets that don't divide the points, of an unknown fill rule, and of points that aren't four for each
-- pair of edges
abbrev pub bad_offsets_code : ℤ
bad_offsets_code = negsuc 1

-- the code of a failed allocation
abbrev pub no_memory_code : ℤ
no_memory_code = negsuc 2

-- the code of arrays that are too short for the result
abbrev pub no_room_code : ℤ
no_room_code = negsuc 3

-- the code of each reason for failing
abbrev pub code_of : Refusal → ℤ
code_of Unsafe = unsafe_code
code_of BadOffsets = bad_offsets_code
code_of NoMemory = no_memory_code
code_of NoRoom = no_room_code

-- why a call fails before it begins, in the order of its tests, or none if the offsets divide the points, there is
-- room, and the points are safe
abbrev pub IsRefusal : Type 0 → Type 0 → Type 0 → Option Refusal → Type 0
IsRefusal Parted Room Safe (Some BadOffsets) = Parted → ⊥
IsRefusal Parted Room Safe (Some NoRoom) = Parted × (Room → ⊥)
IsRefusal Parted Room Safe (Some Unsafe) = Parted × Room × (Safe → ⊥)
IsRefusal Parted Room Safe (Some NoMemory) = ⊥
IsRefusal Parted Room Safe None = Parted × Room × Safe

-- exactly when a call returns each code, in the order of its tests; it returns that of a failed allocation only if
-- `Spared` doesn't hold
pub record Refuses (Parted Room Safe Spared : Type 0) (result : ℤ) : Type 0 where
  pub bad_offsets : result ≡ bad_offsets_code ↔ (Parted → ⊥)
  pub no_room : result ≡ no_room_code ↔ (Parted × (Room → ⊥))
  pub unsafe_points : result ≡ unsafe_code ↔ (Parted × Room × (Safe → ⊥))
  pub memory : result ≡ no_memory_code → Spared → ⊥
