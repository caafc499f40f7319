-- Offsets that divide points into rings.
use Rattle.std.specs.Prelude.{◌≡◌, ◌<◌, ◌-◌, ℕ, List, length, get_or}
use Rattle.i_shape_core.specs.Rings.{offset, AreRising}
use Rattle.i_shape_contacts.specs.Contacts.{IsAfter}

-- the offsets begin with 0, and none is less than the one before it
pub record Divides (offsets : List ℕ) : Type 0 where
  pub some : 0 < length offsets
  pub first : offset offsets 0 ≡ 0
  pub order : AreRising offsets (length offsets)

-- the offsets divide n points into rings: they also end with n
pub record DividesPoints (n : ℕ) (offsets : List ℕ) : Type 0 where
  pub divides : Divides offsets
  pub all : offset offsets (length offsets - 1) ≡ n

-- at each of the first n places the table has the place after it in its ring
pub record ListsNext (offsets table : List ℕ) (n : ℕ) : Type 0 where
  pub count : length table ≡ n
  pub each : (k : ℕ) → k < n → IsAfter offsets k (get_or table k 0)
  pub within : (k : ℕ) → k < n → get_or table k 0 < offset offsets (length offsets - 1)

-- the table has the place after each
pub record IsTable (offsets table : List ℕ) : Type 0 where
  pub divides : Divides offsets
  pub lists : ListsNext offsets table (offset offsets (length offsets - 1))
