-- Boxes around rings of a polygon.
use Rattle.std.specs.Prelude.{◌≡◌, ◌<◌, ◌≤◌, ◌+◌, ◌⊎◌, ℕ, ℤ, List, length, get_or}
use Rattle.std.specs.List.{All}
use Rattle.i_shape_core.specs.Point.{Point}
use Rattle.i_shape_core.specs.Rings.{nth_ring}
use Rattle.i_shape_contacts.specs.declared.boxes.Bounds.{Bounds}
use Rattle.i_shape_contacts.specs.declared.boxes.Block.{Block}
use Rattle.i_shape_contacts.specs.Steps.Boxes.{Holds, AreApart}

-- each ring has a point
abbrev pub NoEmptyRing : List ℕ → List Point → Type 0
NoEmptyRing offsets c = (k : ℕ) → k + 1 < length offsets → 0 < length (nth_ring c offsets k)

-- the box holds each point of ring k
abbrev pub HoldsRing : {I : Type 0} → (I → ℤ) → List ℕ → List Point → Bounds I → ℕ → Type 0
HoldsRing value offsets c b k = All (Holds value b) (nth_ring c offsets k)

-- the block begins with ring k; its boxes hold the ring, and each ring of the block
pub record IsRingBlock {I : Type 0} (value : I → ℤ) (offsets : List ℕ) (c : List Point) (k : ℕ) (b : Block I) : Type 0 where
  pub further : k < b.next
  pub own : HoldsRing value offsets c b.own k
  pub holds : (j : ℕ) → k ≤ j → j < b.next → j + 1 < length offsets → HoldsRing value offsets c b.bounds j

-- from ring k on, the block at each ring begins with it
abbrev pub AreRingBlocks : {I : Type 0} → (I → ℤ) → List ℕ → List Point → ℕ → List (Block I) → Type 0
AreRingBlocks {I} value offsets c k blocks = (m : ℕ) (d : Block I) → k ≤ m → m < length blocks → IsRingBlock value offsets c m (get_or blocks m d)

-- a box of the block, of ring `from` or of all up to `to`, is apart from `own`
abbrev pub IsBeside : {I : Type 0} → (I → ℤ) → Bounds I → Block I → ℕ → ℕ → Type 0
IsBeside value own b from to = (AreApart value own b.bounds × (to ≡ b.next)) ⊎ (AreApart value own b.own × (to ≡ from + 1))

-- of two blocks, a box of that at `from` is apart from the box of ring k
pub record PassesOver {I : Type 0} (value : I → ℤ) (blocks : List (Block I)) (k from to : ℕ) : Type 0 where
  pub own : Block I
  pub block : Block I
  pub own_within : k < length blocks
  pub own_is : get_or blocks k own ≡ own
  pub within : from < length blocks
  pub block_is : get_or blocks from block ≡ block
  pub beside : IsBeside value own.own block from to

-- the rings from `from` to below `to`, if there are any, are in a box apart from that of ring k
abbrev pub SkipsApart : {I : Type 0} → (I → ℤ) → List (Block I) → ℕ → ℕ → ℕ → Type 0
SkipsApart value blocks k from to = (to ≡ from) ⊎ PassesOver value blocks k from to
