-- Boxes around edges of a contour.
use Rattle.std.specs.Prelude.{◌<◌, ◌≤◌, ◌+◌, ◌*◌, ◌≤ℤ◌, ◌<ℤ◌, ℕ, ℤ, List, length, get_or, ◌⊎◌}
use Rattle.i_shape_core.specs.Point.{Point}
use Rattle.i_shape_core.specs.IntPoint.{point_of}
use Rattle.i_shape_core.specs.Contour.{point_at}
use Rattle.i_shape_contacts.specs.declared.boxes.Bounds.{Bounds}
use Rattle.i_shape_contacts.specs.declared.boxes.Block.{Block}

-- p lies in the box with these corners
pub record IsWithin (low high p : Point) : Type 0 where
  pub left : low.x ≤ℤ p.x
  pub right : p.x ≤ℤ high.x
  pub below : low.y ≤ℤ p.y
  pub above : p.y ≤ℤ high.y

-- p lies in the box
abbrev pub Holds : {I : Type 0} → (I → ℤ) → Bounds I → Point → Type 0
Holds value b p = IsWithin (point_of value b.low) (point_of value b.high) p

-- one box lies beside the other, above or below it
abbrev pub AreApart : {I : Type 0} → (I → ℤ) → Bounds I → Bounds I → Type 0
AreApart value a b = (value a.high.x <ℤ value b.low.x) ⊎ ((value b.high.x <ℤ value a.low.x) ⊎ ((value a.high.y <ℤ value b.low.y) ⊎ (value b.high.y <ℤ value a.low.y)))

-- the box holds both ends of edge m
pub record HoldsEdge {I : Type 0} (value : I → ℤ) (Follows : ℕ → ℕ → Type 0) (b : Bounds I) (c : List Point) (m : ℕ) : Type 0 where
  pub start : Holds value b (point_at c m)
  pub end : (n : ℕ) → Follows m n → Holds value b (point_at c n)

-- the box holds the edges of an order at ranks from `from` to below `to`
abbrev pub HoldsRanks : {I : Type 0} → (I → ℤ) → (ℕ → ℕ → Type 0) → Bounds I → List Point → (ℕ → ℕ) → ℕ → ℕ → Type 0
HoldsRanks value Follows b c at from to = (m : ℕ) → from ≤ m → m < to → m < length c → HoldsEdge value Follows b c (at m)

-- the block begins with chunk k of an order, eight edges; its boxes hold each edge of the chunk, and of the block
pub record IsBlock {I : Type 0} (value : I → ℤ) (Follows : ℕ → ℕ → Type 0) (c : List Point) (at : ℕ → ℕ) (k : ℕ) (b : Block I) : Type 0 where
  pub further : k < b.next
  pub own : HoldsRanks value Follows b.own c at (k * 8) (k * 8 + 8)
  pub holds : HoldsRanks value Follows b.bounds c at (k * 8) (b.next * 8)

-- from chunk k on, the block at each chunk begins with it
abbrev pub AreBlocks : {I : Type 0} → (I → ℤ) → (ℕ → ℕ → Type 0) → List Point → (ℕ → ℕ) → ℕ → List (Block I) → Type 0
AreBlocks {I} value Follows c at k blocks = (m : ℕ) (d : Block I) → k ≤ m → m < length blocks → IsBlock value Follows c at m (get_or blocks m d)

-- so many chunks have so many edges: the last one has some
pub record CountsChunks (chunks edges : ℕ) : Type 0 where
  pub enough : edges ≤ chunks * 8
  pub few : chunks * 8 < edges + 8
