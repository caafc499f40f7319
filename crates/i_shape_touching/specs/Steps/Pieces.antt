-- Edges cut into pieces where rings touch.
use Rattle.std.specs.Prelude.{◌≡◌, ◌+◌, ◌<◌, ◌≤◌, ◌⊎◌, ℕ, ℤ, pos, List, [], ◌∷◌, ◌++◌, length, Contains, All, AllPairs}
use Rattle.i_shape_core.specs.Point.{Point}
use Rattle.i_shape_core.specs.IntPoint.{point_of}
use Rattle.i_shape_core.specs.Contour.{point_at}
use Rattle.i_shape_core.specs.Rings.{offset, nth_ring}
use Rattle.i_shape_contacts.specs.Contacts.{IsAfter}
use Rattle.i_shape_contacts.specs.Validity.{IsHole, IsLeast}
use Rattle.i_shape_touching.specs.Places.{winding_at, sum_of_points}
use Rattle.i_shape_touching.specs.Touching.{IsEdgeOf, IsOnEdge, IsLess, EntersHole}
use Rattle.i_shape_touching.specs.declared.marks.Mark.{Mark}
use Rattle.i_shape_touching.specs.declared.nesting.Piece.{Piece}

-- p lies on edge k and on edge j of another ring
pub record IsShared (offsets : List ℕ) (c : List Point) (k : ℕ) (p : Point) : Type 0 where
  pub other : ℕ
  pub on_edge : IsOnEdge offsets c p k
  pub on_other : IsOnEdge offsets c p other
  pub differ : (r : ℕ) → IsEdgeOf offsets r k → IsEdgeOf offsets r other → ⊥

-- p is the start of edge k, its end, or a point that it shares with another ring
pub data IsMark (offsets : List ℕ) (c : List Point) (k : ℕ) (p : Point) : Type 0 where
  start : k < length c → p ≡ point_at c k → IsMark offsets c k p
  end : (m : ℕ) → IsAfter offsets k m → p ≡ point_at c m → IsMark offsets c k p
  shared : IsShared offsets c k p → IsMark offsets c k p

-- p and q are marks of edge k, p less than q, and no mark lies between them
pub record IsPiece (offsets : List ℕ) (c : List Point) (k : ℕ) (p q : Point) : Type 0 where
  pub first : IsMark offsets c k p
  pub second : IsMark offsets c k q
  pub order : IsLess p q
  pub none : (m : Point) → IsMark offsets c k m → IsLess p m → IsLess m q → ⊥

-- edge k is the first of its ring
pub record IsFirstEdge (offsets : List ℕ) (k : ℕ) : Type 0 where
  pub ring : ℕ
  pub is_ring : ring + 1 < length offsets
  pub is_first : k ≡ offset offsets ring

-- edge k shares a point with another ring
pub record SharesSome (offsets : List ℕ) (c : List Point) (k : ℕ) : Type 0 where
  pub point : Point
  pub shared : IsShared offsets c k point

-- edge k is one to look at: the first of its ring, or one that shares a point with another ring
abbrev pub IsListed : List ℕ → List Point → ℕ → Type 0
IsListed offsets c k = IsFirstEdge offsets k ⊎ SharesSome offsets c k

-- an edge, and a point of it
pub record MarkOf : Type 0 where
  pub edge : ℕ
  pub point : Point

-- what a mark of the program represents
abbrev pub mark_of : {I : Type 0} → (I → ℤ) → Mark I → MarkOf
mark_of value m = record { edge = m.edge; point = point_of value m.point }

-- the mark a comes before b or is equal to it: by the edge, and where this is the same by the point
abbrev pub IsOrdered : MarkOf → MarkOf → Type 0
IsOrdered a b = (a.edge < b.edge) ⊎ ((a.edge ≡ b.edge) × ((a.point ≡ b.point) ⊎ IsLess a.point b.point))

-- the list has only marks of edges to look at, all of them, in order
pub record AreMarks (offsets : List ℕ) (c : List Point) (marks : List MarkOf) : Type 0 where
  pub each : All (λ m. IsMark offsets c m.edge m.point) marks
  pub listed : All (λ m. IsListed offsets c m.edge) marks
  pub all : (k : ℕ) (p : Point) → IsListed offsets c k → IsMark offsets c k p → Contains marks (record { edge = k; point = p })
  pub order : AllPairs IsOrdered marks

-- ---- marks, one after another
-- marks for both ends of edge k are added
pub record AddsEnds (offsets : List ℕ) (c : List Point) (k : ℕ) (old new : List MarkOf) : Type 0 where
  pub next : ℕ
  pub follows : IsAfter offsets k next
  pub added : new ≡ old ++ (record { edge = k; point = point_at c k } ∷ record { edge = k; point = point_at c next } ∷ [])

-- marks for both ends of edge k are added, and one for p
pub record AddsTouch (offsets : List ℕ) (c : List Point) (k : ℕ) (p : Point) (old new : List MarkOf) : Type 0 where
  pub next : ℕ
  pub follows : IsAfter offsets k next
  pub added : new ≡ old ++ (record { edge = k; point = point_at c k } ∷ record { edge = k; point = point_at c next } ∷ record { edge = k; point = p } ∷ [])

-- ---- pieces
-- two points of an edge, and its ring
pub record PieceOf : Type 0 where
  pub ring : ℕ
  pub first : Point
  pub second : Point

-- what a piece of the program represents
abbrev pub piece_of : {I : Type 0} → (I → ℤ) → Piece I → PieceOf
piece_of value p = record { ring = p.ring; first = point_of value p.middle.first; second = point_of value p.middle.second }

-- the points bound a piece of an edge to look at, which is one of the ring
pub record IsRingPiece (offsets : List ℕ) (c : List Point) (p : PieceOf) : Type 0 where
  pub edge : ℕ
  pub is_edge : IsEdgeOf offsets p.ring edge
  pub listed : IsListed offsets c edge
  pub piece : IsPiece offsets c edge p.first p.second

-- the list has all pieces of edges to look at, and nothing else, in order of the rings
pub record ArePieces (offsets : List ℕ) (c : List Point) (pieces : List PieceOf) : Type 0 where
  pub each : All (IsRingPiece offsets c) pieces
  pub all : (p : PieceOf) → IsRingPiece offsets c p → Contains pieces p
  pub order : AllPairs (λ p q. p.ring ≤ q.ring) pieces
  pub marks : List MarkOf
  pub are_marks : AreMarks offsets c marks

-- ring j's winding number about the middle of a piece
abbrev pub winding_about_piece : List ℕ → List Point → ℕ → PieceOf → ℤ
winding_about_piece offsets c j p = winding_at (nth_ring c offsets j) (pos 2) (sum_of_points p.first p.second)

-- the piece is one of a hole, and the outer contour doesn't wind about its middle
pub record IsPieceOutside (offsets : List ℕ) (c : List Point) (p : PieceOf) : Type 0 where
  pub not_outer : 0 < p.ring
  pub outside : winding_about_piece offsets c 0 p ≡ pos 0

-- the piece is one of a hole, and hole j, another, winds about its middle
pub record IsPieceWithin (offsets : List ℕ) (c : List Point) (p : PieceOf) (j : ℕ) : Type 0 where
  pub not_outer : 0 < p.ring
  pub other_is_hole : IsHole offsets j
  pub differ : p.ring ≡ j → ⊥
  pub inside : winding_about_piece offsets c j p ≡ pos 0 → ⊥

-- some hole winds about the middle of the piece, which is one of another hole
pub record IsPieceWithinAny (offsets : List ℕ) (c : List Point) (p : PieceOf) : Type 0 where
  pub other : ℕ
  pub is_within : IsPieceWithin offsets c p other

-- `hole` has a point inside `other`, and inside no hole before it
pub record IsFirstEntered (offsets : List ℕ) (c : List Point) (k hole other : ℕ) : Type 0 where
  pub same : hole ≡ k
  pub first : IsLeast (EntersHole offsets c k) other
