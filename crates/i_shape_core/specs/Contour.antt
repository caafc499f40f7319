-- A contour is a list of points read as a cycle. What can be left of it if points that pass a test are removed one by
-- one.
use Rattle.std.specs.Prelude.{◌≡◌, ℕ, ◌+◌, ◌-◌, ◌%◌, ◌<◌, ◌≤◌, List, ◌++◌, length, get_or, reverse, ◌⊎◌, [], ◌∷◌, remove}
use Rattle.i_shape_core.specs.Point.{Point, origin, IsZeroTurn}

-- the point at place k, or the origin if there is none
abbrev pub point_at : List Point → ℕ → Point
point_at c k = get_or c k origin

-- the place before place k on a cycle of n places
abbrev pub place_before : ℕ → ℕ → ℕ
place_before n k = (k + (n - 1)) % n

-- the place after place k on a cycle of n places
abbrev pub place_after : ℕ → ℕ → ℕ
place_after n k = (k + 1) % n

-- a test of a point between the one before it and the one after it
abbrev pub Test : Type 1
Test = Point → Point → Point → Type 0

-- the contour has at least three points, and the one at place k passes the test between its neighbours
pub record IsRemovable (P : Test) (c : List Point) (k : ℕ) : Type 0 where
  pub enough : 3 ≤ length c
  pub within : k < length c
  pub passes : P (point_at c (place_before (length c) k)) (point_at c k) (point_at c (place_after (length c) k))

-- d is c without one removable point
pub record Step (P : Test) (c d : List Point) : Type 0 where
  pub place : ℕ
  pub removable : IsRemovable P c place
  pub left : d ≡ remove c place

-- any number of steps leads from c to d
pub data Reach (P : Test) : List Point → List Point → Type 0 where
  stay : {c : List Point} → Reach P c c
  step : {c d e : List Point} → Step P c d → Reach P d e → Reach P c e

-- e is reached from c, and no point of e is removable
pub record End (P : Test) (c e : List Point) : Type 0 where
  pub reached : Reach P c e
  pub none_left : (k : ℕ) → IsRemovable P e k → ⊥

-- fewer than three points
abbrev pub IsCollapsed : List Point → Type 0
IsCollapsed c = length c < 3

-- d is the same cycle as c, from another start
pub record Rotation {A : Type 0} (c d : List A) : Type 0 where
  pub front : List A
  pub back : List A
  pub before : c ≡ front ++ back
  pub after : d ≡ back ++ front

-- both have collapsed, or neither has and they are rotations of each other
pub data SameEnd (e f : List Point) : Type 0 where
  collapsed : IsCollapsed e → IsCollapsed f → SameEnd e f
  rotated : 3 ≤ length e → 3 ≤ length f → Rotation e f → SameEnd e f

-- at least three points, and none of them a zero turn
pub record IsSimple (c : List Point) : Type 0 where
  pub enough : 3 ≤ length c
  pub none : (k : ℕ) → IsRemovable IsZeroTurn c k → ⊥

-- d is a sublist of c: the empty list's only sublist is itself; those of a list that starts with a are those of its
-- rest, with or without a in front
abbrev pub Sublist : {A : Type 0} → List A → List A → Type 0
Sublist {A} [] d = d ≡ []
Sublist {A} (a ∷ c) d = Sublist c d ⊎ ((e : List A) × (d ≡ a ∷ e) × Sublist c e)

-- d is a rotation of a sublist of c
abbrev pub RotatedSublist : {A : Type 0} → List A → List A → Type 0
RotatedSublist {A} c d = (s : List A) × Sublist c s × Rotation s d

-- d is a rotation of a sublist of c, or of one reversed
abbrev pub SublistEitherWay : {A : Type 0} → List A → List A → Type 0
SublistEitherWay {A} c d = (s : List A) × Sublist c s × (Rotation s d ⊎ Rotation (reverse s) d)
