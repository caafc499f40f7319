-- What a cleaner writes into a caller's list.
use Rattle.std.specs.Prelude.{ℕ, ℤ, ◌<◌, ◌≤◌, ◌≡◌, List, [], ◌∷◌, length, take, drop, Option, Some, None, Result, Ok, IfSome, IfOk, OnOk, OnErr, IsOk, IsOkUnless}
use Rattle.std.specs.Global.{Vec}
use Rattle.std.specs.Int.{Width}
use Rattle.i_shape_core.specs.Point.{Point}
use Rattle.i_shape_core.specs.IntPoint.{IsSafeContour, contour_of, answered}
use Rattle.i_shape_core.specs.Contour.{Sublist}
use Rattle.i_shape_core.specs.Cleaning.{Cleaning}
use Rattle.i_shape_core.specs.declared.point.IntPoint.{IntPoint}
use Rattle.i_shape_core.specs.declared.error.ShapeError.{ShapeError}
use Rattle.i_shape_core.specs.declared.error.ShapeError.TheVariants.{OutOfMemory}

-- a list of points as an optional one: none if it is empty
abbrev pub slot : List Point → Option (List Point)
slot [] = None
slot (p ∷ ps) = Some (p ∷ ps)

-- r is a cleaner's result for the contour c
pub record IsCleaned (cleaning : Cleaning) (width : Width) (c : List Point) (r : Option (List Point)) : Type 0 where
  pub answer : cleaning.answers c r
  pub kept : cleaning.keeps c r
  pub safe : IfSome r (IsSafeContour width)

-- the same for a cleaner that keeps the order of the points
pub record IsCleanedInOrder (cleaning : Cleaning) (width : Width) (c : List Point) (r : Option (List Point)) : Type 0 where
  pub cleaned : IsCleaned cleaning width c r
  pub in_order : IfSome r (Sublist c)

-- the same for a result in points of the program; `value` gives the integer that a coordinate represents
abbrev pub CleansTo : {I : Type 0} → Cleaning → Width → (I → ℤ) → List Point → Option (Vec (IntPoint I)) → Type 0
CleansTo cleaning width value c r = IsCleaned cleaning width c (answered (contour_of value) r)

abbrev pub CleansInOrder : {I : Type 0} → Cleaning → Width → (I → ℤ) → List Point → Option (Vec (IntPoint I)) → Type 0
CleansInOrder cleaning width value c r = IsCleanedInOrder cleaning width c (answered (contour_of value) r)

-- the first n points of `new` are the cleaner's result for the given ones, if `read` gives the points that a list
-- represents; the rest is as in `old`
pub record IsWritten {P : Type 0} (cleaning : Cleaning) (width : Width) (read : List P → List Point) (given old new : List P) (n : ℕ) : Type 0 where
  pub fewer : n ≤ length given
  pub picked : cleaning.picks P given (take n new)
  pub cleaned : IsCleaned cleaning width (read given) (slot (read (take n new)))
  pub rest : drop n new ≡ drop n old

-- the result and effect of a call that writes a cleaned contour to the front of a caller's list
pub record CleansInto {P : Type 0} (cleaning : Cleaning) (width : Width) (read : List P → List Point) (given old new : List P) (result : Result ℕ ShapeError) : Type 0 where
  pub written : IfOk result (IsWritten cleaning width read given old new)
  pub len : length new ≡ length old
  -- after an error nothing is written
  pub err : OnErr result (new ≡ old)
  -- fewer than three points collapse
  pub short : length given < 3 → result ≡ Ok 0

-- a call makes room for a contour of that many points if it isn't clean: `had` and `has` hold of the numbers of points
-- for which there is room before and after
pub record TakesContourRoom {T : Type 0} (Clean : Type 0) (had has : ℕ → Type 0) (points : ℕ) (result : Result T ShapeError) : Type 0 where
  -- `OutOfMemory` is the only error, and can't occur if the contour is clean or there is room
  pub memory : IsOkUnless result OutOfMemory
  pub unclean : OnErr result (Clean → ⊥)
  pub reserved : had points → IsOk result
  -- no room is lost, and after a contour that isn't clean there is room for it
  pub keeps_room : (n : ℕ) → had n → has n
  pub takes_room : OnOk result ((Clean → ⊥) → has points)
