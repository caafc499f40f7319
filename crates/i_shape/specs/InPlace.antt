-- What a call that cleans in place leaves.
use Rattle.std.specs.Prelude.{◌≡◌, ◌↔◌, ◌<◌, Bool, true, false, Option, Result, Ok, Err, List, [], length, unwrap_or, OnOk, OnErr, IsOk}
use Rattle.i_shape_core.specs.Point.{Point}
use Rattle.i_shape_core.specs.Convex.{NoSpikes}
use Rattle.i_shape_core.specs.Cleaners.{DespikeAnswer, IsKept}
use Rattle.i_shape_core.specs.Unclean.{IsShortOrClean}
use Rattle.i_shape_core.specs.declared.error.ShapeError.{ShapeError}
use Rattle.i_shape_core.specs.declared.error.ShapeError.TheVariants.{OutOfMemory}
use Rattle.i_shape.specs.ShapeAnswers.{ShapeClean, ListClean, EachContour, EachShape, AreKept, ListKept}

-- new is the result for old, or empty if there is none
abbrev pub Leaves : {Y : Type 0} → (List Y → Option (List Y) → Type 0) → List Y → List Y → Type 0
Leaves {Y} Answer old new = (answer : Option (List Y)) × Answer old answer × (new ≡ unwrap_or answer [])

-- `old` and `new` are a value before and after a call that returned r. `Passes` is the test of a value, and `Cleans`
-- relates a value to what is left of it
pub record CleansInPlace {X : Type 0} (Passes : X → Type 0) (Cleans : X → X → Type 0) (old new : X) (r : Result Bool ShapeError) : Type 0 where
  -- if the value passes, the call returns false, without an error, and changes nothing
  pub passes : Passes old → (r ≡ Ok false) × (new ≡ old)
  -- it returns false only if the value passes
  pub clean : r ≡ Ok false → Passes old
  -- without an error, the cleaned value is left
  pub left : OnOk r (Cleans old new)
  -- after an error the value is unchanged, and the only error is OutOfMemory
  pub refused : (e : ShapeError) → r ≡ Err e → (e ≡ OutOfMemory) × (new ≡ old)

-- a contour is cleaned in place; it keeps its measures whatever the call returns
pub record CleansContour (Passes : List Point → Type 0) (Answer : List Point → Option (List Point) → Type 0) (old new : List Point) (r : Result Bool ShapeError) : Type 0 where
  pub cleans : CleansInPlace Passes (Leaves Answer) old new r
  pub kept : IsKept old new
  -- a contour of fewer than three points becomes empty, without an error
  pub short : length old < 3 → (r ≡ Ok true) × (new ≡ [])

-- spikes of a contour are removed in place
pub record DespikesContour (old new : List Point) (r : Result Bool ShapeError) : Type 0 where
  pub contour : CleansContour NoSpikes DespikeAnswer old new r
  -- a second call returns that the contour is clean exactly if it isn't empty
  pub again : (b : Bool) → r ≡ Ok b → NoSpikes new ↔ (0 < length new)
  -- a contour of fewer than four points needs no memory
  pub spared : length old < 4 → IsOk r

-- a shape is cleaned in place; if a contour is left, the contours together keep their measures
pub record CleansShape (Passes : List Point → Type 0) (Answer : List Point → Option (List Point) → Type 0) (old new : List (List Point)) (r : Result Bool ShapeError) : Type 0 where
  pub cleans : CleansInPlace (EachContour Passes) (Leaves (ShapeClean Answer)) old new r
  pub kept : 0 < length new → AreKept old new
  -- an error comes only if a contour of at least three points doesn't pass
  pub unclean : OnErr r (EachContour (IsShortOrClean Passes length) old → ⊥)

-- a list is cleaned in place, shape by shape
pub record CleansList (Passes : List Point → Type 0) (Answer : List Point → Option (List Point) → Type 0) (old new : List (List (List Point))) (r : Result Bool ShapeError) : Type 0 where
  pub cleans : CleansInPlace (EachShape Passes) (ListClean Answer) old new r
  pub kept : OnOk r (ListKept Answer old new)
  pub unclean : OnErr r (EachShape (IsShortOrClean Passes length) old → ⊥)
