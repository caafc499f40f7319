-- The paths of nested lists, in storage order, and what an iterator over borrowed paths lends.
use Rattle.std.specs.Prelude.{List, [], ◌∷◌, ◌++◌, map, Option, Some, None}
use Rattle.std.specs.Borrow.{Bor}
use Rattle.std.specs.Global.{Vec}
use Rattle.std.specs.Iterator.{AlwaysYields}
use Rattle.std.specs.Iterator.Runs.{EachRunFrom, ItemsMapTo}

-- the paths of a shape
abbrev pub paths_of_shape : {P : Type 0} → List (Vec P) → List (List P)
paths_of_shape shape = map (λ path. path.items) shape

-- the paths of each shape, as lists
abbrev pub shape_lists : {P : Type 0} → List (Vec (Vec P)) → List (List (List P))
shape_lists shapes = map (λ shape. paths_of_shape shape.items) shapes

-- the lists concatenated
abbrev pub concatenated : {P : Type 0} → List (List P) → List P
concatenated [] = []
concatenated (part ∷ parts) = part ++ concatenated parts

-- the paths of a list of shapes, shape by shape
abbrev pub paths_of_shapes : {P : Type 0} → List (Vec (Vec P)) → List (List P)
paths_of_shapes shapes = concatenated (shape_lists shapes)

-- the paths that a list of borrowed paths points to
abbrev pub paths_of_slices : {P : Type 0} → List (Bor (List P)) → List (List P)
paths_of_slices slices = map (λ path. path.now) slices

-- the path that is left, if there is one
abbrev pub path_left : {P : Type 0} → Option (Bor (List P)) → List (List P)
path_left None = []
path_left (Some path) = path.now ∷ []

-- what a borrowed path points to
abbrev pub path_of : {P : Type 0} → Bor (List P) → List P
path_of path = path.now

module _ {S P : Type 0} (steps : S → Option (Bor (List P)) → S → Type 0) (s : S) (paths : List (List P)) where
  -- every run of calls from s lends the paths one by one, in order, and then ends
  pub record LendsExactly : Type 0 where
    pub lends : AlwaysYields steps path_of s paths

  -- every run of calls from s lends the paths one by one, in the form that a chain of iterators reads
  abbrev pub RunsThrough : Type 0
  RunsThrough = EachRunFrom steps s (λ run. ItemsMapTo run path_of paths)
