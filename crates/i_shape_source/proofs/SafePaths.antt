-- The safe paths of a contour, a shape and a list of shapes.
use Rattle.std.proofs.Common.{◌↔◌, ℤ, List, [], ◌∷◌, ◌++◌, map}
use Rattle.std.specs.Global.{Vec}
use Rattle.std.specs.Int.{Width}
use Rattle.std.specs.List.{All}
use Rattle.std.proofs.lemmas.List.{map-append}
use Rattle.std.proofs.lemmas.List.Elements.{All-nil, All-cons, All-head, All-tail, All-append, All-weaker}
use Rattle.std.proofs.lemmas.Simd.{map-map}
use Rattle.i_shape_core.specs.declared.point.IntPoint.{IntPoint}
use Rattle.i_shape_core.specs.IntPoint.{contour_of, IsSafe}
use Rattle.i_shape_core.proofs.Lists.Mapped.{all_mapped}
use Rattle.i_shape_source.specs.Paths.{paths_of_shape, paths_of_shapes}
use Rattle.i_shape_source.specs.ShapeLists.{shape_of, shapes_of, IsSafeShape, IsSafeList, AreSafePaths}

module _ {X : Type 0} (P : X → Type 0) where
  -- if P holds of each member of a concatenation, it holds of those of both lists
  pub all_parts : (xs ys : List X) → All P (xs ++ ys) → All P xs × All P ys
  all_parts [] ys h = (All-nil P, h)
  all_parts (x ∷ xs) ys h =
      let rest = all_parts xs ys (All-tail P x (xs ++ ys) h) in
      (All-cons P x xs (All-head P x (xs ++ ys) h) rest.0, rest.1)

  -- P holds of a list of one member exactly if it holds of the member
  all_of_one : (x : X) → All P (x ∷ []) ↔ P x
  all_of_one x = (λ h. All-head P x [] h, λ h. All-cons P x [] h (All-nil P))

module _ {I : Type 0} (width : Width) (value : I → ℤ) where
  -- one path is safe exactly if its points are
  pub safe_path : (path : List (IntPoint I)) → AreSafePaths width value (path ∷ []) ↔ All (IsSafe width) (contour_of value path)
  unfolding AreSafePaths
  safe_path path = all_of_one (All (IsSafe width)) (contour_of value path)

  -- paths are safe exactly if each alone is
  pub safe_paths : (paths : List (List (IntPoint I))) → All (λ path. AreSafePaths width value (path ∷ [])) paths ↔ AreSafePaths width value paths
  unfolding AreSafePaths
  safe_paths paths =
      let same = all_mapped (All (IsSafe width)) (contour_of value) paths in (
        λ h. same.0 (All-weaker _ _ (λ path. (all_of_one (All (IsSafe width)) (contour_of value path)).0) paths h),
        λ h. All-weaker _ _ (λ path. (all_of_one (All (IsSafe width)) (contour_of value path)).1) paths (same.1 h),
      )

  -- the paths of a shape are safe exactly if the shape is
  pub safe_shape : (shape : List (Vec (IntPoint I))) → AreSafePaths width value (paths_of_shape shape) ↔ IsSafeShape width (shape_of value shape)
  unfolding AreSafePaths
  safe_shape shape =
      let same = map-map (contour_of value) (λ (path : Vec (IntPoint I)). path.items) shape in
      (λ h. rw same at h, λ h. rw same h)

  to_list : (shapes : List (Vec (Vec (IntPoint I)))) → AreSafePaths width value (paths_of_shapes shapes) → IsSafeList width (shapes_of value shapes)
  unfolding AreSafePaths
  to_list [] h = All-nil (IsSafeShape width)
  to_list (shape ∷ shapes) h =
      let more = map-append (contour_of value) (paths_of_shape shape.items) (paths_of_shapes shapes) in
      let both = all_parts (All (IsSafe width)) (map (contour_of value) (paths_of_shape shape.items)) (map (contour_of value) (paths_of_shapes shapes)) (rw more at h) in
      All-cons (IsSafeShape width) (shape_of value shape.items) (shapes_of value shapes) ((safe_shape shape.items).0 both.0) (to_list shapes both.1)

  from_list : (shapes : List (Vec (Vec (IntPoint I)))) → IsSafeList width (shapes_of value shapes) → AreSafePaths width value (paths_of_shapes shapes)
  unfolding AreSafePaths
  from_list [] h = All-nil (All (IsSafe width))
  from_list (shape ∷ shapes) h =
      let first = (safe_shape shape.items).1 (All-head (IsSafeShape width) (shape_of value shape.items) (shapes_of value shapes) h) in
      let rest = from_list shapes (All-tail (IsSafeShape width) (shape_of value shape.items) (shapes_of value shapes) h) in
      let more = map-append (contour_of value) (paths_of_shape shape.items) (paths_of_shapes shapes) in
      rw more (All-append (All (IsSafe width)) (map (contour_of value) (paths_of_shape shape.items)) (map (contour_of value) (paths_of_shapes shapes)) first rest)

  -- the paths of a list of shapes are safe exactly if the list is
  pub safe_list : (shapes : List (Vec (Vec (IntPoint I)))) → AreSafePaths width value (paths_of_shapes shapes) ↔ IsSafeList width (shapes_of value shapes)
  safe_list shapes = (to_list shapes, from_list shapes)
