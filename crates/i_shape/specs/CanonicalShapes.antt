-- One form for all polygons whose contours are joined, and for all lists of such polygons. `Form` relates a contour to
-- its form, or to none if it collapses.
use Rattle.std.specs.Prelude.{◌≡◌, ℤ, List, Option, Some, None, IsPermutation, ◌⊎◌, ◌↔◌, nat_abs, [], ◌∷◌, IfSome}
use Rattle.std.specs.Global.{Vec}
use Rattle.std.specs.Int.{Width}
use Rattle.std.specs.List.{AllZip, AllPairs, sum_by}
use Rattle.i_shape_core.specs.IntPoint.{answered}
use Rattle.i_shape_core.specs.declared.point.IntPoint.{IntPoint}
use Rattle.i_shape_source.specs.ShapeLists.{shape_of, shapes_of, IsSafeShape, IsSafeList}
use Rattle.i_shape.specs.ShapeAnswers.{Survivors, inside_count}
use Rattle.i_shape_core.specs.Point.{Point}
use Rattle.i_shape_core.specs.Edges.{shoelace}
use Rattle.i_shape_core.specs.Winding.{winding}
use Rattle.i_shape_core.specs.Moves.{moved, scaling}
use Rattle.i_shape_core.specs.Cleaners.{EachEndCollapses}
use Rattle.i_shape_core.specs.Canonical.{IsAtMost}

-- the members of xs, in some order, are related pairwise to those of ys
pub record Matched {X : Type 0} (R : X → X → Type 0) (xs ys : List X) : Type 0 where
  pub order : List X
  pub same : IsPermutation xs order
  pub pairs : AllZip R order ys

-- a member that collapses is left out; any other stays unchanged
abbrev pub Stays : {X : Type 0} → (X → Type 0) → X → Option X → Type 0
Stays Collapses x None = Collapses x
Stays Collapses x (Some y) = (Collapses x → ⊥) × (y ≡ x)

-- the members of xs that don't collapse are matched one to one with those of ys that don't
pub record MatchedUncollapsed {X : Type 0} (Collapses : X → Type 0) (R : X → X → Type 0) (xs ys : List X) : Type 0 where
  pub left : List X
  pub right : List X
  pub uncollapsed_left : Survivors (Stays Collapses) xs left
  pub uncollapsed_right : Survivors (Stays Collapses) ys right
  pub matched : Matched R left right

-- the results for the members that have one, sorted by AtMost
abbrev pub SortedForms : {X Y : Type 0} → (X → Option Y → Type 0) → (Y → Y → Type 0) → List X → List Y → Type 0
SortedForms {X} {Y} Answer AtMost xs sorted = (forms : List Y) × Survivors Answer xs forms × IsPermutation forms sorted × AllPairs AtMost sorted

-- the form of a shape: the form of its outer contour, and then the sorted forms of the holes that don't collapse; none
-- if the outer contour collapses; an empty shape stays empty
abbrev pub ShapeForm : (List Point → Option (List Point) → Type 0) → List (List Point) → Option (List (List Point)) → Type 0
ShapeForm Form [] r = r ≡ Some []
ShapeForm Form (outer ∷ holes) None = Form outer None
ShapeForm Form (outer ∷ holes) (Some []) = ⊥
ShapeForm Form (outer ∷ holes) (Some (contour ∷ sorted)) = Form outer (Some contour) × SortedForms Form IsAtMost holes sorted

-- s is t or comes before it, contour by contour
abbrev pub IsShapeAtMost : List (List Point) → List (List Point) → Type 0
IsShapeAtMost [] t = Unit {0}
IsShapeAtMost (c ∷ s) [] = ⊥
IsShapeAtMost (c ∷ s) (d ∷ t) = (IsAtMost c d × (c ≡ d → ⊥)) ⊎ ((c ≡ d) × IsShapeAtMost s t)

-- the form of a list: the forms of the shapes that have one, sorted
abbrev pub ListForm : (List Point → Option (List Point) → Type 0) → List (List (List Point)) → List (List (List Point)) → Type 0
ListForm Form shapes sorted = SortedForms (ShapeForm Form) IsShapeAtMost shapes sorted

-- the outer contour collapses
abbrev pub OuterCollapses : List (List Point) → Type 0
OuterCollapses [] = ⊥
OuterCollapses (outer ∷ holes) = EachEndCollapses outer

-- both are empty, or the outer contours are related, and the holes that don't collapse are, one to one
abbrev pub SameShape : (List Point → List Point → Type 0) → List (List Point) → List (List Point) → Type 0
SameShape Same [] [] = Unit {0}
SameShape Same [] (d ∷ t) = ⊥
SameShape Same (c ∷ s) [] = ⊥
SameShape Same (c ∷ s) (d ∷ t) = Same c d × MatchedUncollapsed EachEndCollapses Same s t

-- the shapes of two lists whose outer contours don't collapse are the same, one to one
abbrev pub SameList : (List Point → List Point → Type 0) → List (List (List Point)) → List (List (List Point)) → Type 0
SameList Same s t = MatchedUncollapsed OuterCollapses (SameShape Same) s t

-- the contours left have the same sum of absolute double areas; each point is inside as many of them and has the same
-- sum of absolute winding numbers, also if all contours are scaled by any n
pub record AreKeptEitherWay (contours left : List (List Point)) : Type 0 where
  pub area : sum_by (λ c. nat_abs (shoelace c)) left ≡ sum_by (λ c. nat_abs (shoelace c)) contours
  pub inside : (p : Point) → inside_count left p ≡ inside_count contours p
  pub between : (n : ℤ) (p : Point) → sum_by (λ c. nat_abs (winding (moved (scaling n) c) p)) left ≡ sum_by (λ c. nat_abs (winding (moved (scaling n) c) p)) contours
  pub winding : (p : Point) → sum_by (λ c. nat_abs (winding c p)) left ≡ sum_by (λ c. nat_abs (winding c p)) contours

-- `sorted` are the forms of the shapes in some order, each of which keeps `Kept` of its shape
pub record FormsKept (Form : List Point → Option (List Point) → Type 0) (Kept : List (List Point) → List (List Point) → Type 0) (shapes sorted : List (List (List Point))) : Type 0 where
  pub forms : List (List (List Point))
  pub each : Survivors (λ shape r. ShapeForm Form shape r × IfSome r (Kept shape)) shapes forms
  pub same : IsPermutation forms sorted

-- r is the form of a shape, keeps `Kept` of it, and is safe
pub record IsFormOfShape (Form : List Point → Option (List Point) → Type 0) (Kept : List (List Point) → List (List Point) → Type 0) (width : Width) (shape : List (List Point)) (r : Option (List (List Point))) : Type 0 where
  pub answer : ShapeForm Form shape r
  pub kept : IfSome r (Kept shape)
  pub safe : IfSome r (IsSafeShape width)

-- `sorted` is the form of a list, keeps `Kept` of each shape, and is safe
pub record IsFormOfList (Form : List Point → Option (List Point) → Type 0) (Kept : List (List Point) → List (List Point) → Type 0) (width : Width) (shapes sorted : List (List (List Point))) : Type 0 where
  pub answer : ListForm Form shapes sorted
  pub kept : FormsKept Form Kept shapes sorted
  pub safe : IsSafeList width sorted

-- r is the form of a shape in points of the program; `value` returns the number that a coordinate represents
abbrev pub FormsShapeTo : {I : Type 0} → (List Point → Option (List Point) → Type 0) → (List (List Point) → List (List Point) → Type 0) → Width → (I → ℤ) → List (List Point) → Option (Vec (Vec (IntPoint I))) → Type 0
FormsShapeTo Form Kept width value shape r = IsFormOfShape Form Kept width shape (answered (shape_of value) r)

abbrev pub FormsListTo : {I : Type 0} → (List Point → Option (List Point) → Type 0) → (List (List Point) → List (List Point) → Type 0) → Width → (I → ℤ) → List (List (List Point)) → Vec (Vec (Vec (IntPoint I))) → Type 0
FormsListTo Form Kept width value shapes r = IsFormOfList Form Kept width shapes (shapes_of value r.items)

-- the forms of two shapes, if both have one, are equal exactly if the shapes are the same
abbrev pub OneShapeForm : (List Point → Option (List Point) → Type 0) → (List Point → List Point → Type 0) → List (List Point) → List (List Point) → Type 0
OneShapeForm Form Same s t = (l m : List (List Point)) → ShapeForm Form s (Some l) → ShapeForm Form t (Some m) → (l ≡ m) ↔ SameShape Same s t

-- the forms of two lists are equal exactly if the lists are the same
abbrev pub OneListForm : (List Point → Option (List Point) → Type 0) → (List Point → List Point → Type 0) → List (List (List Point)) → List (List (List Point)) → Type 0
OneListForm Form Same s t = (l m : List (List (List Point))) → ListForm Form s l → ListForm Form t m → (l ≡ m) ↔ SameList Same s t

-- a shape has a form exactly if its outer contour doesn't collapse, and each form is its own form
pub record HasShapeForm (Form : List Point → Option (List Point) → Type 0) (s : List (List Point)) : Type 0 where
  pub none : ShapeForm Form s None ↔ OuterCollapses s
  pub some : ((l : List (List Point)) × ShapeForm Form s (Some l)) ↔ (OuterCollapses s → ⊥)
  pub again : (l : List (List Point)) → ShapeForm Form s (Some l) → ShapeForm Form l (Some l)

-- a list has a form, and each form is its own form
pub record HasListForm (Form : List Point → Option (List Point) → Type 0) (s : List (List (List Point))) : Type 0 where
  pub some : (l : List (List (List Point))) × ListForm Form s l
  pub again : (l : List (List (List Point))) → ListForm Form s l → ListForm Form l l
