-- What cleaning in place leaves.
use Rattle.std.proofs.Common.{◌≡◌, ◌≤◌, true, false, Ok, Option, Some, None, List, [], length, refl, arith}
use Rattle.i_shape.proofs.Common.{Point, IsFlat, KeptAnswer, ShapeClean, ListClean, EachContour, EachShape, CleansInPlace, CleansContour, CleansShape, CleansList}
use Rattle.i_shape_core.proofs.CleanerAnswers.Kept.{keeps_itself, nothing_keeps}
use Rattle.i_shape.proofs.Shapes.Kept.{same_kept, shape_stays, list_keeps}
use Rattle.i_shape.proofs.Lists.Surviving.{survivors_stay}

-- a value that passes and is its own result is cleaned in place without a change
stays_in_place : {X : Type 0} (Passes : X → Type 0) (Cleans : X → X → Type 0) (x : X) → Passes x → Cleans x x → CleansInPlace Passes Cleans x x (Ok false)
stays_in_place Passes Cleans x pass keeps_itself = record { passes = λ t. (refl, refl); clean = λ e. pass; left = keeps_itself; refused = λ k e. absurd cc }

module _ (Passes : List Point → Type 0) (Answer : List Point → Option (List Point) → Type 0) where
  -- a contour that passes is unchanged
  pub contour_stays : (c : List Point) → Passes c → Answer c (Some c) → 3 ≤ length c → CleansContour Passes Answer c c (Ok false)
  contour_stays c pass answer enough = record {
    cleans = stays_in_place Passes _ c pass (Some c, answer, refl);
    kept = keeps_itself c;
    short = λ few. absurd (omega arith);
  }

  -- a contour that fails the test, collapses and becomes empty is cleaned in place
  pub contour_collapses : (c new : List Point) → (Passes c → ⊥) → Answer c None → IsFlat c → new ≡ [] → CleansContour Passes Answer c new (Ok true)
  contour_collapses c new fails answer flat none = rw none (record {
    cleans = record { passes = λ t. absurd (fails t); clean = λ f. absurd cc; left = (None, answer, refl); refused = λ k f. absurd cc };
    kept = nothing_keeps c flat;
    short = λ few. (refl, refl);
  })

module _ (Passes : List Point → Type 0) (Answer : List Point → Option (List Point) → Type 0) (stays : (c : List Point) → Passes c → Answer c (Some c)) where
  -- a shape whose contours pass is unchanged
  pub shape_stays_in_place : (shape : List (List Point)) → EachContour Passes shape → CleansShape Passes Answer shape shape (Ok false)
  shape_stays_in_place shape pass = record {
    cleans = stays_in_place (EachContour Passes) _ shape pass (Some shape, shape_stays Passes Answer stays shape pass, refl);
    kept = λ some. same_kept shape;
    unclean = tt;
  }

  -- a list whose contours pass, left as it is, is cleaned in place
  pub list_stays_in_place : ((c : List Point) (r : Option (List Point)) → Answer c r → KeptAnswer c r) → (shapes : List (List (List Point))) → EachShape Passes shapes → CleansList Passes Answer shapes shapes (Ok false)
  list_stays_in_place keeps shapes pass =
      let clean = survivors_stay (EachContour Passes) (ShapeClean Answer) (shape_stays Passes Answer stays) shapes pass in
      record {
        cleans = stays_in_place (EachShape Passes) (ListClean Answer) shapes pass clean;
        kept = list_keeps Answer keeps shapes shapes clean;
        unclean = tt;
      }
