-- Which points fill rules fill once contours are cleaned.
use Rattle.std.proofs.Common.{◌≡◌, List, [], ◌∷◌, Option, Some, None, refl, sym, ap, ◌∙◌, subst, arith}
use Rattle.std.specs.List.{AllZip, filter_map}
use Rattle.std.proofs.lemmas.Int.{ints}
use Rattle.i_shape_core.specs.Point.{Point}
use Rattle.i_shape_core.specs.Cleaners.{KeptAnswer}
use Rattle.i_shape_core.specs.Survivors.{Survivors}
use Rattle.i_shape_core.specs.Filling.{IsFilled}
use Rattle.i_shape_core.specs.Winding.{shape_winding}
use Rattle.i_shape_laws.specs.Windings.{FillingKept}

answers_wind : (p : Point) (cs : List (List Point)) (answers : List (Option (List Point))) → AllZip KeptAnswer cs answers → shape_winding cs p ≡ shape_winding (filter_map (λ answer. answer) answers) p
answers_wind p [] [] h = refl
answers_wind p [] (a ∷ answers) h = absurd h
answers_wind p (c ∷ cs) [] h = absurd h
answers_wind p (c ∷ cs) (None ∷ answers) h = let here = h.0.winding p in let rest = answers_wind p cs answers h.1 in omega (arith, ints)
answers_wind p (c ∷ cs) (Some e ∷ answers) h = let here = h.0.winding p in let rest = answers_wind p cs answers h.1 in omega (arith, ints)

-- the contours left have the same total winding number about each point
pub survivors_wind : (p : Point) (cs left : List (List Point)) → Survivors KeptAnswer cs left → shape_winding cs p ≡ shape_winding left p
survivors_wind p cs left (answers, zipped, are) = answers_wind p cs answers zipped ∙ ap (λ (l : List (List Point)). shape_winding l p) (sym are)

-- the contours left fill the same points by each fill rule
pub filling_kept : (cs left : List (List Point)) → FillingKept cs left
filling_kept cs left s rule p = let e = survivors_wind p cs left s in (λ h. subst (IsFilled rule) e h, λ h. subst (IsFilled rule) (sym e) h)
