use Rattle.std.proofs.Common.{◌≡◌, ◌∙◌, ℕ, ℤ, List, length, map, take, drop, subst, subst₂, ap}
use Rattle.std.specs.List.{AllZip}
use Rattle.std.proofs.lemmas.List.{length-map}
use Rattle.i_shape_core.proofs.Common.{Point, point_of}
use Rattle.i_shape_c.specs.Locations.{AreTold}
use Rattle.i_shape_c.specs.Windings.{contours_winding}
use Rattle.i_shape_c.proofs.Told.{zip_mapped}
use Rattle.i_shape_c.proofs.location.tell_off_edges.Goals as goal

-- results for the winding numbers about points are results for the points
told_numbers : {P X : Type 0} (point : P → Point) (f : Point → ℤ) (Tells : ℤ → X → Type 0) (about : List P) (numbers : List ℤ) (old new : List X) → numbers ≡ map (λ q. f (point q)) about
    → AllZip Tells numbers (take (length numbers) new) → drop (length numbers) new ≡ drop (length numbers) old → AreTold (λ p. Tells (f p)) point about old new
told_numbers point f Tells about numbers old new is each rest =
    let many : length numbers ≡ length about = ap length is ∙ length-map about (λ q. f (point q)) in
    record {
      each = zip_mapped Tells (λ q. f (point q)) about (take (length about) new) (subst₂ (λ (ns : List ℤ) (n : ℕ). AllZip Tells ns (take n new)) is many each);
      rest = subst (λ n. drop n new ≡ drop n old) many rest;
    }

pub returns-in-Ok : goal.returns-in-Ok
returns-in-Ok g c =
    let at = λ (p : g.row.P.Denot). point_of g.P.Coordinate.IntNumber.value (g.P.ContourPoint.point p) in
    told_numbers at (contours_winding at c.args.points.now c.args.offsets.now) (g.T.Telling.tells c.args.rule) c.args.about.now c.deref.result.now c.args.out.now c.tell_by_numbers.new.out
    (c.deref.ensures.value ∙ c.in-Ok.ensures) c.tell_by_numbers.ensures.each c.tell_by_numbers.ensures.rest
