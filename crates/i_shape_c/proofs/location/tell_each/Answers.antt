use Rattle.std.proofs.Common.{subst}
use Rattle.i_shape.specs.IntPoint.{point_of}
use Rattle.i_shape_c.specs.Locations.{IsOnContours, Settles}
use Rattle.i_shape_c.specs.Windings.{contours_winding}
use Rattle.i_shape_c.proofs.Marked.{told_marked}
use Rattle.i_shape_c.proofs.Told.{zip_weaker}
use Rattle.i_shape_c.proofs.location.tell_each.Goals as goal

pub returns-in-Some : goal.returns-in-Some
returns-in-Some g c =
    let at = λ (p : g.row.P.Denot). point_of g.P.Coordinate.IntNumber.value (g.P.ContourPoint.point p) in
    let points = c.args.points.now in
    let offsets = c.args.offsets.now in
    let rule = c.args.rule in
    let is = subst (Settles at g.T.Telling.tells g.T.Telling.gives) c.in-Some.is c.on_edge.ensures in
    told_marked at (IsOnContours at points offsets) (λ p. g.T.Telling.tells rule (contours_winding at points offsets p)) (g.T.Telling.gives rule points offsets) c.in-Some.mark c.args.about.now c.args.out.now c.tell_off_edges.new.out c.mark_edges.new.out
    (is.on rule points offsets) (is.off rule points offsets) (λ p. is.apart rule (contours_winding at points offsets p)) c.tell_off_edges.ensures c.mark_edges.ensures

pub returns-in_default : goal.returns-in_default
returns-in_default g c =
    let at = λ (p : g.row.P.Denot). point_of g.P.Coordinate.IntNumber.value (g.P.ContourPoint.point p) in
    let points = c.args.points.now in
    let offsets = c.args.offsets.now in
    let rule = c.args.rule in
    let is = subst (Settles at g.T.Telling.tells g.T.Telling.gives) c.in_default.is c.on_edge.ensures in
    let told = c.tell_off_edges.ensures in
    record {
      each = zip_weaker (λ q. g.T.Telling.tells rule (contours_winding at points offsets (at q))) (λ q. g.T.Telling.gives rule points offsets (at q)) c.args.about.now _ (λ q x h. is rule points offsets (at q) x h) told.each;
      rest = told.rest;
    }
