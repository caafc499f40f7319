use Rattle.std.proofs.Common.{◌∙◌, ◌++◌, ◌∷◌, [], ap, sym, get_or, arith, rules, take_all}
use Rattle.i_shape_core.proofs.Plane.Contours.{kept-more}
use Rattle.i_shape_core.proofs.Plane.PointLists.{points-length, points-read, points-push}
use Rattle.i_shape_core.proofs.clean.probe.Probe.keep.Goals as goal

bounds : goal.bounds-self-inside-index
bounds g c = rw (points-length g.P.ContourPoint.point g.P.ContourPoint.points g.P.ContourPoint.each c.self.inside.points.now) at (rw (← c.self.view_is) at (c.requires c.loop-index.index-index 0 c.loop-index-test.true))

pub offset_bounds-self-inside-index : goal.offset_bounds-self-inside-index
offset_bounds-self-inside-index g c = search (rules, bounds g c)

pub bounds-self-inside-index : goal.bounds-self-inside-index
bounds-self-inside-index = bounds

pub loop-index-preserved : goal.loop-index-preserved
loop-index-preserved g c =
    let before = c.loop-index.kept.ok.0 in
    let after = c.push_reserved.new.self.ok.0 in
    let point = g.P.ContourPoint.point in
    let points = g.P.ContourPoint.points in
    let each = g.P.ContourPoint.each in
    let place = get_or c.args.indices.now c.loop-index.index-index 0 in
    let read = c.index-self-index.result in
    let whole = c.self.inside.points.now in
    let within = rw (← c.self.view_is) at (c.requires c.loop-index.index-index 0 c.loop-index-test.true) in
    let inside = rw (points-length point points each whole) at within in
    record {
      points = kept-more (points whole) (points c.loop-index.kept.items) (points c.push_reserved.new.self.items) c.args.indices.now c.loop-index.index-index _
          c.loop-index.invariant.points c.loop-index-test.true within
          (points-push point points each c.loop-index.kept.items c.push_reserved.new.self.items (get_or whole place read) c.push_reserved.ensures.items
          ∙ ap (λ p. points c.loop-index.kept.items ++ p ∷ []) (sym (points-read point points each whole place read (point read) inside)));
      len = omega (arith, c.loop-index.invariant.len);
      room = omega (arith, c.loop-index.invariant.room, c.push_reserved.ensures.capacity);
    }

pub returns-clause-points : goal.returns-clause-points
returns-clause-points g c = rw (← c.self.view_is) (rw (take_all c.loop-index.index-index c.args.indices.now (omega arith)) at c.loop-index.invariant.points)
