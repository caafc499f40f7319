use Rattle.std.proofs.Common.{arith}
use Rattle.i_shape_core.specs.IntPoint.{contour_of}
use Rattle.i_shape_core.proofs.Plane.PointLists.{read-length}
use Rattle.i_shape_contacts.proofs.ContactTests.{none_more}
use Rattle.i_shape_contacts.proofs.blocks.first_by_blocks.Goals as goal

pub loop-first-init : goal.loop-first-init
loop-first-init g c = c.requires.none_before

pub loop-first-preserved : goal.loop-first-preserved
loop-first-preserved g c = none_more _ _ c.loop-first.invariant c.in_default.ensures

pub returns-in-Some : goal.returns-in-Some
returns-in-Some g c = record { first = c.in-Some.ensures; none_before = λ k l h w. c.loop-first.invariant k l h w }

pub returns : goal.returns
returns g c =
    let value = g.P.Coordinate.IntNumber.value in
    let list = contour_of value (g.P.ContourPoint.points c.args.points.now) in
    let count = read-length value g.P.ContourPoint.point g.P.ContourPoint.points g.P.ContourPoint.each c.args.points.now in
    record {
      none = λ i j w.
          let within = w.within in
          let order = w.order in
          let past = c.loop-first-test.false in
          c.loop-first.invariant i j (omega (arith, count)) w;
    }
