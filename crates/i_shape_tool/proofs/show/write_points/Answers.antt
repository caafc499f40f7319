use Rattle.std.proofs.Common.{◌++◌, drop, length, length-drop, sym, ap, ◌∙◌, subst, arith}
use Rattle.std.specs.Str.{IsAscii}
use Rattle.std.proofs.lemmas.Str.{IsAscii-append}
use Rattle.i_shape_tool.specs.Points.{contour_of, point_of}
use Rattle.i_shape_tool.specs.Text.{spaced, spaced_points}
use Rattle.i_shape_tool.proofs.Showing.Contours.{last_spaced}
use Rattle.i_shape_tool.proofs.show.write_points.Goals as goal

pub loop-last-preserved : goal.loop-last-preserved
loop-last-preserved c =
    let l = c.loop-last in
    let w = c.write_point-start in
    let last = c.in-Some.last.now in
    let others = c.in-Some.others.now in
    let split = c.in-Some.ensures.cases in
    let rest = drop l.start l.text in (
      omega (arith, l.invariant.0, split.1, w.ensures.room),
      omega (arith, length-drop w.result w.new.text, ap length w.ensures.written),
      subst IsAscii (sym w.ensures.written) (IsAscii-append (spaced (point_of last)) rest w.ensures.ascii l.invariant.2),
      ap (λ text. spaced_points (contour_of others) ++ text) w.ensures.written ∙ last_spaced l.left.now others last rest split.0 ∙ l.invariant.3,
    )
