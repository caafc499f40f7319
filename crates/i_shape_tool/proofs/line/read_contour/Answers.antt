use Rattle.std.proofs.Common.{◌<◌, ◌∷◌, [], length, sym, ap, ◌∙◌, subst, arith, is_ok, false-eqb}
use Rattle.std.specs.Option.{option_copied}
use Rattle.std.proofs.lemmas.List.{map-append}
use Rattle.std.proofs.ResultArms.{chosen}
use Rattle.i_shape_tool.specs.Points.{point_of, contour_of}
use Rattle.i_shape_tool.specs.Text.{words_left, words_of}
use Rattle.i_shape_tool.proofs.Reading.Lines.{HasRead, read_point, read_none}
use Rattle.i_shape_tool.proofs.line.read_contour.Goals as goal

pub returns-in_default-first_point : goal.returns-in_default-first_point
returns-in_default-first_point c =
    let nonempty : 0 < length c.args.line.now = omega (arith, false-eqb _ 0 c.if-is_empty.ensures) in
    let left = rw c.in-Some.is at c.loop-rest.invariant in
    read_none c.args.line.now (words_of c.in-Some.text.now) (contour_of c.loop-rest.contour.items) nonempty left c.in_default-first_point.ensures.no_point

pub loop-rest-preserved : goal.loop-rest-preserved
loop-rest-preserved c =
    let pushed = chosen _ _ _ _ c.push.ensures.items (ap is_ok c.in_ok-push.was) in
    let left = rw c.in-Some.is at c.loop-rest.invariant in
    let grown = ap contour_of pushed ∙ map-append point_of c.loop-rest.contour.items (c.in-Some-first_point.point ∷ []) in
    subst (HasRead (words_of c.args.line.now) (words_left (option_copied c.in-Some-first_point.left))) (sym grown)
    (read_point (words_of c.args.line.now) (words_of c.in-Some.text.now) (words_left (option_copied c.in-Some-first_point.left)) (contour_of c.loop-rest.contour.items) (point_of c.in-Some-first_point.point) left c.in-Some-first_point.ensures.says)
