use Rattle.std.proofs.Common.{◌-◌, ◌<◌, List, length, map, sym, ap, subst, subst₂, ◌∙◌, arith}
use Rattle.std.proofs.lemmas.List.{length-map}
use Rattle.i_shape_core.specs.Point.{origin}
use Rattle.i_shape_core.specs.IntPoint.{contour_of}
use Rattle.i_shape_core.proofs.Plane.PointLists.{read-length}
use Rattle.i_shape_contacts.proofs.Faults.{divides_read}
use Rattle.i_shape_touching.specs.Touching.{IsEdgeOf}
use Rattle.i_shape_touching.specs.Steps.Pieces.{MarkOf, mark_of, IsMark, piece_of}
use Rattle.i_shape_touching.specs.declared.nesting.Piece.{Piece}
use Rattle.i_shape_touching.proofs.NestPieces.{PiecesUpTo, AreParted, mark_at, made, mark_read, mark_within, none_yet, no_piece, one_piece, all_pieces, item_pushed, differ_told, same_told}
use Rattle.i_shape_touching.proofs.nesting.pieces_of.Goals as goal
use Rattle.i_shape_touching.proofs.nesting.pieces_of.Goals.{then-mark-next+then-ne+in_ok-push, else-mark-next, else-mark-next-via-then-mark-next+else-ne, else-mark-next-via-else-mark-next}

pub loop-at-init : goal.loop-at-init
loop-at-init g c =
    let value = g.P.Coordinate.IntNumber.value in
    let points = g.P.ContourPoint.points in
    let list = contour_of value (points c.args.points.now) in
    let offsets = c.args.offsets.now in
    let divides = divides_read value g.P.ContourPoint.point points g.P.ContourPoint.each c.args.points.now offsets c.requires.divides in
    let ms = map (mark_of value) c.in_ok-marks.marks.items in
    record {
      past = omega arith;
      pieces = subst (λ (items : List (Piece _)). PiecesUpTo offsets list ms 1 (map (piece_of value) items)) (sym c.new-pieces.ensures.items) (none_yet offsets list divides ms c.in_ok-marks.ensures);
    }

pub ring_of_edge-requires-clause-within : goal.ring_of_edge-requires-clause-within
ring_of_edge-requires-clause-within g c =
    let value = g.P.Coordinate.IntNumber.value in
    let points = g.P.ContourPoint.points in
    let list = contour_of value (points c.args.points.now) in
    let offsets = c.args.offsets.now in
    let divides = divides_read value g.P.ContourPoint.point points g.P.ContourPoint.each c.args.points.now offsets c.requires.divides in
    let items = c.in_ok-marks.marks.items in
    let ms = map (mark_of value) items in
    let at = c.loop-at.at in
    let open_ = c.loop-at-test.true in
    let count = c.len-at-end.ensures in
    let within : at - 1 < length items = omega (arith, open_, count) in
    let first = mark_read (mark_of value) items (at - 1) c.index.result.now within c.index.ensures in
    let is = c.in_ok-marks.ensures.each (at - 1) (record { edge = 0; point = origin }) (omega (arith, within, length-map items (mark_of value))) in
    let inside = mark_within offsets list divides c.index.result.now.edge _ (subst (λ (m : MarkOf). IsMark offsets list m.edge m.point) first is) in
    let total = read-length value g.P.ContourPoint.point points g.P.ContourPoint.each c.args.points.now in
    let all = c.requires.divides.all in
    omega (arith, inside, total, all)

pub loop-at-preserved : goal.loop-at-preserved
loop-at-preserved g c =
    let value = g.P.Coordinate.IntNumber.value in
    let points = g.P.ContourPoint.points in
    let list = contour_of value (points c.args.points.now) in
    let offsets = c.args.offsets.now in
    let divides = divides_read value g.P.ContourPoint.point points g.P.ContourPoint.each c.args.points.now offsets c.requires.divides in
    let items = c.in_ok-marks.marks.items in
    let ms = map (mark_of value) items in
    let at = c.loop-at.at in
    let open_ = c.loop-at-test.true in
    let count = c.len-at-end.ensures in
    let past = c.loop-at.invariant.past in
    let within : at < length items = omega (arith, open_, count) in
    let inside : at < length ms = omega (arith, within, length-map items (mark_of value)) in
    let a = c.index.result.now in
    let b = c.index-in-loop-at.result.now in
    let first = mark_read (mark_of value) items (at - 1) a (omega (arith, within)) c.index.ensures in
    let second = mark_read (mark_of value) items at b within c.index-in-loop-at.ensures in
    let old = map (piece_of value) c.loop-at.pieces.items in
    let tells = g.met.P.Coordinate.IntNumber.equality in
    record {
      past = omega arith;
      pieces = elim c.if-mark-next.branch [
        | then-mark-next+then-ne+in_ok-push w ↦ (
            let parted : AreParted (mark_at ms (at - 1)) (mark_at ms at) = subst₂ AreParted (sym first) (sym second) (w.if-mark-next.true, differ_told value g.P.Coordinate.PartialEq.eq tells a.point b.point w.ne.result w.ne.ensures w.if-ne.true) in
            let edge = subst (λ (m : MarkOf). IsEdgeOf offsets w.ring_of_edge.result m.edge) (sym first) w.ring_of_edge.ensures in
            let added = item_pushed (piece_of value) c.loop-at.pieces.items w.push.new.self.items _ (made w.ring_of_edge.result (mark_at ms (at - 1)) (mark_at ms at)) w.in_ok-push.ensures.items
            (ap (λ (m : MarkOf). made w.ring_of_edge.result m (mark_of value b)) (sym first) ∙ ap (λ (m : MarkOf). made w.ring_of_edge.result (mark_at ms (at - 1)) m) (sym second)) in
            rw w.pieces-is (one_piece offsets list divides ms c.in_ok-marks.ensures at w.ring_of_edge.result old (map (piece_of value) w.push.new.self.items) past inside parted edge added c.loop-at.invariant.pieces))
        | else-mark-next w ↦ rw w.pieces-is (no_piece offsets list divides ms c.in_ok-marks.ensures at old past inside (λ parts. (
            let parted = subst₂ AreParted first second parts in
            elim w.else-mark-next.branch [
              | else-mark-next-via-then-mark-next+else-ne v ↦ parted.1 (same_told value g.P.Coordinate.PartialEq.eq tells a.point b.point v.ne.result v.ne.ensures v.if-ne.false)
              | else-mark-next-via-else-mark-next v ↦ absurd (v.if-mark-next.false parted.0)
            ])) c.loop-at.invariant.pieces)
      ];
    }

pub returns : goal.returns
returns g c =
    let value = g.P.Coordinate.IntNumber.value in
    let points = g.P.ContourPoint.points in
    let list = contour_of value (points c.args.points.now) in
    let offsets = c.args.offsets.now in
    let divides = divides_read value g.P.ContourPoint.point points g.P.ContourPoint.each c.args.points.now offsets c.requires.divides in
    let items = c.in_ok-marks.marks.items in
    let past = c.loop-at-test.false in
    let count = c.len-at-end.ensures in
    all_pieces offsets list divides (map (mark_of value) items) c.in_ok-marks.ensures c.loop-at.at (map (piece_of value) c.loop-at.pieces.items) (omega (arith, past, count, length-map items (mark_of value))) c.loop-at.invariant.pieces
