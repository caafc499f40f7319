use Rattle.std.proofs.Common.{◌<◌, ◌≤◌, length, map, sym, subst, arith, below_more}
use Rattle.std.proofs.lemmas.List.{length-map}
use Rattle.i_shape_core.specs.IntPoint.{contour_of}
use Rattle.i_shape_contacts.proofs.Faults.{divides_read, not_by_test}
use Rattle.i_shape_contacts.specs.Validity.{IsLeast}
use Rattle.i_shape_touching.specs.Touching.{LeavesOuter}
use Rattle.i_shape_touching.specs.Steps.Pieces.{PieceOf, piece_of, IsRingPiece, IsPieceOutside}
use Rattle.i_shape_touching.proofs.NestLaws.{piece_at, piece_read, is_piece_at, first_outside, none_outside}
use Rattle.i_shape_touching.proofs.nesting.first_leaving.Goals as goal

pub lies_outside-requires-clause-piece : goal.lies_outside-requires-clause-piece
lies_outside-requires-clause-piece g c =
    let value = g.P.Coordinate.IntNumber.value in
    let points = g.P.ContourPoint.points in
    let list = contour_of value (points c.args.points.now) in
    let offsets = c.args.offsets.now in
    let divides = divides_read value g.P.ContourPoint.point points g.P.ContourPoint.each c.args.points.now offsets c.requires.divides in
    let ps = map (piece_of value) c.args.pieces.now in
    let at = c.loop-piece.piece-index in
    let read = piece_read (piece_of value) c.args.pieces.now at c.piece-item.result c.loop-piece-test.true c.piece-item.is in
    let within : at < length ps = omega (arith, c.loop-piece-test.true, length-map c.args.pieces.now (piece_of value)) in
    subst (IsRingPiece offsets list) read (is_piece_at offsets list divides c.requires.whole c.requires.clear ps c.requires.pieces at within)

pub returns-then-lies_outside : goal.returns-then-lies_outside
returns-then-lies_outside g c =
    let value = g.P.Coordinate.IntNumber.value in
    let points = g.P.ContourPoint.points in
    let list = contour_of value (points c.args.points.now) in
    let offsets = c.args.offsets.now in
    let divides = divides_read value g.P.ContourPoint.point points g.P.ContourPoint.each c.args.points.now offsets c.requires.divides in
    let ps = map (piece_of value) c.args.pieces.now in
    let at = c.loop-piece.piece-index in
    let read = piece_read (piece_of value) c.args.pieces.now at c.piece-item.result c.loop-piece-test.true c.piece-item.is in
    let within : at < length ps = omega (arith, c.loop-piece-test.true, length-map c.args.pieces.now (piece_of value)) in
    let here = subst (IsPieceOutside offsets list) (sym read) (c.lies_outside.ensures.0 c.if-lies_outside.true) in
    subst (λ (p : PieceOf). IsLeast (LeavesOuter offsets list) p.ring) read (first_outside offsets list divides c.requires.whole c.requires.clear ps c.requires.pieces at within c.loop-piece.invariant here)

pub loop-piece-preserved : goal.loop-piece-preserved
loop-piece-preserved g c =
    let value = g.P.Coordinate.IntNumber.value in
    let points = g.P.ContourPoint.points in
    let list = contour_of value (points c.args.points.now) in
    let offsets = c.args.offsets.now in
    let ps = map (piece_of value) c.args.pieces.now in
    let at = c.loop-piece.piece-index in
    let read = piece_read (piece_of value) c.args.pieces.now at c.piece-item.result c.loop-piece-test.true c.piece-item.is in
    let none = subst (λ (p : PieceOf). IsPieceOutside offsets list p → ⊥) (sym read) (not_by_test _ c.lies_outside.ensures c.if-lies_outside.false) in
    below_more (λ i. IsPieceOutside offsets list (piece_at ps i) → ⊥) at c.loop-piece.invariant none

pub returns : goal.returns
returns g c =
    let value = g.P.Coordinate.IntNumber.value in
    let points = g.P.ContourPoint.points in
    let list = contour_of value (points c.args.points.now) in
    let offsets = c.args.offsets.now in
    let divides = divides_read value g.P.ContourPoint.point points g.P.ContourPoint.each c.args.points.now offsets c.requires.divides in
    let ps = map (piece_of value) c.args.pieces.now in
    let at = c.loop-piece.piece-index in
    let past : length ps ≤ at = omega (arith, c.loop-piece-test.false, length-map c.args.pieces.now (piece_of value)) in
    none_outside offsets list divides c.requires.whole c.requires.clear ps c.requires.pieces at past c.loop-piece.invariant
