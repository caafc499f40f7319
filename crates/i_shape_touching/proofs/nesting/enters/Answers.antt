use Rattle.std.proofs.Common.{◌≡◌, ◌<◌, ◌≤◌, length, map, refl, sym, ap, subst, ◌∙◌, arith, below_more}
use Rattle.std.proofs.lemmas.List.{length-map}
use Rattle.i_shape_core.specs.IntPoint.{contour_of}
use Rattle.i_shape_contacts.proofs.Faults.{divides_read, not_by_test, untrue}
use Rattle.i_shape_touching.specs.Steps.Pieces.{PieceOf, piece_of, IsRingPiece, IsPieceWithin}
use Rattle.i_shape_touching.proofs.NestLaws.{piece_at, piece_read, is_piece_at, none_of, enters_at}
use Rattle.i_shape_touching.proofs.nesting.enters.Goals as goal
use Rattle.i_shape_touching.proofs.nesting.enters.Goals.{else-piece-hole-via-then-piece-hole+else-lies_within, else-piece-hole-via-else-piece-hole}

pub lies_within-requires-clause-piece : goal.lies_within-requires-clause-piece
lies_within-requires-clause-piece g c =
    let value = g.P.Coordinate.IntNumber.value in
    let points = g.P.ContourPoint.points in
    let list = contour_of value (points c.args.points.now) in
    let offsets = c.args.offsets.now in
    let divides = divides_read value g.P.ContourPoint.point points g.P.ContourPoint.each c.args.points.now offsets c.requires.divides in
    let ps = map (piece_of value) c.args.pieces.now in
    let at = c.loop-piece.piece-index in
    let read = piece_read (piece_of value) c.args.pieces.now at c.piece-item.result c.loop-piece-test.true c.piece-item.is in
    let within : at < length ps = omega (arith, c.loop-piece-test.true, length-map c.args.pieces.now (piece_of value)) in
    subst (IsRingPiece offsets list) read (is_piece_at offsets list divides c.requires.whole c.requires.clear ps c.requires.pieces at within)

pub returns-then-lies_within : goal.returns-then-lies_within
returns-then-lies_within g c =
    let value = g.P.Coordinate.IntNumber.value in
    let points = g.P.ContourPoint.points in
    let list = contour_of value (points c.args.points.now) in
    let offsets = c.args.offsets.now in
    let divides = divides_read value g.P.ContourPoint.point points g.P.ContourPoint.each c.args.points.now offsets c.requires.divides in
    let ps = map (piece_of value) c.args.pieces.now in
    let at = c.loop-piece.piece-index in
    let read = piece_read (piece_of value) c.args.pieces.now at c.piece-item.result c.loop-piece-test.true c.piece-item.is in
    let within : at < length ps = omega (arith, c.loop-piece-test.true, length-map c.args.pieces.now (piece_of value)) in
    let ring = ap (λ (p : PieceOf). p.ring) read ∙ c.if-piece-hole.true in
    let here = subst (λ (p : PieceOf). IsPieceWithin offsets list p c.args.other) (sym read) (c.lies_within.ensures.0 c.if-lies_within.true) in
    (λ t. enters_at offsets list divides c.requires.whole c.requires.clear ps c.requires.pieces c.args.hole c.args.other at within ring here, λ w. refl)

pub loop-piece-preserved : goal.loop-piece-preserved
loop-piece-preserved g c =
    let value = g.P.Coordinate.IntNumber.value in
    let points = g.P.ContourPoint.points in
    let list = contour_of value (points c.args.points.now) in
    let offsets = c.args.offsets.now in
    let ps = map (piece_of value) c.args.pieces.now in
    let at = c.loop-piece.piece-index in
    let read = piece_read (piece_of value) c.args.pieces.now at c.piece-item.result c.loop-piece-test.true c.piece-item.is in
    let none : (piece_at ps at).ring ≡ c.args.hole → IsPieceWithin offsets list (piece_at ps at) c.args.other → ⊥ = (λ ring here. elim c.else-piece-hole.branch [
      | else-piece-hole-via-then-piece-hole+else-lies_within w ↦ not_by_test _ w.lies_within.ensures w.if-lies_within.false (subst (λ (p : PieceOf). IsPieceWithin offsets list p c.args.other) read here)
      | else-piece-hole-via-else-piece-hole w ↦ absurd (w.if-piece-hole.false (sym (ap (λ (p : PieceOf). p.ring) read) ∙ ring))
    ]) in
    below_more (λ i. (piece_at ps i).ring ≡ c.args.hole → IsPieceWithin offsets list (piece_at ps i) c.args.other → ⊥) at c.loop-piece.invariant none

pub returns : goal.returns
returns g c =
    let value = g.P.Coordinate.IntNumber.value in
    let points = g.P.ContourPoint.points in
    let list = contour_of value (points c.args.points.now) in
    let offsets = c.args.offsets.now in
    let divides = divides_read value g.P.ContourPoint.point points g.P.ContourPoint.each c.args.points.now offsets c.requires.divides in
    let ps = map (piece_of value) c.args.pieces.now in
    let at = c.loop-piece.piece-index in
    let past : length ps ≤ at = omega (arith, c.loop-piece-test.false, length-map c.args.pieces.now (piece_of value)) in
    (λ t. absurd (untrue t), λ w. absurd (none_of offsets list divides c.requires.whole c.requires.clear ps c.requires.pieces c.args.hole c.args.other at past c.loop-piece.invariant w))
