use Rattle.std.proofs.Common.{◌<◌, ◌≤◌, ℕ, length, map, sym, subst, arith, below_more}
use Rattle.std.proofs.lemmas.List.{length-map}
use Rattle.i_shape_core.specs.IntPoint.{contour_of}
use Rattle.i_shape_contacts.proofs.Faults.{divides_read, not_by_test}
use Rattle.i_shape_touching.specs.Touching.{NoneEntersHole, EntersHole, IsFirstToEnter}
use Rattle.i_shape_touching.specs.Steps.Pieces.{PieceOf, piece_of, IsRingPiece, IsPieceWithinAny, IsFirstEntered}
use Rattle.i_shape_touching.proofs.NestLaws.{piece_at, piece_read, is_piece_at, enters_some, first_to_enter, none_within_any, match_moved}
use Rattle.i_shape_touching.proofs.nesting.first_entering.Goals as goal

pub lies_within_any-requires-clause-piece : goal.lies_within_any-requires-clause-piece
lies_within_any-requires-clause-piece g c =
    let value = g.P.Coordinate.IntNumber.value in
    let points = g.P.ContourPoint.points in
    let list = contour_of value (points c.args.points.now) in
    let offsets = c.args.offsets.now in
    let divides = divides_read value g.P.ContourPoint.point points g.P.ContourPoint.each c.args.points.now offsets c.requires.divides in
    let ps = map (piece_of value) c.args.pieces.now in
    let at = c.loop-piece.piece-index in
    let read = piece_read (piece_of value) c.args.pieces.now at c.piece-item.result c.loop-piece-test.true c.piece-item.is in
    let within : at < length ps = omega (arith, c.loop-piece-test.true, length-map c.args.pieces.now (piece_of value)) in
    subst (IsRingPiece offsets list) read (is_piece_at offsets list divides c.requires.whole c.requires.clear ps c.requires.pieces at within)

pub first_entered-requires-clause-is_hole : goal.first_entered-requires-clause-is_hole
first_entered-requires-clause-is_hole g c =
    let value = g.P.Coordinate.IntNumber.value in
    let points = g.P.ContourPoint.points in
    let list = contour_of value (points c.args.points.now) in
    let offsets = c.args.offsets.now in
    let divides = divides_read value g.P.ContourPoint.point points g.P.ContourPoint.each c.args.points.now offsets c.requires.divides in
    let ps = map (piece_of value) c.args.pieces.now in
    let at = c.loop-piece.piece-index in
    let read = piece_read (piece_of value) c.args.pieces.now at c.piece-item.result c.loop-piece-test.true c.piece-item.is in
    let within : at < length ps = omega (arith, c.loop-piece-test.true, length-map c.args.pieces.now (piece_of value)) in
    let is = subst (IsRingPiece offsets list) read (is_piece_at offsets list divides c.requires.whole c.requires.clear ps c.requires.pieces at within) in
    let here = c.lies_within_any.ensures.0 c.if-lies_within_any.true in
    record { not_outer = here.is_within.not_outer; is_ring = is.is_edge.is_ring }

pub returns-then-lies_within_any : goal.returns-then-lies_within_any
returns-then-lies_within_any g c =
    let value = g.P.Coordinate.IntNumber.value in
    let points = g.P.ContourPoint.points in
    let list = contour_of value (points c.args.points.now) in
    let offsets = c.args.offsets.now in
    let divides = divides_read value g.P.ContourPoint.point points g.P.ContourPoint.each c.args.points.now offsets c.requires.divides in
    let ps = map (piece_of value) c.args.pieces.now in
    let at = c.loop-piece.piece-index in
    let read = piece_read (piece_of value) c.args.pieces.now at c.piece-item.result c.loop-piece-test.true c.piece-item.is in
    let within : at < length ps = omega (arith, c.loop-piece-test.true, length-map c.args.pieces.now (piece_of value)) in
    let k = c.piece-item.result.ring in
    let here = subst (IsPieceWithinAny offsets list) (sym read) (c.lies_within_any.ensures.0 c.if-lies_within_any.true) in
    let some = enters_some offsets list divides c.requires.whole c.requires.clear ps c.requires.pieces at within here in
    match_moved c.first_entered.result ((j : ℕ) → EntersHole offsets list k j → ⊥) (NoneEntersHole offsets list) (λ it. IsFirstEntered offsets list k it.hole it.other) (λ it. IsFirstToEnter offsets list it.hole it.other)
    (λ none. absurd (none some.0 (subst (λ (p : PieceOf). EntersHole offsets list p.ring some.0) read some.1)))
    (λ it found. first_to_enter offsets list divides c.requires.whole c.requires.clear ps c.requires.pieces at it.hole it.other within c.loop-piece.invariant (subst (λ (p : PieceOf). IsFirstEntered offsets list p.ring it.hole it.other) (sym read) found))
    c.first_entered.ensures

pub loop-piece-preserved : goal.loop-piece-preserved
loop-piece-preserved g c =
    let value = g.P.Coordinate.IntNumber.value in
    let points = g.P.ContourPoint.points in
    let list = contour_of value (points c.args.points.now) in
    let offsets = c.args.offsets.now in
    let ps = map (piece_of value) c.args.pieces.now in
    let at = c.loop-piece.piece-index in
    let read = piece_read (piece_of value) c.args.pieces.now at c.piece-item.result c.loop-piece-test.true c.piece-item.is in
    let none = subst (λ (p : PieceOf). IsPieceWithinAny offsets list p → ⊥) (sym read) (not_by_test _ c.lies_within_any.ensures c.if-lies_within_any.false) in
    below_more (λ i. IsPieceWithinAny offsets list (piece_at ps i) → ⊥) at c.loop-piece.invariant none

pub returns : goal.returns
returns g c =
    let value = g.P.Coordinate.IntNumber.value in
    let points = g.P.ContourPoint.points in
    let list = contour_of value (points c.args.points.now) in
    let offsets = c.args.offsets.now in
    let divides = divides_read value g.P.ContourPoint.point points g.P.ContourPoint.each c.args.points.now offsets c.requires.divides in
    let ps = map (piece_of value) c.args.pieces.now in
    let at = c.loop-piece.piece-index in
    let past : length ps ≤ at = omega (arith, c.loop-piece-test.false, length-map c.args.pieces.now (piece_of value)) in
    none_within_any offsets list divides c.requires.whole c.requires.clear ps c.requires.pieces at past c.loop-piece.invariant
