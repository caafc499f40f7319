use Rattle.std.proofs.Common.{arith, All}
use Rattle.i_shape.proofs.Common.{shape_of, shapes_of, IsSafeShape, HasRoom, HasRoomFor}
use Rattle.i_shape.proofs.InPlace.Left.{so_far_none, so_far_holds, so_far_set, so_far_all}
use Rattle.i_shape.proofs.int.in_place.InPlaceWork.clean_shapes.Goals as goal

pub loop-shape-init : goal.loop-shape-init
loop-shape-init g c = record { left = so_far_none _ (shapes_of g.I.IntNumber.value c.deref_mut-shape-items.result.now); keeps_room = λ n had. had }

pub clean_contours-requires-clause-safe : goal.clean_contours-requires-clause-safe
clean_contours-requires-clause-safe g c =
    so_far_holds _ (λ v. shape_of g.I.IntNumber.value v.items) c.deref_mut-shape-items.result.now c.loop-shape.shape-items c.loop-shape.shape-index
    (omega (arith, c.loop-shape.auto.shape-items)) c.loop-shape.invariant.left c.shape-item.result (omega (arith, c.loop-shape-test.true, c.loop-shape.auto.shape-items))
    (IsSafeShape g.I.IntNumber.width) (rw c.deref_mut-shape-items.ensures.value c.requires.safe)

pub clean_contours-requires-clause-room : goal.clean_contours-requires-clause-room
clean_contours-requires-clause-room g c =
    let had = so_far_holds _ (λ v. shape_of g.I.IntNumber.value v.items) c.deref_mut-shape-items.result.now c.loop-shape.shape-items c.loop-shape.shape-index
    (omega (arith, c.loop-shape.auto.shape-items)) c.loop-shape.invariant.left c.shape-item.result (omega (arith, c.loop-shape-test.true, c.loop-shape.auto.shape-items))
    (All (HasRoomFor (HasRoom g.C.ContourCleaner.has_room) g.C.ContourCleaner.meaning.clean c.args.self.now)) (rw c.deref_mut-shape-items.ensures.value c.requires.room) in
    λ k d lt fails. c.loop-shape.invariant.keeps_room _ (had k d lt fails)

pub loop-shape-preserved : goal.loop-shape-preserved
loop-shape-preserved g c = record {
  left = so_far_set _ (λ v. shape_of g.I.IntNumber.value v.items) c.deref_mut-shape-items.result.now c.loop-shape.shape-items c.loop-shape.shape-index
      (omega (arith, c.loop-shape.auto.shape-items)) c.loop-shape.invariant.left c.shape-item.result (omega (arith, c.loop-shape-test.true, c.loop-shape.auto.shape-items)) c.clean_contours.new.shape c.clean_contours.ensures.left;
  keeps_room = λ n had. c.clean_contours.ensures.keeps_room n (c.loop-shape.invariant.keeps_room n had);
}

pub returns : goal.returns
returns g c =
    rw (← c.deref_mut-shape-items.ensures.value) (record {
      left = so_far_all _ (λ v. shape_of g.I.IntNumber.value v.items) c.deref_mut-shape-items.result.now c.loop-shape.shape-items c.loop-shape.shape-index
          (omega (arith, c.loop-shape.auto.shape-items)) c.loop-shape.invariant.left _ c.args.shapes.now.len
          (omega (arith, c.loop-shape-test.false, c.loop-shape.auto.shape-items)) (omega (arith, c.args.shapes.now.ok.0, c.deref_mut-shape-items.ensures.len, c.loop-shape.auto.shape-items));
    })
