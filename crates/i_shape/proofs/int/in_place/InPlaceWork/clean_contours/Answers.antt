use Rattle.std.proofs.Common.{arith, All}
use Rattle.i_shape.proofs.Common.{contour_of, IsSafe, shape_of, HasRoom, HasRoomFor}
use Rattle.i_shape.proofs.InPlace.Left.{so_far_none, so_far_holds, so_far_set, so_far_all}
use Rattle.i_shape.proofs.int.in_place.InPlaceWork.clean_contours.Goals as goal

pub loop-contour-init : goal.loop-contour-init
loop-contour-init g c = record { left = so_far_none _ (shape_of g.I.IntNumber.value c.deref_mut-contour-items.result.now); keeps_room = λ n had. had }

pub clean_contour-requires-clause-safe : goal.clean_contour-requires-clause-safe
clean_contour-requires-clause-safe g c =
    so_far_holds _ (λ v. contour_of g.I.IntNumber.value v.items) c.deref_mut-contour-items.result.now c.loop-contour.contour-items c.loop-contour.contour-index
    (omega (arith, c.loop-contour.auto.contour-items)) c.loop-contour.invariant.left c.contour-item.result (omega (arith, c.loop-contour-test.true, c.loop-contour.auto.contour-items))
    (All (IsSafe g.I.IntNumber.width)) (rw c.deref_mut-contour-items.ensures.value c.requires.safe)

pub clean_contour-requires-clause-room : goal.clean_contour-requires-clause-room
clean_contour-requires-clause-room g c =
    let had = so_far_holds _ (λ v. contour_of g.I.IntNumber.value v.items) c.deref_mut-contour-items.result.now c.loop-contour.contour-items c.loop-contour.contour-index
    (omega (arith, c.loop-contour.auto.contour-items)) c.loop-contour.invariant.left c.contour-item.result (omega (arith, c.loop-contour-test.true, c.loop-contour.auto.contour-items))
    (HasRoomFor (HasRoom g.C.ContourCleaner.has_room) g.C.ContourCleaner.meaning.clean c.args.self.now) (rw c.deref_mut-contour-items.ensures.value c.requires.room) in
    λ fails. c.loop-contour.invariant.keeps_room _ (had fails)

pub loop-contour-preserved : goal.loop-contour-preserved
loop-contour-preserved g c = record {
  left = so_far_set _ (λ v. contour_of g.I.IntNumber.value v.items) c.deref_mut-contour-items.result.now c.loop-contour.contour-items c.loop-contour.contour-index
      (omega (arith, c.loop-contour.auto.contour-items)) c.loop-contour.invariant.left c.contour-item.result (omega (arith, c.loop-contour-test.true, c.loop-contour.auto.contour-items)) c.clean_contour.new.contour c.clean_contour.ensures.left;
  keeps_room = λ n had. c.clean_contour.ensures.keeps_room n (c.loop-contour.invariant.keeps_room n had);
}

pub returns-clause-left : goal.returns-clause-left
returns-clause-left g c =
    rw (← c.deref_mut-contour-items.ensures.value)
    (so_far_all _ (λ v. contour_of g.I.IntNumber.value v.items) c.deref_mut-contour-items.result.now c.loop-contour.contour-items c.loop-contour.contour-index
    (omega (arith, c.loop-contour.auto.contour-items)) c.loop-contour.invariant.left _ c.args.shape.now.len
    (omega (arith, c.loop-contour-test.false, c.loop-contour.auto.contour-items)) (omega (arith, c.args.shape.now.ok.0, c.deref_mut-contour-items.ensures.len, c.loop-contour.auto.contour-items)))
