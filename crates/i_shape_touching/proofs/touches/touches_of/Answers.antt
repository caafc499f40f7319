use Rattle.std.proofs.Common.{arith}
use Rattle.std.proofs.lemmas.List.Elements.{All-push, All-same}
use Rattle.i_shape_core.specs.IntPoint.{contour_of}
use Rattle.i_shape_touching.specs.Steps.Touches.{IsTouch}
use Rattle.i_shape_touching.proofs.ContactLists.{touched_more, all_touched}
use Rattle.i_shape_touching.proofs.touches.touches_of.Goals as goal

pub loop-contact-preserved : goal.loop-contact-preserved
loop-contact-preserved g c =
    let list = contour_of g.P.Coordinate.IntNumber.value (g.P.ContourPoint.points c.args.points.now) in
    let kept = c.loop-contact.invariant in
    let added = c.push_reserved.ensures in
    let old_room = kept.room in
    let old_count = kept.count in
    let same_room = added.capacity in
    let more = added.len in
    record {
      room = omega (arith, old_room, same_room);
      count = omega (arith, old_count, more);
      contacts = touched_more c.args.contacts.now c.loop-contact.touches.items c.push_reserved.new.self.items c.loop-contact.contact-index c.touch_of.result _ added.items c.loop-contact-test.true c.touch_of.ensures.contact kept.contacts;
      each = All-same (IsTouch g.P.Coordinate.IntNumber.value c.args.offsets.now list) _ _ added.items (All-push (IsTouch g.P.Coordinate.IntNumber.value c.args.offsets.now list) c.loop-contact.touches.items c.touch_of.result kept.each c.touch_of.ensures.is);
    }

pub returns : goal.returns
returns g c =
    let list = contour_of g.P.Coordinate.IntNumber.value (g.P.ContourPoint.points c.args.points.now) in
    let kept = c.loop-contact.invariant in
    all_touched g.P.Coordinate.IntNumber.value c.args.offsets.now list c.args.contacts.now c.loop-contact.touches.items c.loop-contact.contact-index c.requires.all c.loop-contact-test.false kept.contacts kept.each
