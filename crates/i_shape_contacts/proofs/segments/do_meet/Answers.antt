use Rattle.i_shape_core.specs.IntPoint.{point_of}
use Rattle.i_shape_contacts.proofs.Apart.{meet_overlap-x, meet_overlap-y, meet_straddle, meet_swapped}
use Rattle.i_shape_contacts.proofs.Crossing.{meet_decided}
use Rattle.i_shape_contacts.proofs.segments.do_meet.Goals as goal

pub returns-then-share_box : goal.returns-then-share_box
returns-then-share_box g c =
    let at = point_of g.I.IntNumber.value in
    let box = c.share_box.ensures.0 c.if-share_box.true in (
      λ t. let sides = c.are_astride.ensures.0 t in meet_decided (at c.args.a) (at c.args.b) (at c.args.c) (at c.args.e) box.0 box.1 sides.0 sides.1,
      λ m. c.are_astride.ensures.1 (meet_straddle _ _ _ _ m, meet_straddle _ _ _ _ (meet_swapped _ _ _ _ m)),
    )

pub returns-else-share_box : goal.returns-else-share_box
returns-else-share_box g c =
    let f = c.if-share_box.false in (
      λ t. absurd (cc),
      λ m. c.share_box.ensures.1 (meet_overlap-x _ _ _ _ m, meet_overlap-y _ _ _ _ m),
    )
