use Rattle.i_shape_contacts.proofs.Faults.{not_by_test}
use Rattle.i_shape_touching.proofs.TouchPoints.{start_lies, end_lies, meet_lies, last_end}
use Rattle.i_shape_touching.proofs.touches.touch_point.Goals as goal

pub returns-then-do_meet-clause-on_first : goal.returns-then-do_meet-clause-on_first
returns-then-do_meet-clause-on_first g c = start_lies _ _

pub returns-then-do_meet-clause-on_second : goal.returns-then-do_meet-clause-on_second
returns-then-do_meet-clause-on_second g c = meet_lies _ _ _ (c.do_meet.ensures.0 c.if-do_meet.true)

pub returns-then-do_meet-2-clause-on_first : goal.returns-then-do_meet-2-clause-on_first
returns-then-do_meet-2-clause-on_first g c = end_lies _ _

pub returns-then-do_meet-2-clause-on_second : goal.returns-then-do_meet-2-clause-on_second
returns-then-do_meet-2-clause-on_second g c = meet_lies _ _ _ (c.do_meet-else-do_meet.ensures.0 c.if-do_meet-2.true)

pub returns-then-do_meet-3-clause-on_first : goal.returns-then-do_meet-3-clause-on_first
returns-then-do_meet-3-clause-on_first g c = meet_lies _ _ _ (c.do_meet-else-do_meet-2.ensures.0 c.if-do_meet-3.true)

pub returns-then-do_meet-3-clause-on_second : goal.returns-then-do_meet-3-clause-on_second
returns-then-do_meet-3-clause-on_second g c = start_lies _ _

pub returns-else-do_meet-3-clause-on_first : goal.returns-else-do_meet-3-clause-on_first
returns-else-do_meet-3-clause-on_first g c =
    last_end _ _ _ _ c.requires.touch (not_by_test _ c.do_meet.ensures c.if-do_meet.false) (not_by_test _ c.do_meet-else-do_meet.ensures c.if-do_meet-2.false) (not_by_test _ c.do_meet-else-do_meet-2.ensures c.if-do_meet-3.false)

pub returns-else-do_meet-3-clause-on_second : goal.returns-else-do_meet-3-clause-on_second
returns-else-do_meet-3-clause-on_second g c = end_lies _ _
