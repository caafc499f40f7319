use Rattle.std.proofs.Common.{◌≡◌, ◌-◌, length, get_or, arith, subst}
use Rattle.i_shape_contacts.specs.Courses.{ListsNext}
use Rattle.i_shape_contacts.proofs.Courses.{lists_more}
use Rattle.i_shape_contacts.proofs.course.table_of.Goals as goal

pub loop-place-preserved : goal.loop-place-preserved
loop-place-preserved c = lists_more _ _ _ _ _ c.in_ok-push.ensures.items c.loop-place.invariant c.next_in_ring.ensures.is c.next_in_ring.ensures.within

pub returns : goal.returns
returns c =
    let past = c.loop-place-test.false in
    let most = c.loop-place.auto.place-end in
    let all : c.loop-place.place ≡ get_or c.args.offsets.now (length c.args.offsets.now - 1) 0 = omega (arith, past, most) in
    record { divides = c.requires; lists = subst (ListsNext c.args.offsets.now c.loop-place.table.items) all c.loop-place.invariant }
