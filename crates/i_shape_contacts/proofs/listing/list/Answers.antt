use Rattle.std.proofs.Common.{◌+◌, arith}
use Rattle.i_shape_contacts.proofs.AllContacts.{one_written, one_left_out}
use Rattle.i_shape_contacts.proofs.listing.list.Goals as goal

pub returns-then-count-out : goal.returns-then-count-out
returns-then-count-out c = λ before old w. one_written before old c.args.out.now c.args.count (c.args.count + 1) c.args.contact c.if-count-out.true (omega arith) (let room = c.if-count-out.true in omega (arith, room)) w

pub returns-else-count-out : goal.returns-else-count-out
returns-else-count-out c = λ before old w. one_left_out before old c.args.out.now c.args.count c.saturating_add.result c.args.contact (let full = c.if-count-out.false in omega (arith, full)) c.saturating_add.ensures w
