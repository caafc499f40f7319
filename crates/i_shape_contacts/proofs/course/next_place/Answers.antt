use Rattle.std.proofs.Common.{◌≡◌, ◌+◌, ◌<◌, ◌∙◌, suc, arith, sym}
use Rattle.i_shape_core.proofs.Removal.Places.{after_earlier, after_last}
use Rattle.i_shape_contacts.proofs.course.next_place.Goals as goal

pub returns-then-next-count : goal.returns-then-next-count
returns-then-next-count c =
    let within = c.requires in
    record { is = sym (after_last c.args.count c.args.place c.if-next-count.true); within = omega (arith, within) }

pub returns-else-next-count : goal.returns-else-next-count
returns-else-next-count c =
    let within = c.requires in
    let inside : c.args.place + 1 < c.args.count = omega (arith, within, c.if-next-count.false) in
    let more : suc c.args.place ≡ c.args.place + 1 = omega arith in
    record { is = sym (after_earlier c.args.count c.args.place inside ∙ more); within = inside }
