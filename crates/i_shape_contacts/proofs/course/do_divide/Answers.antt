use Rattle.std.proofs.Common.{◌≡◌, ◌<◌, length, arith, rules}
use Rattle.std.proofs.lemmas.Bool.{eqb-true}
use Rattle.i_shape_contacts.proofs.course.do_divide.Goals as goal

pub returns-then-is_empty : goal.returns-then-is_empty
returns-then-is_empty c =
    let none : length c.args.offsets.now ≡ 0 = search rules in
    (λ t. absurd (cc), λ w. let some = w.divides.some in absurd (omega (arith, some, none)))

pub returns-then-first-ne0 : goal.returns-then-first-ne0
returns-then-first-ne0 c = (λ t. absurd (cc), λ w. absurd (c.if-first-ne0.true w.divides.first))

pub returns-then-last-count : goal.returns-then-last-count
returns-then-last-count c =
    let some : 0 < length c.args.offsets.now = search rules in (
      λ t. record { divides = record { some = some; first = c.if-first-ne0.false; order = c.are_rising.ensures.0 t }; all = c.if-last-count.true },
      λ w. c.are_rising.ensures.1 w.divides.order,
    )

pub returns-else-last-count : goal.returns-else-last-count
returns-else-last-count c = (λ t. absurd (c.if-last-count.false (eqb-true _ _ t)), λ w. absurd (c.if-last-count.false w.all))
