use Rattle.std.proofs.Common.{◌≡◌, ◌<◌, ◌≤◌, ◌+◌, ◌-◌, ℕ, List, length, refl, arith, subst, ap, ◌∙◌, inl, inr}
use Rattle.std.proofs.lemmas.Bool.{cases_lt}
use Rattle.i_shape_core.specs.Rings.{offset}
use Rattle.i_shape_core.proofs.Lists.Rings.{rises_to}
use Rattle.i_shape_contacts.specs.Courses.{Divides}
use Rattle.i_shape_contacts.proofs.Courses.{after_unique}
use Rattle.i_shape_contacts.proofs.course.next_in_ring.Goals as goal

-- a place below the last offset is one of a ring
some_ring : (offsets : List ℕ) (k : ℕ) → Divides offsets → k < offset offsets (length offsets - 1) → 0 < length offsets - 1
some_ring offsets k d h = elim (cases_lt 0 (length offsets - 1)) [
  | inl l ↦ l
  | inr l ↦ (let last : length offsets - 1 ≡ 0 = omega (arith, l) in
      let none : offset offsets (length offsets - 1) ≡ 0 = ap (offset offsets) last ∙ d.first in
      absurd (omega (arith, h, none)))
]

pub loop-high-init : goal.loop-high-init
loop-high-init c =
    let some = c.requires.divides.some in
    let first = c.requires.divides.first in
    record {
      order = some_ring c.args.offsets.now c.args.place c.requires.divides c.requires.within;
      within = omega (arith, some);
      from = omega (arith, first);
      below = c.requires.within;
    }

pub returns-then-place-offsets-clause-only : goal.returns-then-place-offsets-clause-only
returns-then-place-offsets-clause-only c = λ m w.
    let low = c.loop-high.low in
    let order = c.loop-high.invariant.order in
    let within = c.loop-high.invariant.within in
    let narrow = c.loop-high-test.false in
    let next : c.loop-high.high ≡ low + 1 = omega (arith, order, narrow) in
    let test = c.if-place-offsets.true in
    after_unique c.args.offsets.now c.args.place m (c.args.place + 1) c.requires.divides w (record {
      ring = low;
      is_ring = omega (arith, within, next);
      from = c.loop-high.invariant.from;
      below = omega (arith, test);
      on = λ h. refl;
      round = λ e. absurd (omega (arith, e, test));
    })

pub returns-then-place-offsets-clause-within : goal.returns-then-place-offsets-clause-within
returns-then-place-offsets-clause-within c =
    let low = c.loop-high.low in
    let order = c.loop-high.invariant.order in
    let within = c.loop-high.invariant.within in
    let narrow = c.loop-high-test.false in
    let next : c.loop-high.high ≡ low + 1 = omega (arith, order, narrow) in
    let test = c.if-place-offsets.true in
    let most : offset c.args.offsets.now (low + 1) ≤ offset c.args.offsets.now (length c.args.offsets.now - 1) = rises_to c.args.offsets.now (length c.args.offsets.now) (low + 1) (length c.args.offsets.now - 1) c.requires.divides.order (omega (arith, within, next)) (omega (arith, within)) in
    omega (arith, most, test)

pub returns-else-place-offsets-clause-only : goal.returns-else-place-offsets-clause-only
returns-else-place-offsets-clause-only c = λ m w.
    let offsets = c.args.offsets.now in
    let low = c.loop-high.low in
    let order = c.loop-high.invariant.order in
    let within = c.loop-high.invariant.within in
    let narrow = c.loop-high-test.false in
    let next : c.loop-high.high ≡ low + 1 = omega (arith, order, narrow) in
    let test = c.if-place-offsets.false in
    let below : c.args.place < offset offsets (low + 1) = subst (λ (k : ℕ). c.args.place < offset offsets k) next c.loop-high.invariant.below in
    after_unique offsets c.args.place m (offset offsets low) c.requires.divides w (record {
      ring = low;
      is_ring = omega (arith, within, next);
      from = c.loop-high.invariant.from;
      below = below;
      on = λ h. absurd (omega (arith, h, test));
      round = λ e. refl;
    })
