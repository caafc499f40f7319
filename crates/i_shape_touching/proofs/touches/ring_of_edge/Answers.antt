use Rattle.std.proofs.Common.{◌≡◌, ◌<◌, ◌+◌, ◌-◌, ℕ, List, length, arith, subst, ap, ◌∙◌, inl, inr}
use Rattle.std.proofs.lemmas.Bool.{cases_lt}
use Rattle.i_shape_core.specs.Rings.{offset}
use Rattle.i_shape_contacts.specs.Courses.{Divides}
use Rattle.i_shape_touching.proofs.touches.ring_of_edge.Goals as goal

-- a place below the last offset is one of a ring
some_ring : (offsets : List ℕ) (k : ℕ) → Divides offsets → k < offset offsets (length offsets - 1) → 0 < length offsets - 1
some_ring offsets k d h = elim (cases_lt 0 (length offsets - 1)) [
  | inl l ↦ l
  | inr l ↦ (let last : length offsets - 1 ≡ 0 = omega (arith, l) in
      let none : offset offsets (length offsets - 1) ≡ 0 = ap (offset offsets) last ∙ d.first in
      absurd (omega (arith, h, none)))
]

pub loop-high-init : goal.loop-high-init
loop-high-init c =
    let some = c.requires.divides.some in
    let first = c.requires.divides.first in
    record {
      order = some_ring c.args.offsets.now c.args.edge c.requires.divides c.requires.within;
      within = omega (arith, some);
      from = omega (arith, first);
      below = c.requires.within;
    }

pub returns : goal.returns
returns c =
    let low = c.loop-high.low in
    let order = c.loop-high.invariant.order in
    let within = c.loop-high.invariant.within in
    let narrow = c.loop-high-test.false in
    let next : c.loop-high.high ≡ low + 1 = omega (arith, order, narrow) in
    record {
      is_ring = omega (arith, within, next);
      from = c.loop-high.invariant.from;
      below = subst (λ (k : ℕ). c.args.edge < offset c.args.offsets.now k) next c.loop-high.invariant.below;
    }
