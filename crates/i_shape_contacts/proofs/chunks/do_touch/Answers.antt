use Rattle.std.proofs.Common.{arith, inl, inr}
use Rattle.i_shape_contacts.proofs.chunks.do_touch.Goals as goal

pub returns-then-a-b : goal.returns-then-a-b
returns-then-a-b g c =
    let less = c.if-a-b.true in (
      λ t. inl (c.are_in_contact.ensures.0 t),
      elim [ inl w ↦ c.are_in_contact.ensures.1 w | inr w ↦ (let order = w.order in absurd (omega (arith, less, order))) ],
    )

pub returns-then-b-a : goal.returns-then-b-a
returns-then-b-a g c =
    let less = c.if-b-a.true in (
      λ t. inr (c.are_in_contact-then-b-a.ensures.0 t),
      elim [ inl w ↦ (let order = w.order in absurd (omega (arith, less, order))) | inr w ↦ c.are_in_contact-then-b-a.ensures.1 w ],
    )

pub returns-else-b-a : goal.returns-else-b-a
returns-else-b-a g c =
    let low = c.if-b-a.false in
    let high = c.if-a-b.false in (
      λ t. absurd (cc),
      elim [ inl w ↦ (let order = w.order in absurd (omega (arith, high, order))) | inr w ↦ (let order = w.order in absurd (omega (arith, low, order))) ],
    )
