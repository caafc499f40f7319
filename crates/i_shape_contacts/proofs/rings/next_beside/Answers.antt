use Rattle.std.proofs.Common.{arith, refl, sym, inl, inr}
use Rattle.i_shape_contacts.proofs.rings.next_beside.Goals as goal

pub returns-then-are_apart : goal.returns-then-are_apart
returns-then-are_apart g c = inr (record {
  own = c.index-blocks-ring.result;
  block = c.index-blocks-other.result;
  own_within = omega (arith, c.if-ring-blocks.false);
  own_is = sym c.index-blocks-ring.is;
  within = omega (arith, c.if-other-blocks.false);
  block_is = sym c.index-blocks-other.is;
  beside = inl (c.are_apart.ensures.0 c.if-are_apart.true, refl);
})

pub returns-then-are_apart-2 : goal.returns-then-are_apart-2
returns-then-are_apart-2 g c = inr (record {
  own = c.index-blocks-ring.result;
  block = c.index-blocks-other.result;
  own_within = omega (arith, c.if-ring-blocks.false);
  own_is = sym c.index-blocks-ring.is;
  within = omega (arith, c.if-other-blocks.false);
  block_is = sym c.index-blocks-other.is;
  beside = inr (c.are_apart-else-are_apart.ensures.0 c.if-are_apart-2.true, refl);
})
