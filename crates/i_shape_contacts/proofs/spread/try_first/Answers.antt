use Rattle.std.proofs.Common.{ℕ, List, length, get_or, sym, subst}
use Rattle.i_shape_contacts.specs.Steps.Orders.{IsOrder}
use Rattle.i_shape_contacts.proofs.spread.try_first.Goals as goal

pub blocks_of-requires-clause-ordered : goal.blocks_of-requires-clause-ordered
blocks_of-requires-clause-ordered g c = subst (λ (xs : List ℕ). IsOrder (length xs) (λ (m : ℕ). get_or xs m 0) (length c.args.points.now)) (sym c.deref.ensures.value) c.in_ok-places.ensures

pub found_by_blocks-requires-clause-ordered : goal.found_by_blocks-requires-clause-ordered
found_by_blocks-requires-clause-ordered g c = subst (λ (xs : List ℕ). IsOrder (length xs) (λ (m : ℕ). get_or xs m 0) (length c.args.points.now)) (sym c.deref.ensures.value) c.in_ok-places.ensures

pub found_by_blocks-requires-clause-are_blocks : goal.found_by_blocks-requires-clause-are_blocks
found_by_blocks-requires-clause-are_blocks g c = rw c.deref-2.ensures.value c.in_ok-blocks.ensures.blocks
