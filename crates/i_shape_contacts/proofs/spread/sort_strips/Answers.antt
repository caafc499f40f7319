use Rattle.std.proofs.Common.{◌≤◌, ◌-◌, length, arith}
use Rattle.std.proofs.lemmas.List.Sorted.{IsPermutation-trans, IsPermutation-put_mid, length_permutation}
use Rattle.i_shape_contacts.proofs.spread.sort_strips.Goals as goal
use Rattle.i_shape_contacts.proofs.spread.sort_strips.Goals.{then-order-from, else-order-from}

pub loop-from-preserved : goal.loop-from-preserved
loop-from-preserved g c =
    let moved = IsPermutation-put_mid c.loop-from.from (c.if-order-from.to - c.loop-from.from) c.loop-from.order c.sort_unstable_by_key.new.self c.sort_unstable_by_key.ensures.permutation in
    let same = length_permutation _ _ moved in
    record {
      within = (let most : c.if-order-from.to ≤ length c.loop-from.order = elim c.if-order-from.branch [ then-order-from w ↦ omega arith | else-order-from w ↦ omega arith ] in omega (arith, same, most));
      moved = IsPermutation-trans _ _ _ c.loop-from.invariant.moved moved;
    }
