use Rattle.std.proofs.Common.{◌≡◌, ◌∙◌, ℕ, length, subst, sym, ap, IsPermutation, take, drop, ◌++◌}
use Rattle.std.proofs.Math.Seq.{take-append_seam}
use Rattle.std.proofs.lemmas.List.Sorted.{IsPermutation-trans, length_permutation}
use Rattle.i_shape_contacts.proofs.spread.spread_order.Goals as goal

pub returns : goal.returns
returns g c =
    let moved = subst (λ xs. IsPermutation xs c.sort_strips.new.order) c.deref_mut.ensures.value c.sort_strips.ensures in
    let many : length c.sort_strips.new.order ≡ c.in_ok-order.order.len = length_permutation _ _ c.sort_strips.ensures ∙ c.deref_mut.ensures.len in
    let whole = take-append_seam c.sort_strips.new.order (drop (length c.sort_strips.new.order) c.in_ok-order.order.items) in
    IsPermutation-trans _ _ _ c.in_ok-order.ensures.all (subst (IsPermutation c.in_ok-order.order.items) (sym (ap (λ (n : ℕ). take n (c.sort_strips.new.order ++ drop (length c.sort_strips.new.order) c.in_ok-order.order.items)) (sym many) ∙ whole)) moved)
