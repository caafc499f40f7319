use Rattle.std.proofs.Common.{◌≡◌, ◌+◌, ◌-◌, ◌++◌, ◌∙◌, length, take, drop, ap, arith, drop-drop}
use Rattle.i_shape_c.proofs.lists.write_at.Goals as goal

pub returns-clause-put : goal.returns-clause-put
returns-clause-put g c =
    let at = c.args.at in
    let old = c.args.out.now in
    let items = c.args.items.now in
    let k = at + length items - at in
    let count : k ≡ length items = omega arith in
    ap (λ w. take at old ++ (w ++ drop k (drop at old))) c.copy_from_slice.ensures.after ∙ ap (λ w. take at old ++ (items ++ w)) (drop-drop k at old ∙ ap (λ n. drop (at + n) old) count)
