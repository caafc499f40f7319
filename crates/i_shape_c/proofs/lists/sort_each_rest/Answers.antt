use Rattle.std.proofs.Common.{IsSorted, ◌≡◌, ◌+◌, ◌-◌, ◌≤◌, ◌∙◌, length, drop, slice_range, subst, sym, arith, rules, length-take-le, length-drop}
use Rattle.std.proofs.lemmas.Slice.{take-put_mid_below, between-put_mid, drop-put_mid}
use Rattle.i_shape_c.specs.Batch.{offset, nth_contour}
use Rattle.i_shape_c.specs.Steps.Sorted.{SortsRest}
use Rattle.i_shape_core.proofs.Lists.Rings.{rises_to, same_further}
use Rattle.i_shape_c.proofs.Nested.{change_more, zip_from}
use Rattle.i_shape_c.proofs.lists.sort_each_rest.Goals as goal

pub offset_bounds-items-offsets : goal.offset_bounds-items-offsets
offset_bounds-items-offsets g c =
    let within : offset c.args.offsets.now (c.loop-place.place - 1) ≤ length c.loop-place.items =
    omega (arith, rises_to c.args.offsets.now (length c.args.offsets.now) (c.loop-place.place - 1) (length c.args.offsets.now - 1) c.requires.order (omega (arith, c.loop-place-test.true)) (omega (arith, c.loop-place-test.true)), c.requires.last, c.loop-place.auto.items) in
    search (rules, within)

pub slice_bounds-sort_rest-end : goal.slice_bounds-sort_rest-end
slice_bounds-sort_rest-end g c =
    let within : offset c.args.offsets.now c.loop-place.place ≤ length c.loop-place.items =
    omega (arith, rises_to c.args.offsets.now (length c.args.offsets.now) c.loop-place.place (length c.args.offsets.now - 1) c.requires.order (omega (arith, c.loop-place-test.true)) (omega (arith, c.loop-place-test.true)), c.requires.last, c.loop-place.auto.items) in
    search (rules, within)

pub loop-place-preserved : goal.loop-place-preserved
loop-place-preserved g c =
    let sorted = IsSorted g.T.Ord.cmp in
    let offsets = c.args.offsets.now in
    let place = c.loop-place.place in
    let old = c.loop-place.items in
    let ys = c.sort_rest.new.list in
    let a = offset offsets (place - 1) in
    let b = offset offsets place in
    let some = c.loop-place.auto.place in
    let count : place + 1 - 1 ≡ place = omega arith in
    let up : a ≤ b = rises_to offsets (length offsets) (place - 1) place c.requires.order (omega arith) c.loop-place-test.true in
    let last = rises_to offsets (length offsets) place (length offsets - 1) c.requires.order (omega (arith, c.loop-place-test.true)) (omega (arith, c.loop-place-test.true)) in
    let within : b ≤ length old = omega (arith, last, c.requires.last, c.loop-place.auto.items) in
    let long : length ys ≡ b - a = c.sort_rest.ensures.len ∙ length-take-le (b - a) (drop a old) (omega (arith, length-drop a old, up, within)) in
    record {
      each = change_more (SortsRest sorted) c.args.items.now old _ offsets place c.requires.order (omega (arith, some)) c.loop-place-test.true c.loop-place.invariant.each c.loop-place.invariant.behind
          (take-put_mid_below a (b - a) old ys a (omega arith) (omega (arith, up, within)))
          (subst (SortsRest sorted (slice_range old a b)) (sym (between-put_mid a (b - a) old ys b (omega (arith, up, within)) long)) c.sort_rest.ensures.sorted);
      before = take-put_mid_below a (b - a) old ys (offset offsets 0) (rises_to offsets (length offsets) 0 (place - 1) c.requires.order (omega arith) (omega (arith, some, c.loop-place-test.true))) (omega (arith, up, within)) ∙ c.loop-place.invariant.before;
      behind = rw count (drop-put_mid a (b - a) old ys b (omega (arith, up)) (omega (arith, up, within)) long ∙ same_further old c.args.items.now a b up c.loop-place.invariant.behind);
    }

pub returns-clause-sorted : goal.returns-clause-sorted
returns-clause-sorted g c =
    let offsets = c.args.offsets.now in
    let inv = c.loop-place.invariant in
    let same : c.loop-place.place ≡ length offsets = omega (arith, c.loop-place-test.false, c.loop-place.auto.place-end, c.requires.some) in
    record {
      each = zip_from (SortsRest (IsSorted g.T.Ord.cmp)) (nth_contour c.args.items.now offsets) (nth_contour c.loop-place.items offsets) 0 (length offsets - 1) (λ k low high. inv.each k (omega (arith, high, same)));
      before = inv.before;
      behind = subst (λ n. drop (offset offsets (n - 1)) c.loop-place.items ≡ drop (offset offsets (n - 1)) c.args.items.now) same inv.behind;
    }
