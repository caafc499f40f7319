use Rattle.std.proofs.Common.{◌≡◌, ◌+◌, ◌-◌, ◌++◌, ◌∙◌, [], ◌∷◌, length, map, slice_range, ap, ap₂, sym, arith}
use Rattle.std.specs.List.{range_with_len}
use Rattle.std.proofs.lemmas.List.{map-append}
use Rattle.std.proofs.lemmas.List.FromFn.{map-range_with_len_more}
use Rattle.i_shape_c.specs.Batch.{offset, nth_contour}
use Rattle.i_shape_core.proofs.Lists.Rings.{rises_to}
use Rattle.i_shape_c.proofs.lists.slices.Goals as goal

pub part-requires-clause-within : goal.part-requires-clause-within
part-requires-clause-within g c =
    let up = rises_to c.args.offsets.now (length c.args.offsets.now) c.loop-place.place (length c.args.offsets.now - 1) c.requires.order (omega (arith, c.loop-place-test.true)) (omega (arith, c.loop-place-test.true)) in
    omega (arith, up, c.requires.last)

pub loop-place-preserved : goal.loop-place-preserved
loop-place-preserved g c =
    let items = c.args.items.now in
    let offsets = c.args.offsets.now in
    let k = c.loop-place.place - 1 in
    let f = nth_contour items offsets in
    let next : k + 1 ≡ c.loop-place.place = omega (arith, c.loop-place.auto.place) in
    let count : k + 1 ≡ c.loop-place.place + 1 - 1 = omega (arith, next) in
    let is : c.part.result.now ≡ f k = c.part.ensures.part ∙ ap (λ j. slice_range items (offset offsets k) (offset offsets j)) (sym next) in
    ap (map (λ list. list.now)) c.in_ok-push.ensures.items ∙ map-append (λ list. list.now) c.loop-place.lists.items (c.part.result ∷ [])
    ∙ ap₂ (λ a b. a ++ (b ∷ [])) c.loop-place.invariant is
    ∙ sym (map-range_with_len_more f 0 k k (omega arith)) ∙ ap (λ n. map f (range_with_len 0 n)) count
