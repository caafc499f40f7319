use Rattle.std.proofs.Common.{◌≡◌, ◌+◌, ◌<◌, ◌++◌, ◌∙◌, [], ◌∷◌, length, map, take, length-append, set, ap, sym, subst, arith}
use Rattle.std.proofs.lemmas.List.{map_more, length-map, length-take-le, length-set}
use Rattle.i_shape.specs.Paths.{concatenated}
use Rattle.i_shape_c.specs.Polygons.{offsets_of}
use Rattle.i_shape_c.specs.Steps.Appended.{IsPut}
use Rattle.i_shape_c.proofs.Appended.{put_more, put_one, length-offsets}
use Rattle.i_shape_c.proofs.Nested.{offsets_more, list_more, list_fits}
use Rattle.i_shape_c.proofs.lists.write_lists.Goals as goal

pub write_at-end-requires : goal.write_at-end-requires
write_at-end-requires g c =
    let item = c.index-lists-place.result in
    let fits = list_fits (λ list. list.now) c.args.lists.now c.loop-place.place item c.loop-place-test.true in
    let is = ap (λ b. length b.now) c.index-lists-place.is in
    omega (arith, fits, is, c.loop-place.invariant.end, c.requires.room, c.loop-place.auto.out)

pub loop-place-preserved : goal.loop-place-preserved
loop-place-preserved g c =
    let place = c.loop-place.place in
    let lists = c.args.lists.now in
    let inv = c.loop-place.invariant in
    let item = c.index-lists-place.result in
    let front = map (λ list. list.now) (take place lists) in
    let list = item.now in
    let end = c.write_at-end.result in
    let more : map (λ list. list.now) (take (place + 1) lists) ≡ front ++ (list ∷ []) = map_more (λ list. list.now) lists place item c.loop-place-test.true ∙ ap (λ b. front ++ (b.now ∷ [])) (sym c.index-lists-place.is) in
    let items : concatenated (front ++ (list ∷ [])) ≡ concatenated front ++ list = list_more front list in
    let many : length front ≡ place = length-map (take place lists) (λ list. list.now) ∙ length-take-le place lists (omega (arith, c.loop-place-test.true)) in
    let old = c.loop-place.offsets in
    let last = 0 + length (concatenated front) + length list in
    let value : last ≡ end = omega (arith, inv.end, c.write_at-end.ensures.end) in
    let room : place + 1 < length c.loop-place.offsets = omega (arith, c.loop-place-test.true, c.requires.offsets_room, c.loop-place.auto.offsets, length-set c.args.offsets.now 0 0) in
    record {
      end = rw (more, items) (omega (arith, value, length-append (concatenated front) list));
      items = rw (more, items) (put_more 0 c.loop-place.end (concatenated front) list c.args.out.now c.loop-place.out c.write_at-end.new.out inv.items c.write_at-end.ensures.put (omega (arith, inv.end)) (omega arith));
      offsets = rw (more, offsets_more 0 front list) (put_more 0 (place + 1) (offsets_of 0 front) (last ∷ []) c.args.offsets.now old (set old (place + 1) end) inv.offsets
          (subst (λ w. IsPut (place + 1) (w ∷ []) old (set old (place + 1) end)) (sym value) (put_one old (place + 1) end room)) (omega (arith, length-offsets 0 front, many)) (omega arith));
    }
