use Rattle.std.proofs.Common.{rules, ◌∙◌, ◌<◌, ℤ, List, length, get_or, ap, arith, pos, w64}
use Rattle.std.proofs.lemmas.Int.{to_z-of_z}
use Rattle.std.proofs.lemmas.List.{get_or-map}
use Rattle.i_shape_core.specs.Point.{origin}
use Rattle.i_shape_core.specs.Heights.{asked_points}
use Rattle.i_shape_core.proofs.Sums.Heights.{asked-length, write-more, write-rest, write-all, room-for}
use Rattle.i_shape_core.proofs.measure.heights.write_totals.Goals as goal

pub loop-at-preserved : goal.loop-at-preserved
loop-at-preserved g c =
    let value = g.I.IntNumber.value in
    let asked = c.args.asked.now in
    let q = c.index-asked-at.result in
    let k = c.loop-at.at in
    let inside = c.loop-at-test.true in
    let known = c.loop-at.invariant in
    let same = known.room in
    let room : q.place < length c.loop-at.out = rw (same, c.index-asked-at.is) (c.requires.within k q inside) in
    let sum = to_z-of_z w64 (get_or c.args.totals.now k (pos 0)) (c.requires.fit k) in
    record {
      room = search rules;
      told = λ points f moved total j d h.
          write-more value points f asked moved c.loop-at.out k q _ inside c.index-asked-at.is room (sum ∙ ap (λ (ts : List ℤ). get_or ts k (pos 0)) total ∙ get_or-map f (asked_points value asked) k origin (pos 0) (omega (arith, inside, asked-length value asked))) (known.told points f moved total) j d h;
      rest = λ points moved i past. write-rest value points (λ p. pos 0) asked moved c.loop-at.out c.args.out.now k q _ inside c.index-asked-at.is (known.rest points moved) i past;
    }

pub returns : goal.returns
returns g c =
    let value = g.I.IntNumber.value in
    let known = c.loop-at.invariant in
    let asked = c.args.asked.now in
    record {
      written = λ points f moved total. write-all value points f asked moved c.loop-at.out c.args.out.now c.loop-at.at c.loop-at-test.false known.room
          (room-for value points f asked moved (length c.args.out.now) c.requires.within) (known.told points f moved total) (known.rest points moved);
    }
