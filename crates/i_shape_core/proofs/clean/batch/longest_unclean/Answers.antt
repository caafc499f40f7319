use Rattle.std.proofs.Common.{◌≡◌, ◌+◌, ◌-◌, ◌<◌, sym, subst, length, arith}
use Rattle.i_shape_core.specs.Reading.{read}
use Rattle.i_shape_core.specs.Rings.{nth_ring, LongestUncleanRing}
use Rattle.i_shape_core.proofs.Lists.Rings.{rises_to, clean_more, unclean_more}
use Rattle.i_shape_core.proofs.Walks.StackReads.{fails_by_test}
use Rattle.i_shape_core.proofs.clean.batch.longest_unclean.Goals as goal
use Rattle.i_shape_core.proofs.clean.batch.longest_unclean.Goals.{then-not-is_clean, else-not-is_clean}

pub part-ring-requires-clause-within : goal.part-ring-requires-clause-within
part-ring-requires-clause-within g c =
    let up = rises_to c.args.offsets.now (length c.args.offsets.now) c.loop-place.place (length c.args.offsets.now - 1) c.requires.parted.order (omega (arith, c.loop-place-test.true)) (omega (arith, c.loop-place-test.true)) in
    omega (arith, up, c.requires.parted.last)

pub is_clean-requires : goal.is_clean-requires
is_clean-requires g c =
    let next : c.loop-place.place - 1 + 1 ≡ c.loop-place.place = omega arith in
    rw (c.part-ring.ensures.part) (rw next at (c.requires.points_safe (c.loop-place.place - 1) (omega (arith, c.loop-place-test.true))))

pub loop-place-preserved : goal.loop-place-preserved
loop-place-preserved g c =
    let reading = read g.P.Coordinate.IntNumber.value g.P.ContourPoint.points in
    let IsClean = g.C.ContourCleaner.meaning.clean in
    let place = c.loop-place.place in
    let some : 0 < place = omega arith in
    let next : place - 1 + 1 ≡ place = omega arith in
    let ring : nth_ring c.args.points.now c.args.offsets.now (place - 1) ≡ c.part-ring.result.now = rw next (sym c.part-ring.ensures.part) in
    elim c.if-not-is_clean.branch [
      | then-not-is_clean w ↦ (
          let more = unclean_more IsClean reading c.args.points.now c.args.offsets.now place c.loop-place.longest some c.loop-place.invariant (rw ring (fails_by_test c.is_clean.result c.is_clean.ensures w.if-not-is_clean.true)) in
          rw (w.longest-is, w.max.ensures, w.unwrap_or.ensures) (rw ring at more))
      | else-not-is_clean w ↦ rw w.longest-is (clean_more IsClean reading c.args.points.now c.args.offsets.now place c.loop-place.longest some c.loop-place.invariant (rw ring (c.is_clean.ensures.0 w.if-not-is_clean.false)))
    ]

pub returns : goal.returns
returns g c =
    let end : c.loop-place.place ≡ length c.args.offsets.now = omega (arith, c.loop-place-test.false, c.loop-place.auto.place-end (omega (arith, c.requires.parted.some))) in
    subst (λ n. LongestUncleanRing g.C.ContourCleaner.meaning.clean (read g.P.Coordinate.IntNumber.value g.P.ContourPoint.points) c.args.points.now c.args.offsets.now n c.loop-place.longest) end c.loop-place.invariant
