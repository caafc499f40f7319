use Rattle.std.proofs.Common.{arith, ◌≡◌, ◌+◌, ◌<◌, ◌≤◌, ◌-◌, ◌∙◌, length, length-set}
use Rattle.i_shape_core.specs.Reading.{read}
use Rattle.i_shape_core.specs.Rings.{offset, CleansRing}
use Rattle.i_shape_core.proofs.Lists.Rings.{back_more, rises_to, same_further, done_more, all_done}
use Rattle.i_shape_core.proofs.clean.batch.clean_rings.Goals as goal

pub part-ring-requires-clause-within : goal.part-ring-requires-clause-within
part-ring-requires-clause-within g c =
    let up = rises_to c.args.offsets.now (length c.args.offsets.now) c.loop-place.place (length c.args.offsets.now - 1) c.requires.parted.order (omega (arith, c.loop-place-test.true)) (omega (arith, c.loop-place-test.true)) in
    omega (arith, up, c.requires.parted.last)

pub clean_at-written-requires-clause-points_safe : goal.clean_at-written-requires-clause-points_safe
clean_at-written-requires-clause-points_safe g c =
    let next : c.loop-place.place - 1 + 1 ≡ c.loop-place.place = omega arith in
    rw (c.part-ring.ensures.part) (rw next at (c.requires.points_safe (c.loop-place.place - 1) (omega (arith, c.loop-place-test.true))))

pub clean_at-written-requires-clause-clean : goal.clean_at-written-requires-clause-clean
clean_at-written-requires-clause-clean g c =
    let next : c.loop-place.place - 1 + 1 ≡ c.loop-place.place = omega arith in
    rw (c.part-ring.ensures.part) (λ all. rw next at (c.requires.clean all (c.loop-place.place - 1) (omega (arith, c.loop-place-test.true))))

pub clean_at-written-requires-clause-reserved : goal.clean_at-written-requires-clause-reserved
clean_at-written-requires-clause-reserved g c =
    let next : c.loop-place.place - 1 + 1 ≡ c.loop-place.place = omega arith in
    let reserved = rw next at (c.requires.reserved (c.loop-place.place - 1) (omega (arith, c.loop-place-test.true))) in
    rw (c.part-ring.ensures.part) (λ unclean. c.loop-place.invariant.keeps_room _ (reserved unclean))

pub clean_at-written-requires-clause-room : goal.clean_at-written-requires-clause-room
clean_at-written-requires-clause-room g c =
    let up = rises_to c.args.offsets.now (length c.args.offsets.now) c.loop-place.place (length c.args.offsets.now - 1) c.requires.parted.order (omega (arith, c.loop-place-test.true)) (omega (arith, c.loop-place-test.true)) in
    omega (arith, up, c.requires.parted.last, c.requires.room, c.loop-place.invariant.points, c.loop-place.invariant.done.fewer, c.part-ring.ensures.len)

pub loop-place-preserved : goal.loop-place-preserved
loop-place-preserved g c =
    let done = c.loop-place.invariant.done in
    let clean = c.clean_at-written.ensures in
    let end = c.clean_at-written.result in
    let room : c.loop-place.place < length c.loop-place.out_offsets = omega (arith, c.loop-place-test.true, c.requires.offsets_room, c.loop-place.invariant.offsets) in
    let under : end ≤ offset c.args.offsets.now c.loop-place.place = omega (arith, clean.under, c.part-ring.ensures.len, done.fewer) in
    record {
      points = clean.len ∙ c.loop-place.invariant.points;
      offsets = length-set c.loop-place.out_offsets c.loop-place.place end ∙ c.loop-place.invariant.offsets;
      points_rest = clean.after ∙ same_further c.loop-place.out c.args.out.now c.loop-place.written end clean.above c.loop-place.invariant.points_rest;
      offsets_rest = back_more c.loop-place.out_offsets c.args.out_offsets.now c.loop-place.place _ end (omega arith) c.loop-place.invariant.offsets_rest;
      done = done_more (CleansRing g.C.ContourCleaner.meaning g.P.Coordinate.IntNumber.width (read g.P.Coordinate.IntNumber.value g.P.ContourPoint.points)) c.args.points.now c.args.offsets.now c.loop-place.out c.clean_at-written.new.out c.loop-place.out_offsets
          c.loop-place.place c.loop-place.written end done room clean.above under clean.before (rw (c.part-ring.ensures.part) at clean.left);
      keeps_room = λ n had. clean.keeps_room n (c.loop-place.invariant.keeps_room n had);
    }

pub returns-clause-cleaned : goal.returns-clause-cleaned
returns-clause-cleaned g c =
    all_done (CleansRing g.C.ContourCleaner.meaning g.P.Coordinate.IntNumber.width (read g.P.Coordinate.IntNumber.value g.P.ContourPoint.points)) c.args.points.now c.args.offsets.now c.args.out.now c.loop-place.out c.args.out_offsets.now c.loop-place.out_offsets
    c.loop-place.place c.loop-place.written c.loop-place-test.false (c.loop-place.auto.place-end (omega (arith, c.requires.parted.some))) c.requires.parted.last c.loop-place.invariant.done
    c.loop-place.invariant.points_rest c.loop-place.invariant.offsets_rest
