use Rattle.std.proofs.Common.{◌≡◌, length, arith, refl}
use Rattle.i_shape_c.proofs.Batches.{read_more, bad_back}
use Rattle.i_shape_c.proofs.places.first_bad_offset.Goals.{then-offset-before-via-then-offset-before, then-offset-before-via-else-offset-before+then-offset-points}
use Rattle.i_shape_c.proofs.places.first_bad_offset.Goals as goal

pub loop-place-init : goal.loop-place-init
loop-place-init c = record {
  good = record { order = λ k less. absurd (omega (arith, less)); most = λ k less. absurd (omega (arith, less)) };
  start = λ none. refl;
  last = λ k is. absurd (omega (arith, is));
}

pub returns-then-offset-before : goal.returns-then-offset-before
returns-then-offset-before c = record {
  within = omega (arith, c.loop-place-test.true);
  before = c.loop-place.invariant.good;
  here = λ less good. elim c.then-offset-before.branch [
    | then-offset-before-via-then-offset-before w ↦ bad_back c.args.points c.args.offsets.now c.loop-place.place c.loop-place.before c.loop-place.invariant w.if-offset-before.true good
    | then-offset-before-via-else-offset-before+then-offset-points w ↦ let most = good.most c.loop-place.place (omega arith) in omega (arith, most, w.if-offset-points.true)
  ];
}

pub loop-place-preserved : goal.loop-place-preserved
loop-place-preserved c = read_more c.args.points c.args.offsets.now c.loop-place.place c.loop-place.before c.loop-place.invariant c.if-offset-before.false c.if-offset-points.false

pub returns : goal.returns
returns c =
    let all : c.loop-place.place ≡ length c.args.offsets.now = omega (arith, c.loop-place-test.false, c.loop-place.auto.place-end) in
    record { within = omega arith; before = rw all at c.loop-place.invariant.good; here = λ less. absurd (omega (arith, less)) }
