use Rattle.std.proofs.Common.{◌≡◌, ◌<◌, ◌+◌, ◌-◌, ◌/◌, ◌∙◌, length, arith, sym, ap, true, false, get_or}
use Rattle.i_shape_core.proofs.Common.{point_of, Point, is_above, point_at}
use Rattle.i_shape_core.specs.Heights.{asked_points}
use Rattle.i_shape_core.proofs.Arithmetic.Comparisons.{gt-tells}
use Rattle.i_shape_core.proofs.Sums.Heights.{asked-length, asked-read, rise-above, still_above}
use Rattle.i_shape_core.proofs.measure.heights.place_of.Goals as goal

pub loop-low-preserved-then-gt : goal.loop-low-preserved-then-gt
loop-low-preserved-then-gt g c =
    let value = g.I.IntNumber.value in
    let qs = c.args.asked.now in
    let ps = asked_points value qs in
    let b = point_of value c.args.start in
    let low = c.loop-low.low in
    let high = c.loop-low.high in
    let k = low + (high - low) / 2 in
    let known = c.loop-low.invariant in
    let inside = known.within in
    let open_ = c.loop-low-test.true in
    let early : k < high = omega (arith, open_) in
    let within : k < length qs = omega (arith, early, inside) in
    let many = asked-length value qs in
    let d = c.index-asked-middle.result in
    let read = asked-read value qs k d within in
    let told = gt-tells _ _ (value c.args.start.y) (value (get_or qs k d).point.y) c.gt.ensures (g.met.I.IntNumber.partial_order _ _) in
    let one : is_above (point_at ps k) b ≡ true = ap (λ (p : Point). is_above p b) read ∙ sym told ∙ c.if-gt.true in
    record {
      order = omega (arith, early);
      within = inside;
      below = λ j h. still_above (point_at ps j) (point_at ps k) b (c.requires.rises j k (omega (arith, h)) (omega (arith, within, many))) one;
      above = known.above;
    }

pub loop-low-preserved : goal.loop-low-preserved
loop-low-preserved g c =
    let value = g.I.IntNumber.value in
    let qs = c.args.asked.now in
    let ps = asked_points value qs in
    let b = point_of value c.args.start in
    let low = c.loop-low.low in
    let high = c.loop-low.high in
    let k = low + (high - low) / 2 in
    let known = c.loop-low.invariant in
    let inside = known.within in
    let open_ = c.loop-low-test.true in
    let early : k < high = omega (arith, open_) in
    let within : k < length qs = omega (arith, early, inside) in
    let d = c.index-asked-middle.result in
    let read = asked-read value qs k d within in
    let told = gt-tells _ _ (value c.args.start.y) (value (get_or qs k d).point.y) c.gt.ensures (g.met.I.IntNumber.partial_order _ _) in
    let one : is_above (point_at ps k) b ≡ false = ap (λ (p : Point). is_above p b) read ∙ sym told ∙ c.if-gt.false in
    record {
      order = omega (arith);
      within = omega (arith, within);
      below = known.below;
      above = rise-above ps b k c.requires (λ _. one);
    }
