use Rattle.std.proofs.Common.{◌<◌, ◌+◌, ◌-◌, ◌/◌, length, arith, get_or, int_lt, sym, ap, ◌∙◌, ◌≡◌}
use Rattle.i_shape_core.proofs.Common.{point_at}
use Rattle.i_shape_core.specs.Heights.{asked_points}
use Rattle.i_shape_core.proofs.Arithmetic.Comparisons.{gt-tells}
use Rattle.i_shape_core.proofs.Sums.Heights.{asked-length, asked-read}
use Rattle.i_shape_c.proofs.Marked.{still_low}
use Rattle.i_shape_c.proofs.edges.first_from.Goals as goal

pub loop-low-preserved-then-gt : goal.loop-low-preserved-then-gt
loop-low-preserved-then-gt g c =
    let value = g.I.IntNumber.value in
    let qs = c.args.asked.now in
    let ps = asked_points value qs in
    let low = c.loop-low.low in
    let high = c.loop-low.high in
    let k = low + (high - low) / 2 in
    let known = c.loop-low.invariant in
    let inside = known.within in
    let open_ = c.loop-low-test.true in
    let early : k < high = omega (arith, open_) in
    let within : k < length qs = omega (arith, early, inside) in
    let many = asked-length value qs in
    let d = c.index-asked-middle.result in
    let read : (point_at ps k).y ≡ value (get_or qs k d).point.y = ap (λ p. p.y) (asked-read value qs k d within) in
    let told = gt-tells _ _ (value c.args.height) (value (get_or qs k d).point.y) c.gt.ensures (g.met.I.IntNumber.partial_order _ _) in
    record {
      order = omega (arith, early);
      within = inside;
      below = λ j h. still_low _ (point_at ps j).y (point_at ps k).y (value c.args.height) (told ∙ ap (λ z. int_lt z (value c.args.height)) (sym read)) c.if-gt.true (c.requires.rises j k (omega (arith, h)) (omega (arith, within, many)));
    }

pub loop-low-preserved : goal.loop-low-preserved
loop-low-preserved g c =
    let known = c.loop-low.invariant in
    let inside = known.within in
    let open_ = c.loop-low-test.true in
    record {
      order = omega (arith);
      within = omega (arith, open_, inside);
      below = known.below;
    }
