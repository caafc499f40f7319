use Rattle.std.proofs.Common.{rules, ◌≡◌, ◌∙◌, arith, sym, refl, ap, true, false, pos, FitsSigned, w64, get_or}
use Rattle.i_shape_core.proofs.Common.{point_of, Point, is_above, point_at, winding_of_edge}
use Rattle.i_shape_core.specs.Heights.{asked_points}
use Rattle.i_shape_core.proofs.Arithmetic.Comparisons.{gt-tells}
use Rattle.i_shape_core.proofs.Plane.CrossProducts.{edge}
use Rattle.i_shape_core.proofs.Sums.Heights.{asked-length, asked-read, asked-safe, lifted, written, still_fit, rise-first, rise-below, rise-done, rise-left, rise-above, risen}
use Rattle.i_shape_core.proofs.measure.heights.rise.Goals as goal

pub loop-place-init : goal.loop-place-init
loop-place-init g c =
    let value = g.I.IntNumber.value in
    let ps = asked_points value c.args.asked.now in
    let a = point_of value c.args.start in
    let b = point_of value c.args.end in
    let here = c.requires.here in
    let inside = here.within in
    record {
      room = c.requires.room;
      fit = c.requires.fit;
      later = omega arith;
      within = omega (arith, inside, asked-length value c.args.asked.now);
      below = λ j h. lifted (point_at ps j) a b c.requires.up (here.below j h);
      done = rise-first ps a b c.args.from c.args.totals.now c.requires.up here;
      left = λ j h. refl;
    }

pub turn_of_rise-turn-requires-clause-point_safe : goal.turn_of_rise-turn-requires-clause-point_safe
turn_of_rise-turn-requires-clause-point_safe g c =
    asked-safe g.I.IntNumber.width g.I.IntNumber.value c.args.asked.now c.loop-place.place c.index-asked-place-in-loop-place.result c.requires.asked_safe c.loop-place-test.true

pub turn_of_rise-turn-requires-clause-starts : goal.turn_of_rise-turn-requires-clause-starts
turn_of_rise-turn-requires-clause-starts g c =
    let value = g.I.IntNumber.value in
    let qs = c.args.asked.now in
    let within = c.loop-place-test.true in
    let many = asked-length value qs in
    ap (λ (p : Point). is_above p (point_of value c.args.start)) (sym (asked-read value qs c.loop-place.place c.index-asked-place-in-loop-place.result within))
    ∙ c.requires.here.above c.loop-place.place c.loop-place.invariant.later (omega (arith, within, many))

pub turn_of_rise-turn-requires-clause-ends : goal.turn_of_rise-turn-requires-clause-ends
turn_of_rise-turn-requires-clause-ends g c =
    let value = g.I.IntNumber.value in
    let qs = c.args.asked.now in
    let k = c.loop-place.place in
    let within = c.loop-place-test.true in
    let d = c.index-asked-place.result in
    let told = gt-tells _ _ (value c.args.end.y) (value (get_or qs k d).point.y) c.gt.ensures (g.met.I.IntNumber.partial_order _ _) in
    ap (λ (p : Point). is_above p (point_of value c.args.end)) (sym (asked-read value qs k c.index-asked-place-in-loop-place.result within) ∙ asked-read value qs k d within) ∙ sym told ∙ c.if-gt.true

pub loop-place-preserved : goal.loop-place-preserved
loop-place-preserved g c =
    let value = g.I.IntNumber.value in
    let qs = c.args.asked.now in
    let ps = asked_points value qs in
    let a = point_of value c.args.start in
    let b = point_of value c.args.end in
    let k = c.loop-place.place in
    let known = c.loop-place.invariant in
    let within = c.loop-place-test.true in
    let later = known.later in
    let room = known.room in
    let d = c.index-asked-place.result in
    let read = asked-read value qs k d within in
    let read-again = asked-read value qs k c.index-asked-place-in-loop-place.result within in
    let told = gt-tells _ _ (value c.args.end.y) (value (get_or qs k d).point.y) c.gt.ensures (g.met.I.IntNumber.partial_order _ _) in
    let one : is_above (point_at ps k) b ≡ true = ap (λ (p : Point). is_above p b) read ∙ sym told ∙ c.if-gt.true in
    let f = λ (p : Point). winding_of_edge p (edge a b) in
    let added : c.turn_of_rise-turn.result ≡ f (point_at ps k) = c.turn_of_rise-turn.ensures ∙ ap f (sym read-again) in
    let fits : FitsSigned w64 c.plus.result = record { sfits = c.plus.type_inv } in
    let small : FitsSigned w64 c.turn_of_rise-turn.result = record { sfits = c.turn_of_rise-turn.type_inv } in
    let sum = written (get_or c.loop-place.totals k (pos 0)) c.plus.result c.turn_of_rise-turn.result (f (point_at ps k)) (known.fit k) fits small added c.plus.ensures in
    record {
      room = search rules;
      fit = still_fit c.loop-place.totals k c.plus.result (omega (arith, within, room)) fits known.fit;
      later = omega (arith, later);
      within = omega (arith, within);
      below = rise-below ps b k known.below one;
      done = rise-done ps f c.args.totals.now c.loop-place.totals k _ (omega (arith, within, room)) known.done known.left sum;
      left = rise-left c.args.totals.now c.loop-place.totals k _ known.left;
    }

pub returns-else-gt : goal.returns-else-gt
returns-else-gt g c =
    let value = g.I.IntNumber.value in
    let qs = c.args.asked.now in
    let ps = asked_points value qs in
    let a = point_of value c.args.start in
    let b = point_of value c.args.end in
    let k = c.loop-place.place in
    let known = c.loop-place.invariant in
    let within = c.loop-place-test.true in
    let many = asked-length value qs in
    let read = asked-read value qs k c.index-asked-place.result within in
    let told = gt-tells _ _ (value c.args.end.y) (value (get_or qs k c.index-asked-place.result).point.y) c.gt.ensures (g.met.I.IntNumber.partial_order _ _) in
    let one : is_above (point_at ps k) b ≡ false = ap (λ (p : Point). is_above p b) read ∙ sym told ∙ c.if-gt.false in
    let above = rise-above ps b k c.requires.rising (λ _. one) in
    record {
      here = record { within = omega (arith, within, many); below = known.below; above = above };
      room = search rules;
      fit = known.fit;
      added = risen ps a b c.args.from k c.args.totals.now c.loop-place.totals known.later c.requires.here known.done known.left above;
    }

pub returns-after-loop-place : goal.returns-after-loop-place
returns-after-loop-place g c =
    let value = g.I.IntNumber.value in
    let qs = c.args.asked.now in
    let ps = asked_points value qs in
    let a = point_of value c.args.start in
    let b = point_of value c.args.end in
    let k = c.loop-place.place in
    let known = c.loop-place.invariant in
    let past = c.loop-place-test.false in
    let many = asked-length value qs in
    let inside = known.within in
    let above = rise-above ps b k c.requires.rising (λ h. absurd (omega (arith, h, past, many))) in
    record {
      here = record { within = omega (arith, inside, many); below = known.below; above = above };
      room = search rules;
      fit = known.fit;
      added = risen ps a b c.args.from k c.args.totals.now c.loop-place.totals known.later c.requires.here known.done known.left above;
    }
