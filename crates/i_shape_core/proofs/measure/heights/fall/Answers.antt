use Rattle.std.proofs.Common.{rules, not, ◌≡◌, ◌<◌, ◌+◌, ◌-◌, ◌∙◌, ℤ, Bool, Option, Some, cond, int_lt, Ordering, Less, Equal, Greater, length, arith, sym, refl, ap, true, false, pos, FitsSigned, w64, get_or}
use Rattle.std.specs.Ordering.{int_cmp, is_le, is_some_and}
use Rattle.std.proofs.lemmas.Int.{ints}
use Rattle.i_shape_core.proofs.Common.{point_of, Point, is_above, point_at, winding_of_edge}
use Rattle.i_shape_core.specs.Heights.{asked_points}
use Rattle.i_shape_core.proofs.Plane.CrossProducts.{edge}
use Rattle.i_shape_core.proofs.Sums.Heights.{asked-length, asked-read, asked-safe, lowered, written, still_fit, fall-first, fall-above, fall-done, fall-left, fall-below, fallen}
use Rattle.i_shape_core.proofs.measure.heights.fall.Goals as goal

at-most-cases : (x y : ℤ) (s t : Bool) → int_lt x y ≡ s → int_lt y x ≡ t → t ≡ not (is_le (cond s Less (cond t Greater Equal)))
at-most-cases x y true true e f = absurd (omega (arith, ints))
at-most-cases x y true false e f = refl
at-most-cases x y false true e f = refl
at-most-cases x y false false e f = refl

-- `x <= y` is false exactly if y is less
at-most-tells : (b : Bool) (p : Option Ordering) (x y : ℤ) → b ≡ is_some_and is_le p → p ≡ Some (int_cmp x y) → int_lt y x ≡ not b
at-most-tells b p x y e f = at-most-cases x y (int_lt x y) (int_lt y x) refl refl ∙ ap not (sym (e ∙ ap (is_some_and is_le) f))

pub loop-place-init : goal.loop-place-init
loop-place-init g c =
    let value = g.I.IntNumber.value in
    let ps = asked_points value c.args.asked.now in
    let a = point_of value c.args.start in
    let b = point_of value c.args.end in
    let here = c.requires.here in
    let inside = here.within in
    record {
      room = c.requires.room;
      fit = c.requires.fit;
      sooner = omega arith;
      within = omega (arith, inside, asked-length value c.args.asked.now);
      above = λ j h within. lowered (point_at ps j) a b c.requires.down (here.above j h within);
      done = fall-first ps a b c.args.from c.args.totals.now c.requires.down here;
      left = λ j h. refl;
    }

pub turn_of_fall-turn-requires-clause-point_safe : goal.turn_of_fall-turn-requires-clause-point_safe
turn_of_fall-turn-requires-clause-point_safe g c =
    let inside = c.loop-place.invariant.within in
    asked-safe g.I.IntNumber.width g.I.IntNumber.value c.args.asked.now (c.loop-place.place - 1) c.index-asked-place-in-loop-place.result c.requires.asked_safe (omega (arith, inside, c.loop-place-test.true))

pub turn_of_fall-turn-requires-clause-starts : goal.turn_of_fall-turn-requires-clause-starts
turn_of_fall-turn-requires-clause-starts g c =
    let value = g.I.IntNumber.value in
    let qs = c.args.asked.now in
    let i = c.loop-place.place - 1 in
    let some = c.loop-place-test.true in
    let inside = c.loop-place.invariant.within in
    let sooner = c.loop-place.invariant.sooner in
    let within : i < length qs = omega (arith, inside, some) in
    ap (λ (p : Point). is_above p (point_of value c.args.start)) (sym (asked-read value qs i c.index-asked-place-in-loop-place.result within))
    ∙ c.requires.here.below i (omega (arith, sooner, some))

pub turn_of_fall-turn-requires-clause-ends : goal.turn_of_fall-turn-requires-clause-ends
turn_of_fall-turn-requires-clause-ends g c =
    let value = g.I.IntNumber.value in
    let qs = c.args.asked.now in
    let i = c.loop-place.place - 1 in
    let some = c.loop-place-test.true in
    let inside = c.loop-place.invariant.within in
    let within : i < length qs = omega (arith, inside, some) in
    let d = c.index-asked-place.result in
    let told = at-most-tells _ _ (value c.args.end.y) (value (get_or qs i d).point.y) c.le.ensures (g.met.I.IntNumber.partial_order _ _) in
    ap (λ (p : Point). is_above p (point_of value c.args.end)) (sym (asked-read value qs i c.index-asked-place-in-loop-place.result within) ∙ asked-read value qs i d within) ∙ told ∙ ap not c.if-le.true

pub loop-place-preserved : goal.loop-place-preserved
loop-place-preserved g c =
    let value = g.I.IntNumber.value in
    let qs = c.args.asked.now in
    let ps = asked_points value qs in
    let a = point_of value c.args.start in
    let b = point_of value c.args.end in
    let k = c.loop-place.place in
    let i = k - 1 in
    let known = c.loop-place.invariant in
    let some = c.loop-place-test.true in
    let sooner = known.sooner in
    let room = known.room in
    let inside = known.within in
    let within : i < length qs = omega (arith, inside, some) in
    let next : k ≡ i + 1 = omega (arith, some) in
    let d = c.index-asked-place.result in
    let read = asked-read value qs i d within in
    let read-again = asked-read value qs i c.index-asked-place-in-loop-place.result within in
    let told = at-most-tells _ _ (value c.args.end.y) (value (get_or qs i d).point.y) c.le.ensures (g.met.I.IntNumber.partial_order _ _) in
    let one : is_above (point_at ps i) b ≡ false = ap (λ (p : Point). is_above p b) read ∙ told ∙ ap not c.if-le.true in
    let f = λ (p : Point). winding_of_edge p (edge a b) in
    let added : c.turn_of_fall-turn.result ≡ f (point_at ps i) = c.turn_of_fall-turn.ensures ∙ ap f (sym read-again) in
    let fits : FitsSigned w64 c.plus.result = record { sfits = c.plus.type_inv } in
    let small : FitsSigned w64 c.turn_of_fall-turn.result = record { sfits = c.turn_of_fall-turn.type_inv } in
    let sum = written (get_or c.loop-place.totals i (pos 0)) c.plus.result c.turn_of_fall-turn.result (f (point_at ps i)) (known.fit i) fits small added c.plus.ensures in
    record {
      room = search rules;
      fit = still_fit c.loop-place.totals i c.plus.result (omega (arith, within, room)) fits known.fit;
      sooner = omega (arith, sooner);
      within = omega (arith, inside);
      above = fall-above ps b k i next known.above one;
      done = fall-done ps f c.args.totals.now c.loop-place.totals k i _ next (omega (arith, within, room)) known.done known.left sum;
      left = fall-left c.args.totals.now c.loop-place.totals k i _ next known.left;
    }

pub returns-else-le : goal.returns-else-le
returns-else-le g c =
    let value = g.I.IntNumber.value in
    let qs = c.args.asked.now in
    let ps = asked_points value qs in
    let a = point_of value c.args.start in
    let b = point_of value c.args.end in
    let k = c.loop-place.place in
    let known = c.loop-place.invariant in
    let some = c.loop-place-test.true in
    let inside = known.within in
    let within : k - 1 < length qs = omega (arith, inside, some) in
    let many = asked-length value qs in
    let d = c.index-asked-place.result in
    let read = asked-read value qs (k - 1) d within in
    let told = at-most-tells _ _ (value c.args.end.y) (value (get_or qs (k - 1) d).point.y) c.le.ensures (g.met.I.IntNumber.partial_order _ _) in
    let one : is_above (point_at ps (k - 1)) b ≡ true = ap (λ (p : Point). is_above p b) read ∙ told ∙ ap not c.if-le.false in
    let below = fall-below ps b k (omega (arith, inside, many)) c.requires.rising (λ _. one) in
    record {
      here = record { within = omega (arith, inside, many); below = below; above = known.above };
      room = search rules;
      fit = known.fit;
      added = fallen ps a b c.args.from k c.args.totals.now c.loop-place.totals known.sooner c.requires.here known.done known.left below;
    }

pub returns-after-loop-place : goal.returns-after-loop-place
returns-after-loop-place g c =
    let value = g.I.IntNumber.value in
    let qs = c.args.asked.now in
    let ps = asked_points value qs in
    let a = point_of value c.args.start in
    let b = point_of value c.args.end in
    let k = c.loop-place.place in
    let known = c.loop-place.invariant in
    let none = c.loop-place-test.false in
    let inside = known.within in
    let many = asked-length value qs in
    let below = fall-below ps b k (omega (arith, inside, many)) c.requires.rising (λ h. absurd (omega (arith, h, none))) in
    record {
      here = record { within = omega (arith, inside, many); below = below; above = known.above };
      room = search rules;
      fit = known.fit;
      added = fallen ps a b c.args.from k c.args.totals.now c.loop-place.totals known.sooner c.requires.here known.done known.left below;
    }
