use Rattle.std.proofs.Common.{◌≡◌, ◌∙◌, ◌+◌, set, ◌<ℤ◌, ◌≤ℤ◌, get_or, ap, sym, refl, subst, subst₂, IsTrue, arith}
use Rattle.std.proofs.lemmas.Int.{ints}
use Rattle.i_shape.specs.Boundary.{IsBetween}
use Rattle.i_shape.specs.Heights.{asked_points}
use Rattle.i_shape_core.proofs.Common.{Point, point_of, point_at}
use Rattle.i_shape_core.proofs.Arithmetic.Comparisons.{le-tells}
use Rattle.i_shape_core.proofs.Sums.Heights.{asked-length, asked-read, asked-safe}
use Rattle.i_shape_c.specs.Marked.{IsMarked}
use Rattle.i_shape_c.proofs.Marked.{IsAskedBefore, same_entry, asked_none, asked_on, asked_off, asked_all, not_lower, not_higher, not_at_most}
use Rattle.i_shape_c.proofs.edges.mark_edge.Goals.{then-is_between, else-is_between}
use Rattle.i_shape_c.proofs.edges.mark_edge.Goals as goal

pub loop-at-init : goal.loop-at-init
loop-at-init g c =
    let value = g.I.IntNumber.value in
    let asked = c.args.asked.now in
    let first = c.lower-low.ensures.height in
    let second = c.lower-low.ensures.other in
    asked_none value c.args.mark (λ p. IsBetween (point_of value c.args.start) p (point_of value c.args.end)) asked c.args.out.now c.first_from-at.result (λ j q h within read on.
    let below = c.first_from-at.ensures j h in
    let here : (point_at (asked_points value asked) j).y ≡ value q.point.y = ap (λ p. p.y) (asked-read value asked j q within) ∙ ap (λ r. value r.point.y) (sym read) in
    let below_start : value q.point.y <ℤ value c.args.start.y = omega (arith, ints, below, here, first) in
    let below_end : value q.point.y <ℤ value c.args.end.y = omega (arith, ints, below, here, second) in
    not_lower (point_of value c.args.start) (point_of value q.point) (point_of value c.args.end) below_start below_end on)

pub is_between-requires-clause-point_safe : goal.is_between-requires-clause-point_safe
is_between-requires-clause-point_safe g c = asked-safe g.I.IntNumber.width g.I.IntNumber.value c.args.asked.now c.loop-at.at c.index-asked-at-in-loop-at.result c.requires.asked_safe c.loop-at-test.true

pub loop-at-preserved : goal.loop-at-preserved
loop-at-preserved g c =
    let value = g.I.IntNumber.value in
    let asked = c.args.asked.now in
    let mark = c.args.mark in
    let On : Point → Type 0 = λ p. IsBetween (point_of value c.args.start) p (point_of value c.args.end) in
    let n = c.loop-at.at in
    let within = c.loop-at-test.true in
    let known = c.loop-at.invariant in
    let same = known.room in
    let q = c.index-asked-at-in-loop-at.result in
    let read = c.index-asked-at-in-loop-at.is in
    elim c.if-is_between.branch [
      | then-is_between w ↦
          let r = w.index-asked-at-then-is_between.result in
          let again = w.index-asked-at-then-is_between.is in
          let on = subst (λ s. On (point_of value s.point)) (sym read ∙ same_entry value mark On asked n n q r within refl read again) (c.is_between.ensures.0 w.if-is_between.true) in
          let inside = c.requires.within n r within in
          let place = ap (λ s. s.place) again in
          rw w.out-is (subst (λ s. IsMarked (IsAskedBefore value On asked (n + 1)) mark c.args.out.now (set c.loop-at.out s.place mark)) again (asked_on value mark On asked c.args.out.now c.loop-at.out n r within again (omega (arith, inside, place, same)) on known))
      | else-is_between w ↦ rw w.out-is
          (asked_off value mark On asked c.args.out.now c.loop-at.out n q read (λ on. let told : IsTrue c.is_between.result = c.is_between.ensures.1 (subst (λ s. On (point_of value s.point)) read on) in let f = w.if-is_between.false in absurd (cc)) known)
    ]

pub returns-else-le : goal.returns-else-le
returns-else-le g c =
    let value = g.I.IntNumber.value in
    let asked = c.args.asked.now in
    let On : Point → Type 0 = λ p. IsBetween (point_of value c.args.start) p (point_of value c.args.end) in
    let n = c.loop-at.at in
    let d = c.index-asked-at.result in
    let high = c.higher-high.result in
    let many = asked-length value asked in
    let told = le-tells _ _ (value (get_or asked n d).point.y) (value high) c.le.ensures (g.met.I.IntNumber.partial_order _ _) in
    let over = not_at_most _ (value (get_or asked n d).point.y) (value high) told c.if-le.false in
    asked_all value c.args.mark On asked c.args.out.now c.loop-at.out n (λ j q h within read on.
    let up = c.requires.rising.rises n j h (omega (arith, within, many)) in
    let at_n = asked-read value asked n d c.loop-at-test.true in
    let at_j = asked-read value asked j q within in
    let later : value (get_or asked n d).point.y ≤ℤ value (get_or asked j q).point.y = subst₂ (λ a b. a.y ≤ℤ b.y) at_n at_j up in
    let here : value q.point.y ≡ value (get_or asked j q).point.y = ap (λ r. value r.point.y) read in
    let first = c.higher-high.ensures.height in
    let second = c.higher-high.ensures.other in
    let above_start : value c.args.start.y <ℤ value q.point.y = omega (arith, ints, over, later, here, first) in
    let above_end : value c.args.end.y <ℤ value q.point.y = omega (arith, ints, over, later, here, second) in
    not_higher (point_of value c.args.start) (point_of value q.point) (point_of value c.args.end) above_start above_end on) c.loop-at.invariant

pub returns-after-loop-at : goal.returns-after-loop-at
returns-after-loop-at g c =
    let value = g.I.IntNumber.value in
    asked_all value c.args.mark (λ p. IsBetween (point_of value c.args.start) p (point_of value c.args.end)) c.args.asked.now c.args.out.now c.loop-at.out c.loop-at.at
    (λ j q h within read on. absurd (omega (arith, h, within, c.loop-at-test.false))) c.loop-at.invariant
