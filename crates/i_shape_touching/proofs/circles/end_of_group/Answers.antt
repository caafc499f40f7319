use Rattle.std.proofs.Common.{◌≡◌, ◌∙◌, refl, sym, ap, arith, inl, inr}
use Rattle.std.proofs.lemmas.Bool.{cases_lt}
use Rattle.std.proofs.lemmas.List.{length-map}
use Rattle.i_shape_core.specs.Contour.{point_at}
use Rattle.i_shape_core.specs.IntPoint.{point_of}
use Rattle.i_shape_touching.specs.Steps.Labels.{touch_points}
use Rattle.i_shape_touching.proofs.CircleSteps.{point_read, differ, agree}
use Rattle.i_shape_touching.proofs.circles.end_of_group.Goals as goal

pub returns-then-ne : goal.returns-then-ne
returns-then-ne g c =
    let value = g.I.IntNumber.value in
    let ts = c.args.touches.now in
    let to = c.loop-to.to in
    let within = c.loop-to-test.true in
    let count = length-map ts (λ t. point_of value t.point) in
    let past = c.loop-to.auto.to in
    record {
      some = omega (arith, past);
      within = omega (arith, within, count);
      same = c.loop-to.invariant;
      next = λ _ e. differ value g.I.PartialEq.eq g.met.I.IntNumber.equality _ _ c.ne.result c.ne.ensures c.if-ne.true
          (sym (point_read value ts to _ _ within refl) ∙ e ∙ point_read value ts c.args.from _ _ c.requires refl);
    }

pub loop-to-preserved : goal.loop-to-preserved
loop-to-preserved g c k from below =
    let value = g.I.IntNumber.value in
    let ts = c.args.touches.now in
    let to = c.loop-to.to in
    let within = c.loop-to-test.true in
    elim (cases_lt k to) [
      | inl l ↦ c.loop-to.invariant k from l
      | inr l ↦ (let this : k ≡ to = omega (arith, l, below) in
          ap (point_at (touch_points value ts)) this ∙ point_read value ts to _ _ within refl ∙ agree value g.I.PartialEq.eq g.met.I.IntNumber.equality _ _ c.ne.result c.ne.ensures c.if-ne.false
          ∙ sym (point_read value ts c.args.from _ _ c.requires refl))
    ]
