use Rattle.std.proofs.Common.{◌+◌, ◌<◌, ℕ, List, length, sym, subst, arith}
use Rattle.std.proofs.lemmas.List.{length-map}
use Rattle.i_shape_contacts.specs.declared.plain.Contact.{Contact}
use Rattle.i_shape_touching.specs.Touching.{IsEdgeOf}
use Rattle.i_shape_touching.specs.Steps.Labels.{touch_contacts, AreMerged}
use Rattle.i_shape_touching.proofs.CircleSteps.{item_within, item_contact}
use Rattle.i_shape_touching.proofs.JoinSteps.{none_merged, merged_already, merged_more}
use Rattle.i_shape_touching.proofs.circles.join_all.Goals.{then-kept-left, else-kept-left}
use Rattle.i_shape_touching.proofs.circles.join_all.Goals as goal

pub loop-touch-init : goal.loop-touch-init
loop-touch-init g c = none_merged c.args.offsets.now c.args.labels.now (touch_contacts c.args.group.now)

pub ring_of_edge-ring-requires-clause-within : goal.ring_of_edge-ring-requires-clause-within
ring_of_edge-ring-requires-clause-within g c = (item_within c.args.offsets.now c.args.group.now c.loop-touch.touch-index c.touch-item.result c.loop-touch-test.true c.touch-item.is c.requires.within).0

pub ring_of_edge-other-requires-clause-within : goal.ring_of_edge-other-requires-clause-within
ring_of_edge-other-requires-clause-within g c = (item_within c.args.offsets.now c.args.group.now c.loop-touch.touch-index c.touch-item.result c.loop-touch-test.true c.touch-item.is c.requires.within).1

pub loop-touch-preserved : goal.loop-touch-preserved
loop-touch-preserved g c =
    let offsets = c.args.offsets.now in
    let old = c.args.labels.now in
    let now = c.loop-touch.labels in
    let contacts = touch_contacts c.args.group.now in
    let k = c.loop-touch.touch-index in
    let ring = c.ring_of_edge-ring.result in
    let other = c.ring_of_edge-other.result in
    let is = item_contact c.args.group.now k c.touch-item.result c.loop-touch-test.true c.touch-item.is in
    let first_of = subst (λ (q : Contact). IsEdgeOf offsets ring q.first) is c.ring_of_edge-ring.ensures in
    let second_of = subst (λ (q : Contact). IsEdgeOf offsets other q.second) is c.ring_of_edge-other.ensures in
    let count = length-map c.args.group.now (λ u. u.contact) in
    let inside : k < length contacts = omega (arith, count, c.loop-touch-test.true) in
    elim c.if-kept-left.branch [
      | then-kept-left w ↦ subst (λ (l : List ℕ). AreMerged offsets contacts (k + 1) old l) (sym w.labels-is)
          (merged_more offsets old contacts now k ring other c.requires.count inside c.loop-touch.invariant first_of second_of _ w.relabel.ensures)
      | else-kept-left w ↦ subst (λ (l : List ℕ). AreMerged offsets contacts (k + 1) old l) (sym w.labels-is)
          (merged_already offsets old contacts now k ring other c.requires.count inside c.loop-touch.invariant first_of second_of w.if-kept-left.false)
    ]
