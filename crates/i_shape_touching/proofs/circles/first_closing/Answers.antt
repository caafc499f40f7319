use Rattle.std.proofs.Common.{◌+◌, sym, subst, MatchOption}
use Rattle.i_shape_contacts.specs.declared.plain.Contact.{Contact}
use Rattle.i_shape_touching.specs.Steps.Labels.{touch_contacts, HaveSameLabel, NoneSame, IsFirstSame}
use Rattle.i_shape_touching.proofs.CircleSteps.{item_within, item_contact, other_labels, same_found, earlier_found}
use Rattle.i_shape_touching.proofs.circles.first_closing.Goals.{then-labels-ring, else-labels-ring}
use Rattle.i_shape_touching.proofs.circles.first_closing.Goals as goal

pub ring_of_edge-ring-requires-clause-within : goal.ring_of_edge-ring-requires-clause-within
ring_of_edge-ring-requires-clause-within g c = (item_within c.args.offsets.now c.args.group.now c.loop-touch.touch-index c.touch-item.result c.loop-touch-test.true c.touch-item.is c.requires.within).0

pub ring_of_edge-other-requires-clause-within : goal.ring_of_edge-other-requires-clause-within
ring_of_edge-other-requires-clause-within g c = (item_within c.args.offsets.now c.args.group.now c.loop-touch.touch-index c.touch-item.result c.loop-touch-test.true c.touch-item.is c.requires.within).1

pub loop-touch-preserved : goal.loop-touch-preserved
loop-touch-preserved g c =
    let offsets = c.args.offsets.now in
    let labels = c.args.labels.now in
    let contacts = touch_contacts c.args.group.now in
    let k = c.loop-touch.touch-index in
    let contact = c.touch-item.result.contact in
    let is = item_contact c.args.group.now k c.touch-item.result c.loop-touch-test.true c.touch-item.is in
    elim c.if-labels-ring.branch [
      | then-labels-ring w ↦ subst (λ r. MatchOption r (NoneSame offsets labels contacts (k + 1)) (IsFirstSame offsets labels contacts (k + 1))) (sym w.found-is)
          (earlier_found offsets labels contacts k c.loop-touch.found w.earlier-found.result contact is (record {
            ring = c.ring_of_edge-ring.result;
            first_of = c.ring_of_edge-ring.ensures;
            other = c.ring_of_edge-other.result;
            second_of = c.ring_of_edge-other.ensures;
            same = w.if-labels-ring.true;
          }) w.earlier-found.ensures c.loop-touch.invariant)
      | else-labels-ring w ↦ subst (λ r. MatchOption r (NoneSame offsets labels contacts (k + 1)) (IsFirstSame offsets labels contacts (k + 1))) (sym w.found-is)
          (same_found offsets labels contacts k c.loop-touch.found
          (subst (λ (q : Contact). HaveSameLabel offsets labels q.first q.second → ⊥) is
          (other_labels offsets labels contacts k c.requires.divides contact.first contact.second c.ring_of_edge-ring.result c.ring_of_edge-other.result c.ring_of_edge-ring.ensures c.ring_of_edge-other.ensures w.if-labels-ring.false))
          c.loop-touch.invariant)
    ]
