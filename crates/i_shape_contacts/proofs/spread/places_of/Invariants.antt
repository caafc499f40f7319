use Rattle.std.proofs.Common.{◌≡◌, map, take}
use Rattle.i_shape_contacts.proofs.spread.places_of.Given as goal

abbrev pub invariant-loop-it : goal.invariant-loop-it
invariant-loop-it g l = l.places.items ≡ map (λ q. q.place) (take l.it-index l.order)
