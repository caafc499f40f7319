use Rattle.std.proofs.Common.{◌∙◌}
use Rattle.i_shape_core.proofs.Walks.Spikes.{same-told}
use Rattle.i_shape_core.proofs.turn.repeats.are_same.Goals as goal

pub returns : goal.returns
returns g c = c.eq.ensures ∙ same-told g.I.IntNumber.value _ g.met.I.IntNumber.equality c.args.a c.args.b
