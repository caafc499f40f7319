use Rattle.i_shape_core.proofs.CleanerAnswers.Kept.{despiked_stays}
use Rattle.i_shape_core.proofs.clean.despike.is_despiked.Goals as goal

pub returns : goal.returns
returns g c = (λ t. let none = c.has_none.ensures.0 t in despiked_stays _ none.0 none.1, λ despiked. c.has_none.ensures.1 (despiked.enough, despiked.ended.none_left))
