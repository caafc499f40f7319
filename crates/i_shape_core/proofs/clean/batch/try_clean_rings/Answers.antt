use Rattle.std.proofs.Common.{rules, refl}
use Rattle.std.proofs.lemmas.Result.{err_from_is_err_and}
use Rattle.i_shape_core.proofs.clean.batch.try_clean_rings.Goals as goal

pub returns-in_err-all_clean-clause-memory : goal.returns-in_err-all_clean-clause-memory
returns-in_err-all_clean-clause-memory g c =
    let refused = err_from_is_err_and c.from_residual.result c.from_residual.ensures.1 in
    let before = c.in_err-all_clean.ensures.memory in
    rw refused.1 (record { memory = search rules; unclean = before.unclean; reserved = before.reserved; keeps_room = before.keeps_room; takes_room = tt })

pub returns-clause-memory : goal.returns-clause-memory
returns-clause-memory g c =
    let before = c.in_ok-all_clean.ensures.memory in
    let keeps = c.clean_rings.ensures.keeps_room in
    record {
      memory = tt;
      unclean = tt;
      reserved = λ _. refl;
      keeps_room = λ n had. keeps n (before.keeps_room n had);
      takes_room = λ k less unclean. keeps _ (before.takes_room k less unclean);
    }
