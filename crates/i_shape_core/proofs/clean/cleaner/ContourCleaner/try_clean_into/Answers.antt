use Rattle.std.proofs.Common.{Ok, rules, refl, ap, arith}
use Rattle.std.proofs.lemmas.Result.{err_from_is_err_and}
use Rattle.i_shape_core.proofs.Walks.StackReads.{fails_by_test}
use Rattle.i_shape_core.proofs.CleanerAnswers.Written.{not_few}
use Rattle.i_shape_core.proofs.clean.cleaner.ContourCleaner.try_clean_into.Goals as goal

pub returns-then-is_clean-clause-written : goal.returns-then-is_clean-clause-written
returns-then-is_clean-clause-written g c =
    record { written = c.write_clean.ensures.written; len = c.write_clean.ensures.len; err = tt; short = λ few. absurd (omega (arith, few, c.write_clean.ensures.count, c.write_clean.ensures.enough)) }

pub returns-then-is_clean-clause-memory : goal.returns-then-is_clean-clause-memory
returns-then-is_clean-clause-memory g c =
    record { memory = tt; unclean = tt; reserved = λ _. refl; keeps_room = λ m had. had; takes_room = λ unclean. absurd (unclean (c.is_clean.ensures.0 c.if-is_clean.true)) }

pub returns-in_err-reserve-clause-written : goal.returns-in_err-reserve-clause-written
returns-in_err-reserve-clause-written g c =
    let refused = err_from_is_err_and c.from_residual.result c.from_residual.ensures.1 in
    rw refused.1 (record { written = tt; len = refl; err = refl; short = λ few. absurd (omega (arith, few, not_few _ c.in_err-reserve.ensures.short)) })

pub returns-in_err-reserve-clause-memory : goal.returns-in_err-reserve-clause-memory
returns-in_err-reserve-clause-memory g c =
    let refused = err_from_is_err_and c.from_residual.result c.from_residual.ensures.1 in
    rw refused.1 (record {
      memory = search rules;
      unclean = fails_by_test c.is_clean.result c.is_clean.ensures c.if-is_clean.false;
      reserved = c.in_err-reserve.ensures.reserved;
      keeps_room = c.in_err-reserve.ensures.keeps_room;
      takes_room = tt;
    })

pub returns-clause-written : goal.returns-clause-written
returns-clause-written g c =
    record { written = c.write_left.ensures.written; len = c.write_left.ensures.len; err = tt; short = λ few. ap (λ m. Ok m) (c.write_left.ensures.short few) }

pub returns-clause-memory : goal.returns-clause-memory
returns-clause-memory g c =
    record { memory = tt; unclean = tt; reserved = λ _. refl; keeps_room = λ m had. c.write_left.ensures.keeps_room m (c.in_ok-reserve.ensures.keeps_room m had); takes_room = λ unclean. c.write_left.ensures.keeps_room _ c.in_ok-reserve.ensures.room }
