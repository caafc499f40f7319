use Rattle.std.proofs.Common.{rules, inl, inr, refl}
use Rattle.std.proofs.lemmas.Result.{err_from_is_err_and}
use Rattle.i_shape_core.proofs.Lists.Longest.{all_clean, room_for_each, room_for_longest, short_longest}
use Rattle.i_shape_core.proofs.clean.batch.make_room.Goals as goal

pub returns-in_err-reserve-clause-memory : goal.returns-in_err-reserve-clause-memory
returns-in_err-reserve-clause-memory g c =
    let refused = err_from_is_err_and c.from_residual.result c.from_residual.ensures.1 in
    let longest = c.longest_unclean-longest in
    let reserve = c.in_err-reserve.ensures in
    rw refused.1 (record {
      memory = search rules;
      unclean = λ each. (let told = reserve.short (rw c.unwrap_or.ensures (short_longest _ _ _ longest.result longest.ensures each)) in absurd (cc));
      reserved = λ room. elim (room_for_longest _ _ _ (g.C.ContourCleaner.has_room c.args.cleaner.now) longest.result longest.ensures room) [
        | inl few ↦ reserve.short (rw c.unwrap_or.ensures few)
        | inr has ↦ reserve.reserved (rw c.unwrap_or.ensures has)
      ];
      keeps_room = reserve.keeps_room;
      takes_room = tt;
    })

pub returns-clause-clean : goal.returns-clause-clean
returns-clause-clean g c =
    all_clean _ _ _ c.longest_unclean-longest.result c.is_none.result c.is_none.ensures c.longest_unclean-longest.ensures

pub returns-clause-memory : goal.returns-clause-memory
returns-clause-memory g c =
    let longest = c.longest_unclean-longest in
    let reserve = c.in_ok-reserve.ensures in
    record {
      memory = tt;
      unclean = tt;
      reserved = λ _. refl;
      keeps_room = reserve.keeps_room;
      takes_room = room_for_each _ _ _ (g.C.ContourCleaner.has_room c.reserve.new.self) (g.met.C.ContourCleaner.fewer c.reserve.new.self) longest.result longest.ensures (rw c.unwrap_or.ensures at reserve.room);
    }
