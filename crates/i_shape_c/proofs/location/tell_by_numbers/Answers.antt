use Rattle.std.proofs.Common.{◌+◌, ◌<◌, length, get_or, pos, refl, subst, to_z, of_z, w64, rules, ◌≡◌, arith}
use Rattle.std.proofs.lemmas.List.{get_or_default}
use Rattle.i_shape_core.proofs.Lists.Rings.{back_more}
use Rattle.i_shape_c.proofs.Told.{item_more}
use Rattle.i_shape_c.proofs.location.tell_by_numbers.Goals as goal

pub loop-place-preserved : goal.loop-place-preserved
loop-place-preserved g c =
    let place = c.loop-place.place in
    let within = c.loop-place-test.true in
    let turns = get_or c.args.numbers.now place (pos 0) in
    let room : place < length c.loop-place.out = omega (arith, c.loop-place.auto.out, c.requires.room, within) in
    let same : to_z w64 (of_z w64 turns) ≡ turns = search rules in
    record {
      each = item_more (g.T.Telling.tells c.args.rule) c.args.numbers.now c.loop-place.out place turns c.tell.result within (get_or_default c.args.numbers.now place (pos 0) turns within) room c.loop-place.invariant.each (subst (λ z. g.T.Telling.tells c.args.rule z c.tell.result) same c.tell.ensures);
      rest = back_more c.loop-place.out c.args.out.now place (place + 1) c.tell.result refl c.loop-place.invariant.rest;
    }
