use Rattle.std.proofs.Common.{◌≡◌, ◌∙◌, ◌++◌, ◌<◌, ℕ, List, length, map, take, drop, get_or, sym, ap, ap₂, arith, inl, inr}
use Rattle.std.proofs.lemmas.Bool.{cases_lt}
use Rattle.std.proofs.lemmas.List.{get_or_default, take_all, drop_all}
use Rattle.std.proofs.lemmas.List.Edits.{map_over_more}
use Rattle.i_shape_contacts.specs.declared.plain.Contact.{Contact}
use Rattle.i_shape_c.specs.Contacts.{moved_contact}
use Rattle.i_shape_c.proofs.contacts.move_contacts.Goals as goal

pub loop-place-preserved : goal.loop-place-preserved
loop-place-preserved c =
    let place = c.loop-place.place in
    let now = c.loop-place.contacts in
    let least = c.min-place-end.ensures in
    let below : place < length c.args.contacts.now = omega (arith, c.loop-place-test.true, least) in
    let it = get_or now place (record { first = 0; second = 0 }) in
    let read : it ≡ get_or now place it = get_or_default now place (record { first = 0; second = 0 }) it (omega (arith, below, c.loop-place.auto.contacts)) in
    map_over_more (moved_contact c.args.start) c.args.contacts.now now place it below c.loop-place.invariant read

pub returns : goal.returns
returns c =
    let place = c.loop-place.place in
    let given = c.args.contacts.now in
    let least = c.min-place-end.ensures in
    let end : place ≡ c.min-place-end.result = omega (arith, c.loop-place-test.false, c.loop-place.auto.place-end) in
    let as_is = λ (n : ℕ). map (moved_contact c.args.start) (take n given) ++ drop n given in
    elim (cases_lt c.args.count (length given)) [
      | inl less ↦ c.loop-place.invariant ∙ ap as_is (omega (arith, least, end, less))
      | inr more ↦ (
          let all : place ≡ length given = omega (arith, least, end, more) in
          let front : take place given ≡ take c.args.count given = take_all place given (omega (arith, all)) ∙ sym (take_all c.args.count given more) in
          let behind : drop place given ≡ drop c.args.count given = drop_all place given (omega (arith, all)) ∙ sym (drop_all c.args.count given more) in
          c.loop-place.invariant ∙ ap₂ (λ (a b : List Contact). map (moved_contact c.args.start) a ++ b) front behind)
    ]
