use Rattle.std.proofs.Common.{◌<◌, ◌∙◌, ◌++◌, [], ◌∷◌, ℕ, List, map, take, length, sym, ap, arith}
use Rattle.std.proofs.lemmas.List.{map-append, take_more, take_all}
use Rattle.i_shape_core.specs.declared.measure.heights.Asked.{Asked}
use Rattle.i_shape_contacts.proofs.spread.places_of.Goals as goal

pub loop-it-preserved : goal.loop-it-preserved
loop-it-preserved g c =
    let order = c.args.order.now in
    let i = c.loop-it.it-index in
    let q = c.it-item.result in
    let within : i < length order = omega arith in
    let more = take_more order i q within ∙ ap (λ (r : Asked _). take i order ++ r ∷ []) (sym c.it-item.is) in
    c.in_ok-push.ensures.items ∙ ap (λ (l : List ℕ). l ++ q.place ∷ []) c.loop-it.invariant ∙ sym (ap (map (λ (r : Asked _). r.place)) more ∙ map-append (λ (r : Asked _). r.place) (take i order) (q ∷ []))

pub returns : goal.returns
returns g c = c.loop-it.invariant ∙ ap (map (λ (r : Asked _). r.place)) (take_all _ _ (omega arith))
