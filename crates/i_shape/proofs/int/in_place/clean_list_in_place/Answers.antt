use Rattle.std.proofs.Common.{rules, ◌≡◌, Bool, Result, Err, Some, List, length, Contains, sym, subst}
use Rattle.std.proofs.lemmas.List.Elements.{All-contains}
use Rattle.i_shape_core.proofs.Lists.Longest.{short_longest}
use Rattle.i_shape.proofs.Common.{Point, ShapeError, concatenated, shapes_of, ListClean, EachShape, IsShortOrClean, CleansList, HasRoom, HasRoomFor}
use Rattle.i_shape.proofs.Shapes.Kept.{list_safe}
use Rattle.i_shape.proofs.InPlace.Contours.{list_stays_in_place}
use Rattle.i_shape.proofs.InPlace.Left.{fewer_in_place, list_left, list_cleaned_in_place, list_refused_in_place}
use Rattle.i_shape.proofs.InPlace.Longest.{each_of_all, all_of_each, all_contained, not_all_clean, room_for_all}
use Rattle.i_shape.proofs.int.in_place.clean_list_in_place.Goals as goal

pub longest_unclean_of_list-requires : goal.longest_unclean_of_list-requires
longest_unclean_of_list-requires g c =
    rw c.as_slice.ensures.value c.requires

pub returns-in_default-clause-gives : goal.returns-in_default-clause-gives
returns-in_default-clause-gives g c =
    let cleaner = g.C.ContourCleaner in
    list_stays_in_place cleaner.meaning.clean cleaner.meaning.answers g.met.C.InPlaceCleaner.stays g.met.C.InPlaceCleaner.kept (shapes_of g.I.IntNumber.value c.args.shapes.now.items) (each_of_all cleaner.meaning.clean (shapes_of g.I.IntNumber.value c.args.shapes.now.items) (all_contained cleaner.meaning.clean _ (rw c.as_slice.ensures.value at c.in_default.ensures)))

pub clean_shapes-requires-clause-room : goal.clean_shapes-requires-clause-room
clean_shapes-requires-clause-room g c =
    let cleaner = g.C.ContourCleaner in
    let told = rw c.as_slice.ensures.value at c.in-Some.ensures in
    let shapes : List (List (List Point)) = shapes_of g.I.IntNumber.value c.args.shapes.now.items in
    each_of_all (HasRoomFor (HasRoom cleaner.has_room) cleaner.meaning.clean c.in_ok-work.work) shapes
    (room_for_all cleaner.meaning.clean (concatenated shapes) c.in-Some.longest told (HasRoom cleaner.has_room) (fewer_in_place cleaner.has_room g.met.C.ContourCleaner.fewer) c.in_ok-work.work c.in_ok-work.ensures.room)

pub returns-clause-gives : goal.returns-clause-gives
returns-clause-gives g c =
    let value = g.I.IntNumber.value in
    let cleaner = g.C.ContourCleaner in
    let shapes : List (List (List Point)) = shapes_of value c.args.shapes.now.items in
    let told = rw c.as_slice.ensures.value at c.in-Some.ensures in
    list_cleaned_in_place cleaner.meaning.clean cleaner.meaning.answers g.met.C.InPlaceCleaner.kept shapes _ (λ each. not_all_clean cleaner.meaning.clean (concatenated shapes) c.in-Some.longest told (all_of_each cleaner.meaning.clean shapes each))
    (subst (ListClean cleaner.meaning.answers shapes) (sym c.remove_collapsed_shapes.ensures) (list_left cleaner.meaning.answers shapes (shapes_of value c.clean_shapes.new.shapes.items) c.clean_shapes.ensures.left))

pub returns-clause-safe : goal.returns-clause-safe
returns-clause-safe g c =
    let value = g.I.IntNumber.value in
    let cleaner = g.C.ContourCleaner in
    let shapes : List (List (List Point)) = shapes_of value c.args.shapes.now.items in
    list_safe cleaner.meaning.answers g.I.IntNumber.width (g.met.C.CleanerLaws.stays_safe g.I.IntNumber.width) shapes _
    (subst (ListClean cleaner.meaning.answers shapes) (sym c.remove_collapsed_shapes.ensures) (list_left cleaner.meaning.answers shapes (shapes_of value c.clean_shapes.new.shapes.items) c.clean_shapes.ensures.left)) c.requires

pub returns-in_err-work-clause-gives : goal.returns-in_err-work-clause-gives
returns-in_err-work-clause-gives g c =
    let cleaner = g.C.ContourCleaner in
    let old : List (List (List Point)) = shapes_of g.I.IntNumber.value c.args.shapes.now.items in
    let told = rw c.as_slice.ensures.value at c.in-Some.ensures in
    let Gives : Result Bool ShapeError → Type 0 = λ r. CleansList cleaner.meaning.clean cleaner.meaning.answers old old r in
    let is : c.from_residual.result ≡ Err c.in_err-work.field-0.0 = search rules in
    let fails : EachShape cleaner.meaning.clean old → ⊥ = λ each. not_all_clean cleaner.meaning.clean (concatenated old) c.in-Some.longest told (all_of_each cleaner.meaning.clean old each) in
    let long : EachShape (IsShortOrClean cleaner.meaning.clean length) old → ⊥ = λ each. (let refused = c.in_err-work.ensures.short (short_longest cleaner.meaning.clean length (Contains (concatenated old)) (Some c.in-Some.longest) told (λ d is. All-contains (IsShortOrClean cleaner.meaning.clean length) (concatenated old) d (all_of_each (IsShortOrClean cleaner.meaning.clean length) old each) is)) in absurd (cc)) in
    subst Gives (sym is) (list_refused_in_place cleaner.meaning.clean cleaner.meaning.answers g.met.C.InPlaceCleaner.kept old _ fails long c.in_err-work.ensures.memory)
