use Rattle.std.proofs.Common.{rules, ◌≡◌, Bool, Result, Err, Some, List, length, Contains, sym, subst}
use Rattle.std.proofs.lemmas.List.Elements.{All-contains}
use Rattle.i_shape_core.proofs.Lists.Longest.{short_longest}
use Rattle.i_shape.proofs.Common.{Point, ShapeError, shape_of, ShapeClean, EachContour, Leaves, IsShortOrClean, CleansShape, HasRoom}
use Rattle.i_shape.proofs.InPlace.Contours.{shape_stays_in_place}
use Rattle.i_shape.proofs.InPlace.Left.{fewer_in_place, shape_left, shape_cleaned_in_place, shape_refused_in_place, leaves_safe}
use Rattle.i_shape.proofs.InPlace.Longest.{all_contained, not_all_clean, room_for_all}
use Rattle.i_shape.proofs.int.in_place.clean_shape_in_place.Goals as goal

pub longest_unclean-requires : goal.longest_unclean-requires
longest_unclean-requires g c =
    rw c.as_slice.ensures.value c.requires

pub returns-in_default-clause-gives : goal.returns-in_default-clause-gives
returns-in_default-clause-gives g c =
    let cleaner = g.C.ContourCleaner in
    shape_stays_in_place cleaner.meaning.clean cleaner.meaning.answers g.met.C.InPlaceCleaner.stays (shape_of g.I.IntNumber.value c.args.shape.now.items) (all_contained cleaner.meaning.clean _ (rw c.as_slice.ensures.value at c.in_default.ensures))

pub clean_contours-requires-clause-room : goal.clean_contours-requires-clause-room
clean_contours-requires-clause-room g c =
    let cleaner = g.C.ContourCleaner in
    let told = rw c.as_slice.ensures.value at c.in-Some.ensures in
    room_for_all cleaner.meaning.clean (shape_of g.I.IntNumber.value c.args.shape.now.items) c.in-Some.longest told (HasRoom cleaner.has_room) (fewer_in_place cleaner.has_room g.met.C.ContourCleaner.fewer) c.in_ok-work.work c.in_ok-work.ensures.room

pub returns-clause-gives : goal.returns-clause-gives
returns-clause-gives g c =
    let value = g.I.IntNumber.value in
    let cleaner = g.C.ContourCleaner in
    let shape : List (List Point) = shape_of value c.args.shape.now.items in
    let told = rw c.as_slice.ensures.value at c.in-Some.ensures in
    shape_cleaned_in_place cleaner.meaning.clean cleaner.meaning.answers g.met.C.InPlaceCleaner.kept shape _ (not_all_clean cleaner.meaning.clean shape c.in-Some.longest told)
    (subst (Leaves (ShapeClean cleaner.meaning.answers) shape) (sym c.remove_collapsed.ensures) (shape_left cleaner.meaning.answers shape (shape_of value c.clean_contours.new.shape.items) c.clean_contours.ensures.left))

pub returns-clause-safe : goal.returns-clause-safe
returns-clause-safe g c =
    let value = g.I.IntNumber.value in
    let cleaner = g.C.ContourCleaner in
    let shape : List (List Point) = shape_of value c.args.shape.now.items in
    leaves_safe cleaner.meaning.answers g.I.IntNumber.width (g.met.C.CleanerLaws.stays_safe g.I.IntNumber.width) shape _
    (subst (Leaves (ShapeClean cleaner.meaning.answers) shape) (sym c.remove_collapsed.ensures) (shape_left cleaner.meaning.answers shape (shape_of value c.clean_contours.new.shape.items) c.clean_contours.ensures.left)) c.requires

pub returns-in_err-work-clause-gives : goal.returns-in_err-work-clause-gives
returns-in_err-work-clause-gives g c =
    let cleaner = g.C.ContourCleaner in
    let old : List (List Point) = shape_of g.I.IntNumber.value c.args.shape.now.items in
    let told = rw c.as_slice.ensures.value at c.in-Some.ensures in
    let Gives : Result Bool ShapeError → Type 0 = λ r. CleansShape cleaner.meaning.clean cleaner.meaning.answers old old r in
    let is : c.from_residual.result ≡ Err c.in_err-work.field-0.0 = search rules in
    let long : EachContour (IsShortOrClean cleaner.meaning.clean length) old → ⊥ = λ each. (let refused = c.in_err-work.ensures.short (short_longest cleaner.meaning.clean length (Contains old) (Some c.in-Some.longest) told (λ d is. All-contains (IsShortOrClean cleaner.meaning.clean length) old d each is)) in absurd (cc)) in
    subst Gives (sym is) (shape_refused_in_place cleaner.meaning.clean cleaner.meaning.answers g.met.C.InPlaceCleaner.kept old _ (not_all_clean cleaner.meaning.clean old c.in-Some.longest told) long c.in_err-work.ensures.memory)
