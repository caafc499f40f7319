use Rattle.std.proofs.Common.{◌≡◌, ◌-◌, ◌∙◌, length, map, sym, ap, ap₂, subst, subst₂, arith, take_at}
use Rattle.std.specs.List.{AllPairs}
use Rattle.i_shape_core.proofs.Common.{Point, point_of, IsAtMost}
use Rattle.i_shape.specs.Paths.{concatenated}
use Rattle.i_shape_c.specs.Steps.Appended.{IsPut}
use Rattle.i_shape_c.specs.Batch.{PartsPoints}
use Rattle.i_shape_c.specs.Polygons.{parts, offsets_of}
use Rattle.i_shape_c.specs.Steps.Sorted.{SortsEachRest}
use Rattle.i_shape_c.proofs.HolesSorted.{left_parted, formed, count_formed}
use Rattle.i_shape_c.proofs.Nested.{listed}
use Rattle.i_shape_c.proofs.SortedPolygons.{points_in_order, rests_sorted}
use Rattle.i_shape_c.proofs.forms.write_sorted.Given.{Over}
use Rattle.i_shape_c.proofs.forms.write_sorted.Goals.{After-deref-2, After-deref-3}
use Rattle.i_shape_c.proofs.forms.write_sorted.Goals as goal

abbrev at : (g : Over) → g.row.P.Denot → Point
at g p = point_of g.P.Coordinate.IntNumber.value (g.P.ContourPoint.point p)

-- the cleaned contours, read back
back : (g : Over) (c : After-deref-2 g) → (c.deref.result.now ≡ c.clean_all.new.out_points) × (c.deref-2.result.now ≡ c.clean_all.new.out_offsets)
back g c = (
  c.deref.ensures.value ∙ take_at c.clean_all.new.out_points _ c.in_ok-cleaned_points.cleaned_points.len
      (omega (arith, c.clean_all.auto.out_points, ap length c.deref_mut.ensures.value, c.in_ok-cleaned_points.cleaned_points.ok.0)),
  c.deref-2.ensures.value ∙ take_at c.clean_all.new.out_offsets _ c.in_ok-cleaned_contours.cleaned_contours.len
      (omega (arith, c.clean_all.auto.out_offsets, ap length c.deref_mut-2.ensures.value, c.in_ok-cleaned_contours.cleaned_contours.ok.0)),
)

-- they have as many offsets, and room for as many points, as the given ones
sizes : (g : Over) (c : After-deref-2 g) → (length c.clean_all.new.out_offsets ≡ length c.args.contours.now) × (length c.clean_all.new.out_points ≡ length c.args.points.now)
sizes g c = (
  omega (arith, c.clean_all.auto.out_offsets, ap length c.deref_mut-2.ensures.value, ap length c.in_ok-cleaned_contours.ensures.items),
  omega (arith, c.clean_all.auto.out_points, ap length c.deref_mut.ensures.value, ap length c.in_ok-cleaned_points.ensures.items),
)

pub slices-requires : goal.slices-requires
slices-requires g c =
    let parted = left_parted g.C.ContourCleaner.meaning g.P.Coordinate.IntNumber.width (at g) c.in_ok-count.ensures.ok c.requires.parted.contours_parted.some (sizes g c).0 (sizes g c).1 in
    subst₂ (λ a b. PartsPoints (length a) b) (sym (back g c).0) (sym (back g c).1) parted

pub sort_each_rest-requires : goal.sort_each_rest-requires
sort_each_rest-requires g c =
    let before = (goal.at.sort_each_rest-requires g c).After-deref-2 in
    let many = listed (λ b. b.now) c.in_ok-rings.rings.items c.deref.result.now c.deref-2.result.now c.in_ok-rings.ensures in
    subst (λ n. PartsPoints n c.args.shapes.now) (sym (ap length c.deref_mut-3.ensures.value ∙ many ∙ ap (λ w. length w - 1) (back g before).1 ∙ ap (λ n. n - 1) (sizes g before).0)) c.requires.parted.shapes_parted

-- the sorted contours, read back
kept : (g : Over) (c : After-deref-3 g) → c.deref-3.result.now ≡ c.sort_each_rest.new.items
kept g c = c.deref-3.ensures.value ∙ take_at c.sort_each_rest.new.items _ c.in_ok-rings.rings.len (c.sort_each_rest.ensures.len ∙ ap length c.deref_mut-3.ensures.value ∙ sym c.in_ok-rings.rings.ok.0)

-- the contours of each polygon are sorted, except for the first
sorts : (g : Over) (c : After-deref-3 g) → SortsEachRest (AllPairs IsAtMost) (map (λ b. map (at g) b.now) c.in_ok-rings.rings.items) (map (λ b. map (at g) b.now) c.sort_each_rest.new.items) c.args.shapes.now
sorts g c =
    let told = points_in_order g.P.Coordinate.IntNumber.value g.P.ContourPoint.point g.P.Coordinate.Ord.cmp g.met.P.Coordinate.IntNumber.order g.P.Ord.cmp g.met.P.CPoint.ordered in
    rests_sorted (λ b. b.now) (λ d. d) (at g) g.P.Ord.cmp told g.met.P.Ord.total c.in_ok-rings.rings.items c.sort_each_rest.new.items c.args.shapes.now (rw c.deref_mut-3.ensures.value at c.sort_each_rest.ensures.sorted)

-- they are those that were read back
read : (g : Over) (c : After-deref-3 g) → (c.deref.result.now ≡ c.clean_all.new.out_points) × (c.deref-2.result.now ≡ c.clean_all.new.out_offsets) → map (λ b. b.now) c.in_ok-rings.rings.items ≡ parts c.clean_all.new.out_points c.clean_all.new.out_offsets
read g c same = c.in_ok-rings.ensures ∙ ap₂ parts same.0 same.1

-- they have as many points as were written
count : (g : Over) (c : After-deref-3 g) → (c.deref.result.now ≡ c.clean_all.new.out_points) × (c.deref-2.result.now ≡ c.clean_all.new.out_offsets) → (length c.clean_all.new.out_offsets ≡ length c.args.contours.now) × (length c.clean_all.new.out_points ≡ length c.args.points.now)
    → length (concatenated (map (λ b. b.now) c.sort_each_rest.new.items)) ≡ c.in_ok-count.count
count g c same size =
    count_formed g.C.ContourCleaner.meaning g.P.Coordinate.IntNumber.width (at g) c.in_ok-count.ensures.ok c.requires.parted.contours_parted.some size.0 size.1 (λ b. b.now) c.in_ok-rings.rings.items c.sort_each_rest.new.items c.requires.parted.shapes_parted (read g c same) (sorts g c)

pub write_lists-requires-clause-room : goal.write_lists-requires-clause-room
write_lists-requires-clause-room g c =
    let at = goal.at.write_lists-requires-clause-room g c in
    let whole = kept g at.After-deref-3 in
    let points = count g at.After-deref-3 (back g at.After-deref-2) (sizes g at.After-deref-2) in
    omega (arith, ap (λ w. length (concatenated (map (λ b. b.now) w))) whole, points, c.in_ok-count.ensures.ok.fewer, c.requires.room.points_room)

pub write_lists-requires-clause-offsets_room : goal.write_lists-requires-clause-offsets_room
write_lists-requires-clause-offsets_room g c =
    let at = goal.at.write_lists-requires-clause-offsets_room g c in
    let many = listed (λ b. b.now) c.in_ok-rings.rings.items c.deref.result.now c.deref-2.result.now c.in_ok-rings.ensures in
    let size = sizes g at.After-deref-2 in
    omega (arith, ap length (kept g at.After-deref-3), c.sort_each_rest.ensures.len, ap length c.deref_mut-3.ensures.value, many, ap length (back g at.After-deref-2).1, size.0, c.requires.parted.contours_parted.some, c.requires.room.offsets_room)

pub returns-clause-ok : goal.returns-clause-ok
returns-clause-ok g c =
    let before = (goal.at.returns-clause-ok g c).After-deref-2 in
    let done = (goal.at.returns-clause-ok g c).After-deref-3 in
    let left = c.in_ok-count.ensures.ok in
    let size = sizes g before in
    let whole = kept g done in
    record {
      contours = map (λ b. b.now) c.sort_each_rest.new.items;
      formed = formed g.C.ContourCleaner.meaning g.P.Coordinate.IntNumber.width (at g) left c.requires.parted.contours_parted.some size.0 size.1 (λ b. b.now) c.in_ok-rings.rings.items c.sort_each_rest.new.items c.requires.parted.shapes_parted (read g done (back g before)) (sorts g done);
      count = count g done (back g before) size;
      fewer = left.fewer;
      points_are = subst (λ w. IsPut 0 (concatenated (map (λ b. b.now) w)) c.args.out_points.now c.write_lists.new.out) whole c.write_lists.ensures.items;
      offsets_are = subst (λ w. IsPut 0 (offsets_of 0 (map (λ b. b.now) w)) c.args.out_contours.now c.write_lists.new.offsets) whole c.write_lists.ensures.offsets;
    }
