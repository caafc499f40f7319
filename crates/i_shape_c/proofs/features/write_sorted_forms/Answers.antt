use Rattle.std.proofs.Common.{ℕ, List, ◌≡◌, ◌+◌, ◌-◌, ◌≤◌, ◌<◌, ◌∙◌, length, slice_range, sym, ap, subst, subst₂, arith, rules, take_at}
use Rattle.i_shape.specs.Paths.{concatenated}
use Rattle.i_shape_core.proofs.Lists.Rings.{rises_to}
use Rattle.i_shape_c.specs.Batch.{offset, PartsPoints}
use Rattle.i_shape_c.specs.Points.{point_by}
use Rattle.i_shape_c.specs.Polygons.{polygon_arrays, polygons, offsets_of}
use Rattle.i_shape_c.specs.Steps.Sorted.{SortsFeatures, WritesSorted}
use Rattle.i_shape_c.proofs.Appended.{length-offsets}
use Rattle.i_shape_c.proofs.FeaturesSorted.{each_left, features_written}
use Rattle.i_shape_c.proofs.PolygonsLeft.{spans}
use Rattle.i_shape_c.proofs.FormsWritten.{shape_offsets, last_shape, ring_offsets, all_contours, all_points, cleaned_counts, offsets_part}
use Rattle.i_shape_c.proofs.features.write_sorted_forms.Given.{Over}
use Rattle.i_shape_c.proofs.features.write_sorted_forms.Goals.{After-deref-2, After-deref-3}
use Rattle.i_shape_c.proofs.features.write_sorted_forms.Goals as goal

pub bounds-contours-first : goal.bounds-contours-first
bounds-contours-first g c = omega (arith, spans c.requires.parted.polygons_parted.shapes_parted, c.requires.parted.polygons_parted.shapes_parted.last, c.requires.parted.polygons_parted.contours_parted.some)

pub offset_bounds-contours-first : goal.offset_bounds-contours-first
offset_bounds-contours-first g c =
    let below : offset c.args.shapes.now 0 < length c.args.contours.now = omega (arith, spans c.requires.parted.polygons_parted.shapes_parted, c.requires.parted.polygons_parted.shapes_parted.last, c.requires.parted.polygons_parted.contours_parted.some) in
    search (rules, below)

pub part-requires-clause-order : goal.part-requires-clause-order
part-requires-clause-order g c =
    let part = c.requires.parted.polygons_parted.shapes_parted in
    rises_to c.args.contours.now (length c.args.contours.now) (offset c.args.shapes.now 0) (offset c.args.shapes.now (length c.args.shapes.now - 1)) c.requires.parted.polygons_parted.contours_parted.order (spans part) (omega (arith, part.last, c.requires.parted.polygons_parted.contours_parted.some))

pub part-requires-clause-within : goal.part-requires-clause-within
part-requires-clause-within g c =
    let parted = c.requires.parted.polygons_parted in
    let rise = rises_to c.args.contours.now (length c.args.contours.now) (offset c.args.shapes.now (length c.args.shapes.now - 1)) (length c.args.contours.now - 1) parted.contours_parted.order (omega (arith, parted.shapes_parted.last)) (omega (arith, parted.contours_parted.some)) in
    omega (arith, rise, parted.contours_parted.last)

pub overflow_sub-last-2 : goal.overflow_sub-last-2
overflow_sub-last-2 g c = omega (arith, spans c.requires.parted.polygons_parted.shapes_parted)

-- the cleaned polygons' offsets are read back
shapes_are : (g : Over) (c : After-deref-2 g) → c.part-cleaned_shapes.result.now ≡ offsets_of 0 c.in_ok-count.ensures.ok.list
shapes_are g c =
    let back : c.deref.result.now ≡ c.clean_each.new.out_shapes = c.deref.ensures.value ∙ take_at c.clean_each.new.out_shapes _ c.in_ok-cleaned_shapes.cleaned_shapes.len
    (omega (arith, c.clean_each.auto.out_shapes, ap length c.deref_mut-3.ensures.value, c.in_ok-cleaned_shapes.cleaned_shapes.ok.0)) in
    c.part-cleaned_shapes.ensures.part ∙ ap (λ w. slice_range w 0 (c.in_ok-count.count + 1)) back ∙ shape_offsets c.in_ok-count.ensures.ok

-- the last of these is the number of contours
last : (g : Over) (c : After-deref-2 g) → offset c.part-cleaned_shapes.result.now c.in_ok-count.count ≡ length (concatenated c.in_ok-count.ensures.ok.list)
last g c = ap (λ w. offset w c.in_ok-count.count) (shapes_are g c) ∙ last_shape c.in_ok-count.ensures.ok

-- the contours' offsets that a call wrote are read back
contours_back : (g : Over) (c : After-deref-2 g) → c.deref-2.result.now ≡ c.clean_each.new.out_contours
contours_back g c = c.deref-2.ensures.value ∙ take_at c.clean_each.new.out_contours _ c.in_ok-cleaned_contours.cleaned_contours.len
    (omega (arith, c.clean_each.auto.out_contours, ap length c.deref_mut-2.ensures.value, c.in_ok-cleaned_contours.cleaned_contours.ok.0))

pub overflow_add-cleaned_shapes : goal.overflow_add-cleaned_shapes
overflow_add-cleaned_shapes g c =
    let few : offset c.part-cleaned_shapes.result.now c.in_ok-count.count + 1 ≤ length c.args.contours.now = omega (arith, last g (goal.at.overflow_add-cleaned_shapes g c).After-deref-2, c.in_ok-count.ensures.ok.fewer_contours) in
    search (rules, few)

pub part-cleaned_contours-requires-clause-within : goal.part-cleaned_contours-requires-clause-within
part-cleaned_contours-requires-clause-within g c =
    let before = (goal.at.part-cleaned_contours-requires-clause-within g c).After-deref-2 in
    omega (arith, last g before, all_contours c.in_ok-count.ensures.ok, ap length (contours_back g before))

-- the cleaned points, and the offsets of their contours and polygons, are read back
read_back : (g : Over) (c : After-deref-3 g) → c.part-cleaned_shapes.result.now ≡ offsets_of 0 c.in_ok-count.ensures.ok.list → c.deref-2.result.now ≡ c.clean_each.new.out_contours
    → (c.deref-3.result.now ≡ c.clean_each.new.out_points) × (c.part-cleaned_contours.result.now ≡ offsets_of 0 (concatenated c.in_ok-count.ensures.ok.list)) × (c.part-cleaned_shapes.result.now ≡ offsets_of 0 c.in_ok-count.ensures.ok.list)
read_back g c shapes contours =
    let count = ap (λ w. offset w c.in_ok-count.count) shapes ∙ last_shape c.in_ok-count.ensures.ok in
    let points_back = c.deref-3.ensures.value ∙ take_at c.clean_each.new.out_points _ c.in_ok-cleaned_points.cleaned_points.len
    (omega (arith, c.clean_each.auto.out_points, ap length c.deref_mut.ensures.value, c.in_ok-cleaned_points.cleaned_points.ok.0)) in
    let contours_are = c.part-cleaned_contours.ensures.part ∙ ap (λ w. slice_range w 0 (offset c.part-cleaned_shapes.result.now c.in_ok-count.count + 1)) contours
    ∙ ap (λ k. slice_range c.clean_each.new.out_contours 0 (k + 1)) count ∙ ring_offsets c.in_ok-count.ensures.ok in
    (points_back, contours_are, shapes)

-- equal arrays are read as equal polygons
same_polygons : {P : Type 0} {points old_points : List P} {contours old_contours shapes old_shapes : List ℕ} → (points ≡ old_points) × (contours ≡ old_contours) × (shapes ≡ old_shapes) → polygons points contours shapes ≡ polygons old_points old_contours old_shapes
same_polygons back = λ i. polygons (back.0 i) (back.1 i) (back.2 i)

pub write_sorted-requires-clause-parted : goal.write_sorted-requires-clause-parted
write_sorted-requires-clause-parted g c =
    let left = c.in_ok-count.ensures.ok in
    let at = goal.at.write_sorted-requires-clause-parted g c in
    let back = read_back g at.After-deref-3 (shapes_are g at.After-deref-2) (contours_back g at.After-deref-2) in
    let rings = concatenated left.list in
    let count = each_left g.C.ContourCleaner.meaning.answers c.args.features.now left in
    let same : length c.args.shapes.now - 1 ≡ length c.part-cleaned_shapes.result.now - 1 = omega (arith, count, ap length back.2, length-offsets 0 left.list) in
    record {
      polygons_parted = record {
        contours_parted = subst₂ (λ a b. PartsPoints (length a) b) (sym back.0) (sym back.1) (offsets_part rings (length c.clean_each.new.out_points) (all_points left));
        shapes_parted = subst₂ (λ a b. PartsPoints (length a - 1) b) (sym back.1) (sym back.2) (offsets_part left.list (length (offsets_of 0 rings) - 1) (omega (arith, length-offsets 0 rings)));
      };
      features_parted = subst (λ n. PartsPoints n c.args.features.now) same c.requires.parted.features_parted;
    }

pub write_sorted-requires-clause-whole : goal.write_sorted-requires-clause-whole
write_sorted-requires-clause-whole g c =
    let left = c.in_ok-count.ensures.ok in
    let at = goal.at.write_sorted-requires-clause-whole g c in
    let back = read_back g at.After-deref-3 (shapes_are g at.After-deref-2) (contours_back g at.After-deref-2) in
    let counts = cleaned_counts left in
    omega (arith, ap (λ w. length (concatenated w)) (same_polygons back), counts.0, ap length back.1, length-offsets 0 (concatenated left.list))

pub write_sorted-requires-clause-points_room : goal.write_sorted-requires-clause-points_room
write_sorted-requires-clause-points_room g c =
    let left = c.in_ok-count.ensures.ok in
    let at = goal.at.write_sorted-requires-clause-points_room g c in
    let back = read_back g at.After-deref-3 (shapes_are g at.After-deref-2) (contours_back g at.After-deref-2) in
    let counts = cleaned_counts left in
    omega (arith, ap (λ w. length (concatenated (concatenated w))) (same_polygons back), counts.1, left.fewer_points, c.requires.room.contours_fit.points_room)

pub returns-clause-ok : goal.returns-clause-ok
returns-clause-ok g c =
    let at = goal.at.returns-clause-ok g c in
    let back = read_back g at.After-deref-3 (shapes_are g at.After-deref-2) (contours_back g at.After-deref-2) in
    features_written g.C.ContourCleaner.meaning.answers c.args.features.now c.in_ok-count.ensures.ok c.requires.parted.features_parted
    (subst (λ w. WritesSorted (SortsFeatures c.args.features.now) (point_by g.P.Coordinate.IntNumber.value g.P.ContourPoint.point) w (polygon_arrays c.args.out_points.now c.args.out_contours.now c.args.out_shapes.now) (polygon_arrays c.write_sorted.new.out_points c.write_sorted.new.out_contours c.write_sorted.new.out_shapes)) (same_polygons back) c.in_ok-write_sorted.ensures.ok)
