use Rattle.std.proofs.Common.{◌≡◌, ◌-◌, ◌∙◌, length, map, sym, ap, subst, arith, take_at, rules}
use Rattle.std.proofs.lemmas.List.Sorted.{length_permutation, answers_always}
use Rattle.i_shape_core.proofs.Common.{Point, point_of}
use Rattle.i_shape.specs.Paths.{concatenated}
use Rattle.i_shape_c.specs.Steps.Appended.{IsPut}
use Rattle.i_shape_c.specs.Batch.{PartsPoints}
use Rattle.i_shape_c.specs.Polygons.{parts, polygons, offsets_of}
use Rattle.i_shape_c.specs.Steps.Sorted.{SortsPolygons}
use Rattle.i_shape_c.proofs.Nested.{listed, filled}
use Rattle.i_shape_c.proofs.PolygonLists.{concatenated-map, offsets-map}
use Rattle.i_shape_c.proofs.SortedPolygons.{points_in_order, sorted_counts, polygons_sorted, made_sorted, sorted_by_first, keyed}
use Rattle.i_shape_c.proofs.canonical.write_sorted.Given.{Over}
use Rattle.i_shape_c.proofs.canonical.write_sorted.Goals.{After-deref, After-deref_mut-2, After-deref-3}
use Rattle.i_shape_c.proofs.canonical.write_sorted.Goals as goal

pub sort_each_rest-requires : goal.sort_each_rest-requires
sort_each_rest-requires g c =
    let many = listed (λ b. b.now) c.in_ok-rings.rings.items c.args.points.now c.args.contours.now c.in_ok-rings.ensures in
    subst (λ n. PartsPoints n c.args.shapes.now) (sym (ap length c.deref_mut.ensures.value ∙ many)) c.requires.parted.shapes_parted

-- the rings, sorted in place, are read back
back : (g : Over) (c : After-deref g) → c.deref.result.now ≡ c.sort_each_rest.new.items
back g c = c.deref.ensures.value ∙ take_at c.sort_each_rest.new.items _ c.in_ok-rings.rings.len (c.sort_each_rest.ensures.len ∙ ap length c.deref_mut.ensures.value ∙ sym c.in_ok-rings.rings.ok.0)

pub slices-requires-2 : goal.slices-requires-2
slices-requires-2 g c =
    let many = listed (λ b. b.now) c.in_ok-rings.rings.items c.args.points.now c.args.contours.now c.in_ok-rings.ensures in
    subst (λ n. PartsPoints n c.args.shapes.now) (sym (ap length (back g c) ∙ c.sort_each_rest.ensures.len ∙ ap length c.deref_mut.ensures.value ∙ many)) c.requires.parted.shapes_parted

abbrev at : (g : Over) → g.row.P.Denot → Point
at g p = point_of g.P.Coordinate.IntNumber.value (g.P.ContourPoint.point p)

-- the polygons are sorted, with as many contours and points as before
facts : (g : Over) (c : After-deref_mut-2 g)
    → SortsPolygons (map (map (map (at g))) (polygons c.args.points.now c.args.contours.now c.args.shapes.now)) (map (map (map (at g))) (map (map (λ b. b.now)) (map (λ d. d.now) c.sort_by_cached_key.new.self.items)))
    × (length (concatenated (map (λ d. d.now) c.sort_by_cached_key.new.self.items)) ≡ length (concatenated (polygons c.args.points.now c.args.contours.now c.args.shapes.now)))
    × (length (concatenated (map (λ b. b.now) (concatenated (map (λ d. d.now) c.sort_by_cached_key.new.self.items)))) ≡ length (concatenated (concatenated (polygons c.args.points.now c.args.contours.now c.args.shapes.now))))
facts g c =
    let read = c.deref.ensures.value ∙ take_at c.sort_each_rest.new.items _ c.in_ok-rings.rings.len (c.sort_each_rest.ensures.len ∙ ap length c.deref_mut.ensures.value ∙ sym c.in_ok-rings.rings.ok.0) in
    let told = points_in_order g.P.Coordinate.IntNumber.value g.P.ContourPoint.point g.P.Coordinate.Ord.cmp g.met.P.Coordinate.IntNumber.order g.P.Ord.cmp g.met.P.CPoint.ordered in
    made_sorted (λ b. b.now) (λ d. d.now) (at g) g.P.Ord.cmp told g.met.P.Ord.total SortsPolygons sorted_counts c.args.points.now c.args.contours.now c.args.shapes.now c.in_ok-rings.rings.items c.sort_by_cached_key.new.self.items c.in_ok-rings.ensures
    (polygons_sorted (λ b. b.now) (λ d. d.now) (at g) g.P.Ord.cmp told g.met.P.Ord.total c.in_ok-rings.rings.items c.sort_each_rest.new.items c.args.shapes.now c.in_ok-polygons.polygons.items c.sort_by_cached_key.new.self.items (rw c.deref_mut.ensures.value at c.sort_each_rest.ensures.sorted) (c.in_ok-polygons.ensures ∙ ap (λ w. parts w c.args.shapes.now) read) c.sort_by_cached_key.ensures.permutation
    (sorted_by_first (λ b. b.now) (λ d. d.now) (at g) g.P.Ord.cmp told g.met.P.Ord.total c.sort_by_cached_key.new.self.items (c.in_ok-sort_by_cached_key.ensures.sorted (keyed (λ b. b.now) (λ d. d.now)) (answers_always _ _ _ (λ f a r q k. search rules)))))

-- the room for the rings is exactly their number
long : (g : Over) (c : After-deref_mut-2 g) → (length (concatenated (map (λ d. d.now) c.deref-2.result.now)) ≡ length c.deref_mut-2.result.now) × (length c.deref_mut-2.result.now ≡ length c.args.contours.now - 1)
long g c =
    let many : length c.deref_mut-2.result.now ≡ length c.args.contours.now - 1 = ap length c.deref_mut-2.ensures.value ∙ listed (λ b. b.now) c.in_ok-sorted.sorted.items c.args.points.now c.args.contours.now c.in_ok-sorted.ensures in
    (omega (arith, ap (λ w. length (concatenated (map (λ d. d.now) w))) c.deref-2.ensures.value, (facts g c).1, c.requires.whole, many), many)

pub write_lists-requires-clause-room : goal.write_lists-requires-clause-room
write_lists-requires-clause-room g c = omega (arith, (long g (goal.at.write_lists-requires-clause-room g c).After-deref_mut-2).0)

pub write_lists-requires-clause-offsets_room : goal.write_lists-requires-clause-offsets_room
write_lists-requires-clause-offsets_room g c =
    let made = listed (λ d. d.now) c.in_ok-polygons.polygons.items c.deref.result.now c.args.shapes.now c.in_ok-polygons.ensures in
    omega (arith, ap length c.deref-2.ensures.value, length_permutation c.in_ok-polygons.polygons.items c.sort_by_cached_key.new.self.items c.sort_by_cached_key.ensures.permutation, made, c.requires.parted.shapes_parted.some, c.requires.shapes_room)

-- the rings of the sorted polygons are read back
kept : (g : Over) (c : After-deref-3 g) → length (concatenated (map (λ d. d.now) c.deref-2.result.now)) ≡ length c.deref_mut-2.result.now → c.deref-3.result.now ≡ concatenated (map (λ d. d.now) c.deref-2.result.now)
kept g c fits =
    let full = filled (concatenated (map (λ d. d.now) c.deref-2.result.now)) c.deref_mut-2.result.now c.write_lists.new.out c.write_lists.ensures.items fits in
    c.deref-3.ensures.value ∙ take_at c.write_lists.new.out _ c.in_ok-sorted.sorted.len (ap length full ∙ fits ∙ ap length c.deref_mut-2.ensures.value ∙ sym c.in_ok-sorted.sorted.ok.0) ∙ full

pub write_lists-requires-2-clause-room : goal.write_lists-requires-2-clause-room
write_lists-requires-2-clause-room g c =
    let at = goal.at.write_lists-requires-2-clause-room g c in
    let whole = kept g at.After-deref-3 (long g at.After-deref_mut-2).0 ∙ ap (λ w. concatenated (map (λ d. d.now) w)) c.deref-2.ensures.value in
    omega (arith, ap (λ w. length (concatenated (map (λ b. b.now) w))) whole, (facts g at.After-deref_mut-2).2, c.requires.points_room)

pub write_lists-requires-2-clause-offsets_room : goal.write_lists-requires-2-clause-offsets_room
write_lists-requires-2-clause-offsets_room g c =
    let at = goal.at.write_lists-requires-2-clause-offsets_room g c in
    let sizes = long g at.After-deref_mut-2 in
    omega (arith, ap length (kept g at.After-deref-3 sizes.0), sizes.0, sizes.1, c.requires.parted.contours_parted.some, c.requires.contours_room)

pub returns-clause-ok : goal.returns-clause-ok
returns-clause-ok g c =
    let at = goal.at.returns-clause-ok g c in
    let written = at.After-deref_mut-2 in
    let sorted = c.sort_by_cached_key.new.self.items in
    let rings = concatenated (map (λ d. d.now) sorted) in
    let list = map (map (λ b. b.now)) (map (λ d. d.now) sorted) in
    let whole : c.deref-3.result.now ≡ rings = kept g at.After-deref-3 (long g written).0 ∙ ap (λ w. concatenated (map (λ d. d.now) w)) c.deref-2.ensures.value in
    let flat : concatenated list ≡ map (λ b. b.now) rings = concatenated-map (λ b. b.now) (map (λ d. d.now) sorted) in
    record {
      list = list;
      sorted = (facts g written).0;
      held = record {
        points_are = subst (λ w. IsPut 0 (concatenated w) c.args.out_points.now c.write_lists-2.new.out) (ap (map (λ b. b.now)) whole ∙ sym flat) c.write_lists-2.ensures.items;
        contours_are = subst (λ w. IsPut 0 (offsets_of 0 w) c.args.out_contours.now c.write_lists-2.new.offsets) (ap (map (λ b. b.now)) whole ∙ sym flat) c.write_lists-2.ensures.offsets;
        shapes_are = subst (λ w. IsPut 0 w c.args.out_shapes.now c.write_lists.new.offsets) (ap (λ w. offsets_of 0 (map (λ d. d.now) w)) c.deref-2.ensures.value ∙ sym (offsets-map (λ b. b.now) 0 (map (λ d. d.now) sorted))) c.write_lists.ensures.offsets;
      };
    }
