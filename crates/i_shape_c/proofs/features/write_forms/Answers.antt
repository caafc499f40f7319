use Rattle.i_shape_c.specs.Cleaned.{TakesNoMemory}
use Rattle.i_shape_c.proofs.Batches.{if_ok, on_err}
use Rattle.i_shape_c.proofs.FeaturesSorted.{nothing_written}
use Rattle.i_shape_c.proofs.FormsWritten.{none_spared, level_none, none_level, if_err}
use Rattle.i_shape_c.proofs.PolygonsLeft.{room_for_polygons}
use Rattle.i_shape_c.proofs.features.write_forms.Goals as goal

pub clean_each-requires-clause-room : goal.clean_each-requires-clause-room
clean_each-requires-clause-room g c = room_for_polygons c.args.points.now c.requires.parted.polygons_parted _ _ _ c.requires.room

pub returns-then-shapes-clause-ok : goal.returns-then-shapes-clause-ok
returns-then-shapes-clause-ok g c =
    if_ok c.clean_each.result (λ n left. nothing_written g.C.ContourCleaner.meaning.answers c.args.features.now left (level_none _ _ c.requires.parted.polygons_parted.shapes_parted c.if-shapes.true)) c.clean_each.ensures.ok

pub returns-then-shapes-clause-memory : goal.returns-then-shapes-clause-memory
returns-then-shapes-clause-memory g c = if_err c.clean_each.result (λ takes none. takes (none_spared (TakesNoMemory g.C.ContourCleaner.meaning.fewest g.C.ContourCleaner.meaning.clean) _ none)) c.clean_each.ensures.memory

pub returns-clause-memory : goal.returns-clause-memory
returns-clause-memory g c = on_err c.write_sorted_forms.result (λ none. c.if-shapes.false (none_level _ _ c.requires.parted.polygons_parted.shapes_parted none))
