use Rattle.i_shape_c.proofs.Batches.{safe_rings, cleaned_batch, have_room, if_ok, unless_ok}
use Rattle.i_shape_c.proofs.batch.clean_all.Goals as goal

pub try_clean_rings-requires-clause-points_safe : goal.try_clean_rings-requires-clause-points_safe
try_clean_rings-requires-clause-points_safe g c =
    safe_rings g.P.Coordinate.IntNumber.width g.P.Coordinate.IntNumber.value g.P.ContourPoint.point g.P.ContourPoint.points g.P.ContourPoint.each c.args.points.now c.args.offsets.now c.requires.parted.order c.requires.points_safe

pub returns-clause-ok : goal.returns-clause-ok
returns-clause-ok g c =
    if_ok c.try_clean_rings.result (cleaned_batch g.P.Coordinate.IntNumber.width g.P.Coordinate.IntNumber.value g.P.ContourPoint.point g.P.ContourPoint.points g.P.ContourPoint.each
    g.C.ContourCleaner.meaning c.args.points.now c.args.offsets.now c.args.out_points.now c.try_clean_rings.new.out c.args.out_offsets.now c.try_clean_rings.new.out_offsets)
    c.try_clean_rings.ensures.cleaned

pub returns-clause-memory : goal.returns-clause-memory
returns-clause-memory g c =
    unless_ok c.try_clean_rings.result (λ none. c.try_clean_rings.ensures.memory.reserved (have_room g.P.Coordinate.IntNumber.width g.P.Coordinate.IntNumber.value g.P.ContourPoint.point g.P.ContourPoint.points g.P.ContourPoint.each
    g.C.ContourCleaner.meaning.fewest g.C.ContourCleaner.meaning.clean (g.C.ContourCleaner.has_room c.new.result) (g.met.C.ContourCleaner.spares c.new.result) c.args.points.now c.args.offsets.now none))
