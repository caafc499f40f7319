use Rattle.i_shape_c.specs.Cleaned.{TakesNoMemory}
use Rattle.i_shape_c.proofs.Batches.{if_ok, on_err}
use Rattle.i_shape_c.proofs.FormsWritten.{none_written, none_spared, level_none, none_level, if_err}
use Rattle.i_shape_c.proofs.canonical.write_forms.Goals as goal

pub returns-then-shapes-clause-ok : goal.returns-then-shapes-clause-ok
returns-then-shapes-clause-ok g c = if_ok c.write_cleaned.result (λ n left. none_written g.C.ContourCleaner.meaning.answers left (level_none _ _ c.requires.parted.shapes_parted c.if-shapes.true)) c.write_cleaned.ensures.ok

pub returns-then-shapes-clause-memory : goal.returns-then-shapes-clause-memory
returns-then-shapes-clause-memory g c = if_err c.write_cleaned.result (λ takes none. takes (none_spared (TakesNoMemory g.C.ContourCleaner.meaning.fewest g.C.ContourCleaner.meaning.clean) _ none)) c.write_cleaned.ensures.memory

pub returns-clause-memory : goal.returns-clause-memory
returns-clause-memory g c = on_err c.write_sorted_forms.result (λ none. c.if-shapes.false (none_level _ _ c.requires.parted.shapes_parted none))
