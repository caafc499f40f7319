use Rattle.i_shape_core.proofs.CleanerAnswers.Written.{spikes_removed}
use Rattle.i_shape_core.proofs.clean.cleaner.SpikeRemoverContourCleaner.write_left.Goals as goal

pub walk_into-requires-clause-unclean : goal.walk_into-requires-clause-unclean
walk_into-requires-clause-unclean g c = λ despiked. c.requires.unclean despiked.spikeless

pub returns-clause-written : goal.returns-clause-written
returns-clause-written g c = spikes_removed c.walk_into.result c.requires.unclean c.walk_into.ensures.written
