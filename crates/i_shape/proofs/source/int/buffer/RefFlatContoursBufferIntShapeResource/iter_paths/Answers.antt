use Rattle.i_shape.proofs.Common.{AreSafePaths}
use Rattle.i_shape.proofs.source.int.buffer.RefFlatContoursBufferIntShapeResource.iter_paths.Goals as goal

pub returns-clause-safe : goal.returns-clause-safe
unfolding AreSafePaths
returns-clause-safe g c = (λ h. h, λ h. h)
