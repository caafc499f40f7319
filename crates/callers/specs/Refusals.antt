-- Why a caller has no result.
use Rattle.callers.specs.declared.refusal.Refusal.{Refusal}
use Rattle.callers.specs.declared.refusal.Refusal.TheVariants.{Call}
use Rattle.i_shape_core.specs.declared.error.ShapeError.TheVariants.{OutOfMemory}

-- a call of the library lacked memory
abbrev pub no_memory : Refusal
no_memory = Call OutOfMemory
