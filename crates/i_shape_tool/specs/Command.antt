-- The commands and the words that name them.
use Rattle.std.specs.Prelude.{ℕ, List, codes}
use Rattle.i_shape_tool.specs.declared.command.Command.{Command}
use Rattle.i_shape_tool.specs.declared.command.Command.TheVariants.{Simplify, Despike, Area, Canonical, Compact}

-- the word for a command on the command line
abbrev pub word_of : Command → List ℕ
word_of Simplify = codes "simplify"
word_of Despike = codes "despike"
word_of Area = codes "area"
word_of Canonical = codes "canonical"
word_of Compact = codes "compact"

-- a command that answers only safe contours
abbrev pub IsCleaner : Command → Type 0
IsCleaner Simplify = Unit {0}
IsCleaner Despike = Unit {0}
IsCleaner Area = ⊥
IsCleaner Canonical = Unit {0}
IsCleaner Compact = Unit {0}
