-- Two texts, one after the other, of which the first ends its lines.
use Rattle.std.specs.Prelude.{◌≡◌, ◌⊎◌, ℕ, ◌+◌, List, [], ◌∷◌, ◌++◌, length}
use Rattle.std.specs.List.{AllByRecursion}
use Rattle.i_shape_tool.specs.declared.command.Command.{Command}
use Rattle.i_shape_tool.specs.declared.fault.ToolFault.{ToolFault}
use Rattle.i_shape_tool.specs.declared.fault.ToolFault.TheVariants.{NotAContour, OutOfRange, OutOfMemory}
use Rattle.i_shape_tool.specs.Text.{newline, lines_of}
use Rattle.i_shape_tool.specs.Run.{IsGood, AnswersText, IsFirstFault}

-- the text is empty, or its last line ends with a newline
abbrev pub EndsItsLines : List ℕ → Type 0
EndsItsLines text = (text ≡ []) ⊎ ((front : List ℕ) × (text ≡ front ++ newline ∷ []))

-- the output is an answer to the first text followed by one to the second
pub record PartedAnswer (command : Command) (text more output : List ℕ) : Type 0 where
  pub first : List ℕ
  pub second : List ℕ
  pub whole : output ≡ first ++ second
  pub answers_first : AnswersText command text first
  pub answers_second : AnswersText command more second

-- the same fault n lines further down
abbrev pub lines_later : ℕ → ToolFault → ToolFault
lines_later n (NotAContour line) = NotAContour (n + line)
lines_later n (OutOfRange line) = OutOfRange (n + line)
lines_later n OutOfMemory = OutOfMemory

-- no line of the first text is faulty, and the fault is the first one of the second, with its line counted from the
-- start of the first
pub record IsFaultOfSecond (command : Command) (text more : List ℕ) (fault : ToolFault) : Type 0 where
  pub good : AllByRecursion (IsGood command) (lines_of text)
  pub later : ToolFault
  pub first : IsFirstFault command more later
  pub counted : fault ≡ lines_later (length (lines_of text)) later
