-- The answer of the program to a text.
use Rattle.std.specs.Prelude.{◌≡◌, ℕ, ◌+◌, List, [], ◌∷◌, ◌++◌, length, Option, Some, None, codes}
use Rattle.std.specs.List.{concat, flat_map, AllByRecursion, AllZip}
use Rattle.std.specs.Fmt.{signed_decimal}
use Rattle.std.specs.Int.{w64, int_wrap}
use Rattle.i_shape.specs.Point.{Point}
use Rattle.i_shape.specs.Edges.{shoelace}
use Rattle.i_shape.specs.Cleaners.{SimpleAnswer, SpikelessAnswer}
use Rattle.i_shape.specs.Canonical.{CanonicalAnswer}
use Rattle.i_shape.specs.Survivors as cleaned
use Rattle.i_shape_tool.specs.declared.command.Command.{Command}
use Rattle.i_shape_tool.specs.declared.command.Command.TheVariants.{Simplify, Despike, Area, Canonical, Compact}
use Rattle.i_shape_tool.specs.declared.fault.ToolFault.{ToolFault}
use Rattle.i_shape_tool.specs.declared.fault.ToolFault.TheVariants.{NotAContour, OutOfRange, OutOfMemory}
use Rattle.i_shape_tool.specs.Points.{IsSafe}
use Rattle.i_shape_tool.specs.Command.{IsCleaner}
use Rattle.i_shape_tool.specs.Text.{Reads, ReadsNone, shown, lines_of, newline}

-- the line reads c, which is safe if the command cleans
abbrev pub Gives : Command → List ℕ → List Point → Type 0
Gives command line c = Reads line c × (IsCleaner command → IsSafe c)

-- the line isn't faulty for the command
abbrev pub IsGood : Command → List ℕ → Type 0
IsGood command line = (c : List Point) × Gives command line c

-- the line reads a contour that isn't safe, and the command requires safe points
abbrev pub ReadsUnsafe : Command → List ℕ → Type 0
ReadsUnsafe command line = IsCleaner command × ((c : List Point) × Reads line c × (IsSafe c → ⊥))

-- the line of this number has this fault; `OutOfMemory` is always possible
abbrev pub IsFaultOfLine : Command → List ℕ → ℕ → ToolFault → Type 0
IsFaultOfLine command line number (NotAContour n) = (n ≡ number) × ReadsNone line
IsFaultOfLine command line number (OutOfRange n) = (n ≡ number) × ReadsUnsafe command line
IsFaultOfLine command line number OutOfMemory = Unit {0}

-- the fault is that of some line, counted from 1, and no line before it is faulty; `OutOfMemory` is possible at any
-- line, and a text without lines has no fault
abbrev pub IsFirstFault : Command → List ℕ → ToolFault → Type 0
IsFirstFault command text fault =
    (before : List (List ℕ)) × (line : List ℕ) × (after : List (List ℕ))
    × (lines_of text ≡ before ++ line ∷ after)
    × AllByRecursion (IsGood command) before
    × IsFaultOfLine command line (length before + 1) fault

-- what is printed for a cleaned contour
abbrev pub shown_or_none : Option (List Point) → List ℕ
shown_or_none None = codes "none"
shown_or_none (Some e) = shown e

-- what is printed for twice the area of a contour, wrapped to 64 bits
abbrev pub shown_area : List Point → List ℕ
shown_area [] = codes "empty"
shown_area (p ∷ c) = signed_decimal (int_wrap w64 (shoelace (p ∷ c)))

-- the answer, on a line of its own
abbrev pub ended : List ℕ → List ℕ
ended answer = answer ++ newline ∷ []

-- the contour, on a line of its own
abbrev pub shown_line : List Point → List ℕ
shown_line c = ended (shown c)

-- the answer is the line of the cleaned contour; `Cleaned` relates a contour to the cleaner's results
abbrev pub ShowsCleaned : (List Point → Option (List Point) → Type 0) → List Point → List ℕ → Type 0
ShowsCleaned Cleaned c answer = (r : Option (List Point)) × Cleaned c r × (answer ≡ ended (shown_or_none r))

-- the answer is the line of twice the area
abbrev pub ShowsArea : List Point → List ℕ → Type 0
ShowsArea c answer = answer ≡ ended (shown_area c)

-- the output is an answer to the contour of each line, in order, and nothing else; `Answers` relates a contour to its
-- answers
abbrev pub AnswersLines : Command → (List Point → List ℕ → Type 0) → List ℕ → List ℕ → Type 0
AnswersLines command Answers text output =
    (contours : List (List Point)) × (answers : List (List ℕ))
    × AllZip (Gives command) (lines_of text) contours
    × AllZip Answers contours answers
    × (output ≡ concat answers)

-- the output is what cleaning leaves of the contours that the lines read, in order, each on a line of its own, and
-- nothing else
abbrev pub ShowsCompact : List ℕ → List ℕ → Type 0
ShowsCompact text output =
    (contours : List (List Point)) × (kept : List (List Point))
    × AllZip (Gives Compact) (lines_of text) contours
    × cleaned.Compact contours kept
    × (output ≡ flat_map shown_line kept)

-- the output is the command's answer to the text: all commands but `compact` answer each line by one of its own
abbrev pub AnswersText : Command → List ℕ → List ℕ → Type 0
AnswersText Simplify text output = AnswersLines Simplify (ShowsCleaned SimpleAnswer) text output
AnswersText Despike text output = AnswersLines Despike (ShowsCleaned SpikelessAnswer) text output
AnswersText Area text output = AnswersLines Area ShowsArea text output
AnswersText Canonical text output = AnswersLines Canonical (ShowsCleaned CanonicalAnswer) text output
AnswersText Compact text output = ShowsCompact text output
