-- One run of the program: its arguments, its input and its two outputs.
use Rattle.std.specs.Prelude.{◌≡◌, ℕ, List, [], ◌∷◌, Option, IfSome, string_bytes, ◌⊎◌, ◌++◌, take, codes, decimal}
use Rattle.std.specs.Str.{IsUtf8}
use Rattle.std.specs.declared.string.String.{String}
use Rattle.std.specs.declared.alloc.Global.{Global}
use Rattle.std.specs.Io.KnownBytes.{Appends, Keeps}
use Rattle.i_shape_tool.specs.declared.command.Command.{Command}
use Rattle.i_shape_tool.specs.declared.fault.ToolFault.TheVariants as faults
use Rattle.i_shape_tool.specs.declared.program.Complaint.{Complaint}
use Rattle.i_shape_tool.specs.declared.program.Complaint.TheVariants.{Usage, NotUtf8, Fault, Input, Output}
use Rattle.i_shape_tool.specs.Command.{word_of}
use Rattle.i_shape_tool.specs.Run.{AnswersText, IsFirstFault}

-- there is exactly one word, and it names the command
abbrev pub Asks : List (String Global) → Command → Type 0
Asks words command = (word : String Global) × (words ≡ word ∷ []) × (string_bytes word ≡ word_of command)

-- the exit status for a complaint
abbrev pub status_of : Complaint → ℕ
status_of Usage = 2
status_of NotUtf8 = 1
status_of (Fault (faults.NotAContour n)) = 1
status_of (Fault (faults.OutOfRange n)) = 1
status_of (Fault faults.OutOfMemory) = 3
status_of Input = 4
status_of Output = 4

-- the text of a complaint
abbrev pub told : Complaint → List ℕ
told Usage = codes "usage: i_shape_tool simplify|despike|area|canonical|compact"
told NotUtf8 = codes "input is not UTF-8"
told (Fault (faults.NotAContour n)) = codes "line " ++ decimal n ++ codes ": not a contour"
told (Fault (faults.OutOfRange n)) = codes "line " ++ decimal n ++ codes ": out of range"
told (Fault faults.OutOfMemory) = codes "out of memory"
told Input = codes "input or output failed"
told Output = codes "input or output failed"

-- known bytes grow by a prefix of bs
abbrev pub AppendsBeginning : Option (List ℕ) → Option (List ℕ) → List ℕ → Type 0
AppendsBeginning before after bs = (n : ℕ) × Appends before after (take n bs)

-- the command is asked for, and the output gained its answer to the input, if both are known
abbrev pub IsServed : List (String Global) → Option (List ℕ) → Option (List ℕ) → Option (List ℕ) → Type 0
IsServed words input before after =
    (command : Command) × Asks words command
    × IfSome input (λ text. (answer : List ℕ) × AnswersText command text answer × Appends before after answer)

-- the command has an answer to the text
abbrev pub HasAnswer : Command → List ℕ → Type 0
HasAnswer command text = (answer : List ℕ) × AnswersText command text answer

-- the complaint is true of the words and of the input, if that is known; a fault is one of a text in UTF-8, and writing
-- fails only if there is an answer to write
abbrev pub IsTrueComplaint : List (String Global) → Option (List ℕ) → Complaint → Type 0
IsTrueComplaint words input Usage = (command : Command) → Asks words command → ⊥
IsTrueComplaint words input NotUtf8 = (command : Command) × Asks words command × IfSome input (λ text. IsUtf8 text → ⊥)
IsTrueComplaint words input (Fault fault) =
    (command : Command) × Asks words command × IfSome input (λ text. IsUtf8 text × IsFirstFault command text fault)
IsTrueComplaint words input Input = (command : Command) × Asks words command
IsTrueComplaint words input Output = (command : Command) × Asks words command × IfSome input (HasAnswer command)

-- the command is asked for, and the output gained a prefix of its answer to the input, if both are known
abbrev pub IsBegun : List (String Global) → Option (List ℕ) → Option (List ℕ) → Option (List ℕ) → Type 0
IsBegun words input before after =
    (command : Command) × Asks words command
    × IfSome input (λ text. (answer : List ℕ) × AnswersText command text answer × AppendsBeginning before after answer)

-- the output is unchanged, if known; if writing failed, it gained a prefix of an answer
abbrev pub LeavesOutput : List (String Global) → Option (List ℕ) → Complaint → Option (List ℕ) → Option (List ℕ) → Type 0
LeavesOutput words input Usage before after = Keeps before after
LeavesOutput words input NotUtf8 before after = Keeps before after
LeavesOutput words input (Fault fault) before after = Keeps before after
LeavesOutput words input Input before after = Keeps before after
LeavesOutput words input Output before after = IsBegun words input before after

-- one run of the program: the status is 0 and the output answers the input, or the status is that of a true complaint,
-- and nothing was written but a prefix of an answer if writing failed
abbrev pub EndsWith : List (String Global) → Option (List ℕ) → Option (List ℕ) → Option (List ℕ) → ℕ → Type 0
EndsWith words input before after status =
    ((status ≡ 0) × IsServed words input before after)
    ⊎ ((complaint : Complaint) × (status ≡ status_of complaint) × IsTrueComplaint words input complaint × LeavesOutput words input complaint before after)
