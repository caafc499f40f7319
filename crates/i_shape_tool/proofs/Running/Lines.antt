-- The program's answer to a text, line by line.
use Rattle.std.proofs.Common.{◌≡◌, ℕ, ◌+◌, ◌<◌, ◌≤◌, List, [], ◌∷◌, ◌++◌, length, refl, sym, ap, ap₂, ◌∙◌, subst, arith, append_assoc, append-nil, length-append}
use Rattle.std.specs.List.{concat, AllByRecursion, AllZip}
use Rattle.std.proofs.lemmas.List.Folds.{concat-append}
use Rattle.std.proofs.lemmas.Slice.Zip.{all_zipped_more}
use Rattle.i_shape.specs.Point.{Point}
use Rattle.i_shape_tool.specs.declared.command.Command.{Command}
use Rattle.i_shape_tool.specs.declared.fault.ToolFault.{ToolFault}
use Rattle.i_shape_tool.specs.declared.fault.ToolFault.TheVariants.{OutOfMemory}
use Rattle.i_shape_tool.specs.Text.{lines_of}
use Rattle.i_shape_tool.specs.Run.{Gives, IsGood, AnswersLines, IsFaultOfLine, IsFirstFault}

module _ (command : Command) where
  -- the first `number` lines, those before what is left, read the contours
  pub record HasRead (text left : List ℕ) (contours : List (List Point)) (number : ℕ) : Type 0 where
    pub room : number + length left ≤ length text
    pub before : List (List ℕ)
    pub split : lines_of text ≡ before ++ lines_of left
    pub counted : length before ≡ number
    pub read : AllZip (Gives command) before contours

  -- at the start no line is read
  pub read_none : (text : List ℕ) → HasRead text text [] 0
  read_none text = record { room = omega arith; before = []; split = refl; counted = refl; read = tt }

  -- reading the next line appends its contour
  pub read_more : (text left after line : List ℕ) (contours : List (List Point)) (c : List Point) (number : ℕ) → HasRead text left contours number → lines_of left ≡ line ∷ lines_of after → length after < length left → Gives command line c → HasRead text after (contours ++ c ∷ []) (number + 1)
  read_more text left after line contours c number done is shorter gives = record {
    room = omega (arith, done.room);
    before = done.before ++ line ∷ [];
    split = done.split ∙ ap (λ l. done.before ++ l) is ∙ sym (append_assoc done.before (line ∷ []) (lines_of after));
    counted = omega (arith, done.counted, length-append done.before (line ∷ []));
    read = all_zipped_more (Gives command) done.before contours line c done.read gives;
  }

  -- if nothing is left, the contours are those of all lines
  pub read_to_end : (text left : List ℕ) (contours : List (List Point)) (number : ℕ) → HasRead text left contours number → length left ≡ 0 → AllZip (Gives command) (lines_of text) contours
  read_to_end text [] contours number done none = subst (λ l. AllZip (Gives command) l contours) (sym (done.split ∙ append-nil done.before)) done.read
  read_to_end text (b ∷ left) contours number done none = absurd (omega (arith, none))

  are_good : (lines : List (List ℕ)) (contours : List (List Point)) → AllZip (Gives command) lines contours → AllByRecursion (IsGood command) lines
  are_good [] contours read = tt
  are_good (line ∷ lines) [] read = absurd read
  are_good (line ∷ lines) (c ∷ contours) read = ((c, read.0), are_good lines contours read.1)

  -- a fault of the next line is the first
  pub fault_after_read : (text left after line : List ℕ) (contours : List (List Point)) (number : ℕ) (fault : ToolFault) → HasRead text left contours number → lines_of left ≡ line ∷ lines_of after → IsFaultOfLine command line (number + 1) fault → IsFirstFault command text fault
  fault_after_read text left after line contours number fault done is wrong = (
    done.before,
    line,
    lines_of after,
    done.split ∙ ap (λ l. done.before ++ l) is,
    are_good done.before contours done.read,
    subst (λ n. IsFaultOfLine command line (n + 1) fault) (sym done.counted) wrong,
  )

  -- a text that has a line can fail for want of memory
  pub refused : (text : List ℕ) (contours : List (List Point)) → AllZip (Gives command) (lines_of text) contours → (contours ≡ [] → ⊥) → IsFirstFault command text OutOfMemory
  refused text contours read some = go (lines_of text) contours refl read some
    where
      go : (lines : List (List ℕ)) (contours : List (List Point)) → lines_of text ≡ lines → AllZip (Gives command) lines contours → (contours ≡ [] → ⊥) → IsFirstFault command text OutOfMemory
      go [] [] is read some = absurd (some refl)
      go [] (c ∷ contours) is read some = absurd read
      go (line ∷ lines) contours is read some = ([], line, lines, is, tt, tt)

module _ (command : Command) (Answers : List Point → List ℕ → Type 0) where
  -- the output answers the first `number` lines, those before what is left
  pub record HasAnswered (text left output : List ℕ) (number : ℕ) : Type 0 where
    pub contours : List (List Point)
    pub answers : List (List ℕ)
    pub read : HasRead command text left contours number
    pub each : AllZip Answers contours answers
    pub written : output ≡ concat answers

  -- at the start there is no output
  pub answered_none : (text output : List ℕ) → output ≡ [] → HasAnswered text text output 0
  answered_none text output none = record { contours = []; answers = []; read = read_none command text; each = tt; written = none }

  -- answering the next line appends its answer
  pub answer_more : (text left after output new line answer : List ℕ) (c : List Point) (number : ℕ) → HasAnswered text left output number → lines_of left ≡ line ∷ lines_of after → length after < length left → Gives command line c → Answers c answer → new ≡ output ++ answer → HasAnswered text after new (number + 1)
  answer_more text left after output new line answer c number done is shorter gives says grown = record {
    contours = done.contours ++ c ∷ [];
    answers = done.answers ++ answer ∷ [];
    read = read_more command text left after line done.contours c number done.read is shorter gives;
    each = all_zipped_more Answers done.contours done.answers c answer done.each says;
    written = grown ∙ ap₂ ◌++◌ done.written (sym (append-nil answer)) ∙ sym (concat-append done.answers (answer ∷ []));
  }

  -- if nothing is left, the output is the answer to all lines
  pub answered_all : (text left output : List ℕ) (number : ℕ) → HasAnswered text left output number → length left ≡ 0 → AnswersLines command Answers text output
  answered_all text left output number done none =
      (done.contours, done.answers, read_to_end command text left done.contours number done.read none, done.each, done.written)

  -- a fault of the next line is the first
  pub fault_after : (text left after output line : List ℕ) (number : ℕ) (fault : ToolFault) → HasAnswered text left output number → lines_of left ≡ line ∷ lines_of after → IsFaultOfLine command line (number + 1) fault → IsFirstFault command text fault
  fault_after text left after output line number fault done is wrong =
      fault_after_read command text left after line done.contours number fault done.read is wrong
