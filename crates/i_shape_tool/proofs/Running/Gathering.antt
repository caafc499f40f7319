-- `compact`: the contours of all lines in one buffer, and what cleaning leaves of them.
use Rattle.std.proofs.Common.{◌≡◌, ℕ, ℤ, ◌+◌, ◌<◌, List, [], ◌∷◌, ◌++◌, map, length, vec_len, ap, subst, sym, All}
use Rattle.std.specs.List.{AllZip}
use Rattle.std.proofs.lemmas.List.{map-append}
use Rattle.std.proofs.lemmas.List.Elements.{All-nil, All-cons}
use Rattle.i_shape.specs.Point.{Point}
use Rattle.i_shape.specs.Contour.{IsSimple}
use Rattle.i_shape.specs.Survivors as cleaned
use Rattle.i_shape.specs.IntPoints.{IntPoint}
use Rattle.i_shape.specs.Buffers.{HoldsContours}
use Rattle.i_shape.specs.declared.flat.buffer.contours.FlatContoursBuffer.{FlatContoursBuffer}
use Rattle.i_shape.proofs.CallerLemmas.{held_more}
use Rattle.i_shape_tool.specs.declared.command.Command.TheVariants.{Compact}
use Rattle.i_shape_tool.specs.declared.fault.ToolFault.{ToolFault}
use Rattle.i_shape_tool.specs.declared.fault.ToolFault.TheVariants.{OutOfMemory}
use Rattle.i_shape_tool.specs.Points.{contour_of, contours_in, IsSafe}
use Rattle.i_shape_tool.specs.Text.{lines_of}
use Rattle.i_shape_tool.specs.Run.{Gives, IsFaultOfLine, IsFirstFault}
use Rattle.i_shape_tool.proofs.Running.Lines.{HasRead, read_none, read_more, read_to_end, fault_after_read, refused}

-- the buffer holds the contours of the first `number` lines, those before what is left
pub record HasGathered (text left : List ℕ) (buffer : FlatContoursBuffer ℤ) (number : ℕ) : Type 0 where
  pub contours : List (List (IntPoint ℤ))
  pub held : HoldsContours buffer contours
  pub read : HasRead Compact text left (map contour_of contours) number

-- at the start no line is read
pub gathered_none : (text : List ℕ) (buffer : FlatContoursBuffer ℤ) → HoldsContours buffer [] → HasGathered text text buffer 0
gathered_none text buffer empty = record { contours = []; held = empty; read = read_none Compact text }

-- reading the next line appends its contour to the buffer
pub gather_more : (text left after line : List ℕ) (old new : FlatContoursBuffer ℤ) (contour : List (IntPoint ℤ)) (number : ℕ) → HasGathered text left old number → lines_of left ≡ line ∷ lines_of after → length after < length left → Gives Compact line (contour_of contour)
    → new.points.items ≡ old.points.items ++ contour
    → new.ranges.items ≡ old.ranges.items ++ record { start = vec_len old.points; end = vec_len old.points + length contour } ∷ []
    → HasGathered text after new (number + 1)
gather_more text left after line old new contour number done is shorter gives points ranges = record {
  contours = done.contours ++ contour ∷ [];
  held = held_more old new done.contours contour done.held points ranges;
  read = subst (λ l. HasRead Compact text after l (number + 1)) (sym (map-append contour_of done.contours (contour ∷ [])))
      (read_more Compact text left after line (map contour_of done.contours) (contour_of contour) number done.read is shorter gives);
}

-- a fault of the next line is the first
pub fault_after_gathered : (text left after line : List ℕ) (buffer : FlatContoursBuffer ℤ) (number : ℕ) (fault : ToolFault) → HasGathered text left buffer number → lines_of left ≡ line ∷ lines_of after → IsFaultOfLine Compact line (number + 1) fault → IsFirstFault Compact text fault
fault_after_gathered text left after line buffer number fault done is wrong =
    fault_after_read Compact text left after line (map contour_of done.contours) number fault done.read is wrong

-- if nothing is left, the buffer names the contours of all lines
pub gathered_all : (text left : List ℕ) (buffer : FlatContoursBuffer ℤ) (number : ℕ) → HasGathered text left buffer number → length left ≡ 0 → AllZip (Gives Compact) (lines_of text) (contours_in buffer)
gathered_all text left buffer number done none =
    subst (AllZip (Gives Compact) (lines_of text)) (sym (ap (map contour_of) done.held.slices)) (read_to_end Compact text left (map contour_of done.contours) number done.read none)

-- the contours that lines read for `compact` are safe
pub safe_gathered : (lines : List (List ℕ)) (contours : List (List Point)) → AllZip (Gives Compact) lines contours → All IsSafe contours
safe_gathered [] [] read = All-nil IsSafe
safe_gathered [] (c ∷ contours) read = absurd read
safe_gathered (line ∷ lines) [] read = absurd read
safe_gathered (line ∷ lines) (c ∷ contours) read = All-cons IsSafe c contours (read.0.1 tt) (safe_gathered lines contours read.1)

nothing_left : (contours kept : List (List Point)) → cleaned.Compact contours kept → contours ≡ [] → kept ≡ []
nothing_left [] kept ([], zipped, are) none = are
nothing_left [] kept (answer ∷ answers, zipped, are) none = absurd zipped
nothing_left (c ∷ contours) kept left none = absurd cc

module _ (text : List ℕ) (old : FlatContoursBuffer ℤ) (read : AllZip (Gives Compact) (lines_of text) (contours_in old)) where
  -- if cleaning contours that aren't all simple runs out of memory, that is a fault of the text
  pub refused_to_clean : (All IsSimple (contours_in old) → ⊥) → IsFirstFault Compact text OutOfMemory
  refused_to_clean some = refused Compact text (contours_in old) read (λ none. some (subst (All IsSimple) (sym none) (All-nil IsSimple)))

  -- if a contour is left, `OutOfMemory` is a first fault of the text: showing may fail
  pub refused_to_show : (kept : List (List Point)) → cleaned.Compact (contours_in old) kept → (kept ≡ [] → ⊥) → IsFirstFault Compact text OutOfMemory
  refused_to_show kept left some = refused Compact text (contours_in old) read (λ none. some (nothing_left (contours_in old) kept left none))
