-- One run of the program.
use Rattle.std.proofs.Common.{◌≡◌, ℕ, ◌-◌, ◌<◌, ◌≤◌, List, [], ◌∷◌, ◌++◌, length, take, drop, get_or, Option, Some, None, refl, sym, ap, ◌∙◌, subst, append_assoc, take-append-drop, arith, string_bytes}
use Rattle.std.proofs.lemmas.List.{take_rest}
use Rattle.std.proofs.Math.Seq.{take-append_seam}
use Rattle.std.specs.Prelude.{IfSome}
use Rattle.std.specs.Io.KnownBytes.{Appends}
use Rattle.std.specs.declared.string.String.{String}
use Rattle.std.specs.declared.alloc.Global.{Global}
use Rattle.i_shape_tool.specs.declared.command.Command.{Command}
use Rattle.i_shape_tool.specs.Command.{word_of}
use Rattle.i_shape_tool.specs.declared.program.Complaint.{Complaint}
use Rattle.i_shape_tool.specs.declared.program.Complaint.TheVariants.{Usage, NotUtf8, Fault, Input, Output}
use Rattle.i_shape_tool.specs.Serve.{Asks, IsTrueComplaint, AppendsBeginning}

only_word : (words : List (String Global)) (word : String Global) → 1 ≤ length words → length words < 2 → word ≡ get_or words 0 word → words ≡ word ∷ []
only_word [] word some few is = absurd (omega arith)
only_word (first ∷ []) word some few is = ap (λ w. w ∷ []) (sym is)
only_word (first ∷ next ∷ more) word some few is = absurd (omega arith)

-- the command that one word names, if any, is asked for
pub asks_of : (words : List (String Global)) (word : String Global) (text : List ℕ) (r : Option Command) → 1 ≤ length words → length words < 2 → word ≡ get_or words 0 word → text ≡ string_bytes word → IfSome r (λ command. text ≡ word_of command) → IfSome r (Asks words)
asks_of words word text None some few is bytes named = tt
asks_of words word text (Some command) some few is bytes named = (word, only_word words word some few is, sym bytes ∙ named)

-- if the words ask for no command, the only true complaint is the usage
pub is_usage : (words : List (String Global)) (input : Option (List ℕ)) (complaint : Complaint) → ((command : Command) → Asks words command → ⊥) → IsTrueComplaint words input complaint → complaint ≡ Usage
is_usage words input Usage none is = refl
is_usage words input NotUtf8 none is = absurd (none is.0 is.1)
is_usage words input (Fault fault) none is = absurd (none is.0 is.1)
is_usage words input Input none is = absurd (none is.0 is.1)
is_usage words input Output none is = absurd (none is.0 is.1)

-- bytes appended before others are left are a prefix
pub begun : (before after : Option (List ℕ)) (bytes done rest : List ℕ) → bytes ≡ done ++ rest → Appends before after done → AppendsBeginning before after bytes
begun before after bytes done rest parts grown =
    let front : take (length done) bytes ≡ done = ap (take (length done)) parts ∙ take-append_seam done rest in
    (length done, subst (Appends before after) (sym front) grown)

-- moving the first n bytes of the rest to those done keeps the whole
pub moved : (bytes done rest : List ℕ) (n : ℕ) → bytes ≡ done ++ rest → bytes ≡ (done ++ take n rest) ++ take (length rest - n) (drop n rest)
moved bytes done rest n parts = parts ∙ ap (λ l. done ++ l) (sym (take-append-drop n rest)) ∙ sym (append_assoc done (take n rest) (drop n rest)) ∙ ap (λ l. (done ++ take n rest) ++ l) (sym (take_rest rest n))
