-- Two texts, one after the other, of which the first ends its lines: their lines, answers and faults.
use Rattle.std.proofs.Common.{◌≡◌, ◌⊎◌, ℕ, ◌+◌, ◌<◌, List, [], ◌∷◌, ◌++◌, Option, inl, inr, Bool, true, false, cond, ◌==◌, refl, sym, ap, ap₂, ◌∙◌, append_assoc, append-nil, subst, arith, length, length-append}
use Rattle.std.specs.List.{concat, flat_map, filter_map, slice_split, onto_first, AllByRecursion, AllZip}
use Rattle.std.proofs.lemmas.List.Folds.{concat-append}
use Rattle.std.proofs.lemmas.List.Elements.{filter_map-append}
use Rattle.std.proofs.lemmas.Grind.{flat_map-append}
use Rattle.std.proofs.lemmas.List.Splits.{length-slice_split}
use Rattle.i_shape.specs.Point.{Point}
use Rattle.i_shape.specs.Cleaners.{SimpleAnswer, SpikelessAnswer}
use Rattle.i_shape.specs.Canonical.{CanonicalAnswer}
use Rattle.i_shape.proofs.CallerLemmas.{zip-append, survivors-append}
use Rattle.i_shape_tool.specs.declared.command.Command.{Command}
use Rattle.i_shape_tool.specs.declared.command.Command.TheVariants.{Simplify, Despike, Area, Canonical, Compact}
use Rattle.i_shape_tool.specs.Text.{newline, lines_of, lines_of_parts}
use Rattle.i_shape_tool.specs.PartedTexts.{EndsItsLines, PartedAnswer, lines_later, IsFaultOfSecond}
use Rattle.i_shape_tool.specs.declared.fault.ToolFault.{ToolFault}
use Rattle.i_shape_tool.specs.declared.fault.ToolFault.TheVariants.{NotAContour, OutOfRange, OutOfMemory}
use Rattle.i_shape_tool.specs.Run.{Gives, IsGood, IsFaultOfLine, IsFirstFault, AnswersLines, AnswersText, ShowsArea, ShowsCleaned, shown_line}
use Rattle.i_shape_tool.proofs.Reading.Words.{line_before_more}

abbrev ends : ℕ → Bool
ends b = b == newline

abbrev parts : List ℕ → List (List ℕ)
parts text = slice_split ends text

onto_first-append : (b : ℕ) (list more : List (List ℕ)) → 0 < length list → onto_first b (list ++ more) ≡ onto_first b list ++ more
onto_first-append b [] more some = absurd (omega arith)
onto_first-append b (part ∷ list) more some = refl

-- a newline cuts a text into the parts before it and those after it
parts-append : (front more : List ℕ) → parts (front ++ newline ∷ more) ≡ parts front ++ parts more
parts-append [] more = refl
parts-append (b ∷ front) more = go (ends b) (parts-append front more)
  where
    go : (e : Bool) → parts (front ++ newline ∷ more) ≡ parts front ++ parts more
        → cond e ([] ∷ parts (front ++ newline ∷ more)) (onto_first b (parts (front ++ newline ∷ more))) ≡ cond e ([] ∷ parts front) (onto_first b (parts front)) ++ parts more
    go true is = ap (λ l. [] ∷ l) is
    go false is = ap (onto_first b) is ∙ onto_first-append b (parts front) (parts more) (omega (arith, length-slice_split ends front))

-- parts that others follow are lines
lines-append : (list more : List (List ℕ)) → 0 < length more → lines_of_parts (list ++ more) ≡ list ++ lines_of_parts more
lines-append [] more some = refl
lines-append (part ∷ list) more some =
    line_before_more part (list ++ more) (omega (arith, length-append list more)) ∙ ap (λ l. part ∷ l) (lines-append list more some)

lines_after : (front more : List ℕ) → lines_of (front ++ newline ∷ more) ≡ parts front ++ lines_of more
lines_after front more = ap lines_of_parts (parts-append front more) ∙ lines-append (parts front) (parts more) (omega (arith, length-slice_split ends more))

-- the lines of both texts are those of the first and then those of the second
pub lines_of_both : (text more : List ℕ) → EndsItsLines text → lines_of (text ++ more) ≡ lines_of text ++ lines_of more
lines_of_both text more (inl none) = rw none refl
lines_of_both text more (inr (front, is)) =
    rw is (ap lines_of (append_assoc front (newline ∷ []) more) ∙ lines_after front more ∙ ap (λ l. l ++ lines_of more) (sym (append-nil (parts front)) ∙ sym (lines_after front [])))

module _ (command : Command) (Answers : List Point → List ℕ → Type 0) where
  lines_both : (text more output added : List ℕ) → EndsItsLines text → AnswersLines command Answers text output → AnswersLines command Answers more added → AnswersLines command Answers (text ++ more) (output ++ added)
  lines_both text more output added whole (c, a, read, each, is) (d, b, reads, others, same) = (
    c ++ d,
    a ++ b,
    rw (lines_of_both text more whole) (zip-append (Gives command) (lines_of text) (lines_of more) c d read reads),
    zip-append Answers c d a b each others,
    ap₂ ◌++◌ is same ∙ sym (concat-append a b),
  )

-- an answer to the first text followed by one to the second is an answer to both
pub answers_concatenated : (command : Command) (text more output added : List ℕ) → EndsItsLines text → AnswersText command text output → AnswersText command more added → AnswersText command (text ++ more) (output ++ added)
answers_concatenated Simplify text more output added whole h k = lines_both Simplify (ShowsCleaned SimpleAnswer) text more output added whole h k
answers_concatenated Despike text more output added whole h k = lines_both Despike (ShowsCleaned SpikelessAnswer) text more output added whole h k
answers_concatenated Area text more output added whole h k = lines_both Area ShowsArea text more output added whole h k
answers_concatenated Canonical text more output added whole h k = lines_both Canonical (ShowsCleaned CanonicalAnswer) text more output added whole h k
answers_concatenated Compact text more output added whole (c, kept, read, left, is) (d, others, reads, more_left, same) = (
  c ++ d,
  kept ++ others,
  rw (lines_of_both text more whole) (zip-append (Gives Compact) (lines_of text) (lines_of more) c d read reads),
  survivors-append SimpleAnswer c d kept others left more_left,
  ap₂ ◌++◌ is same ∙ sym (flat_map-append shown_line kept others),
)

-- the list is a front with P and a rest with Q
record Parted {B : Type 0} (P Q : List B → Type 0) (ys : List B) : Type 0 where
  left : List B
  right : List B
  whole : ys ≡ left ++ right
  of_left : P left
  of_right : Q right

zip_parted : {A B : Type 0} (R : A → B → Type 0) (xs zs : List A) (ys : List B) → AllZip R (xs ++ zs) ys → Parted (AllZip R xs) (AllZip R zs) ys
zip_parted R [] zs ys h = record { left = []; right = ys; whole = refl; of_left = tt; of_right = h }
zip_parted R (x ∷ xs) zs [] h = absurd h
zip_parted R (x ∷ xs) zs (y ∷ ys) h =
    let p = zip_parted R xs zs ys h.1 in
    record { left = y ∷ p.left; right = p.right; whole = ap (λ l. y ∷ l) p.whole; of_left = (h.0, p.of_left); of_right = p.of_right }

as_answer : (command : Command) (Answers : List Point → List ℕ → Type 0) (text more output : List ℕ) → EndsItsLines text → ((t out : List ℕ) → AnswersLines command Answers t out → AnswersText command t out) → AnswersLines command Answers (text ++ more) output → PartedAnswer command text more output
as_answer command Answers text more output whole says (contours, answers, read, each, is) =
    let c = zip_parted (Gives command) (lines_of text) (lines_of more) contours (subst (λ l. AllZip (Gives command) l contours) (lines_of_both text more whole) read) in
    let a = zip_parted Answers c.left c.right answers (subst (λ l. AllZip Answers l answers) c.whole each) in
    record {
      first = concat a.left;
      second = concat a.right;
      whole = is ∙ ap concat a.whole ∙ concat-append a.left a.right;
      answers_first = says text (concat a.left) (c.left, a.left, c.of_left, a.of_left, refl);
      answers_second = says more (concat a.right) (c.right, a.right, c.of_right, a.of_right, refl);
    }

abbrev survivors : List (Option (List Point)) → List (List Point)
survivors answers = filter_map (λ answer. answer) answers

-- an answer to both texts is one to the first followed by one to the second
pub answers_parted : (command : Command) (text more output : List ℕ) → EndsItsLines text → AnswersText command (text ++ more) output → PartedAnswer command text more output
answers_parted Simplify text more output whole h = as_answer Simplify (ShowsCleaned SimpleAnswer) text more output whole (λ t out a. a) h
answers_parted Despike text more output whole h = as_answer Despike (ShowsCleaned SpikelessAnswer) text more output whole (λ t out a. a) h
answers_parted Area text more output whole h = as_answer Area ShowsArea text more output whole (λ t out a. a) h
answers_parted Canonical text more output whole h = as_answer Canonical (ShowsCleaned CanonicalAnswer) text more output whole (λ t out a. a) h
answers_parted Compact text more output whole (contours, kept, read, (answers, zipped, are), is) =
    let c = zip_parted (Gives Compact) (lines_of text) (lines_of more) contours (subst (λ l. AllZip (Gives Compact) l contours) (lines_of_both text more whole) read) in
    let a = zip_parted SimpleAnswer c.left c.right answers (subst (λ l. AllZip SimpleAnswer l answers) c.whole zipped) in
    let parted : kept ≡ survivors a.left ++ survivors a.right = are ∙ ap survivors a.whole ∙ filter_map-append (λ answer. answer) a.left a.right in
    record {
      first = flat_map shown_line (survivors a.left);
      second = flat_map shown_line (survivors a.right);
      whole = is ∙ ap (flat_map shown_line) parted ∙ flat_map-append shown_line (survivors a.left) (survivors a.right);
      answers_first = (c.left, survivors a.left, c.of_left, (a.left, a.of_left, refl), refl);
      answers_second = (c.right, survivors a.right, c.of_right, (a.right, a.of_right, refl), refl);
    }

-- if xs ++ ys is cut before a member z, the cut and z are in xs or in ys
cut_at : {A : Type 0} (xs ys before : List A) (z : A) (after : List A) → xs ++ ys ≡ before ++ z ∷ after
    → ((rest : List A) × (xs ≡ before ++ z ∷ rest)) ⊎ ((mid : List A) × (before ≡ xs ++ mid) × (ys ≡ mid ++ z ∷ after))
cut_at [] ys before z after e = inr (before, refl, e)
cut_at (x ∷ xs) ys [] z after e = let same : x ≡ z = cc in inl (xs, ap (λ w. w ∷ xs) same)
cut_at (x ∷ xs) ys (b ∷ before) z after e =
    let same : x ≡ b = cc in
    let later : xs ++ ys ≡ before ++ z ∷ after = cc in
    elim (cut_at xs ys before z after later) [
      | inl w ↦ inl (w.0, ap₂ ◌∷◌ same w.1)
      | inr w ↦ inr (w.0, ap₂ ◌∷◌ (sym same) w.1, w.2)
    ]

good_both : (command : Command) (xs ys : List (List ℕ)) → AllByRecursion (IsGood command) xs → AllByRecursion (IsGood command) ys → AllByRecursion (IsGood command) (xs ++ ys)
good_both command [] ys h k = k
good_both command (x ∷ xs) ys h k = (h.0, good_both command xs ys h.1 k)

good_parted : (command : Command) (xs ys : List (List ℕ)) → AllByRecursion (IsGood command) (xs ++ ys) → AllByRecursion (IsGood command) xs × AllByRecursion (IsGood command) ys
good_parted command [] ys h = (tt, h)
good_parted command (x ∷ xs) ys h = let rest = good_parted command xs ys h.1 in ((h.0, rest.0), rest.1)

-- a fault of a line is the same fault n lines further down
fault_later : (command : Command) (line : List ℕ) (n k : ℕ) (fault : ToolFault) → IsFaultOfLine command line k fault → IsFaultOfLine command line (n + k) (lines_later n fault)
fault_later command line n k (NotAContour m) h = (ap (λ z. n + z) h.0, h.1)
fault_later command line n k (OutOfRange m) h = (ap (λ z. n + z) h.0, h.1)
fault_later command line n k OutOfMemory h = tt

-- a fault n lines further down is a fault of the line
fault_earlier : (command : Command) (line : List ℕ) (n k : ℕ) (fault : ToolFault) → IsFaultOfLine command line (n + k) fault → (earlier : ToolFault) × IsFaultOfLine command line k earlier × (fault ≡ lines_later n earlier)
fault_earlier command line n k (NotAContour m) h = (NotAContour k, (refl, h.1), ap NotAContour h.0)
fault_earlier command line n k (OutOfRange m) h = (OutOfRange k, (refl, h.1), ap OutOfRange h.0)
fault_earlier command line n k OutOfMemory h = (OutOfMemory, tt, refl)

-- the first fault of the first text is that of both
pub first_of_first : (command : Command) (text more : List ℕ) (fault : ToolFault) → EndsItsLines text → IsFirstFault command text fault → IsFirstFault command (text ++ more) fault
first_of_first command text more fault whole (before, line, after, is, good, wrong) =
    (before, line, after ++ lines_of more, lines_of_both text more whole ∙ ap (λ l. l ++ lines_of more) is ∙ append_assoc before (line ∷ after) (lines_of more), good, wrong)

-- if the first text has no fault, the first fault of the second, n lines further down, is that of both
pub first_of_second : (command : Command) (text more : List ℕ) (fault : ToolFault) → EndsItsLines text → IsFaultOfSecond command text more fault → IsFirstFault command (text ++ more) fault
first_of_second command text more fault whole f =
    let (before, line, after, is, good, wrong) = f.first in
    let place : length (lines_of text) + (length before + 1) ≡ length (lines_of text ++ before) + 1 = omega (arith, length-append (lines_of text) before) in (
      lines_of text ++ before,
      line,
      after,
      lines_of_both text more whole ∙ ap (λ l. lines_of text ++ l) is ∙ sym (append_assoc (lines_of text) before (line ∷ after)),
      good_both command (lines_of text) before f.good good,
      subst (λ z. IsFaultOfLine command line (length (lines_of text ++ before) + 1) z) (sym f.counted)
          (subst (λ n. IsFaultOfLine command line n (lines_later (length (lines_of text)) f.later)) place (fault_later command line (length (lines_of text)) (length before + 1) f.later wrong)),
    )

-- the first fault of both texts is that of the first, or that of the second, n lines further down
pub first_of_both : (command : Command) (text more : List ℕ) (fault : ToolFault) → EndsItsLines text → IsFirstFault command (text ++ more) fault → IsFirstFault command text fault ⊎ IsFaultOfSecond command text more fault
first_of_both command text more fault whole (before, line, after, is, good, wrong) = go (cut_at (lines_of text) (lines_of more) before line after (sym (lines_of_both text more whole) ∙ is))
  where
    go : ((rest : List (List ℕ)) × (lines_of text ≡ before ++ line ∷ rest)) ⊎ ((mid : List (List ℕ)) × (before ≡ lines_of text ++ mid) × (lines_of more ≡ mid ++ line ∷ after))
        → IsFirstFault command text fault ⊎ IsFaultOfSecond command text more fault
    go (inl (rest, same)) = inl (before, line, rest, same, good, wrong)
    go (inr (mid, same, left)) =
        let both = good_parted command (lines_of text) mid (subst (AllByRecursion (IsGood command)) same good) in
        let place : length before + 1 ≡ length (lines_of text) + (length mid + 1) = omega (arith, ap length same, length-append (lines_of text) mid) in
        let f = fault_earlier command line (length (lines_of text)) (length mid + 1) fault (subst (λ n. IsFaultOfLine command line n fault) place wrong) in
        inr (record { good = both.0; later = f.0; first = (mid, line, after, left, both.1, f.1); counted = f.2 })
