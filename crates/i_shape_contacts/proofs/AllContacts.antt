-- One contact after another is listed and written.
use Rattle.std.proofs.Common.{◌≡◌, ℕ, ◌+◌, ◌-◌, ◌^◌, ◌<◌, ◌≤◌, ◌++◌, List, [], ◌∷◌, length, take, drop, set, min, get_or, append_assoc, length-append, length-drop, refl, sym, ap, ap₂, subst, ◌∙◌, arith, ◌⊎◌, inl, inr, Contains}
use Rattle.std.proofs.lemmas.Bool.{cases_lt}
use Rattle.std.proofs.lemmas.List.{take-append-drop, take-append-le, take_all, drop_all, drop-drop, take-set, drop-set, take_at, drop_at, length-take, get_or_append_left}
use Rattle.std.proofs.lemmas.List.Elements.{Contains-append_left}
use Rattle.std.proofs.Math.Seq.{get_or-append_seam}
use Rattle.i_shape_contacts.specs.declared.plain.Contact.{Contact}
use Rattle.i_shape_contacts.specs.Listing.{AreBefore, AreContacts, AreWritten, ListsContacts, Earlier}

-- ---- the list
-- before all edges there are no contacts
pub none_earlier : (Touch : ℕ → ℕ → Type 0) → AreContacts (Earlier Touch 0 0) []
none_earlier Touch = record {
  each = λ k d h. absurd (omega (arith, h));
  all = λ i j h. absurd (never i j h.1);
  order = λ i j d h k. absurd (omega (arith, k));
}
  where
    never : (i j : ℕ) → AreBefore 0 0 i j → ⊥
    never i j (inl h) = omega (arith, h)
    never i j (inr h) = let l = h.1 in omega (arith, l)

-- the same contacts by another test
pub same_contacts : (A B : ℕ → ℕ → Type 0) (list : List Contact) → ((i j : ℕ) → A i j → B i j) → ((i j : ℕ) → B i j → A i j) → AreContacts A list → AreContacts B list
same_contacts A B list to from are = record {
  each = λ k d h. to _ _ (are.each k d h);
  all = λ i j h. are.all i j (from i j h);
  order = are.order;
}

-- one contact more
pub one_contact : (Touch : ℕ → ℕ → Type 0) (i j : ℕ) (list : List Contact) → Touch i j → AreContacts (Earlier Touch i j) list → AreContacts (Earlier Touch i (j + 1)) (list ++ record { first = i; second = j } ∷ [])
one_contact Touch i j list touch are = record {
  each = λ k d h. elim (cases_lt k (length list)) [
    | inl l ↦ subst (λ (it : Contact). Earlier Touch i (j + 1) it.first it.second) (sym (get_or_append_left list (it ∷ []) d k l)) (wider _ _ (are.each k d l))
    | inr l ↦ subst (λ (it : Contact). Earlier Touch i (j + 1) it.first it.second) (sym (last k d l h)) (touch, inr (refl, omega arith))
  ];
  all = λ k l h. elim (narrower k l h.1) [
    | inl before ↦ Contains-append_left list (it ∷ []) (record { first = k; second = l }) (are.all k l (h.0, before))
    | inr here ↦ subst (λ (n : ℕ). Contains longer (record { first = n; second = l })) (sym here.0) (subst (λ (n : ℕ). Contains longer (record { first = i; second = n })) (sym here.1) found)
  ];
  order = λ k l d less h. elim (cases_lt l (length list)) [
    | inl inside ↦ subst (λ (one : Contact). InOrder one (get_or longer l d)) (sym (get_or_append_left list (it ∷ []) d k (omega (arith, less, inside)))) (subst (λ (other : Contact). InOrder (get_or list k d) other) (sym (get_or_append_left list (it ∷ []) d l inside)) (are.order k l d less inside))
    | inr past ↦ (
        let many : length longer ≡ length list + 1 = length-append list (it ∷ []) in
        let inside : k < length list = omega (arith, less, h, past, many) in
        subst (λ (one : Contact). InOrder one (get_or longer l d)) (sym (get_or_append_left list (it ∷ []) d k inside)) (subst (λ (other : Contact). InOrder (get_or list k d) other) (sym (last l d past h)) (are.each k d inside).1)
        )
  ];
}
  where
    it : Contact
    it = record { first = i; second = j }

    longer : List Contact
    longer = list ++ it ∷ []

    InOrder : Contact → Contact → Type 0
    InOrder one other = AreBefore other.first other.second one.first one.second

    last : (k : ℕ) (d : Contact) → length list ≤ k → k < length longer → get_or longer k d ≡ it
    last k d low high =
        let many : length longer ≡ length list + 1 = length-append list (it ∷ []) in
        let end : k ≡ length list = omega (arith, low, high, many) in
        ap (λ (n : ℕ). get_or longer n d) end ∙ get_or-append_seam list it [] d

    found : Contains longer it
    found =
        let many : length longer ≡ length list + 1 = length-append list (it ∷ []) in
        (length list, omega (arith, many), get_or-append_seam list it [] it)

    wider : (k l : ℕ) → Earlier Touch i j k l → Earlier Touch i (j + 1) k l
    wider k l (t, inl h) = (t, inl h)
    wider k l (t, inr h) = (t, inr (h.0, let less = h.1 in omega (arith, less)))

    narrower : (k l : ℕ) → AreBefore i (j + 1) k l → AreBefore i j k l ⊎ ((k ≡ i) × (l ≡ j))
    narrower k l (inl h) = inl (inl h)
    narrower k l (inr h) = elim (cases_lt l j) [
      | inl less ↦ inl (inr (h.0, less))
      | inr more ↦ inr (h.0, let less = h.1 in omega (arith, less, more))
    ]

-- an edge that is in no contact
pub no_contact : (Touch : ℕ → ℕ → Type 0) (i j : ℕ) (list : List Contact) → (Touch i j → ⊥) → AreContacts (Earlier Touch i j) list → AreContacts (Earlier Touch i (j + 1)) list
no_contact Touch i j list none = same_contacts (Earlier Touch i j) (Earlier Touch i (j + 1)) list wider narrower
  where
    wider : (k l : ℕ) → Earlier Touch i j k l → Earlier Touch i (j + 1) k l
    wider k l (t, inl h) = (t, inl h)
    wider k l (t, inr h) = (t, inr (h.0, let less = h.1 in omega (arith, less)))

    narrower : (k l : ℕ) → Earlier Touch i (j + 1) k l → Earlier Touch i j k l
    narrower k l (t, inl h) = (t, inl h)
    narrower k l (t, inr h) = elim (cases_lt l j) [
      | inl less ↦ (t, inr (h.0, less))
      | inr more ↦ (let end : l ≡ j = (let less = h.1 in omega (arith, less, more)) in absurd (none (subst (λ (n : ℕ). Touch i n) end (subst (λ (n : ℕ). Touch n l) h.0 t))))
    ]

-- no edge is in contact with one up to it
pub row_started : (Touch : ℕ → ℕ → Type 0) (i : ℕ) (list : List Contact) → ((k l : ℕ) → Touch k l → k < l) → AreContacts (Earlier Touch i 0) list → AreContacts (Earlier Touch i (i + 1)) list
row_started Touch i list order = same_contacts (Earlier Touch i 0) (Earlier Touch i (i + 1)) list to from
  where
    to : (k l : ℕ) → Earlier Touch i 0 k l → Earlier Touch i (i + 1) k l
    to k l (t, inl h) = (t, inl h)
    to k l (t, inr h) = absurd (let less = h.1 in omega (arith, less))

    from : (k l : ℕ) → Earlier Touch i (i + 1) k l → Earlier Touch i 0 k l
    from k l (t, inl h) = (t, inl h)
    from k l (t, inr h) = absurd (let same = h.0 in let less = h.1 in let up = order k l t in omega (arith, same, less, up))

-- an edge is in contact with none from one to below another
pub lists_between : (Touch : ℕ → ℕ → Type 0) (i j j' : ℕ) (old new : List Contact) (count : ℕ) → j ≤ j' → ((l : ℕ) → j ≤ l → l < j' → Touch i l → ⊥)
    → ListsContacts (2 ^ 64 - 1) (Earlier Touch i j) old new count → ListsContacts (2 ^ 64 - 1) (Earlier Touch i j') old new count
lists_between Touch i j j' old new count up none listed = record {
  contacts = listed.contacts;
  are = same_contacts (Earlier Touch i j) (Earlier Touch i j') listed.contacts to from listed.are;
  are_written = listed.are_written;
}
  where
    to : (k l : ℕ) → Earlier Touch i j k l → Earlier Touch i j' k l
    to k l (t, inl h) = (t, inl h)
    to k l (t, inr h) = (t, inr (h.0, let less = h.1 in omega (arith, less, up)))

    from : (k l : ℕ) → Earlier Touch i j' k l → Earlier Touch i j k l
    from k l (t, inl h) = (t, inl h)
    from k l (t, inr h) = elim (cases_lt l j) [
      | inl less ↦ (t, inr (h.0, less))
      | inr more ↦ absurd (none l more h.1 (subst (λ (n : ℕ). Touch n l) h.0 t))
    ]

-- if no edge is in contact with one from n on, the contacts before i and n are those before i + 1 and 0
pub row_ended : (Touch : ℕ → ℕ → Type 0) (i n : ℕ) (list : List Contact) → ((k l : ℕ) → Touch k l → l < n) → AreContacts (Earlier Touch i n) list → AreContacts (Earlier Touch (i + 1) 0) list
row_ended Touch i n list within = same_contacts (Earlier Touch i n) (Earlier Touch (i + 1) 0) list to from
  where
    to : (k l : ℕ) → Earlier Touch i n k l → Earlier Touch (i + 1) 0 k l
    to k l (t, inl h) = (t, inl (omega (arith, h)))
    to k l (t, inr h) = (t, inl (let same = h.0 in omega (arith, same)))

    from : (k l : ℕ) → Earlier Touch (i + 1) 0 k l → Earlier Touch i n k l
    from k l (t, inl h) = elim (cases_lt k i) [
      | inl less ↦ (t, inl less)
      | inr more ↦ (t, inr (omega (arith, h, more), within k l t))
    ]
    from k l (t, inr h) = absurd (let less = h.1 in omega (arith, less))

-- before the end are all
pub all_earlier : (Touch : ℕ → ℕ → Type 0) (n : ℕ) (list : List Contact) → ((k l : ℕ) → Touch k l → k < n) → AreContacts (Earlier Touch n 0) list → AreContacts Touch list
all_earlier Touch n list within = same_contacts (Earlier Touch n 0) Touch list (λ k l h. h.0) (λ k l t. (t, inl (within k l t)))

-- ---- the items
-- nothing is written
pub none_written : (old : List Contact) → AreWritten (2 ^ 64 - 1) [] old old 0
none_written old = record { written = ap (λ (front : List Contact). front ++ old) (sym (take_all (length old) [] (omega arith))); count = refl }

-- what is written has as many items as before
pub written_length : (list old new : List Contact) (count : ℕ) → AreWritten (2 ^ 64 - 1) list old new count → length new ≡ length old
written_length list old new count w =
    let front = length-take (length old) list in
    let back = length-drop (length list) old in
    ap length w.written ∙ length-append (take (length old) list) (drop (length list) old) ∙ omega (arith, front, back)

-- one more, where there is room
pub one_written : (list old new : List Contact) (count after : ℕ) (it : Contact) → count < length new → length new ≤ 2 ^ 64 - 1 → after ≡ min (count + 1) (2 ^ 64 - 1) → AreWritten (2 ^ 64 - 1) list old new count → AreWritten (2 ^ 64 - 1) (list ++ it ∷ []) old (set new count it) after
one_written list old new count after it room most next w =
    let same = written_length list old new count w in
    let counted = w.count in
    let more : length longer ≡ length list + 1 = length-append list (it ∷ []) in
    let end : count ≡ length list = omega (arith, room, most, counted) in
    let all : take (length old) list ≡ list = take_all (length old) list (omega (arith, room, same, end)) in
    let is : new ≡ list ++ drop (length list) old = w.written ∙ ap (λ (front : List Contact). front ++ drop (length list) old) all in
    let front : take count new ≡ list = ap₂ (λ (n : ℕ) (l : List Contact). take n l) end is ∙ take_at list (drop (length list) old) (length list) refl in
    let behind : drop count new ≡ drop (length list) old = ap₂ (λ (n : ℕ) (l : List Contact). drop n l) end is ∙ drop_at list (drop (length list) old) (length list) refl in
    let rest : drop (count + 1) new ≡ drop (length longer) old = sym (drop-drop 1 count new) ∙ ap (drop 1) behind ∙ drop-drop 1 (length list) old ∙ ap (λ (n : ℕ). drop n old) (sym more) in
    record {
      written = sym (take-append-drop count (set new count it)) ∙ ap₂ (λ (a b : List Contact). a ++ b) (take-set new count it ∙ front) (drop-set new count it room ∙ ap (λ (l : List Contact). it ∷ l) rest)
          ∙ sym (append_assoc list (it ∷ []) (drop (length longer) old)) ∙ ap (λ (l : List Contact). l ++ drop (length longer) old) (sym (take_all (length old) longer (omega (arith, more, room, same, end))));
      count = omega (arith, next, more, end);
    }
  where
    longer : List Contact
    longer = list ++ it ∷ []

-- and where there is none
pub one_left_out : (list old new : List Contact) (count after : ℕ) (it : Contact) → length new ≤ count → after ≡ min (count + 1) (2 ^ 64 - 1) → AreWritten (2 ^ 64 - 1) list old new count → AreWritten (2 ^ 64 - 1) (list ++ it ∷ []) old new after
one_left_out list old new count after it full next w =
    let same = written_length list old new count w in
    let counted = w.count in
    let more : length longer ≡ length list + 1 = length-append list (it ∷ []) in
    let past : length old ≤ length list = omega (arith, full, counted, same) in
    record {
      written = w.written ∙ ap₂ (λ (a b : List Contact). a ++ b) (sym (take-append-le (length old) list (it ∷ []) past)) (drop_all (length list) old past ∙ sym (drop_all (length longer) old (omega (arith, past, more))));
      count = omega (arith, next, more, counted);
    }
  where
    longer : List Contact
    longer = list ++ it ∷ []
