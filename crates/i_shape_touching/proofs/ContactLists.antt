-- Lists of all contacts in order.
use Rattle.std.proofs.Common.{◌≡◌, ℕ, zero, suc, ◌+◌, ◌<◌, ◌≤◌, ◌++◌, List, [], ◌∷◌, length, take, drop, min, get_or, map, AllPairs, Contains, ℤ, append-nil, refl, sym, ap, ap₂, subst, ◌∙◌, arith, ◌⊎◌, inl, inr}
use Rattle.std.proofs.lemmas.Bool.{cases_lt}
use Rattle.std.specs.List.{All}
use Rattle.std.proofs.lemmas.List.{take_all, drop_all, take-append-le, take_more, map-append}
use Rattle.i_shape_core.specs.Point.{Point}
use Rattle.i_shape_contacts.specs.declared.plain.Contact.{Contact}
use Rattle.i_shape_contacts.specs.Contacts.{NoContact, IsFirstContact, IsRingContact}
use Rattle.i_shape_contacts.specs.Listing.{AreBefore, AreContacts}
use Rattle.i_shape_touching.specs.Steps.Touches.{IsTouch, AreTouches}
use Rattle.i_shape_touching.specs.declared.touches.Touch.{Touch}

-- ---- a list of contacts, by its places
-- a contact of the list comes after those at earlier places
before_at : (A : ℕ → ℕ → Type 0) (list : List Contact) (k m : ℕ) (d : Contact) → AreContacts A list → k < m → m < length list → AreBefore (get_or list m d).first (get_or list m d).second (get_or list k d).first (get_or list k d).second
before_at A list k m d are less within = are.order k m d less within

-- the first contact of the list for which B is true is the first of all
pub first_in_list : (A B : ℕ → ℕ → Type 0) (list : List Contact) (n : ℕ) (it : Contact) → AreContacts A list → ((i j : ℕ) → B i j → A i j) → n < length list → ((d : Contact) → get_or list n d ≡ it)
    → ((k : ℕ) (d : Contact) → k < n → B (get_or list k d).first (get_or list k d).second → ⊥) → B it.first it.second → IsFirstContact B it.first it.second
first_in_list A B list n it are all within is none here = record {
  first = record { contact = here; least = λ k h. least k h (are.all it.first k (all it.first k h)) };
  none_before = λ k l less h. before k l less h (are.all k l (all k l h));
}
  where
    -- a contact for which B is true is it, or comes later
    not_before : (k l : ℕ) → B k l → Contains list (record { first = k; second = l }) → ((it.first ≡ k) × (it.second ≡ l)) ⊎ AreBefore k l it.first it.second
    not_before k l h found = elim (cases_lt found.0 n) [
      | inl early ↦ absurd (none found.0 (record { first = k; second = l }) early (subst (λ (c : Contact). B c.first c.second) (sym found.2) h))
      | inr late ↦ elim (cases_lt n found.0) [
        | inl more ↦ inr (subst (λ (c : Contact). AreBefore k l c.first c.second) (is (record { first = k; second = l })) (subst (λ (c : Contact). AreBefore c.first c.second (get_or list n (record { first = k; second = l })).first (get_or list n (record { first = k; second = l })).second) found.2 (before_at A list n found.0 (record { first = k; second = l }) are more found.1)))
        | inr less ↦ (
            let here : found.0 ≡ n = omega (arith, late, less) in
            let same : it ≡ record { first = k; second = l } = sym (is (record { first = k; second = l })) ∙ ap (λ (m : ℕ). get_or list m (record { first = k; second = l })) (sym here) ∙ found.2 in
            inl (ap (λ (c : Contact). c.first) same, ap (λ (c : Contact). c.second) same)
            )
      ]
    ]

    least : (k : ℕ) → B it.first k → Contains list (record { first = it.first; second = k }) → it.second ≤ k
    least k h found = elim (not_before it.first k h found) [
      | inl same ↦ (let e = same.1 in omega (arith, e))
      | inr (inl less) ↦ absurd (omega (arith, less))
      | inr (inr more) ↦ (let l = more.1 in omega (arith, l))
    ]

    before : (k l : ℕ) → k < it.first → B k l → Contains list (record { first = k; second = l }) → ⊥
    before k l early h found = elim (not_before k l h found) [
      | inl same ↦ (let e = same.0 in omega (arith, e, early))
      | inr (inl less) ↦ omega (arith, less, early)
      | inr (inr more) ↦ (let e = more.0 in omega (arith, e, early))
    ]

-- if B is true for no contact of the list, it is true for none
pub none_in_list : (A B : ℕ → ℕ → Type 0) (list : List Contact) (n : ℕ) → AreContacts A list → ((i j : ℕ) → B i j → A i j) → length list ≤ n
    → ((k : ℕ) (d : Contact) → k < n → B (get_or list k d).first (get_or list k d).second → ⊥) → NoContact B
none_in_list A B list n are all most none = record { none = λ i j h. never i j h (are.all i j (all i j h)) }
  where
    never : (i j : ℕ) → B i j → Contains list (record { first = i; second = j }) → ⊥
    never i j h found =
        let within = found.1 in
        none found.0 (record { first = i; second = j }) (omega (arith, within, most)) (subst (λ (c : Contact). B c.first c.second) (sym found.2) h)

-- ---- the list of all contacts is unique
-- no edges come before themselves
not_itself : (i j : ℕ) → AreBefore i j i j → ⊥
not_itself i j (inl h) = omega (arith, h)
not_itself i j (inr h) = let l = h.1 in omega (arith, l)

-- and no two pairs come before one another
not_both : (i j k l : ℕ) → AreBefore i j k l → AreBefore k l i j → ⊥
not_both i j k l (inl h) (inl g) = omega (arith, h, g)
not_both i j k l (inl h) (inr g) = let e = g.0 in omega (arith, h, e)
not_both i j k l (inr h) (inl g) = let e = h.0 in omega (arith, g, e)
not_both i j k l (inr h) (inr g) = let m = h.1 in let n = g.1 in omega (arith, m, n)

abbrev InOrder : List Contact → Type 0
InOrder list = AllPairs (λ one other. AreBefore other.first other.second one.first one.second) list

rest_in_order : (x : Contact) (xs : List Contact) → InOrder (x ∷ xs) → InOrder xs
rest_in_order x xs order = λ k l d less within. order (suc k) (suc l) d (omega (arith, less)) (omega (arith, within))

first_in_order : (x : Contact) (xs : List Contact) (k : ℕ) (d : Contact) → InOrder (x ∷ xs) → k < length xs → AreBefore (get_or xs k d).first (get_or xs k d).second x.first x.second
first_in_order x xs k d order within = order 0 (suc k) d (omega (arith, within)) (omega (arith, within))

-- an item of a list is the first or one of the rest
first_or_rest : (y : Contact) (ys : List Contact) (it : Contact) → Contains (y ∷ ys) it → (y ≡ it) ⊎ Contains ys it
first_or_rest y ys it (zero, within, found) = inl found
first_or_rest y ys it (suc k, within, found) = inr (k, omega (arith, within), found)

in_rest : (y : Contact) (ys : List Contact) (it : Contact) → Contains ys it → Contains (y ∷ ys) it
in_rest y ys it (k, within, found) = (suc k, omega (arith, within), found)

-- what is in the rest comes after the first
after_first : (x : Contact) (xs : List Contact) (it : Contact) → InOrder (x ∷ xs) → Contains xs it → AreBefore it.first it.second x.first x.second
after_first x xs it order (k, within, found) = subst (λ (c : Contact). AreBefore c.first c.second x.first x.second) found (first_in_order x xs k it order within)

same_list : (xs ys : List Contact) → InOrder xs → InOrder ys → ((it : Contact) → Contains xs it → Contains ys it) → ((it : Contact) → Contains ys it → Contains xs it) → xs ≡ ys
same_list [] [] f g to from = refl
same_list [] (y ∷ ys) f g to from = absurd (let found = from y (0, (omega arith), refl) in let within = found.1 in omega (arith, within))
same_list (x ∷ xs) [] f g to from = absurd (let found = to x (0, (omega arith), refl) in let within = found.1 in omega (arith, within))
same_list (x ∷ xs) (y ∷ ys) f g to from = ap₂ (λ (c : Contact) (l : List Contact). c ∷ l) first (same_list xs ys (rest_in_order x xs f) (rest_in_order y ys g) rest_to rest_from)
  where
    first : x ≡ y
    first = elim (first_or_rest y ys x (to x (0, (omega arith), refl))) [
      | inl same ↦ sym same
      | inr late ↦ elim (first_or_rest x xs y (from y (0, (omega arith), refl))) [
        | inl same ↦ same
        | inr later ↦ absurd (not_both _ _ _ _ (after_first y ys x g late) (after_first x xs y f later))
      ]
    ]

    rest_to : (it : Contact) → Contains xs it → Contains ys it
    rest_to it found = elim (first_or_rest y ys it (to it (in_rest x xs it found))) [
      | inr there ↦ there
      | inl same ↦ absurd (not_itself it.first it.second (subst (λ (c : Contact). AreBefore it.first it.second c.first c.second) (first ∙ same) (after_first x xs it f found)))
    ]

    rest_from : (it : Contact) → Contains ys it → Contains xs it
    rest_from it found = elim (first_or_rest x xs it (from it (in_rest y ys it found))) [
      | inr there ↦ there
      | inl same ↦ absurd (not_itself it.first it.second (subst (λ (c : Contact). AreBefore it.first it.second c.first c.second) (sym first ∙ same) (after_first y ys it g found)))
    ]

-- two lists of all contacts are the same
pub contacts_unique : (A : ℕ → ℕ → Type 0) (xs ys : List Contact) → AreContacts A xs → AreContacts A ys → xs ≡ ys
contacts_unique A xs ys f g = same_list xs ys f.order g.order (moved xs ys f g) (moved ys xs g f)
  where
    moved : (xs ys : List Contact) → AreContacts A xs → AreContacts A ys → (it : Contact) → Contains xs it → Contains ys it
    moved xs ys f g it found = g.all it.first it.second (subst (λ (c : Contact). A c.first c.second) found.2 (f.each found.0 it found.1))

-- ---- writing the list
-- what is written into as many items as there are contacts is the list of all
pub written_all : (A : ℕ → ℕ → Type 0) (counted written old new more : List Contact) (most total n : ℕ) → AreContacts A counted → AreContacts A written → total ≡ min (length counted) most → n ≡ total → n < most → length old ≡ n
    → new ≡ take (length old) written ++ drop (length written) old → AreContacts A (take n (new ++ more))
written_all A counted written old new more most total n f g count whole small room is = subst (AreContacts A) (sym all) g
  where
    many : length written ≡ n
    many = let e = ap length (contacts_unique A written counted g f) in omega (arith, e, count, whole, small)

    same : new ≡ written
    same = is ∙ ap₂ (λ (x y : List Contact). x ++ y) (take_all (length old) written (omega (arith, many, room))) (drop_all (length written) old (omega (arith, many, room))) ∙ append-nil written

    all : take n (new ++ more) ≡ written
    all = ap (λ (l : List Contact). take n (l ++ more)) same ∙ take-append-le n written more (omega (arith, many)) ∙ take_all n written (omega (arith, many))

-- ---- touches at the contacts of a list
-- one more
pub touched_more : {I : Type 0} (contacts : List Contact) (touches longer : List (Touch I)) (k : ℕ) (t : Touch I) (d : Contact) → longer ≡ touches ++ t ∷ [] → k < length contacts → t.contact ≡ get_or contacts k d
    → map (λ (t : Touch I). t.contact) touches ≡ take k contacts → map (λ (t : Touch I). t.contact) longer ≡ take (k + 1) contacts
touched_more {I} contacts touches longer k t d is within at before =
    ap (map contact) is ∙ map-append contact touches (t ∷ []) ∙ ap₂ (λ (x y : List Contact). x ++ y) before (ap (λ (it : Contact). it ∷ []) at) ∙ sym (take_more contacts k d within)
  where
    contact : Touch I → Contact
    contact t = t.contact

-- touches at each contact
pub all_touched : {I : Type 0} (value : I → ℤ) (offsets : List ℕ) (c : List Point) (contacts : List Contact) (touches : List (Touch I)) (k : ℕ) → AreContacts (IsRingContact offsets c) contacts → length contacts ≤ k
    → map (λ (t : Touch I). t.contact) touches ≡ take k contacts → All (IsTouch value offsets c) touches → AreTouches value offsets c touches
all_touched value offsets c contacts touches k are most same each = record {
  each = each;
  all = λ i j h. subst (λ (list : List Contact). Contains list (record { first = i; second = j })) (sym (same ∙ take_all k contacts most)) (are.all i j h);
}
