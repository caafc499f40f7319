-- Steps of giving rings that touch the same label.
use Rattle.std.proofs.Common.{◌≡◌, ◌⊎◌, ◌+◌, ◌<◌, ℕ, List, length, get_or, map, Bool, true, false, cond, nat_eq, refl, sym, ap, subst, ◌∙◌, arith, inl, inr}
use Rattle.std.proofs.lemmas.Bool.{cases_eq, eq-eqb, eqb-true}
use Rattle.std.proofs.lemmas.List.{get_or-map, length-map}
use Rattle.i_shape_contacts.specs.declared.plain.Contact.{Contact}
use Rattle.i_shape_touching.specs.Touching.{IsEdgeOf}
use Rattle.i_shape_touching.specs.Steps.Labels.{contact_at, HaveSameLabel, AreLinked, AreMerged}
use Rattle.i_shape_touching.specs.Steps.Labels.AreLinked.{alike, across, back, through}

module _ (offsets old : List ℕ) (contacts : List Contact) where
  -- before the first contact
  pub none_merged : AreMerged offsets contacts 0 old old
  none_merged = record {
    count = refl;
    keeps = λ r s h k e. e;
    merges = λ k h. absurd (omega (arith, h));
    only = λ r s h k e. alike h k e;
  }

  -- one more contact
  module _ (now : List ℕ) (n ring other : ℕ) (count : length old + 1 ≡ length offsets) (within : n < length contacts) (merged : AreMerged offsets contacts n old now)
      (first_of : IsEdgeOf offsets ring (contact_at contacts n).first) (second_of : IsEdgeOf offsets other (contact_at contacts n).second) where
    -- the first ring has a label
    ring_within : ring < length old
    ring_within = let h = first_of.is_ring in omega (arith, h, count)

    -- and so has the second
    other_within : other < length old
    other_within = let h = second_of.is_ring in omega (arith, h, count)

    -- whose rings have the same label
    pub merged_already : get_or now ring 0 ≡ get_or now other 0 → AreMerged offsets contacts (n + 1) old now
    merged_already same = record {
      count = merged.count;
      keeps = merged.keeps;
      merges = λ k h. elim (cases_eq k n) [
        | inl e ↦ subst (λ m. HaveSameLabel offsets now (contact_at contacts m).first (contact_at contacts m).second) (sym e)
            (record { ring = ring; first_of = first_of; other = other; second_of = second_of; same = same })
        | inr d ↦ merged.merges k (omega (arith, h, d))
      ];
      only = merged.only;
    }

    -- whose rings are relabelled
    abbrev renamed : ℕ → ℕ
    renamed label = cond (nat_eq label (get_or now other 0)) (get_or now ring 0) label

    -- the label of the second ring is replaced
    renamed_left : (z : ℕ) → z ≡ get_or now other 0 → renamed z ≡ get_or now ring 0
    renamed_left z e = ap (λ (b : Bool). cond b (get_or now ring 0) z) (eq-eqb z (get_or now other 0) e)

    -- that of the first is kept
    renamed_kept : (z : ℕ) → z ≡ get_or now ring 0 → renamed z ≡ get_or now ring 0
    renamed_kept z e = go (nat_eq z (get_or now other 0))
      where
        go : (b : Bool) → cond b (get_or now ring 0) z ≡ get_or now ring 0
        go true = refl
        go false = e

    -- a label is replaced if it is that of the second ring, and is otherwise kept
    renamed_same : (z : ℕ) → (z ≡ get_or now other 0) × (renamed z ≡ get_or now ring 0) ⊎ (renamed z ≡ z)
    renamed_same z = go (nat_eq z (get_or now other 0)) refl
      where
        go : (b : Bool) → nat_eq z (get_or now other 0) ≡ b → (z ≡ get_or now other 0) × (renamed z ≡ get_or now ring 0) ⊎ (renamed z ≡ z)
        go true e = let f = eqb-true z (get_or now other 0) e in inl (f, renamed_left z f)
        go false e = inr (ap (λ (b : Bool). cond b (get_or now ring 0) z) e)

    -- the new label of a ring
    read : (new : List ℕ) → new ≡ map renamed now → (r : ℕ) → r < length old → get_or new r 0 ≡ renamed (get_or now r 0)
    read new e r h = ap (λ (l : List ℕ). get_or l r 0) e ∙ get_or-map renamed now r 0 0 (let m = merged.count in omega (arith, h, m))

    -- rings with the same new label are linked
    linked : (r s : ℕ) → r < length old → s < length old → renamed (get_or now r 0) ≡ renamed (get_or now s 0) → AreLinked offsets old contacts r s
    linked r s h k e = go (renamed_same (get_or now r 0)) (renamed_same (get_or now s 0))
      where
        go : (get_or now r 0 ≡ get_or now other 0) × (renamed (get_or now r 0) ≡ get_or now ring 0) ⊎ (renamed (get_or now r 0) ≡ get_or now r 0)
            → (get_or now s 0 ≡ get_or now other 0) × (renamed (get_or now s 0) ≡ get_or now ring 0) ⊎ (renamed (get_or now s 0) ≡ get_or now s 0) → AreLinked offsets old contacts r s
        go (inl a) (inl b) = merged.only r s h k (a.0 ∙ sym b.0)
        go (inr a) (inr b) = merged.only r s h k (sym a ∙ e ∙ b)
        go (inl a) (inr b) = through (merged.only r other h other_within a.0) (through (back (across n within first_of second_of)) (merged.only ring s ring_within k (sym a.1 ∙ e ∙ b)))
        go (inr a) (inl b) = through (merged.only r ring h ring_within (sym a ∙ e ∙ b.1)) (through (across n within first_of second_of) (merged.only other s other_within k (sym b.0)))

    -- so one more contact is merged
    pub merged_more : (new : List ℕ) → new ≡ map renamed now → AreMerged offsets contacts (n + 1) old new
    merged_more new is = record {
      count = ap length is ∙ length-map now renamed ∙ merged.count;
      keeps = λ r s h k e. read new is r h ∙ ap renamed (merged.keeps r s h k e) ∙ sym (read new is s k);
      merges = λ k h. elim (cases_eq k n) [
        | inl e ↦ subst (λ m. HaveSameLabel offsets new (contact_at contacts m).first (contact_at contacts m).second) (sym e) (record {
          ring = ring;
          first_of = first_of;
          other = other;
          second_of = second_of;
          same = read new is ring ring_within ∙ renamed_kept (get_or now ring 0) refl ∙ sym (read new is other other_within ∙ renamed_left (get_or now other 0) refl);
        })
        | inr d ↦ again k (merged.merges k (omega (arith, h, d)))
      ];
      only = λ r s h k e. linked r s h k (sym (read new is r h) ∙ e ∙ read new is s k);
    }
      where
        again : (k : ℕ) → HaveSameLabel offsets now (contact_at contacts k).first (contact_at contacts k).second → HaveSameLabel offsets new (contact_at contacts k).first (contact_at contacts k).second
        again k m =
            let one = m.first_of.is_ring in
            let two = m.second_of.is_ring in
            record {
              ring = m.ring;
              first_of = m.first_of;
              other = m.other;
              second_of = m.second_of;
              same = read new is m.ring (omega (arith, one, count)) ∙ ap renamed m.same ∙ sym (read new is m.other (omega (arith, two, count)));
            }
