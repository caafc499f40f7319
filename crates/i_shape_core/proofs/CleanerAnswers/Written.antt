-- What a cleaner writes into a list of a caller's.
use Rattle.std.proofs.Common.{◌≡◌, ℕ, ◌<◌, false, true, List, [], ◌∷◌, length, take, drop, Option, Some, None, refl, arith, ◌≤◌, ◌++◌, ◌∙◌, ◌⊎◌, inl, inr, reverse, Ok, Err, option_map, All, IfOk, IsOkUnless, Result, length-take-le}
use Rattle.std.specs.Int.{Width}
use Rattle.std.proofs.lemmas.Bool.{cases_lt}
use Rattle.i_shape_core.proofs.Common.{Point, IsSafe, Test, Rotation, RotatedSublist, SublistEitherWay, NoSpikes, IsCanonical, UnorientedAnswer, IsLeast, IsLesserWay, WalkAnswer}
use Rattle.i_shape_core.specs.Refusals.{OkUnlessMemory}
use Rattle.i_shape_core.specs.Cleaning.{Cleaning, simplifying, despiking, removing_spikes, canonicalizing, canonicalizing_unoriented}
use Rattle.i_shape_core.specs.Written.{slot, IsCleanedInOrder, IsWritten}
use Rattle.i_shape_core.specs.declared.error.ShapeError.{ShapeError}
use Rattle.i_shape_core.specs.declared.error.ShapeError.TheVariants.{OutOfMemory}
use Rattle.i_shape_core.proofs.Walks.Found.{all_answered, in_order_answered, kept_by_rotation}
use Rattle.i_shape_core.proofs.Removal.Ends.{reach_shrinks}
use Rattle.i_shape_core.proofs.Removal.Rotations.{all_rotated, rotation_refl, rotation_trans}
use Rattle.i_shape_core.proofs.Removal.Reversal.{rotation_of_reversed}
use Rattle.i_shape_core.proofs.Lists.Appended.{front_taken, back_left}
use Rattle.i_shape_core.proofs.Forms.Unoriented.{unoriented_lesser_way, unoriented_kept, unoriented_left}

-- a list with a point represents an answer
pub slot_some : (e : List Point) → 0 < length e → slot e ≡ Some e
slot_some [] some = absurd (omega (arith, some))
slot_some (p ∷ e) some = refl

slot_none : (e : List Point) → length e ≡ 0 → slot e ≡ None
slot_none [] none = refl
slot_none (p ∷ e) none = absurd (omega (arith, none))

-- if `Holds` is true of a result's value, and its only error is `OutOfMemory`, `OkUnlessMemory` holds
pub unless_memory : {T : Type 0} (result : Result T ShapeError) (Holds : T → Type 0) → IfOk result Holds → IsOkUnless result OutOfMemory → OkUnlessMemory result Holds
unless_memory (Ok t) Holds ok memory = ok
unless_memory (Err e) Holds ok memory = memory

-- a walk by the test T gives a cleaner's answer, in the contour's order
pub walked : {X : Type 0} (width : Width) (T : Test) (cleaning : Cleaning) (c : List Point) (read : X → List Point) (r : Option X) (visits : ℕ)
    → (WalkAnswer T c (option_map read r) visits → cleaning.answers c (option_map read r)) → (WalkAnswer T c (option_map read r) visits → cleaning.keeps c (option_map read r))
    → All (IsSafe width) c → WalkAnswer T c (option_map read r) visits → IsCleanedInOrder cleaning width c (option_map read r)
walked width T cleaning c read None visits answers keeps safe walk = record { cleaned = record { answer = answers walk; kept = keeps walk; safe = tt }; in_order = tt }
walked width T cleaning c read (Some x) visits answers keeps safe walk = record {
  cleaned = record { answer = answers walk; kept = keeps walk; safe = all_answered T (IsSafe width) read c (Some x) visits walk safe };
  in_order = in_order_answered T read c (Some x) visits walk;
}

-- if a collapsed contour is a result, writing nothing writes it
pub collapse_written : {X : Type 0} (cleaning : Cleaning) (width : Width) (read : List X → List Point) (counts : (list : List X) → length (read list) ≡ length list) (given old : List X)
    → cleaning.picks X given [] → cleaning.answers (read given) None → cleaning.keeps (read given) None → IsWritten cleaning width read given old old 0
collapse_written cleaning width read counts given old picked answer kept = record {
  fewer = omega arith;
  picked = picked;
  cleaned = rw (slot_none (read []) (counts [])) (record { answer = answer; kept = kept; safe = tt });
  rest = refl;
}

-- each result of a walk by the test T over the given points is a result of the cleaner
module _ {X : Type 0} (cleaning : Cleaning) (width : Width) (read : List X → List Point) (counts : (list : List X) → length (read list) ≡ length list) (given old : List X) (T : Test)
    (answers : (r : Option (List Point)) (visits : ℕ) → WalkAnswer T (read given) r visits → cleaning.answers (read given) r)
    (keeps : (r : Option (List Point)) (visits : ℕ) → WalkAnswer T (read given) r visits → cleaning.keeps (read given) r) where
  -- a walk that finds nothing writes nothing
  pub nothing_written : (visits : ℕ) → cleaning.picks X given [] → WalkAnswer T (read given) None visits → IsWritten cleaning width read given old old 0
  nothing_written visits picked walk = collapse_written cleaning width read counts given old picked (answers None visits walk) (keeps None visits walk)

  -- a walk that finds points writes them
  pub points_written : (new : List X) (n : ℕ) (e : List Point) (visits : ℕ) → All (IsSafe width) (read given) → cleaning.picks X given (take n new) → read (take n new) ≡ e → n ≡ length e → drop n new ≡ drop n old
      → WalkAnswer T (read given) (Some e) visits → IsWritten cleaning width read given old new n
  points_written new n e visits safe picked is many rest walk =
      let some : slot e ≡ Some e = slot_some e (omega (arith, walk.enough)) in
      record {
        fewer = omega (arith, many, reach_shrinks walk.ended.reached, counts given);
        picked = picked;
        cleaned = rw (is, some) (record {
          answer = answers (Some e) visits walk;
          kept = keeps (Some e) visits walk;
          safe = all_answered T (IsSafe width) (λ l. l) (read given) (Some e) visits walk safe;
        });
        rest = rest;
      }

-- rotating the simplified points to their least rotation writes the canonical form
pub canonical_written : {X : Type 0} (width : Width) (read : List X → List Point) (counts : (list : List X) → length (read list) ≡ length list) (given old simple rotated : List X) (n : ℕ) → 0 < n → n ≤ length simple
    → IsWritten simplifying width read given old simple n → length rotated ≡ length (take n simple) → IsLeast (read (take n simple)) (read rotated) → Rotation (take n simple) rotated
    → IsWritten canonicalizing width read given old (rotated ++ drop n simple) n
canonical_written width read counts given old simple rotated n some within written many least rotation =
    let long : length rotated ≡ n = many ∙ length-take-le n simple within in
    let front = front_taken n rotated (drop n simple) long in
    let back = back_left n rotated (drop n simple) long in
    let before = slot_some (read (take n simple)) (omega (arith, counts (take n simple), length-take-le n simple within, some)) in
    let after : slot (read rotated) ≡ Some (read rotated) = slot_some (read rotated) (omega (arith, counts rotated, long, some)) in
    let cleaned = rw before at written.cleaned in
    record {
      fewer = written.fewer;
      picked = rw front (take n simple, written.picked, rotation);
      cleaned = rw (front, after) (record {
        answer = record { end = read (take n simple); ends = cleaned.answer; least = least };
        kept = kept_by_rotation (read given) (read (take n simple)) (read rotated) cleaned.kept least.rotation;
        safe = all_rotated (IsSafe width) least.rotation cleaned.safe;
      });
      rest = back ∙ written.rest;
    }

-- a contour that collapses has no canonical form
pub nothing_canonical : {X : Type 0} (width : Width) (read : List X → List Point) (counts : (list : List X) → length (read list) ≡ length list) (given old new : List X) (n : ℕ) → n ≡ 0
    → IsWritten simplifying width read given old new n → IsWritten canonicalizing width read given old new n
nothing_canonical width read counts given old new n nothing written =
    let none : slot (read (take n new)) ≡ None = rw nothing (slot_none (read []) (counts [])) in
    let cleaned = rw none at written.cleaned in
    record {
      fewer = written.fewer;
      picked = (take n new, written.picked, rotation_refl (take n new));
      cleaned = rw none (record { answer = cleaned.answer; kept = cleaned.kept; safe = tt });
      rest = written.rest;
    }

-- a list that is a rotation of what was picked, or of that read backwards, is picked either way
picked_either_way : {X : Type 0} (given canonical rotated : List X) → RotatedSublist given canonical → (rotated ≡ canonical) ⊎ Rotation (reverse canonical) rotated → SublistEitherWay given rotated
picked_either_way given canonical rotated (s, picked, rotation) (inl same) = (s, picked, inl (rw same rotation))
picked_either_way given canonical rotated (s, picked, rotation) (inr other) = (s, picked, inr (rotation_trans (rotation_of_reversed rotation) other))

-- rotating a written canonical form to the lesser direction writes the unoriented form
pub unoriented_written : {X : Type 0} (width : Width) (read : List X → List Point) (counts : (list : List X) → length (read list) ≡ length list) (given old canonical rotated : List X) (n : ℕ) → 0 < n → n ≤ length canonical
    → All (IsSafe width) (read given) → IsWritten canonicalizing width read given old canonical n → length rotated ≡ length (take n canonical) → IsLesserWay (read (take n canonical)) (read rotated)
    → (rotated ≡ take n canonical) ⊎ Rotation (reverse (take n canonical)) rotated → IsWritten canonicalizing_unoriented width read given old (rotated ++ drop n canonical) n
unoriented_written width read counts given old canonical rotated n some within safe written many lesser way =
    let long : length rotated ≡ n = many ∙ length-take-le n canonical within in
    let front = front_taken n rotated (drop n canonical) long in
    let back = back_left n rotated (drop n canonical) long in
    let before = slot_some (read (take n canonical)) (omega (arith, counts (take n canonical), length-take-le n canonical within, some)) in
    let after : slot (read rotated) ≡ Some (read rotated) = slot_some (read rotated) (omega (arith, counts rotated, long, some)) in
    let form : IsCanonical (read given) (read (take n canonical)) = rw before at written.cleaned.answer in
    let answer : UnorientedAnswer (read given) (Some (read rotated)) = unoriented_lesser_way (read given) (read (take n canonical)) (read rotated) form lesser in
    record {
      fewer = written.fewer;
      picked = rw front (picked_either_way given (take n canonical) rotated written.picked way);
      cleaned = rw (front, after) (record {
        answer = answer;
        kept = unoriented_kept (read given) (Some (read rotated)) answer;
        safe = unoriented_left (IsSafe width) (read given) (read rotated) answer safe;
      });
      rest = back ∙ written.rest;
    }

-- a contour that collapses has no unoriented form
pub nothing_unoriented : {X : Type 0} (width : Width) (read : List X → List Point) (counts : (list : List X) → length (read list) ≡ length list) (given old new : List X) (n : ℕ) → n ≡ 0
    → IsWritten canonicalizing width read given old new n → IsWritten canonicalizing_unoriented width read given old new n
nothing_unoriented width read counts given old new n nothing written =
    let none : slot (read (take n new)) ≡ None = rw nothing (slot_none (read []) (counts [])) in
    let cleaned = rw none at written.cleaned in
    record {
      fewer = written.fewer;
      picked = picked_either_way given (take n new) (take n new) written.picked (inl refl);
      cleaned = rw none (record { answer = cleaned.answer; kept = cleaned.kept; safe = tt });
      rest = written.rest;
    }

-- a contour that is its own result is written whole
pub whole_written : {X : Type 0} (cleaning : Cleaning) (width : Width) (read : List X → List Point) (given old new : List X) (n : ℕ) → n ≡ length given → take n new ≡ given → drop n new ≡ drop n old → 0 < length (read given)
    → cleaning.picks X given given → cleaning.answers (read given) (Some (read given)) → cleaning.keeps (read given) (Some (read given)) → All (IsSafe width) (read given) → IsWritten cleaning width read given old new n
whole_written cleaning width read given old new n many is rest some picked answer kept safe =
    let whole : slot (read given) ≡ Some (read given) = slot_some (read given) some in
    record {
      fewer = omega (arith, many);
      picked = rw is picked;
      cleaned = rw (is, whole) (record { answer = answer; kept = kept; safe = safe });
      rest = rest;
    }

-- n is at least 3 if it being less is absurd
pub not_few : (n : ℕ) → (n < 3 → false ≡ true) → 3 ≤ n
not_few n long = elim (cases_lt n 3) [
  | inl few ↦ (let no = long few in absurd (cc))
  | inr enough ↦ enough
]

-- of a contour with spikes, what `ContourDeSpiker` writes is what `SpikeRemover` may write
pub spikes_removed : {X : Type 0} {width : Width} {read : List X → List Point} {given old new : List X} (n : ℕ) → (NoSpikes (read given) → ⊥)
    → IsWritten despiking width read given old new n → IsWritten removing_spikes width read given old new n
spikes_removed n spiked r = record {
  fewer = r.fewer;
  picked = r.picked;
  cleaned = record {
    answer = record { clean = λ s. absurd (spiked s); cleaned = λ _. r.cleaned.answer };
    kept = r.cleaned.kept;
    safe = r.cleaned.safe;
  };
  rest = r.rest;
}
