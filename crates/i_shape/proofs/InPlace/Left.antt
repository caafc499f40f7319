-- What is left once each contour is cleaned in place and the collapsed ones are removed.
use Rattle.std.proofs.Common.{◌≡◌, ℕ, ℤ, ◌+◌, ◌<◌, ◌≤◌, ◌==◌, Bool, not, cond, true, false, Ok, Err, List, [], ◌∷◌, ◌++◌, length, set, get_or, take, drop, map, refl, sym, ap, ◌∙◌, subst, arith, append_assoc, append-nil, Option, Some, None, unwrap_or, All, filter}
use Rattle.i_shape.proofs.Common.{Width, AllZip, Point, contour_of, IsSafe, IntPoint, KeptAnswer, ShapeError, OutOfMemory, IsSafeShape, Survivors, ShapeClean, ListClean, EachContour, EachShape, AreKept, Leaves, IsShortOrClean, CleansShape, CleansList, InPlaceWork, AreLeftOf, HasRoom, has_points, keeps_outer, kept_contours, kept_shapes}
use Rattle.std.proofs.lemmas.List.{set_at, get_or_at, drop_more, take_more, take_all, drop_all, length-take-le, take-append-le, get_or-map, map-set, length-map}
use Rattle.std.proofs.lemmas.List.Elements.{All-nil, All-get_or}
use Rattle.std.proofs.lemmas.Slice.Zip.{all_zipped_more, AllZip-long}
use Rattle.i_shape_core.proofs.Lists.Survivors.{survivors-none}
use Rattle.i_shape.proofs.Lists.Surviving.{survivors_gone, survivors_left}
use Rattle.i_shape.proofs.Shapes.Kept.{same_kept, shape_keeps, shape_safe, list_keeps}

-- writing n items over the front of a list makes them its first n
pub written_whole : {A : Type 0} (items old : List A) (n : ℕ) → n ≡ length items → take n (items ++ drop (length items) old) ≡ items
written_whole items old n same = take-append-le n items (drop (length items) old) (omega (arith, same)) ∙ take_all n items (omega (arith, same))

-- a loop over a list has changed the first i members, each by R
pub record SoFar {X : Type 0} (R : X → X → Type 0) (before now : List X) (i : ℕ) : Type 0 where
  pub left : List X
  pub each : AllZip R (take i before) left
  pub rest : now ≡ left ++ drop i before

module _ {X : Type 0} (R : X → X → Type 0) where
  -- at index 0 nothing is changed
  pub so_far_none : (xs : List X) → SoFar R xs xs 0
  so_far_none xs = record { left = []; each = tt; rest = refl }

  module _ (before now : List X) (i : ℕ) (d : X) (lt : i < length before) (s : SoFar R before now i) where
    far : length s.left ≡ i
    far = AllZip-long R (take i before) s.left s.each ∙ length-take-le i before (omega (arith, lt))

    split : now ≡ s.left ++ get_or before i d ∷ drop (i + 1) before
    split = s.rest ∙ ap (λ l. s.left ++ l) (drop_more before i d lt)

    -- the member at index i is unchanged
    so_far_next : get_or now i d ≡ get_or before i d
    so_far_next = ap (λ l. get_or l i d) split ∙ get_or_at s.left (get_or before i d) (drop (i + 1) before) d i far

    -- changing member i by R makes i + 1 members changed
    so_far_more : (y : X) → R (get_or before i d) y → SoFar R before (set now i y) (i + 1)
    so_far_more y here = record {
      left = s.left ++ y ∷ [];
      each = subst (λ l. AllZip R l (s.left ++ y ∷ [])) (sym (take_more before i d lt)) (all_zipped_more R (take i before) s.left (get_or before i d) y s.each here);
      rest = ap (λ l. set l i y) split ∙ set_at s.left (get_or before i d) (drop (i + 1) before) y i far ∙ sym (append_assoc s.left (y ∷ []) (drop (i + 1) before));
    }

-- A loop over items, each read by f.
module _ {A X : Type 0} (R : X → X → Type 0) (f : A → X) (old items : List A) (i : ℕ) (same : length items ≡ length old) (s : SoFar R (map f old) (map f items) i) where
  module _ (a : A) (lt : i < length old) where
    there : i < length (map f old)
    there = omega (arith, lt, length-map old f)

    read : f (get_or items i a) ≡ get_or (map f old) i (f a)
    read = sym (get_or-map f items i a (f a) (omega (arith, lt, same))) ∙ so_far_next R (map f old) (map f items) i (f a) there s

    -- what held of all items before the loop holds of the item at index i
    pub so_far_holds : (P : X → Type 0) → All P (map f old) → P (f (get_or items i a))
    so_far_holds P all = subst P (sym read) (All-get_or P (map f old) i (f a) there all)

    -- changing item i by R makes i + 1 items changed
    pub so_far_set : (b : A) → R (f (get_or items i a)) (f b) → SoFar R (map f old) (map f (set items i b)) (i + 1)
    so_far_set b changed = subst (λ l. SoFar R (map f old) l (i + 1)) (sym (map-set f items i b)) (so_far_more R (map f old) (map f items) i (f a) there s (f b) (subst (λ x. R x (f b)) read changed))

  -- at the end each item is changed by R, also in the list that they are written back to
  pub so_far_all : (behind : List A) (n : ℕ) → length old ≤ i → n ≡ length items → AllZip R (map f old) (map f (take n (items ++ drop (length items) behind)))
  so_far_all behind n done whole =
      let long : length (map f old) ≤ i = omega (arith, done, length-map old f) in
      let left_is : map f items ≡ s.left = s.rest ∙ ap (λ l. s.left ++ l) (drop_all i (map f old) long) ∙ append-nil s.left in
      rw (written_whole items behind n whole, left_is) (rw (take_all i (map f old) long) at s.each)

-- room for the copy of a contour is room for that of a shorter one
pub fewer_in_place : {I C : Type 0} (has_room : C → ℕ → Type 0) → ((cleaner : C) (m n : ℕ) → m ≤ n → has_room cleaner n → has_room cleaner m) → (work : InPlaceWork I C) (m n : ℕ) → m ≤ n → HasRoom has_room work n → HasRoom has_room work m
fewer_in_place has_room fewer work m n le room = (fewer work.cleaner m n le room.0, omega (arith, le, room.1))

-- What is left once collapsed contours are removed.
module _ (Answer : List Point → Option (List Point) → Type 0) where
  contours_left : (cs ds : List (List Point)) → AreLeftOf Answer cs ds → Survivors Answer cs (filter has_points ds)
  contours_left [] [] h = survivors-none Answer
  contours_left [] (d ∷ ds) h = absurd h
  contours_left (c ∷ cs) [] h = absurd h
  contours_left (c ∷ cs) ([] ∷ ds) h = survivors_gone Answer c cs _ h.0 (contours_left cs ds h.1)
  contours_left (c ∷ cs) ((p ∷ d) ∷ ds) h = survivors_left Answer c (p ∷ d) cs _ h.0 (contours_left cs ds h.1)

  -- the contours left of a shape are the cleaned shape
  pub shape_left : (shape left : List (List Point)) → AreLeftOf Answer shape left → Leaves (ShapeClean Answer) shape (kept_contours left)
  shape_left [] [] h = (Some [], refl, refl)
  shape_left [] (d ∷ ds) h = absurd h
  shape_left (c ∷ cs) [] h = absurd h
  shape_left (c ∷ cs) ([] ∷ ds) h = (None, h.0, refl)
  shape_left (c ∷ cs) ((p ∷ d) ∷ ds) h = (Some ((p ∷ d) ∷ filter has_points ds), (h.0, contours_left cs ds h.1), refl)

  -- the shapes left of a list are the cleaned list
  pub list_left : (shapes left : List (List (List Point))) → AllZip (AreLeftOf Answer) shapes left → ListClean Answer shapes (kept_shapes left)
  list_left [] [] h = survivors-none (ShapeClean Answer)
  list_left [] (l ∷ left) h = absurd h
  list_left (s ∷ shapes) [] h = absurd h
  list_left ([] ∷ shapes) ([] ∷ left) h = survivors_left (ShapeClean Answer) [] [] shapes _ refl (list_left shapes left h.1)
  list_left ([] ∷ shapes) ((d ∷ ds) ∷ left) h = absurd h.0
  list_left ((c ∷ cs) ∷ shapes) ([] ∷ left) h = absurd h.0
  list_left ((c ∷ cs) ∷ shapes) (([] ∷ ds) ∷ left) h = survivors_gone (ShapeClean Answer) (c ∷ cs) shapes _ h.0.0 (list_left shapes left h.1)
  list_left ((c ∷ cs) ∷ shapes) (((p ∷ d) ∷ ds) ∷ left) h = survivors_left (ShapeClean Answer) (c ∷ cs) _ shapes _ (h.0.0, contours_left cs ds h.0.1) (list_left shapes left h.1)

-- A shape and a list that fail the test, and what is left of them.
module _ (Passes : List Point → Type 0) (Answer : List Point → Option (List Point) → Type 0) (keeps : (c : List Point) (r : Option (List Point)) → Answer c r → KeptAnswer c r) where
  left_keeps : (shape new : List (List Point)) (answer : Option (List (List Point))) → ShapeClean Answer shape answer → new ≡ unwrap_or answer [] → 0 < length new → AreKept shape new
  left_keeps shape new None clean is some = absurd (omega (arith, ap length is))
  left_keeps shape new (Some kept) clean is some = rw is (shape_keeps Answer keeps shape (Some kept) clean)

  -- a shape that fails the test and becomes the cleaned shape is cleaned in place
  pub shape_cleaned_in_place : (shape new : List (List Point)) → (EachContour Passes shape → ⊥) → Leaves (ShapeClean Answer) shape new → CleansShape Passes Answer shape new (Ok true)
  shape_cleaned_in_place shape new fails leaves = record {
    cleans = record { passes = λ pass. absurd (fails pass); clean = λ e. absurd cc; left = leaves; refused = λ k e. absurd cc };
    kept = left_keeps shape new leaves.0 leaves.1 leaves.2;
    unclean = tt;
  }

  -- a shape that fails the test stays unchanged if memory runs out
  pub shape_refused_in_place : (shape : List (List Point)) (e : ShapeError) → (EachContour Passes shape → ⊥) → (EachContour (IsShortOrClean Passes length) shape → ⊥) → e ≡ OutOfMemory → CleansShape Passes Answer shape shape (Err e)
  shape_refused_in_place shape e fails long memory = record {
    cleans = record { passes = λ pass. absurd (fails pass); clean = λ f. absurd cc; left = tt; refused = λ k f. (cc, refl) };
    kept = λ some. same_kept shape;
    unclean = long;
  }

  -- a list that fails the test stays unchanged if memory runs out
  pub list_refused_in_place : (shapes : List (List (List Point))) (e : ShapeError) → (EachShape Passes shapes → ⊥) → (EachShape (IsShortOrClean Passes length) shapes → ⊥) → e ≡ OutOfMemory → CleansList Passes Answer shapes shapes (Err e)
  list_refused_in_place shapes e fails long memory = record {
    cleans = record { passes = λ pass. absurd (fails pass); clean = λ f. absurd cc; left = tt; refused = λ k f. (cc, refl) };
    kept = tt;
    unclean = long;
  }

  -- a list that fails the test and becomes the cleaned list is cleaned in place
  pub list_cleaned_in_place : (shapes new : List (List (List Point))) → (EachShape Passes shapes → ⊥) → ListClean Answer shapes new → CleansList Passes Answer shapes new (Ok true)
  list_cleaned_in_place shapes new fails clean = record {
    cleans = record { passes = λ pass. absurd (fails pass); clean = λ e. absurd cc; left = clean; refused = λ k e. absurd cc };
    kept = list_keeps Answer keeps shapes new clean;
    unclean = tt;
  }

-- a contour has points exactly if its list isn't empty
pub has_points_told : {T : Type 0} (value : T → ℤ) (points : List (IntPoint T)) (n : ℕ) → n ≡ length points → has_points (contour_of value points) ≡ not (n == 0)
has_points_told value [] n e = rw e refl
has_points_told value (p ∷ points) n e = grind (arith, e)

-- filtering by p of the read member and then reading is reading and then filtering by p
pub filter_read : {X Y : Type 0} (f : X → Y) (p : Y → Bool) (xs : List X) → map f (filter (λ x. p (f x)) xs) ≡ filter p (map f xs)
filter_read f p [] = refl
filter_read f p (x ∷ xs) = go (filter_read f p xs) (p (f x))
  where
    go : map f (filter (λ x. p (f x)) xs) ≡ filter p (map f xs) → (b : Bool) → map f (cond b (x ∷ filter (λ x. p (f x)) xs) (filter (λ x. p (f x)) xs)) ≡ cond b (f x ∷ filter p (map f xs)) (filter p (map f xs))
    go rest true = ap (λ l. f x ∷ l) rest
    go rest false = rest

-- a shape whose outer contour has points keeps each contour that has points
pub outer_kept : (s : List (List Point)) → true ≡ keeps_outer s → filter has_points s ≡ kept_contours s
outer_kept s e = rw (sym e) refl

-- what is left of a safe shape is safe
pub leaves_safe : (Answer : List Point → Option (List Point) → Type 0) (w : Width) → ((c e : List Point) → Answer c (Some e) → All (IsSafe w) c → All (IsSafe w) e)
    → (shape new : List (List Point)) (leaves : Leaves (ShapeClean Answer) shape new) → IsSafeShape w shape → IsSafeShape w new
leaves_safe Answer w stays_safe shape new leaves safe = go leaves.0 leaves.1 leaves.2
  where
    go : (answer : Option (List (List Point))) → ShapeClean Answer shape answer → new ≡ unwrap_or answer [] → IsSafeShape w new
    go None clean is = rw is (All-nil (All (IsSafe w)))
    go (Some kept) clean is = rw is (shape_safe Answer w stays_safe shape (Some kept) clean safe)
