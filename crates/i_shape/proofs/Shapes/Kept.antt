-- What a cleaner's answers keep of lists of contours, of shapes and of lists of shapes.
use Rattle.std.proofs.Common.{◌≡◌, ℕ, ◌+◌, ◌%◌, ◌↔◌, ◌≤◌, List, [], ◌∷◌, refl, sym, ◌∙◌, arith, Option, Some, None, IfSome, All, count_by}
use Rattle.i_shape.proofs.Common.{Width, Point, IsSafe, edges, is_right, Inside, IsKept, IsFlat, KeptAnswer, Survivors, inside_count, ShapeClean, ListClean, EachContour, AreKept, ListKept, IsSafeShape, IsSafeList}
use native.Mathlib.Decide.{dec_le}
use Rattle.std.proofs.lemmas.Int.{ints}
use Rattle.std.proofs.lemmas.List.Sums.{sum_by-cons}
use Rattle.std.proofs.lemmas.List.Elements.{All-cons, All-head, All-tail}
use Rattle.i_shape.proofs.Lists.Surviving.{survivors_each, survivors_weaker, survivors_stay, survivors_have}

-- the number of edges to the right of p, modulo 2
abbrev pub edges_parity : List Point → Point → ℕ
edges_parity c p = count_by (is_right p) (edges c) % 2

-- an added contour counts 1 if p is inside it
pub inside_count-cons : (c : List Point) (cs : List (List Point)) (p : Point) → inside_count (c ∷ cs) p ≡ edges_parity c p + inside_count cs p
unfolding inside_count
inside_count-cons c cs p = sum_by-cons (λ c. edges_parity c p) c cs

-- contours keep their own measures
pub same_kept : (contours : List (List Point)) → AreKept contours contours
same_kept contours = record { area = refl; inside = λ p. refl; between = λ n p. refl; winding = λ p. refl }

-- numbers that are both odd or both even have the same remainder modulo 2
pub same_parity : (m n : ℕ) → (m % 2 ≡ 1) ↔ (n % 2 ≡ 1) → m % 2 ≡ n % 2
same_parity m n h = go (dec_le 1 (m % 2)) (dec_le 1 (n % 2))
  where
    go : Dec (1 ≤ m % 2) → Dec (1 ≤ n % 2) → m % 2 ≡ n % 2
    go (yes a) b = let odd : m % 2 ≡ 1 = omega arith in odd ∙ sym (h.0 odd)
    go (no a) (yes b) = let odd : n % 2 ≡ 1 = omega arith in h.1 odd ∙ sym odd
    go (no a) (no b) = omega arith

-- dropping a collapsed contour changes no sum
flat_more : (c : List Point) (cs left : List (List Point)) → IsFlat c → AreKept cs left → AreKept (c ∷ cs) left
unfolding Inside
flat_more c cs left flat rest = record {
  area = let here = flat.area in let more = rest.area in omega (arith, ints);
  inside = λ p. let out : edges_parity c p ≡ 1 → ⊥ = flat.inside p in omega (arith, inside_count-cons c cs p, rest.inside p);
  between = λ n p. let here = flat.between n p in let more = rest.between n p in omega (arith, ints);
  winding = λ p. let here = flat.winding p in let more = rest.winding p in omega (arith, ints);
}

-- if a contour keeps its measures and the others do, all do together
kept_more : (c e : List Point) (cs left : List (List Point)) → IsKept c e → AreKept cs left → AreKept (c ∷ cs) (e ∷ left)
unfolding Inside
kept_more c e cs left kept rest = record {
  area = let here = kept.area in let more = rest.area in omega (arith, ints);
  inside = λ p. omega (arith, inside_count-cons c cs p, inside_count-cons e left p, same_parity (count_by (is_right p) (edges e)) (count_by (is_right p) (edges c)) (kept.inside p), rest.inside p);
  between = λ n p. let here = kept.between n p in let more = rest.between n p in omega (arith, ints);
  winding = λ p. let here = kept.winding p in let more = rest.winding p in omega (arith, ints);
}

module _ (Answer : List Point → Option (List Point) → Type 0) (keeps : (c : List Point) (r : Option (List Point)) → Answer c r → KeptAnswer c r) where
  -- the contours left keep the sums of the measures
  pub survivors_keep : (cs kept : List (List Point)) → Survivors Answer cs kept → AreKept cs kept
  survivors_keep = survivors_each Answer AreKept (same_kept []) (λ c cs kept a. flat_more c cs kept (keeps c None a)) (λ c e cs kept a. kept_more c e cs kept (keeps c (Some e) a))

  -- a cleaned shape keeps the shape's measures
  pub shape_keeps : (s : List (List Point)) (r : Option (List (List Point))) → ShapeClean Answer s r → IfSome r (AreKept s)
  shape_keeps [] None a = tt
  shape_keeps [] (Some []) a = same_kept []
  shape_keeps [] (Some (e ∷ kept)) a = absurd cc
  shape_keeps (c ∷ s) None a = tt
  shape_keeps (c ∷ s) (Some []) a = absurd a
  shape_keeps (c ∷ s) (Some (e ∷ kept)) a = kept_more c e s kept (keeps c (Some e) a.0) (survivors_keep s kept a.1)

  -- each shape of a cleaned list keeps its shape's measures
  pub list_keeps : (shapes kept : List (List (List Point))) → ListClean Answer shapes kept → ListKept Answer shapes kept
  list_keeps shapes kept clean = record {
    each = survivors_weaker (ShapeClean Answer) (λ shape r. ShapeClean Answer shape r × IfSome r (AreKept shape)) (λ shape r a. (a, shape_keeps shape r a)) shapes kept clean;
  }

module _ (Answer : List Point → Option (List Point) → Type 0) (w : Width) (stays_safe : (c e : List Point) → Answer c (Some e) → All (IsSafe w) c → All (IsSafe w) e) where
  -- the contours left of safe contours are safe
  pub survivors_safe : (cs kept : List (List Point)) → Survivors Answer cs kept → IsSafeShape w cs → IsSafeShape w kept
  survivors_safe = survivors_have Answer (All (IsSafe w)) (All (IsSafe w)) stays_safe

  -- cleaning a safe shape leaves a safe shape
  pub shape_safe : (s : List (List Point)) (r : Option (List (List Point))) → ShapeClean Answer s r → IsSafeShape w s → IfSome r (IsSafeShape w)
  shape_safe [] None a safe = tt
  shape_safe [] (Some []) a safe = safe
  shape_safe [] (Some (e ∷ kept)) a safe = absurd cc
  shape_safe (c ∷ s) None a safe = tt
  shape_safe (c ∷ s) (Some []) a safe = absurd a
  shape_safe (c ∷ s) (Some (e ∷ kept)) a safe =
      All-cons (All (IsSafe w)) e kept (stays_safe c e a.0 (All-head (All (IsSafe w)) c s safe)) (survivors_safe s kept a.1 (All-tail (All (IsSafe w)) c s safe))

  -- cleaning a safe list leaves a safe list
  pub list_safe : (shapes kept : List (List (List Point))) → ListClean Answer shapes kept → IsSafeList w shapes → IsSafeList w kept
  list_safe = survivors_have (ShapeClean Answer) (IsSafeShape w) (IsSafeShape w) (λ s k a safe. shape_safe s (Some k) a safe)

module _ (Passes : List Point → Type 0) (Answer : List Point → Option (List Point) → Type 0) (stays : (c : List Point) → Passes c → Answer c (Some c)) where
  -- a shape whose contours pass is its own answer
  pub shape_stays : (shape : List (List Point)) → EachContour Passes shape → ShapeClean Answer shape (Some shape)
  shape_stays [] pass = refl
  shape_stays (c ∷ shape) pass = (stays c (All-head Passes c shape pass), survivors_stay Passes Answer stays shape (All-tail Passes c shape pass))
