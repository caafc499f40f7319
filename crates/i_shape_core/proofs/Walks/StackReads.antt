-- The steps of the walk as the code takes them, from reads of the stack and results of tests.
use Rattle.std.proofs.Common.{◌≡◌, ◌↔◌, Bool, true, false, IsTrue, ℕ, ◌+◌, ◌-◌, ◌<◌, ◌≤◌, ℤ, List, [], ◌∷◌, ◌++◌, map, take, drop, length, get_or, refl, ap, subst, sym, ◌∙◌, arith}
use Rattle.std.proofs.lemmas.List.{get_or_read}
use Rattle.i_shape_core.proofs.Common.{IsZeroTurn, contour_of, point_at, End, IsStacked, IsSettled, stacked_point, IntPoint}
use Rattle.i_shape_core.proofs.Plane.Contours.{length-contour}
use Rattle.i_shape_core.proofs.Walks.Stack.{pop-stacked, push-stacked, drop-first, drop-last, stacked-end}

-- if the test returns true, P holds
pub holds_by_test : {P : Type 0} (b : Bool) → IsTrue b ↔ P → b ≡ true → P
holds_by_test b tells e = let t : IsTrue b = e in tells.0 t

-- if the test returns false, P doesn't hold
pub fails_by_test : {P : Type 0} (b : Bool) → IsTrue b ↔ P → b ≡ false → ¬ P
fails_by_test b tells e p = let t : b ≡ true = tells.1 p in absurd (cc)

module _ {I : Type 0} (value : I → ℤ) (xs ys : List (IntPoint I)) (same : ys ≡ xs) where
  -- the test of three places of one contour is that of three equal points of the other
  read-turn : (i j k x y z : ℕ) → x ≡ i → y ≡ j → z ≡ k
      → IsZeroTurn (point_at (contour_of value ys) x) (point_at (contour_of value ys) y) (point_at (contour_of value ys) z)
      ↔ IsZeroTurn (point_at (contour_of value xs) i) (point_at (contour_of value xs) j) (point_at (contour_of value xs) k)
  read-turn i j k x y z ex ey ez =
      let F : List (IntPoint I) → ℕ → ℕ → ℕ → Type 0 = λ l p q r.
      IsZeroTurn (point_at (contour_of value l) p) (point_at (contour_of value l) q) (point_at (contour_of value l) r) in (
        (λ h. subst (λ (r : ℕ). F xs i j r) ez (subst (λ (q : ℕ). F xs i q z) ey (subst (λ (p : ℕ). F xs p y z) ex (subst (λ (l : List (IntPoint I)). F l x y z) same h)))),
        (λ h. subst (λ (l : List (IntPoint I)). F l x y z) (sym same) (subst (λ (p : ℕ). F xs p y z) (sym ex) (subst (λ (q : ℕ). F xs i q z) (sym ey) (subst (λ (r : ℕ). F xs i j r) (sym ez) h)))),
      )

  -- popping keeps the invariant if the test of the places that were read returns true
  pub pop-read : (S T : List ℕ) (place below top x y : ℕ) (b : Bool) → IsStacked IsZeroTurn (contour_of value xs) S place
      → length S ≡ top + 1 → top ≡ below + 1 → place < length xs → x ≡ get_or S below x → y ≡ get_or S top y
      → IsTrue b ↔ IsZeroTurn (point_at (contour_of value ys) x) (point_at (contour_of value ys) y) (point_at (contour_of value ys) place)
      → b ≡ true → T ≡ take top S → IsStacked IsZeroTurn (contour_of value xs) T place
  pop-read S T place below top x y b stacked long next within rx ry tells yes-it e =
      let turn = read-turn (get_or S below 0) (get_or S top 0) place x y place
      (get_or_read S below x (omega arith) rx 0) (get_or_read S top y (omega arith) ry 0) refl in
      pop-stacked IsZeroTurn (contour_of value xs) S T place below top stacked long next (omega (arith, length-contour value xs))
      (turn.0 (holds_by_test b tells yes-it)) e

  -- the stack's last place may stay if the test of the places that were read returns false
  pub settled-read : (S : List ℕ) (place below top x y : ℕ) (b : Bool)
      → length S ≡ top + 1 → top ≡ below + 1 → x ≡ get_or S below x → y ≡ get_or S top y
      → IsTrue b ↔ IsZeroTurn (point_at (contour_of value ys) x) (point_at (contour_of value ys) y) (point_at (contour_of value ys) place)
      → b ≡ false → ¬ (IsZeroTurn (stacked_point (contour_of value xs) S below) (stacked_point (contour_of value xs) S top) (point_at (contour_of value xs) place))
  settled-read S place below top x y b long next rx ry tells no-it =
      let turn = read-turn (get_or S below 0) (get_or S top 0) place x y place
      (get_or_read S below x (omega arith) rx 0) (get_or_read S top y (omega arith) ry 0) refl in
      λ h. fails_by_test b tells no-it (turn.1 h)

  -- pushing keeps the invariant if the stack's last place may stay
  pub push-read : (S T : List ℕ) (place : ℕ) → IsStacked IsZeroTurn (contour_of value ys) S place → place < length ys
      → IsSettled IsZeroTurn (contour_of value ys) S place → T ≡ S ++ place ∷ [] → IsStacked IsZeroTurn (contour_of value xs) T (place + 1)
  push-read S T place stacked within settled e =
      subst (λ (l : List (IntPoint I)). IsStacked IsZeroTurn (contour_of value l) T (place + 1)) same
      (push-stacked IsZeroTurn (contour_of value ys) S T place stacked (omega (arith, length-contour value ys)) settled e)

  -- a place on the stack is a place of the contour
  pub place-within : (S : List ℕ) (place k : ℕ) → IsStacked IsZeroTurn (contour_of value xs) S place → k < length S → get_or S k 0 < length ys
  place-within S place k stacked within =
      omega (arith, stacked.within k 0 within, length-contour value xs, ap length same)

  -- a place on the stack is a place of the contour, whatever the default of the read
  pub each-within : (S : List ℕ) (place k d : ℕ) → IsStacked IsZeroTurn (contour_of value xs) S place → k < length S → get_or S k d < length ys
  each-within S place k d stacked within =
      omega (arith, stacked.within k d within, length-contour value xs, ap length same)

  -- once all places are read, dropping the first keeps the invariant if its test returns true
  pub first-read : (S T : List ℕ) (last : ℕ) (b : Bool) → IsStacked IsZeroTurn (contour_of value xs) S (length (contour_of value xs))
      → length S ≡ last + 1 → 2 ≤ last
      → IsTrue b ↔ IsZeroTurn (point_at (contour_of value ys) (get_or S last 0)) (point_at (contour_of value ys) (get_or S 0 0)) (point_at (contour_of value ys) (get_or S 1 0))
      → b ≡ true → T ≡ drop 1 S → IsStacked IsZeroTurn (contour_of value xs) T (length (contour_of value xs))
  first-read S T last b stacked long three tells yes-it e =
      let m : ℕ = last - 2 in
      let l : last ≡ m + 2 = omega arith in
      let turn = read-turn (get_or S (m + 2) 0) (get_or S 0 0) (get_or S 1 0) (get_or S last 0) (get_or S 0 0) (get_or S 1 0)
      (ap (λ (k : ℕ). get_or S k 0) l) refl refl in
      drop-first IsZeroTurn (contour_of value xs) S T m stacked (omega arith) (turn.0 (holds_by_test b tells yes-it)) e

  -- once all places are read, dropping the last keeps the invariant if its test returns true
  pub last-read : (S T : List ℕ) (before last : ℕ) (b : Bool) → IsStacked IsZeroTurn (contour_of value xs) S (length (contour_of value xs))
      → length S ≡ last + 1 → last ≡ before + 1 → 1 ≤ before
      → IsTrue b ↔ IsZeroTurn (point_at (contour_of value ys) (get_or S before 0)) (point_at (contour_of value ys) (get_or S last 0)) (point_at (contour_of value ys) (get_or S 0 0))
      → b ≡ true → T ≡ take last S → IsStacked IsZeroTurn (contour_of value xs) T (length (contour_of value xs))
  last-read S T before last b stacked long next three tells yes-it e =
      let m : ℕ = before - 1 in
      let p : before ≡ m + 1 = omega arith in
      let l : last ≡ m + 2 = omega arith in
      let turn = read-turn (get_or S (m + 1) 0) (get_or S (m + 2) 0) (get_or S 0 0) (get_or S before 0) (get_or S last 0) (get_or S 0 0)
      (ap (λ (k : ℕ). get_or S k 0) p) (ap (λ (k : ℕ). get_or S k 0) l) refl in
      drop-last IsZeroTurn (contour_of value xs) S T m stacked (omega arith) (turn.0 (holds_by_test b tells yes-it)) (e ∙ ap (λ (k : ℕ). take k S) l)

  -- if both tests return false, the points of the stack are an end; `zs` is the contour at the second test
  pub end-read : (zs : List (IntPoint I)) → zs ≡ xs → (S : List ℕ) (before last : ℕ) (b d : Bool) → IsStacked IsZeroTurn (contour_of value xs) S (length (contour_of value xs))
      → length S ≡ last + 1 → last ≡ before + 1 → 1 ≤ before
      → IsTrue b ↔ IsZeroTurn (point_at (contour_of value ys) (get_or S last 0)) (point_at (contour_of value ys) (get_or S 0 0)) (point_at (contour_of value ys) (get_or S 1 0))
      → b ≡ false
      → IsTrue d ↔ IsZeroTurn (point_at (contour_of value zs) (get_or S before 0)) (point_at (contour_of value zs) (get_or S last 0)) (point_at (contour_of value zs) (get_or S 0 0))
      → d ≡ false
      → End IsZeroTurn (contour_of value xs) (map (point_at (contour_of value xs)) S)
  end-read zs again S before last b d stacked long next three tells-b no-b tells-d no-d =
      let m : ℕ = before - 1 in
      let p : before ≡ m + 1 = omega arith in
      let l : last ≡ m + 2 = omega arith in
      let first = read-turn (get_or S (m + 2) 0) (get_or S 0 0) (get_or S 1 0) (get_or S last 0) (get_or S 0 0) (get_or S 1 0)
      (ap (λ (k : ℕ). get_or S k 0) l) refl refl in
      let second : IsZeroTurn (stacked_point (contour_of value xs) S (m + 1)) (stacked_point (contour_of value xs) S (m + 2)) (stacked_point (contour_of value xs) S 0)
      → IsZeroTurn (point_at (contour_of value zs) (get_or S before 0)) (point_at (contour_of value zs) (get_or S last 0)) (point_at (contour_of value zs) (get_or S 0 0)) =
      λ h. subst (λ (q : List (IntPoint I)). IsZeroTurn (point_at (contour_of value q) (get_or S before 0)) (point_at (contour_of value q) (get_or S last 0)) (point_at (contour_of value q) (get_or S 0 0))) (sym again)
      (subst (λ (q : ℕ). IsZeroTurn (stacked_point (contour_of value xs) S q) (stacked_point (contour_of value xs) S last) (stacked_point (contour_of value xs) S 0)) (sym p)
      (subst (λ (q : ℕ). IsZeroTurn (stacked_point (contour_of value xs) S (m + 1)) (stacked_point (contour_of value xs) S q) (stacked_point (contour_of value xs) S 0)) (sym l) h)) in
      stacked-end IsZeroTurn (contour_of value xs) S m stacked (omega arith)
      (λ h. fails_by_test b tells-b no-b (first.1 h)) (λ h. fails_by_test d tells-d no-d (second h))
