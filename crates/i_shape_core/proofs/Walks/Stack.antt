-- The steps of the walk that keeps places on a stack.
use Rattle.std.proofs.Common.{◌≡◌, ◌↔◌, ℕ, zero, suc, ◌+◌, ◌-◌, ◌<◌, ◌≤◌, List, [], ◌∷◌, ◌++◌, map, take, drop, length, get_or, refl, ap, subst, sym, ◌∙◌, inl, inr, arith}
use Rattle.std.proofs.lemmas.List.{get_or-map, get_or_append_left, get_or-append_right, get_or-drop, get_or-take, length-map, length-append, length-drop, length-take, append-nil, append_assoc, map-append, take-map, drop_all, drop_more, get_or_at}
use Rattle.std.proofs.lemmas.List.Edits.{remove-append_left}
use Rattle.std.proofs.lemmas.List.Elements.{All-take, All-drop, All-push}
use Rattle.std.proofs.lemmas.Bool.{cases_lt}
use Rattle.i_shape_core.proofs.Common.{Point, origin, Reach, Step, IsRemovable, End, point_at, place_before, place_after, stay, step, IsStacked, stacked_point, points_left}
use Rattle.i_shape_core.proofs.Removal.Places.{before_first, before_later, after_earlier, after_last}
use Rattle.i_shape_core.proofs.Removal.Ends.{reach_trans}
use Rattle.i_shape_core.proofs.Walks.RisingPlaces.{rising_all, rising_front, rising_rest, rising_push}

-- P holds at place k of a contour, between its neighbours on the cycle
abbrev HoldsAround : (Point → Point → Point → Type 0) → List Point → ℕ → Type 0
HoldsAround P c k = P (point_at c (place_before (length c) k)) (point_at c k) (point_at c (place_after (length c) k))

module _ (P : Point → Point → Point → Type 0) where
  module _ (c : List Point) where
    left-at : (S : List ℕ) (B : List Point) (j : ℕ) → j < length S → point_at (map (point_at c) S ++ B) j ≡ stacked_point c S j
    left-at S B j h =
        let l : j < length (map (point_at c) S) = omega (arith, length-map S (point_at c)) in
        get_or_append_left (map (point_at c) S) B origin j l ∙ get_or-map (point_at c) S j 0 origin h

    rest-at : (S : List ℕ) (i : ℕ) → point_at (points_left c S i) (length S) ≡ point_at c i
    rest-at S i =
        let l : length (map (point_at c) S) ≡ length S = length-map S (point_at c) in
        let le : length S ≤ length S = omega arith in
        let z : length S - length S ≡ 0 = omega arith in
        let p : i + 0 ≡ i = omega arith in
        get_or-append_right (map (point_at c) S) (drop i c) (length S) (length S) origin l le
        ∙ ap (λ (k : ℕ). get_or (drop i c) k origin) z ∙ get_or-drop i c 0 origin ∙ ap (λ (k : ℕ). get_or c k origin) p

    length-left : (S : List ℕ) (i : ℕ) → length (points_left c S i) ≡ length S + (length c - i)
    length-left S i = simp (length-append, length-map, length-drop)

    -- an empty stack before place 0
    pub stacked-start : (S : List ℕ) → S ≡ [] → IsStacked P c S 0
    stacked-start S e = subst (λ (l : List ℕ). IsStacked P c l 0) (sym e) (record {
      reached = stay;
      unremovable = λ k h p. absurd (omega arith);
      within = λ k d h. absurd (omega arith);
      rising = rising_all 0;
    })

    -- removing the last of the stack, between the one below it and the point at `place`, is a step
    pub pop-step : (S : List ℕ) (i m : ℕ) → length S ≡ suc (suc m) → i < length c
        → P (stacked_point c S m) (stacked_point c S (suc m)) (point_at c i)
        → Step P (points_left c S i) (points_left c (take (suc m) S) i)
    pop-step S i m long within holds =
        let C : List Point = points_left c S i in
        let n : length C ≡ length S + (length c - i) = length-left S i in
        let ea : point_at C (place_before (length C) (suc m)) ≡ stacked_point c S m =
        ap (point_at C) (before_later (length C) m (omega arith)) ∙ left-at S (drop i c) m (omega arith) in
        let eb : point_at C (suc m) ≡ stacked_point c S (suc m) = left-at S (drop i c) (suc m) (omega arith) in
        let inner : suc m + 1 < length C = omega arith in
        let ed : point_at C (place_after (length C) (suc m)) ≡ point_at c i =
        ap (point_at C) (after_earlier (length C) (suc m) inner ∙ sym long) ∙ rest-at S i in
        let k : suc m < length (map (point_at c) S) = omega (arith, length-map S (point_at c)) in
        let all : length (map (point_at c) S) ≤ suc (suc m) = omega (arith, length-map S (point_at c)) in
        record {
          place = suc m;
          removable = record {
            enough = omega arith;
            within = omega arith;
            passes = subst (λ (p : Point). P p (point_at C (suc m)) (point_at C (place_after (length C) (suc m)))) (sym ea)
                (subst (λ (p : Point). P (stacked_point c S m) p (point_at C (place_after (length C) (suc m)))) (sym eb)
                (subst (λ (p : Point). P (stacked_point c S m) (stacked_point c S (suc m)) p) (sym ed) holds));
          };
          left = sym (remove-append_left (map (point_at c) S) (drop i c) (suc m) k
              ∙ ap (λ (l : List Point). l ++ drop i c)
              (ap (λ (l : List Point). take (suc m) (map (point_at c) S) ++ l) (drop_all (suc (suc m)) (map (point_at c) S) all)
              ∙ append-nil (take (suc m) (map (point_at c) S)) ∙ take-map (point_at c) (suc m) S));
        }

    -- P carries over to three equal places of another stack
    moved : (S T : List ℕ) (q r : ℕ) → get_or T q 0 ≡ get_or S r 0 → get_or T (q + 1) 0 ≡ get_or S (r + 1) 0 → get_or T (q + 2) 0 ≡ get_or S (r + 2) 0
        → P (stacked_point c T q) (stacked_point c T (q + 1)) (stacked_point c T (q + 2))
        → P (stacked_point c S r) (stacked_point c S (r + 1)) (stacked_point c S (r + 2))
    moved S T q r e0 e1 e2 h =
        subst (λ (n : ℕ). P (point_at c n) (stacked_point c S (r + 1)) (stacked_point c S (r + 2))) e0
        (subst (λ (n : ℕ). P (stacked_point c T q) (point_at c n) (stacked_point c S (r + 2))) e1
        (subst (λ (n : ℕ). P (stacked_point c T q) (stacked_point c T (q + 1)) (point_at c n)) e2 h))

    unremovable-take : (S : List ℕ) (n : ℕ)
        → ((k : ℕ) → k + 2 < length S → ¬ (P (stacked_point c S k) (stacked_point c S (k + 1)) (stacked_point c S (k + 2))))
        → (k : ℕ) → k + 2 < length (take n S) → ¬ (P (stacked_point c (take n S) k) (stacked_point c (take n S) (k + 1)) (stacked_point c (take n S) (k + 2)))
    unremovable-take S n unremovable k short h =
        let l : k + 2 < length S = omega (arith, length-take n S) in
        unremovable k l (moved S (take n S) k k (get_or-take n S k 0 (omega (arith, length-take n S)))
        (get_or-take n S (k + 1) 0 (omega (arith, length-take n S))) (get_or-take n S (k + 2) 0 (omega (arith, length-take n S))) h)

    -- popping a place whose point passes the test keeps the invariant
    pub pop-stacked : (S T : List ℕ) (i j k : ℕ) → IsStacked P c S i → length S ≡ k + 1 → k ≡ j + 1 → i < length c
        → P (stacked_point c S j) (stacked_point c S k) (point_at c i) → T ≡ take k S → IsStacked P c T i
    pop-stacked S T i j k s long next within holds e =
        let ek : k ≡ suc j = omega arith in
        let two : length S ≡ suc (suc j) = omega arith in
        let fall = pop-step S i j two within (subst (λ (n : ℕ). P (stacked_point c S j) (stacked_point c S n) (point_at c i)) ek holds) in
        subst (λ (l : List ℕ). IsStacked P c l i) (sym e) (record {
          reached = subst (λ (n : ℕ). Reach P c (points_left c (take n S) i)) (sym ek) (reach_trans s.reached (step fall stay));
          unremovable = unremovable-take S k s.unremovable;
          within = All-take (λ (n : ℕ). n < length c) k S s.within;
          rising = rising_front i k S s.rising;
        })

    push-left : (S : List ℕ) (i : ℕ) → i < length c → points_left c (S ++ i ∷ []) (i + 1) ≡ points_left c S i
    push-left S i within =
        ap (λ (l : List Point). l ++ drop (i + 1) c) (map-append (point_at c) S (i ∷ []))
        ∙ append_assoc (map (point_at c) S) (point_at c i ∷ []) (drop (i + 1) c)
        ∙ ap (λ (l : List Point). map (point_at c) S ++ l) (sym (drop_more c i origin within))

    -- pushing a place keeps the invariant if the stack's last isn't removable before it
    pub push-stacked : (S T : List ℕ) (i : ℕ) → IsStacked P c S i → i < length c
        → ((j k : ℕ) → length S ≡ k + 1 → k ≡ j + 1 → ¬ (P (stacked_point c S j) (stacked_point c S k) (point_at c i)))
        → T ≡ S ++ i ∷ [] → IsStacked P c T (i + 1)
    push-stacked S T i s within settled e =
        let W : List ℕ = S ++ i ∷ [] in
        let n : length W ≡ length S + 1 = simp (length-append) (omega arith) in
        let low : (k : ℕ) → k < length S → get_or W k 0 ≡ get_or S k 0 = λ k h. get_or_append_left S (i ∷ []) 0 k h in
        let top : (k : ℕ) → length S ≡ k → get_or W k 0 ≡ i = λ k h. get_or_at S i [] 0 k h in
        subst (λ (l : List ℕ). IsStacked P c l (i + 1)) (sym e) (record {
          reached = subst (Reach P c) (sym (push-left S i within)) s.reached;
          unremovable = λ k h p. elim (cases_lt (k + 2) (length S)) [
            | inl l ↦ s.unremovable k l (moved S W k k (low k (omega arith)) (low (k + 1) (omega arith)) (low (k + 2) l) p)
            | inr l ↦
                let at : length S ≡ k + 2 = omega arith in
                settled k (k + 1) (omega arith) (omega arith)
                (subst (λ (q : ℕ). P (point_at c q) (stacked_point c S (k + 1)) (point_at c i)) (low k (omega arith))
                (subst (λ (q : ℕ). P (stacked_point c W k) (point_at c q) (point_at c i)) (low (k + 1) (omega arith))
                (subst (λ (q : ℕ). P (stacked_point c W k) (stacked_point c W (k + 1)) (point_at c q)) (top (k + 2) at) p)))
          ];
          within = All-push (λ (q : ℕ). q < length c) S i s.within within;
          rising = rising_push i S s.rising;
        })

    -- after the last place only the points of the stack are left
    pub all-left : (S : List ℕ) → points_left c S (length c) ≡ map (point_at c) S
    all-left S =
        let le : length c ≤ length c = omega arith in
        ap (λ (l : List Point). map (point_at c) S ++ l) (drop_all (length c) c le) ∙ append-nil (map (point_at c) S)

    at-stack : (S : List ℕ) (j : ℕ) → j < length S → point_at (map (point_at c) S) j ≡ stacked_point c S j
    at-stack S j h = get_or-map (point_at c) S j 0 origin h

    around-at : (A : List Point) (i j k : ℕ) (p q r : Point) → place_before (length A) j ≡ i → place_after (length A) j ≡ k
        → point_at A i ≡ p → point_at A j ≡ q → point_at A k ≡ r → HoldsAround P A j ↔ P p q r
    around-at A i j k p q r ei ek pa pb pd =
        let before : point_at A (place_before (length A) j) ≡ p = ap (point_at A) ei ∙ pa in
        let after : point_at A (place_after (length A) j) ≡ r = ap (point_at A) ek ∙ pd in (
          (λ h. subst (λ (x : Point). P x q r) before (subst (λ (x : Point). P (point_at A (place_before (length A) j)) x r) pb
              (subst (λ (x : Point). P (point_at A (place_before (length A) j)) (point_at A j) x) after h))),
          (λ h. subst (λ (x : Point). P x (point_at A j) (point_at A (place_after (length A) j))) (sym before)
              (subst (λ (x : Point). P p x (point_at A (place_after (length A) j))) (sym pb)
              (subst (λ (x : Point). P p q x) (sym after) h))),
        )

    first-around : (S : List ℕ) (m : ℕ) → length S ≡ m + 3
        → HoldsAround P (map (point_at c) S) 0 ↔ P (stacked_point c S (m + 2)) (stacked_point c S 0) (stacked_point c S 1)
    first-around S m long =
        let A : List Point = map (point_at c) S in
        let n : length A ≡ length S = length-map S (point_at c) in
        around-at A (m + 2) 0 1 _ _ _ (before_first (length A) (omega arith) ∙ omega arith) (after_earlier (length A) 0 (omega arith))
        (at-stack S (m + 2) (omega arith)) (at-stack S 0 (omega arith)) (at-stack S 1 (omega arith))

    last-around : (S : List ℕ) (m : ℕ) → length S ≡ m + 3
        → HoldsAround P (map (point_at c) S) (suc (m + 1)) ↔ P (stacked_point c S (m + 1)) (stacked_point c S (m + 2)) (stacked_point c S 0)
    last-around S m long =
        let A : List Point = map (point_at c) S in
        let n : length A ≡ length S = length-map S (point_at c) in
        let e : suc (m + 1) ≡ m + 2 = omega arith in
        around-at A (m + 1) (suc (m + 1)) 0 _ _ _ (before_later (length A) (m + 1) (omega arith)) (after_last (length A) (suc (m + 1)) (omega arith))
        (at-stack S (m + 1) (omega arith)) (ap (point_at A) e ∙ at-stack S (m + 2) (omega arith)) (at-stack S 0 (omega arith))

    inner-around : (S : List ℕ) (j : ℕ) → j + 2 < length S
        → HoldsAround P (map (point_at c) S) (suc j) ↔ P (stacked_point c S j) (stacked_point c S (j + 1)) (stacked_point c S (j + 2))
    inner-around S j inside =
        let A : List Point = map (point_at c) S in
        let n : length A ≡ length S = length-map S (point_at c) in
        let e1 : suc j ≡ j + 1 = omega arith in
        let e2 : suc (suc j) ≡ j + 2 = omega arith in
        around-at A j (suc j) (j + 2) _ _ _ (before_later (length A) j (omega arith)) (after_earlier (length A) (suc j) (omega arith) ∙ e2)
        (at-stack S j (omega arith)) (ap (point_at A) e1 ∙ at-stack S (j + 1) (omega arith)) (at-stack S (j + 2) (omega arith))

    tail-map : (S : List ℕ) → drop 1 (map (point_at c) S) ≡ map (point_at c) (drop 1 S)
    tail-map [] = refl
    tail-map (x ∷ S) = refl

    -- once all places are read, dropping the first of the stack keeps the invariant if it passes between the last and
    -- the second
    pub drop-first : (S T : List ℕ) (m : ℕ) → IsStacked P c S (length c) → length S ≡ m + 3
        → P (stacked_point c S (m + 2)) (stacked_point c S 0) (stacked_point c S 1) → T ≡ drop 1 S → IsStacked P c T (length c)
    drop-first S T m s long holds e =
        let n : length (map (point_at c) S) ≡ length S = length-map S (point_at c) in
        let fall : Step P (map (point_at c) S) (map (point_at c) (drop 1 S)) = record {
          place = 0;
          removable = record { enough = omega arith; within = omega arith; passes = (first-around S m long).1 holds };
          left = sym (tail-map S);
        } in
        subst (λ (l : List ℕ). IsStacked P c l (length c)) (sym e) (record {
          reached = subst (Reach P c) (sym (all-left (drop 1 S))) (reach_trans (subst (Reach P c) (all-left S) s.reached) (step fall stay));
          unremovable = λ k h p.
              let l : k + 1 + 2 < length S = omega (arith, length-drop 1 S) in
              let e0 : 1 + k ≡ k + 1 = omega arith in
              let e1 : 1 + (k + 1) ≡ k + 1 + 1 = omega arith in
              let e2 : 1 + (k + 2) ≡ k + 1 + 2 = omega arith in
              s.unremovable (k + 1) l (moved S (drop 1 S) k (k + 1)
              (get_or-drop 1 S k 0 ∙ ap (λ (q : ℕ). get_or S q 0) e0)
              (get_or-drop 1 S (k + 1) 0 ∙ ap (λ (q : ℕ). get_or S q 0) e1)
              (get_or-drop 1 S (k + 2) 0 ∙ ap (λ (q : ℕ). get_or S q 0) e2) p);
          within = All-drop (λ (q : ℕ). q < length c) 1 S s.within;
          rising = rising_rest (length c) 1 S s.rising;
        })

    -- once all places are read, dropping the last of the stack keeps the invariant if it passes between the one before
    -- it and the first
    pub drop-last : (S T : List ℕ) (m : ℕ) → IsStacked P c S (length c) → length S ≡ m + 3
        → P (stacked_point c S (m + 1)) (stacked_point c S (m + 2)) (stacked_point c S 0) → T ≡ take (m + 2) S → IsStacked P c T (length c)
    drop-last S T m s long holds e =
        let A : List Point = map (point_at c) S in
        let n : length A ≡ length S = length-map S (point_at c) in
        let e2 : suc (m + 1) ≡ m + 2 = omega arith in
        let all : length A ≤ suc (suc (m + 1)) = omega arith in
        let fall : Step P A (map (point_at c) (take (suc (m + 1)) S)) = record {
          place = suc (m + 1);
          removable = record { enough = omega arith; within = omega arith; passes = (last-around S m long).1 holds };
          left = sym (ap (λ (l : List Point). take (suc (m + 1)) A ++ l) (drop_all (suc (suc (m + 1))) A all)
              ∙ append-nil (take (suc (m + 1)) A) ∙ take-map (point_at c) (suc (m + 1)) S);
        } in
        subst (λ (l : List ℕ). IsStacked P c l (length c)) (ap (λ (q : ℕ). take q S) e2 ∙ sym e) (record {
          reached = subst (Reach P c) (sym (all-left (take (suc (m + 1)) S))) (reach_trans (subst (Reach P c) (all-left S) s.reached) (step fall stay));
          unremovable = unremovable-take S (suc (m + 1)) s.unremovable;
          within = All-take (λ (q : ℕ). q < length c) (suc (m + 1)) S s.within;
          rising = rising_front (length c) (suc (m + 1)) S s.rising;
        })

    none-left : (S : List ℕ) (m : ℕ) → IsStacked P c S (length c) → length S ≡ m + 3
        → ¬ (P (stacked_point c S (m + 2)) (stacked_point c S 0) (stacked_point c S 1))
        → ¬ (P (stacked_point c S (m + 1)) (stacked_point c S (m + 2)) (stacked_point c S 0))
        → (k : ℕ) → ¬ (IsRemovable P (map (point_at c) S) k)
    none-left S m s long first last zero r = first ((first-around S m long).0 r.passes)
    none-left S m s long first last (suc j) r =
        let n : length (map (point_at c) S) ≡ length S = length-map S (point_at c) in
        elim (cases_lt (j + 2) (length S)) [
          | inl l ↦ s.unremovable j l ((inner-around S j l).0 r.passes)
          | inr l ↦
              let within = r.within in
              let e : j ≡ m + 1 = omega arith in
              last ((last-around S m long).0 (subst (λ (q : ℕ). HoldsAround P (map (point_at c) S) (suc q)) e r.passes))
        ]

    -- if neither the first nor the last of the stack passes, its points are an end
    pub stacked-end : (S : List ℕ) (m : ℕ) → IsStacked P c S (length c) → length S ≡ m + 3
        → ¬ (P (stacked_point c S (m + 2)) (stacked_point c S 0) (stacked_point c S 1))
        → ¬ (P (stacked_point c S (m + 1)) (stacked_point c S (m + 2)) (stacked_point c S 0))
        → End P c (map (point_at c) S)
    stacked-end S m s long first last = record {
      reached = subst (Reach P c) (all-left S) s.reached;
      none_left = none-left S m s long first last;
    }
