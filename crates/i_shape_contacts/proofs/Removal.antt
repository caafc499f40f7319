-- A contour without contact has none once a zero turn is taken out: what an edge that joins two shares with another, one
-- of the two shared.
use Rattle.std.proofs.Common.{◌≡◌, ◌≢◌, ◌⊎◌, ℕ, ◌+◌, ◌<◌, ◌≤◌, List, length, remove, ℤ, pos, ◌+ℤ◌, ◌-ℤ◌, ◌*ℤ◌, ◌<ℤ◌, refl, sym, ap, subst, subst₂, ◌∙◌, arith, inl, inr, [], ◌∷◌}
use Rattle.std.proofs.lemmas.Int.{ints}
use Rattle.std.proofs.lemmas.Bool.{cases_lt, cases_eq}
use Rattle.std.proofs.lemmas.List.Edits.{length-remove}
use Rattle.i_shape_core.specs.Point.{Point, IsZeroTurn, IsBack, cross, dot}
use Rattle.i_shape_core.specs.Contour.{point_at, place_before, place_after, IsRemovable, Reach, stay, step}
use Rattle.i_shape_core.proofs.Removal.Places.{Follows, Stood, after_is, before_is, after_within, before_within, before_from, after_from, place_stood, stood_point, stood_within, follows_over}
use Rattle.i_shape_core.proofs.Arithmetic.Polynomials.{number, variable, plus, times, minus, by_polynomials}
use Rattle.i_shape_core.proofs.Plane.Back.{back_cases}
use Rattle.i_shape_core.proofs.Plane.CrossProducts.{same_point}
use Rattle.i_shape_contacts.specs.Meeting.{IsOnSegment, IsPoint}
use Rattle.i_shape_contacts.specs.Contacts.{SharePoint, IsContact, NoContact, AreAllEqual, IsSimplePolygon}
use Rattle.i_shape_contacts.proofs.Signs.{product_positive}
use Rattle.i_shape_contacts.proofs.ContactTests.{share_both, share_next}
use Rattle.i_shape_contacts.proofs.Neighbours.{turns_back}
use Rattle.i_shape_contacts.proofs.Parting.{times_point, segment_scaled, point_unscaled, Parted, parted}

-- ---- the ends of a segment
from_start : (a b : Point) → IsOnSegment (pos 1) a a b
from_start a b = record { share = pos 0; least = omega (arith, ints); most = omega (arith, ints); x = still a.x b.x; y = still a.y b.y }
  where
    still : (a b : ℤ) → a ≡ pos 1 *ℤ a +ℤ pos 0 *ℤ (b -ℤ a)
    still a b = by_polynomials (a ∷ b ∷ []) (variable 0) (plus (times (number (pos 1)) (variable 0)) (times (number (pos 0)) (plus (variable 1) (minus (variable 0))))) refl

to_end : (a b : Point) → IsOnSegment (pos 1) b a b
to_end a b = record { share = pos 1; least = omega (arith, ints); most = omega (arith, ints); x = full a.x b.x; y = full a.y b.y }
  where
    full : (a b : ℤ) → b ≡ pos 1 *ℤ a +ℤ pos 1 *ℤ (b -ℤ a)
    full a b = by_polynomials (a ∷ b ∷ []) (variable 1) (plus (times (number (pos 1)) (variable 0)) (times (number (pos 1)) (plus (variable 1) (minus (variable 0))))) refl

-- over 1 a point is another only if both are the same
same_whole : (p q : Point) → IsPoint (pos 1) p q → p ≡ q
same_whole p q h = same_point p q (once p.x q.x h.x) (once p.y q.y h.y)
  where
    once : (x y : ℤ) → x ≡ pos 1 *ℤ y → x ≡ y
    once x y e = omega (arith, ints)

-- ---- edges that share a point so
-- whichever comes first
pub share_swapped : (c : List Point) (i i' j j' : ℕ) → SharePoint c i i' j j' → SharePoint c j j' i i'
share_swapped c i i' j j' h = record { divisor = h.divisor; positive = h.positive; scaled = h.scaled; on_first = h.on_second; on_second = h.on_first; not_next = h.not_before; not_before = h.not_next }

module _ (c : List Point) (clear : NoContact (IsContact c)) where
  none_after : (i j : ℕ) → i < j → j < length c → SharePoint c i (place_after (length c) i) j (place_after (length c) j) → ⊥
  none_after i j order within h = clear.none i j (record { order = order; within = within; first_end = place_after (length c) i; first_follows = refl; second_end = place_after (length c) j; second_follows = refl; shared = h })

  -- without contact no edges share a point so
  none_shared : (i i' j j' : ℕ) → i < length c → j < length c → i ≢ j → place_after (length c) i ≡ i' → place_after (length c) j ≡ j' → SharePoint c i i' j j' → ⊥
  none_shared i i' j j' hi hj differ ei ej h = elim (cases_lt i j) [
    | inl l ↦ none_after i j l hj (subst₂ (λ (m o : ℕ). SharePoint c i m j o) (sym ei) (sym ej) h)
    | inr l ↦ none_after j i (omega (arith, l, differ)) hi (subst₂ (λ (m o : ℕ). SharePoint c j m i o) (sym ej) (sym ei) (share_swapped c i i' j j' h))
  ]

  -- the edge that joins two edges on one line shares none with another
  none_joined : (m k g o f : ℕ) → m < length c → k < length c → o < length c → place_after (length c) m ≡ k → place_after (length c) k ≡ g → place_after (length c) o ≡ f
      → IsZeroTurn (point_at c m) (point_at c k) (point_at c g) → m ≢ o → k ≢ o → SharePoint c m g o f → ⊥
  none_joined m k g o f hm hk ho em ek eo straight apart other h = go (parted h.divisor h.scaled (point_at c m) (point_at c k) (point_at c g) h.positive straight h.on_first)
    where
      same_before : f ≡ k → m ≡ o
      same_before e =
          sym (before_from (length c) m k hm hk (subst (λ (z : ℕ). Follows (length c) m z) em (after_is (length c) m hm)))
          ∙ before_from (length c) o k ho hk (subst (λ (z : ℕ). Follows (length c) o z) (eo ∙ e) (after_is (length c) o ho))

      go : Parted h.divisor h.scaled (point_at c m) (point_at c k) (point_at c g) → ⊥
      go t = elim t.on [
        | inl on ↦ none_shared m k o f hm ho apart em eo (record {
          divisor = t.factor *ℤ h.divisor;
          positive = product_positive t.factor h.divisor t.positive h.positive;
          scaled = times_point t.factor h.scaled;
          on_first = on;
          on_second = segment_scaled t.factor h.divisor h.scaled (point_at c o) (point_at c f) t.positive h.on_second;
          not_next = λ e at. other e;
          not_before = λ e at. h.not_before e (point_unscaled t.factor h.divisor h.scaled (point_at c m) t.positive at);
        })
        | inr on ↦ none_shared k g o f hk ho other ek eo (record {
          divisor = t.factor *ℤ h.divisor;
          positive = product_positive t.factor h.divisor t.positive h.positive;
          scaled = times_point t.factor h.scaled;
          on_first = on;
          on_second = segment_scaled t.factor h.divisor h.scaled (point_at c o) (point_at c f) t.positive h.on_second;
          not_next = λ e at. h.not_next e (point_unscaled t.factor h.divisor h.scaled (point_at c o) t.positive at);
          not_before = λ e at. apart (same_before e);
        })
      ]

-- ---- a step
-- places that stood at one place are one
stood_alike : (k i j m o : ℕ) → Stood k i m → Stood k j o → m ≡ o → i ≡ j
stood_alike k i j m o s t e = grind arith

module _ (c : List Point) (k : ℕ) (h : k < length c) where
  -- what two edges share that are left, they shared where they stood
  share_stood : (i i' j j' m g o f : ℕ) → Stood k i m → Stood k i' g → Stood k j o → Stood k j' f → SharePoint (remove c k) i i' j j' → SharePoint c m g o f
  share_stood i i' j j' m g o f si si' sj sj' w = record {
    divisor = w.divisor;
    positive = w.positive;
    scaled = w.scaled;
    on_first = subst₂ (λ (p q : Point). IsOnSegment w.divisor w.scaled p q) (stood_point c k i m h si) (stood_point c k i' g h si') w.on_first;
    on_second = subst₂ (λ (p q : Point). IsOnSegment w.divisor w.scaled p q) (stood_point c k j o h sj) (stood_point c k j' f h sj') w.on_second;
    not_next = λ e at. w.not_next (stood_alike k i' j g o si' sj e) (subst (λ (q : Point). IsPoint w.divisor w.scaled q) (sym (stood_point c k j o h sj)) at);
    not_before = λ e at. w.not_before (stood_alike k j' i f m sj' si e) (subst (λ (q : Point). IsPoint w.divisor w.scaled q) (sym (stood_point c k i m h si)) at);
  }

  -- an edge that is left joins the two at place k, or it was there
  abbrev pub Joins : ℕ → ℕ → Type 0
  Joins m g = ((place_after (length c) m ≡ k) × (g ≡ place_after (length c) k)) ⊎ ((place_after (length c) m ≢ k) × (g ≡ place_after (length c) m))

  pub record Edge (j : ℕ) : Type 0 where
    pub start : ℕ
    pub end : ℕ
    pub within : start < length c
    pub not_taken : k ≢ start
    pub starts : Stood k j start
    pub ends : Stood k (place_after (length (remove c k)) j) end
    pub joins : Joins start end

  pub edge_stood : (j : ℕ) → j < length (remove c k) → Edge j
  edge_stood j hj =
      let shorter = length-remove c k h in
      let was = place_stood k j in
      let next = place_stood k (place_after (length (remove c k)) j) in
      let within = stood_within (length c) (length (remove c k)) k j was.0 shorter hj was.1 in
      record {
        start = was.0;
        end = next.0;
        within = within;
        not_taken = apart was.0 was.1;
        starts = was.1;
        ends = next.1;
        joins = follows_over (length c) (length (remove c k)) k (place_after (length c) k) j (place_after (length (remove c k)) j) was.0 next.0 (place_after (length c) was.0)
            shorter h hj (after_is (length c) k h) (after_is (length (remove c k)) j hj) was.1 next.1 (after_is (length c) was.0 within);
      }
    where
      apart : (m : ℕ) → Stood k j m → k ≡ m → ⊥
      apart m s e = grind arith

  -- only one edge joins the two
  one_joins : (i j : ℕ) (a : Edge i) (b : Edge j) → place_after (length c) a.start ≡ k → place_after (length c) b.start ≡ k → i ≡ j
  one_joins i j a b e f = stood_alike k i j a.start b.start a.starts b.starts
      (sym (before_from (length c) a.start k a.within h (subst (λ (z : ℕ). Follows (length c) a.start z) e (after_is (length c) a.start a.within)))
      ∙ before_from (length c) b.start k b.within h (subst (λ (z : ℕ). Follows (length c) b.start z) f (after_is (length c) b.start b.within)))

  module _ (clear : NoContact (IsContact c)) (straight : IsZeroTurn (point_at c (place_before (length c) k)) (point_at c k) (point_at c (place_after (length c) k))) where
    -- one edge joins the two
    joined_apart : (i j : ℕ) (a : Edge i) (b : Edge j) → i ≢ j → place_after (length c) a.start ≡ k → a.end ≡ place_after (length c) k → place_after (length c) b.start ≢ k → b.end ≡ place_after (length c) b.start
        → SharePoint c a.start a.end b.start b.end → ⊥
    joined_apart i j a b differ e f g l w = none_joined c clear a.start k a.end b.start b.end a.within h b.within e (sym f) (sym l)
        (subst₂ (λ (m o : ℕ). IsZeroTurn (point_at c m) (point_at c k) (point_at c o)) before (sym f) straight)
        (λ same. differ (stood_alike k i j a.start b.start a.starts b.starts same)) b.not_taken w
      where
        before : place_before (length c) k ≡ a.start
        before = before_from (length c) a.start k a.within h (subst (λ (z : ℕ). Follows (length c) a.start z) e (after_is (length c) a.start a.within))

    edges_apart : (i j : ℕ) (a : Edge i) (b : Edge j) → i ≢ j → Joins a.start a.end → Joins b.start b.end → SharePoint c a.start a.end b.start b.end → ⊥
    edges_apart i j a b differ (inl e) (inl f) w = differ (one_joins i j a b e.0 f.0)
    edges_apart i j a b differ (inl e) (inr f) w = joined_apart i j a b differ e.0 e.1 f.0 f.1 w
    edges_apart i j a b differ (inr e) (inl f) w = joined_apart j i b a (λ same. differ (sym same)) f.0 f.1 e.0 e.1 (share_swapped c a.start a.end b.start b.end w)
    edges_apart i j a b differ (inr e) (inr f) w = none_shared c clear a.start a.end b.start b.end a.within b.within
        (λ same. differ (stood_alike k i j a.start b.start a.starts b.starts same)) (sym e.1) (sym f.1) w

    -- no two edges that are left are in contact
    pub none_without : NoContact (IsContact (remove c k))
    none_without = record { none = λ i j w. left i j w.order w.within (subst₂ (λ (m o : ℕ). SharePoint (remove c k) i m j o) w.first_follows w.second_follows w.shared) }
      where
        left : (i j : ℕ) → i < j → j < length (remove c k) → SharePoint (remove c k) i (place_after (length (remove c k)) i) j (place_after (length (remove c k)) j) → ⊥
        left i j order within w =
            let a = edge_stood i (omega (arith, order, within)) in
            let b = edge_stood j within in
            edges_apart i j a b (below i j order) a.joins b.joins
            (share_stood i (place_after (length (remove c k)) i) j (place_after (length (remove c k)) j) a.start a.end b.start b.end a.starts a.ends b.starts b.ends w)
          where
            below : (i j : ℕ) → i < j → i ≢ j
            below i j l e = omega (arith, l, e)

-- removing zero turns brings no edges into contact
pub no_contact_kept : (c d : List Point) → Reach IsZeroTurn c d → NoContact (IsContact c) → NoContact (IsContact d)
no_contact_kept c d stay clear = clear
no_contact_kept c d (step {d = m} s r) clear =
    no_contact_kept m d r (subst (λ (l : List Point). NoContact (IsContact l)) (sym s.left) (none_without c s.place s.removable.within clear s.removable.passes))

-- ---- simple polygons
module _ (c : List Point) (clear : NoContact (IsContact c)) where
  -- points of edges without contact, four or more: none is that at the next place
  next_apart : (i : ℕ) → 4 ≤ length c → i < length c → point_at c i ≡ point_at c (place_after (length c) i) → ⊥
  next_apart i four hi same =
      none_shared c clear b i j f hb hj (λ e. two (length c) b i j f four hi hj Fb Fi Fj e) (after_from (length c) b i hb Fb) refl (record {
        divisor = pos 1;
        positive = omega (arith, ints);
        scaled = point_at c i;
        on_first = to_end (point_at c b) (point_at c i);
        on_second = subst (λ (p : Point). IsOnSegment (pos 1) p (point_at c j) (point_at c f)) (sym same) (from_start (point_at c j) (point_at c f));
        not_next = λ e at. one (length c) i j four hi Fi e;
        not_before = λ e at. three (length c) b i j f four hi hj Fb Fi Fj e;
      })
    where
      b : ℕ
      b = place_before (length c) i

      j : ℕ
      j = place_after (length c) i

      f : ℕ
      f = place_after (length c) j

      hb : b < length c
      hb = before_within (length c) i hi

      hj : j < length c
      hj = after_within (length c) i hi

      Fb : Follows (length c) b i
      Fb = before_is (length c) i hi

      Fi : Follows (length c) i j
      Fi = after_is (length c) i hi

      Fj : Follows (length c) j f
      Fj = after_is (length c) j hj

      one : (n k m : ℕ) → 4 ≤ n → k < n → Follows n k m → k ≡ m → ⊥
      one n k m most hk F e = grind arith

      two : (n k m o q : ℕ) → 4 ≤ n → m < n → o < n → Follows n k m → Follows n m o → Follows n o q → k ≡ o → ⊥
      two n k m o q most hm ho F G H e = grind arith

      three : (n k m o q : ℕ) → 4 ≤ n → m < n → o < n → Follows n k m → Follows n m o → Follows n o q → q ≡ k → ⊥
      three n k m o q most hm ho F G H e = grind arith

  -- nor that at any other place
  pub points_apart : (i j : ℕ) → 4 ≤ length c → i < length c → j < length c → i ≢ j → point_at c i ≡ point_at c j → ⊥
  points_apart i j four hi hj differ same = elim (cases_eq (place_after (length c) i) j) [
    | inl e ↦ next_apart i four hi (same ∙ ap (point_at c) (sym e))
    | inr not_next ↦ elim (cases_eq (place_after (length c) j) i) [
      | inl e ↦ next_apart j four hj (sym same ∙ ap (point_at c) (sym e))
      | inr not_before ↦ none_shared c clear i (place_after (length c) i) j (place_after (length c) j) hi hj differ refl refl (record {
        divisor = pos 1;
        positive = omega (arith, ints);
        scaled = point_at c i;
        on_first = from_start (point_at c i) (point_at c (place_after (length c) i));
        on_second = subst (λ (p : Point). IsOnSegment (pos 1) p (point_at c j) (point_at c (place_after (length c) j))) (sym same) (from_start (point_at c j) (point_at c (place_after (length c) j)));
        not_next = λ e at. not_next e;
        not_before = λ e at. not_before e;
      })
    ]
  ]

  -- nor does the path turn back
  back_nowhere : (k : ℕ) → 4 ≤ length c → k < length c → IsBack (point_at c (place_before (length c) k)) (point_at c k) (point_at c (place_after (length c) k)) → ⊥
  back_nowhere k four hk back = go (back_cases (point_at c b) (point_at c k) (point_at c (place_after (length c) k)) back)
    where
      b : ℕ
      b = place_before (length c) k

      hb : b < length c
      hb = before_within (length c) k hk

      Fb : Follows (length c) b k
      Fb = before_is (length c) k hk

      beside : (n k m : ℕ) → 4 ≤ n → m < n → Follows n k m → k ≡ m → ⊥
      beside n k m most hm F e = grind arith

      around : (n k m o : ℕ) → 4 ≤ n → m < n → Follows n k m → Follows n m o → o ≡ k → ⊥
      around n k m o most hm F G e = grind arith

      go : (point_at c b ≡ point_at c k) ⊎ ((point_at c k ≡ point_at c (place_after (length c) k)) ⊎ ((cross (point_at c b) (point_at c k) (point_at c (place_after (length c) k)) ≡ pos 0) × (dot (point_at c b) (point_at c k) (point_at c (place_after (length c) k)) <ℤ pos 0))) → ⊥
      go (inl e) = points_apart b k four hb hk (beside (length c) b k four hk Fb) e
      go (inr (inl e)) = next_apart k four hk e
      go (inr (inr r)) = none_shared c clear b k k (place_after (length c) k) hb hk (beside (length c) b k four hk Fb) (after_from (length c) b k hb Fb) refl
          ((share_next c b k k (place_after (length c) k) refl (around (length c) b k (place_after (length c) k) four hk Fb (after_is (length c) k hk))).0
          (turns_back (point_at c b) (point_at c k) (point_at c (place_after (length c) k)) (record { straight = r.0; back = r.1 })))

  -- of three points not all equal none is a zero turn
  three_turn : (k : ℕ) → length c ≡ 3 → k < length c → IsZeroTurn (point_at c (place_before (length c) k)) (point_at c k) (point_at c (place_after (length c) k)) → (AreAllEqual c → ⊥) → ⊥
  three_turn k three hk straight differ = ends (λ e. middle e (λ f. differ (all e f)))
    where
      m : ℕ
      m = place_before (length c) k

      g : ℕ
      g = place_after (length c) k

      hm : m < length c
      hm = before_within (length c) k hk

      hg : g < length c
      hg = after_within (length c) k hk

      Fm : Follows (length c) m k
      Fm = before_is (length c) k hk

      Fk : Follows (length c) k g
      Fk = after_is (length c) k hk

      round : (n m k g : ℕ) → n ≡ 3 → m < n → k < n → g < n → Follows n m k → Follows n k g → Follows n g m
      round n m k g e hm hk hg F G = grind arith

      apart : (n m k g : ℕ) → n ≡ 3 → m < n → k < n → g < n → Follows n m k → Follows n k g → m ≢ g
      apart n m k g e hm hk hg F G f = grind arith

      beside : (n k g : ℕ) → n ≡ 3 → k < n → Follows n k g → k ≢ g
      beside n k g e hk G f = grind arith

      Fg : Follows (length c) g m
      Fg = round (length c) m k g three hm hk hg Fm Fk

      -- the neighbours are one point
      ends : ((point_at c m ≡ point_at c g) → ⊥) → ⊥
      ends n = none_joined c clear m k g g m hm hk hg (after_from (length c) m k hm Fm) refl (after_from (length c) g m hg Fg) straight
          (apart (length c) m k g three hm hk hg Fm Fk) (beside (length c) k g three hk Fk) ((share_both c m g g m refl refl).0 n)

      -- and the zero turn is that point too
      middle : point_at c m ≡ point_at c g → ((point_at c m ≡ point_at c k) → ⊥) → ⊥
      middle e n = none_shared c clear m k k g hm hk (beside (length c) m k three hm Fm) (after_from (length c) m k hm Fm) refl (record {
        divisor = pos 1;
        positive = omega (arith, ints);
        scaled = point_at c m;
        on_first = from_start (point_at c m) (point_at c k);
        on_second = subst (λ (p : Point). IsOnSegment (pos 1) p (point_at c k) (point_at c g)) (sym e) (to_end (point_at c k) (point_at c g));
        not_next = λ f at. n (same_whole (point_at c m) (point_at c k) at);
        not_before = λ f at. apart (length c) m k g three hm hk hg Fm Fk (sym f);
      })

      which : (n m k g j : ℕ) → n ≡ 3 → m < n → k < n → g < n → Follows n m k → Follows n k g → j < n → (j ≡ m) ⊎ ((j ≡ k) ⊎ (j ≡ g))
      which n m k g j e hm hk hg F G hj = grind arith

      all : point_at c m ≡ point_at c g → point_at c m ≡ point_at c k → AreAllEqual c
      all e f j hj = here j hj ∙ sym (here 0 (omega (arith, three)))
        where
          here : (j : ℕ) → j < length c → point_at c j ≡ point_at c m
          here j hj = elim (which (length c) m k g j three hm hk hg Fm Fk hj) [
            | inl a ↦ ap (point_at c) a
            | inr (inl a) ↦ ap (point_at c) a ∙ sym f
            | inr (inr a) ↦ ap (point_at c) a ∙ sym e
          ]

-- the boundary of a simple polygon turns back nowhere
pub none_back : (c : List Point) → IsSimplePolygon c → (k : ℕ) → IsRemovable IsBack c k → ⊥
none_back c s k w = elim (cases_eq (length c) 3) [
  | inl e ↦ three_turn c s.none k e w.within w.passes.0 s.differ
  | inr n ↦ (let enough = s.enough in back_nowhere c s.none k (omega (arith, enough, n)) w.within w.passes)
]

-- the boundary of a simple polygon is one without a zero turn
simple_without : (c : List Point) (k : ℕ) → IsRemovable IsZeroTurn c k → IsSimplePolygon c → IsSimplePolygon (remove c k)
simple_without c k w s = record {
  enough = omega (arith, shorter, four);
  differ = differ;
  none = none_without c k w.within s.none w.passes;
}
  where
    shorter : length (remove c k) + 1 ≡ length c
    shorter = length-remove c k w.within

    four : 4 ≤ length c
    four = elim (cases_eq (length c) 3) [
      | inl e ↦ absurd (three_turn c s.none k e w.within w.passes s.differ)
      | inr n ↦ let enough = s.enough in omega (arith, enough, n)
    ]

    differ : AreAllEqual (remove c k) → ⊥
    differ all =
        let first = place_stood k 0 in
        let second = place_stood k 1 in
        points_apart c s.none second.0 first.0 four
        (stood_within (length c) (length (remove c k)) k 1 second.0 shorter (omega (arith, shorter, four)) second.1)
        (stood_within (length c) (length (remove c k)) k 0 first.0 shorter (omega (arith, shorter, four)) first.1)
        (λ e. omega (arith, stood_alike k 1 0 second.0 first.0 second.1 first.1 e))
        (sym (stood_point c k 1 second.0 w.within second.1) ∙ all 1 (omega (arith, shorter, four)) ∙ stood_point c k 0 first.0 w.within first.1)

-- removing zero turns leaves the boundary of a simple polygon one of a simple polygon
pub simple_polygon_kept : (c d : List Point) → Reach IsZeroTurn c d → IsSimplePolygon c → IsSimplePolygon d
simple_polygon_kept c d stay s = s
simple_polygon_kept c d (step {d = m} t r) s =
    simple_polygon_kept m d r (subst (λ (l : List Point). IsSimplePolygon l) (sym t.left) (simple_without c t.place t.removable s))
