-- A hole has a point outside the outer contour or inside another hole exactly if the middle of one of its pieces lies
-- so.
use Rattle.std.proofs.Common.{◌≡◌, ◌↔◌, ℕ, ◌+◌, ◌<◌, ◌≤◌, IsTrue, List, length, get_or, map, slice_range, Contains, Option, Some, None, MatchOption, eqb, ℤ, pos, ◌<ℤ◌, FitsSigned, w64, to_z, of_z, refl, sym, ap, subst, ◌∙◌, arith, inl, inr}
use Rattle.std.proofs.lemmas.Int.{ints, to_z-of_z}
use Rattle.std.proofs.lemmas.Bool.{cases_lt, eqb-true}
use Rattle.std.proofs.lemmas.List.{get_or_default, get_or-map}
use Rattle.i_shape_core.specs.Point.{Point, origin}
use Rattle.i_shape_core.specs.IntPoint.{contour_of}
use Rattle.i_shape_core.specs.Rings.{offset, nth_ring}
use Rattle.i_shape_core.specs.declared.point.IntPoint.{IntPoint}
use Rattle.i_shape_contacts.specs.Contacts.{NoContact}
use Rattle.i_shape_contacts.specs.Courses.{DividesPoints}
use Rattle.i_shape_contacts.specs.Validity.{NoDegenerateRing, IsLeast}
use Rattle.i_shape_contacts.proofs.Faults.{read-part}
use Rattle.i_shape_touching.specs.Places.{sum_of_points}
use Rattle.i_shape_touching.specs.Touching.{IsFaultyContact, LeavesOuter, EntersHole, IsFirstToEnter}
use Rattle.i_shape_touching.specs.Steps.Pieces.{PieceOf, IsRingPiece, ArePieces, IsPieceOutside, IsPieceWithin, IsPieceWithinAny, IsFirstEntered}
use Rattle.i_shape_touching.proofs.PieceLaws.{middle_on, middle_off, sample_of}

-- the piece at place i
abbrev pub piece_at : List PieceOf → ℕ → PieceOf
piece_at ps i = get_or ps i (record { ring = 0; first = origin; second = origin })

-- one of the pieces, of ring k, passes the test
pub record SomePiece (Passes : PieceOf → Type 0) (ps : List PieceOf) (k : ℕ) : Type 0 where
  pub place : ℕ
  pub within : place < length ps
  pub ring : (piece_at ps place).ring ≡ k
  pub passes : Passes (piece_at ps place)

-- a contained piece has a place
some_piece : (Passes : PieceOf → Type 0) (ps : List PieceOf) (p : PieceOf) → Contains ps p → Passes p → SomePiece Passes ps p.ring
some_piece Passes ps p h passes = record {
  place = h.0;
  within = h.1;
  ring = ap (λ (q : PieceOf). q.ring) (at h.0 h.1 h.2);
  passes = subst Passes (sym (at h.0 h.1 h.2)) passes;
}
  where
    at : (i : ℕ) → i < length ps → get_or ps i p ≡ p → piece_at ps i ≡ p
    at i within e = get_or_default ps i (record { ring = 0; first = origin; second = origin }) p within ∙ e

-- 2 is above 0
two_positive : pos 0 <ℤ pos 2
two_positive = omega (arith, ints)

module _ (offsets : List ℕ) (c : List Point) (divides : DividesPoints (length c) offsets) (whole : NoDegenerateRing offsets c) (clear : NoContact (IsFaultyContact offsets c)) where
  -- where there is a hole, there is an outer contour
  outer_is_ring : (k : ℕ) → 0 < k → k + 1 < length offsets → 0 + 1 < length offsets
  outer_is_ring k some h = omega (arith, h, some)

  -- a hole whose piece's middle lies outside has a point outside
  pub leaves_by_piece : (p : PieceOf) → IsRingPiece offsets c p → IsPieceOutside offsets c p → LeavesOuter offsets c p.ring
  leaves_by_piece p is out =
      let is_ring = is.is_edge.is_ring in
      let some = out.not_outer in
      record {
        is_hole = record { not_outer = some; is_ring = is_ring };
        outside = record {
          divisor = pos 2;
          positive = two_positive;
          scaled = sum_of_points p.first p.second;
          on = middle_on offsets c divides whole clear p.ring is.edge p.first p.second is.is_edge is.piece;
          lies = record {
            off = middle_off offsets c divides whole clear p.ring 0 is.edge p.first p.second is.is_edge (outer_is_ring p.ring some is_ring) (λ e. omega (arith, e, some)) is.piece;
            outside = out.outside;
          };
        };
      }

  -- a hole whose piece's middle lies inside another has a point inside it
  pub enters_by_piece : (p : PieceOf) (j : ℕ) → IsRingPiece offsets c p → IsPieceWithin offsets c p j → EntersHole offsets c p.ring j
  enters_by_piece p j is inside = record {
    is_hole = record { not_outer = inside.not_outer; is_ring = is.is_edge.is_ring };
    other_is_hole = inside.other_is_hole;
    differ = inside.differ;
    inside = record {
      divisor = pos 2;
      positive = two_positive;
      scaled = sum_of_points p.first p.second;
      on = middle_on offsets c divides whole clear p.ring is.edge p.first p.second is.is_edge is.piece;
      lies = record {
        off = middle_off offsets c divides whole clear p.ring j is.edge p.first p.second is.is_edge inside.other_is_hole.is_ring inside.differ is.piece;
        inside = inside.inside;
      };
    };
  }

  module _ (ps : List PieceOf) (are : ArePieces offsets c ps) where
    -- each place of the list has a piece
    pub is_piece_at : (i : ℕ) → i < length ps → IsRingPiece offsets c (piece_at ps i)
    is_piece_at i h = are.each i (record { ring = 0; first = origin; second = origin }) h

    -- pieces come in order of their rings
    ordered : (i j : ℕ) → i ≤ j → j < length ps → (piece_at ps i).ring ≤ (piece_at ps j).ring
    ordered i j h within = elim (cases_lt i j) [
      | inl l ↦ are.order i j (record { ring = 0; first = origin; second = origin }) l within
      | inr l ↦ (let same : i ≡ j = omega (arith, h, l) in subst (λ (n : ℕ). (piece_at ps i).ring ≤ (piece_at ps n).ring) same (omega arith))
    ]

    -- a hole with a point outside has a piece whose middle lies outside
    pub piece_of_leaving : (k : ℕ) → LeavesOuter offsets c k → SomePiece (IsPieceOutside offsets c) ps k
    piece_of_leaving k w =
        let some = w.is_hole.not_outer in
        let s = sample_of offsets c divides whole clear are.marks are.are_marks k 0 w.is_hole.is_ring (outer_is_ring k some w.is_hole.is_ring) (λ e. omega (arith, e, some)) w.outside.divisor w.outside.scaled w.outside.positive w.outside.on w.outside.lies.off in
        some_piece (IsPieceOutside offsets c) ps (record { ring = k; first = s.first; second = s.second })
        (are.all (record { ring = k; first = s.first; second = s.second }) (record { edge = s.edge; is_edge = s.is_edge; listed = s.listed; piece = s.piece }))
        (record { not_outer = some; outside = sym s.same ∙ w.outside.lies.outside })

    -- a hole with a point inside another has a piece whose middle lies inside it
    pub piece_of_entering : (k j : ℕ) → EntersHole offsets c k j → SomePiece (λ p. IsPieceWithin offsets c p j) ps k
    piece_of_entering k j w =
        let s = sample_of offsets c divides whole clear are.marks are.are_marks k j w.is_hole.is_ring w.other_is_hole.is_ring w.differ w.inside.divisor w.inside.scaled w.inside.positive w.inside.on w.inside.lies.off in
        some_piece (λ p. IsPieceWithin offsets c p j) ps (record { ring = k; first = s.first; second = s.second })
        (are.all (record { ring = k; first = s.first; second = s.second }) (record { edge = s.edge; is_edge = s.is_edge; listed = s.listed; piece = s.piece }))
        (record { not_outer = w.is_hole.not_outer; other_is_hole = w.other_is_hole; differ = w.differ; inside = λ e. w.inside.lies.inside (s.same ∙ e) })

    -- ---- the first hole with a point outside
    -- the first n pieces lie inside the outer contour
    abbrev pub NoneOutside : ℕ → Type 0
    NoneOutside n = (i : ℕ) → i < n → IsPieceOutside offsets c (piece_at ps i) → ⊥

    -- the first piece that lies outside is one of the first hole with a point outside
    pub first_outside : (n : ℕ) → n < length ps → NoneOutside n → IsPieceOutside offsets c (piece_at ps n) → IsLeast (LeavesOuter offsets c) (piece_at ps n).ring
    first_outside n within none here = record {
      is = leaves_by_piece (piece_at ps n) (is_piece_at n within) here;
      least = λ k w. (let p = piece_of_leaving k w in
          elim (cases_lt p.place n) [
            | inl l ↦ absurd (none p.place l p.passes)
            | inr l ↦ subst (λ (r : ℕ). (piece_at ps n).ring ≤ r) p.ring (ordered n p.place l p.within)
          ]);
    }

    -- if no piece lies outside, no hole has a point outside
    pub none_outside : (n : ℕ) → length ps ≤ n → NoneOutside n → (k : ℕ) → LeavesOuter offsets c k → ⊥
    none_outside n past none k w = let p = piece_of_leaving k w in none p.place (reach p.place n p.within past) p.passes
      where
        reach : (i n : ℕ) → i < length ps → length ps ≤ n → i < n
        reach i n h k = omega (arith, h, k)

    -- ---- the first hole with a point inside another
    -- none of the first n pieces lies inside a hole
    abbrev pub NoneWithinAny : ℕ → Type 0
    NoneWithinAny n = (i : ℕ) → i < n → IsPieceWithinAny offsets c (piece_at ps i) → ⊥

    -- a piece inside some hole is one of a hole with a point inside it
    pub enters_some : (n : ℕ) → n < length ps → IsPieceWithinAny offsets c (piece_at ps n) → (j : ℕ) × EntersHole offsets c (piece_at ps n).ring j
    enters_some n within here = (here.other, enters_by_piece (piece_at ps n) here.other (is_piece_at n within) here.is_within)

    -- the first piece inside some hole is one of the first hole with a point inside another
    pub first_to_enter : (n hole other : ℕ) → n < length ps → NoneWithinAny n → IsFirstEntered offsets c (piece_at ps n).ring hole other → IsFirstToEnter offsets c hole other
    first_to_enter n hole other within none found = record {
      first_other = subst (λ (k : ℕ). IsLeast (EntersHole offsets c k) other) (sym found.same) found.first;
      none_before = λ i l h w. (let p = piece_of_entering i l w in
          let same = found.same in
          elim (cases_lt p.place n) [
            | inl m ↦ absurd (none p.place m (record { other = l; is_within = p.passes }))
            | inr m ↦ (let up = subst (λ (r : ℕ). (piece_at ps n).ring ≤ r) p.ring (ordered n p.place m p.within) in omega (arith, h, same, up))
          ]);
    }

    -- if no piece lies inside a hole, no hole has a point inside another
    pub none_within_any : (n : ℕ) → length ps ≤ n → NoneWithinAny n → (k j : ℕ) → EntersHole offsets c k j → ⊥
    none_within_any n past none k j w = let p = piece_of_entering k j w in none p.place (reach p.place n p.within past) (record { other = j; is_within = p.passes })
      where
        reach : (i n : ℕ) → i < length ps → length ps ≤ n → i < n
        reach i n h k = omega (arith, h, k)

    -- ---- whether one hole has a point inside another
    -- none of the first n pieces is one of ring k and lies inside hole j
    abbrev pub NoneOf : ℕ → ℕ → ℕ → Type 0
    NoneOf k j n = (i : ℕ) → i < n → (piece_at ps i).ring ≡ k → IsPieceWithin offsets c (piece_at ps i) j → ⊥

    -- if no piece of hole k lies inside hole j, no point does
    pub none_of : (k j n : ℕ) → length ps ≤ n → NoneOf k j n → EntersHole offsets c k j → ⊥
    none_of k j n past none w = let p = piece_of_entering k j w in none p.place (reach p.place n p.within past) p.ring p.passes
      where
        reach : (i n : ℕ) → i < length ps → length ps ≤ n → i < n
        reach i n h k = omega (arith, h, k)

    -- if one does, hole k has a point inside hole j
    pub enters_at : (k j n : ℕ) → n < length ps → (piece_at ps n).ring ≡ k → IsPieceWithin offsets c (piece_at ps n) j → EntersHole offsets c k j
    enters_at k j n within ring here = subst (λ (r : ℕ). EntersHole offsets c r j) ring (enters_by_piece (piece_at ps n) j (is_piece_at n within) here)

-- ---- what the program reads
-- a piece of the program at a place
pub piece_read : {X : Type 0} (f : X → PieceOf) (items : List X) (i : ℕ) (p : X) → i < length items → p ≡ get_or items i p → piece_at (map f items) i ≡ f p
piece_read f items i p h e = get_or-map f items i p _ h ∙ ap f (sym e)

-- a part of a caller's points is a ring
pub ring_is : {A I : Type 0} (value : I → ℤ) (point : A → IntPoint I) (points : List A → List (IntPoint I)) (each : (list : List A) → points list ≡ map point list) (list part : List A) (offsets : List ℕ) (r : ℕ)
    → part ≡ slice_range list (offset offsets r) (offset offsets (r + 1)) → contour_of value (points part) ≡ nth_ring (contour_of value (points list)) offsets r
ring_is value point points each list part offsets r e = ap (λ (l : List _). contour_of value (points l)) e ∙ read-part value point points each list (offset offsets r) (offset offsets (r + 1))

-- a number of the program is 0 where its bits are
pub zero_test : (z : ℤ) → FitsSigned w64 z → IsTrue (eqb (of_z w64 z) 0) ↔ (z ≡ pos 0)
zero_test z fits = (λ t. sym (to_z-of_z w64 z fits) ∙ ap (to_z w64) (eqb-true (of_z w64 z) 0 t), λ e. rw e refl)

-- what follows in each of the two cases
pub match_moved : {X : Type 0} (r : Option X) (A B : Type 0) (C D : X → Type 0) → (A → B) → ((x : X) → C x → D x) → MatchOption r A C → MatchOption r B D
match_moved None A B C D f g h = f h
match_moved (Some x) A B C D f g h = g x h
