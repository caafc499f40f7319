-- Being a rotation is an equivalence.
use Rattle.std.proofs.Common.{◌≡◌, List, [], ◌∷◌, ◌++◌, length, inl, inr, refl, sym, ap, subst, ◌∙◌, arith, append_assoc, append-nil, length-append, take_at, drop_at, All}
use Rattle.std.proofs.lemmas.List.Elements.{All-append, All-take, All-drop}
use Rattle.i_shape_core.proofs.Common.{Point, Rotation}
use Rattle.i_shape_core.proofs.Lists.Appended.{two_seams, Seams}

-- each list is a rotation of itself
pub rotation_refl : {A : Type 0} (c : List A) → Rotation c c
rotation_refl c = record { front = []; back = c; before = refl; after = sym (append-nil c) }

-- rotations are rotations of each other
pub rotation_sym : {A : Type 0} {c d : List A} → Rotation c d → Rotation d c
rotation_sym r = record { front = r.back; back = r.front; before = r.after; after = r.before }

-- a rotation of a rotation is a rotation
pub rotation_trans : {A : Type 0} {c d e : List A} → Rotation c d → Rotation d e → Rotation c e
rotation_trans {A} {c} {d} {e} r s = go (two_seams r.back r.front s.front s.back (sym r.after ∙ s.before))
  where
    go : Seams r.back r.front s.front s.back → Rotation c e
    go (inl w) = record { front = w.0; back = s.back ++ r.back; before = cc (append_assoc w.0 s.back r.back); after = cc (append_assoc s.back r.back w.0) }
    go (inr w) = record { front = r.front ++ s.front; back = w.0; before = cc (append_assoc r.front s.front w.0); after = cc (append_assoc w.0 r.front s.front) }

-- rotations have the same length
pub rotation_length : {A : Type 0} {c d : List A} → Rotation c d → length c ≡ length d
rotation_length r = omega (arith, ap length r.before, ap length r.after, length-append r.front r.back, length-append r.back r.front)

-- if Q holds of each point, it holds of each point of a rotation
pub all_rotated : (Q : Point → Type 0) {c d : List Point} → Rotation c d → All Q c → All Q d
all_rotated Q r h =
    let whole = subst (All Q) r.before h in
    subst (All Q) (sym r.after) (All-append Q r.back r.front
    (subst (All Q) (drop_at r.front r.back (length r.front) refl) (All-drop Q (length r.front) (r.front ++ r.back) whole))
    (subst (All Q) (take_at r.front r.back (length r.front) refl) (All-take Q (length r.front) (r.front ++ r.back) whole)))

-- rest is c read round the cycle after p: c is cut at p
pub record Cut (c : List Point) (p : Point) (rest : List Point) : Type 0 where
  pub ahead : List Point
  pub behind : List Point
  pub whole : c ≡ ahead ++ p ∷ behind
  pub others : rest ≡ behind ++ ahead

-- a rotation that begins with p cuts the list at p
pub cut_from_rotation : {c : List Point} {p : Point} {rest : List Point} → Rotation c (p ∷ rest) → Cut c p rest
cut_from_rotation {c} {p} {rest} r = go r.front r.back r.before r.after
  where
    go : (u t : List Point) → c ≡ u ++ t → p ∷ rest ≡ t ++ u → Cut c p rest
    go u [] b a = record { ahead = []; behind = rest; whole = cc (append-nil u); others = sym (append-nil rest) }
    go u (q ∷ t) b a = record { ahead = u; behind = t; whole = cc; others = cc }

-- a list cut at p has a rotation that begins with p
pub rotation_from_cut : {c : List Point} {p : Point} {rest : List Point} → Cut c p rest → Rotation c (p ∷ rest)
rotation_from_cut {c} {p} {rest} k = record { front = k.ahead; back = p ∷ k.behind; before = k.whole; after = cc }
