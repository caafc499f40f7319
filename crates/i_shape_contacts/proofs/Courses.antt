-- The ring of a place.
use Rattle.std.proofs.Common.{◌-◌, ◌++◌, [], ◌∷◌, length-append, get_or, ◌≡◌, ℕ, ◌+◌, ◌<◌, ◌≤◌, List, length, sym, ap, subst, ◌∙◌, arith, inl, inr}
use Rattle.std.proofs.lemmas.Bool.{cases_lt}
use Rattle.std.proofs.lemmas.List.{get_or_append_left}
use Rattle.std.proofs.Math.Seq.{get_or-append_seam}
use Rattle.i_shape_core.specs.Rings.{offset, AreRising}
use Rattle.i_shape_core.proofs.Lists.Rings.{rises_to}
use Rattle.i_shape_contacts.specs.Contacts.{IsAfter}
use Rattle.i_shape_contacts.specs.Courses.{Divides, ListsNext}

-- a place lies in one ring
one_ring : (offsets : List ℕ) (k r s : ℕ) → AreRising offsets (length offsets) → s + 1 < length offsets → k < offset offsets (r + 1) → offset offsets s ≤ k → r < s → ⊥
one_ring offsets k r s order inside below from less =
    let rising : offset offsets (r + 1) ≤ offset offsets s = rises_to offsets (length offsets) (r + 1) s order (omega (arith, less)) (omega (arith, inside)) in
    omega (arith, rising, below, from)

same_ring : (offsets : List ℕ) (k m n : ℕ) → Divides offsets → (f : IsAfter offsets k m) (g : IsAfter offsets k n) → f.ring ≡ g.ring
same_ring offsets k m n d f g = elim (cases_lt f.ring g.ring) [
  | inl l ↦ absurd (one_ring offsets k f.ring g.ring d.order g.is_ring f.below g.from l)
  | inr l ↦ elim (cases_lt g.ring f.ring) [
    | inl b ↦ absurd (one_ring offsets k g.ring f.ring d.order f.is_ring g.below f.from b)
    | inr b ↦ omega (arith, l, b)
  ]
]

-- and one place follows it there
pub after_unique : (offsets : List ℕ) (k m n : ℕ) → Divides offsets → IsAfter offsets k m → IsAfter offsets k n → m ≡ n
after_unique offsets k m n d f g =
    let one = same_ring offsets k m n d f g in
    let ends : offset offsets (f.ring + 1) ≡ offset offsets (g.ring + 1) = ap (λ (r : ℕ). offset offsets (r + 1)) one in
    elim (cases_lt (k + 1) (offset offsets (f.ring + 1))) [
      | inl l ↦ f.on l ∙ sym (g.on (subst (λ (z : ℕ). k + 1 < z) ends l))
      | inr l ↦ (let below = f.below in let last : k + 1 ≡ offset offsets (f.ring + 1) = omega (arith, l, below) in f.round last ∙ ap (offset offsets) one ∙ sym (g.round (last ∙ ends)))
    ]

-- a table of one place more
pub lists_more : (offsets table longer : List ℕ) (n x : ℕ) → longer ≡ table ++ x ∷ [] → ListsNext offsets table n → IsAfter offsets n x → x < offset offsets (length offsets - 1) → ListsNext offsets longer (n + 1)
lists_more offsets table longer n x is lists after within = record {
  count = ap length is ∙ length-append table (x ∷ []) ∙ (let many = lists.count in omega (arith, many));
  each = λ k h. elim (cases_lt k n) [
    | inl l ↦ subst (IsAfter offsets k) (sym (old k l)) (lists.each k l)
    | inr l ↦ (let this : k ≡ n = omega (arith, h, l) in subst (λ (j : ℕ). IsAfter offsets j (get_or longer j 0)) (sym this) (subst (IsAfter offsets n) (sym new) after))
  ];
  within = λ k h. elim (cases_lt k n) [
    | inl l ↦ subst (λ (z : ℕ). z < offset offsets (length offsets - 1)) (sym (old k l)) (lists.within k l)
    | inr l ↦ (let this : k ≡ n = omega (arith, h, l) in subst (λ (j : ℕ). get_or longer j 0 < offset offsets (length offsets - 1)) (sym this) (subst (λ (z : ℕ). z < offset offsets (length offsets - 1)) (sym new) within))
  ];
}
  where
    old : (k : ℕ) → k < n → get_or longer k 0 ≡ get_or table k 0
    old k h = ap (λ (l : List ℕ). get_or l k 0) is ∙ get_or_append_left table (x ∷ []) 0 k (let many = lists.count in omega (arith, h, many))

    new : get_or longer n 0 ≡ x
    new = ap (λ (l : List ℕ). get_or l n 0) is ∙ subst (λ (k : ℕ). get_or (table ++ x ∷ []) k 0 ≡ x) lists.count (get_or-append_seam table x [] 0)
