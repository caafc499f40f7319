-- Why a call fails, and the code that it then returns.
use Rattle.std.proofs.Common.{◌≡◌, ◌↔◌, ◌<◌, ℕ, ℤ, pos, negsuc, Option, Some, None, refl, arith, to_z, of_z, FitsSigned, w32, w64}
use Rattle.std.proofs.lemmas.Int.{to_z-of_z}
use Rattle.i_shape_c.specs.Codes.{code_of, no_memory_code, IsRefusal, Refuses}
use Rattle.i_shape_c.specs.declared.codes.Refusal.{Refusal}
use Rattle.i_shape_c.specs.declared.codes.Refusal.TheVariants.{Unsafe, BadOffsets, NoMemory, NoRoom}

-- each code is one of the first four numbers below 0
pub each_code : (Q : ℤ → Type 0) (r : Refusal) → ((n : ℕ) → n < 4 → Q (negsuc n)) → Q (code_of r)
each_code Q Unsafe each = each 0 (omega arith)
each_code Q BadOffsets each = each 1 (omega arith)
each_code Q NoMemory each = each 2 (omega arith)
each_code Q NoRoom each = each 3 (omega arith)

-- each code fits 32 bits
pub code_of_32 : (r : Refusal) → to_z w32 (of_z w32 (code_of r)) ≡ code_of r
code_of_32 Unsafe = refl
code_of_32 BadOffsets = refl
code_of_32 NoMemory = refl
code_of_32 NoRoom = refl

-- each code fits 64 bits
pub code_of_64 : (r : Refusal) → to_z w64 (of_z w64 (to_z w32 (of_z w32 (code_of r)))) ≡ code_of r
code_of_64 Unsafe = refl
code_of_64 BadOffsets = refl
code_of_64 NoMemory = refl
code_of_64 NoRoom = refl

-- a number that fits 32 bits is unchanged by the conversion
pub same_32 : (z : ℤ) → FitsSigned w32 z → to_z w32 (of_z w32 z) ≡ z
same_32 z fits = to_z-of_z w32 z fits

-- `IsRefusal` carries over to equivalent conditions
pub refusal_as : {P Q R S A B : Type 0} (r : Option Refusal) → P ↔ Q → R ↔ S → A ↔ B → IsRefusal P R A r → IsRefusal Q S B r
refusal_as (Some BadOffsets) p r a why = λ q. why (p.1 q)
refusal_as (Some NoRoom) p r a why = (p.0 why.0, λ s. why.1 (r.1 s))
refusal_as (Some Unsafe) p r a why = (p.0 why.0, r.0 why.1, λ b. why.2 (a.1 b))
refusal_as (Some NoMemory) p r a why = why
refusal_as None p r a why = (p.0 why.0, r.0 why.1, a.0 why.2)

-- each proposition is equivalent to itself
pub as_is : {P : Type 0} → P ↔ P
as_is = (λ p. p, λ p. p)

module _ {Parted Room Safe Spared : Type 0} where
  -- a call that fails returns its code
  pub refused : (r : Refusal) → IsRefusal Parted Room Safe (Some r) → Refuses Parted Room Safe Spared (code_of r)
  refused Unsafe why = record {
    bad_offsets = (λ is. absurd (cc), λ not. absurd (not why.0));
    no_room = (λ is. absurd (cc), λ both. absurd (both.1 why.1));
    unsafe_points = (λ is. why, λ all. refl);
    memory = λ is. absurd (cc);
  }
  refused BadOffsets why = record {
    bad_offsets = (λ is. why, λ not. refl);
    no_room = (λ is. absurd (cc), λ both. absurd (why both.0));
    unsafe_points = (λ is. absurd (cc), λ all. absurd (why all.0));
    memory = λ is. absurd (cc);
  }
  refused NoMemory why = absurd why
  refused NoRoom why = record {
    bad_offsets = (λ is. absurd (cc), λ not. absurd (not why.0));
    no_room = (λ is. why, λ both. refl);
    unsafe_points = (λ is. absurd (cc), λ all. absurd (why.1 all.1));
    memory = λ is. absurd (cc);
  }

  module _ (fit : Parted × Room × Safe) where
    -- a call that runs out of memory returns that code
    pub refused_memory : (Spared → ⊥) → Refuses Parted Room Safe Spared no_memory_code
    refused_memory unspared = record {
      bad_offsets = (λ is. absurd (cc), λ not. absurd (not fit.0));
      no_room = (λ is. absurd (cc), λ both. absurd (both.1 fit.1));
      unsafe_points = (λ is. absurd (cc), λ all. absurd (all.2 fit.2));
      memory = λ is. unspared;
    }

    -- a call that doesn't fail returns a number
    pub not_refused : (n : ℕ) → Refuses Parted Room Safe Spared (pos n)
    not_refused n = record {
      bad_offsets = (λ is. absurd (cc), λ not. absurd (not fit.0));
      no_room = (λ is. absurd (cc), λ both. absurd (both.1 fit.1));
      unsafe_points = (λ is. absurd (cc), λ all. absurd (all.2 fit.2));
      memory = λ is. absurd (cc);
    }
