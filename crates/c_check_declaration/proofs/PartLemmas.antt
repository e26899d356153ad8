-- What is not there of a struct that is not defined, and past the last member.
use Rattle.std.proofs.Common.{◌≡◌, ℕ, zero, suc, ◌+◌, ◌<◌, ◌==◌, Bool, true, false, List, [], ◌∷◌, length, refl, arith}
use Rattle.c_type.specs.Trees.{TypeTree}
use Rattle.c_type.specs.Layout.{Definitions, is_defined, members, struct_size, offset, offset_from, rounded_up, size, align}

pub members-undefined : (defs : Definitions) (tag : ℕ) → is_defined defs tag ≡ false → members defs tag ≡ []
members-undefined [] tag h = refl
members-undefined (d ∷ ds) tag h = by (d.tag == tag) refl (members-undefined ds tag) where
  by : (b : Bool) → (d.tag == tag) ≡ b → (is_defined ds tag ≡ false → members ds tag ≡ []) → members (d ∷ ds) tag ≡ []
  by true e ih = let f = rw e at h in cc
  by false e ih = let f = rw e at h in rw e (ih f)

-- a struct with a member is defined
pub members-defined : (defs : Definitions) (tag i : ℕ) → i < length (members defs tag) → is_defined defs tag ≡ true
members-defined defs tag i l = by (is_defined defs tag) refl where
  by : (b : Bool) → is_defined defs tag ≡ b → is_defined defs tag ≡ true
  by true e = e
  by false e = let none = members-undefined defs tag e in let f = rw none at l in absurd (omega (arith, f))

pub size-undefined : (defs : Definitions) (tag : ℕ) → is_defined defs tag ≡ false → struct_size defs tag ≡ 0
size-undefined [] tag h = refl
size-undefined (d ∷ ds) tag h = by (d.tag == tag) refl (size-undefined ds tag) where
  by : (b : Bool) → (d.tag == tag) ≡ b → (is_defined ds tag ≡ false → struct_size ds tag ≡ 0) → struct_size (d ∷ ds) tag ≡ 0
  by true e ih = let f = rw e at h in cc
  by false e ih = let f = rw e at h in rw e (ih f)

from-past : (s a : TypeTree → ℕ) (ts : List TypeTree) (at i : ℕ) → (i < length ts → ⊥) → offset_from s a at ts i ≡ 0
from-past s a [] at i h = refl
from-past s a (t ∷ ts) at zero h = absurd (h (omega arith))
from-past s a (t ∷ ts) at (suc i) h = from-past s a ts (rounded_up at (a t) + s t) i (λ l. h (omega arith))

pub offset-past : (defs : Definitions) (tag i : ℕ) → (i < length (members defs tag) → ⊥) → offset defs tag i ≡ 0
offset-past [] tag i h = refl
offset-past (d ∷ ds) tag i h = by (d.tag == tag) refl (offset-past ds tag i) where
  by : (b : Bool) → (d.tag == tag) ≡ b → ((i < length (members ds tag) → ⊥) → offset ds tag i ≡ 0) → offset (d ∷ ds) tag i ≡ 0
  by true e ih = let f = rw e at h in rw e (from-past (size ds) (align ds) d.members 0 i f)
  by false e ih = let f = rw e at h in rw e (ih f)

pub ruleset parts = (members-undefined, size-undefined)
