-- The elements of an array that is laid out.
use Rattle.std.proofs.Common.{◌≡◌, ℕ, zero, suc, ◌*◌, ◌≤◌, ◌==◌, not, true, refl, arith, suc-mul}
use Rattle.base.specs.Limits.{most_type_bytes}
use Rattle.std.proofs.lemmas.Bool.{and_parts}
use Rattle.c_type.specs.Trees.{TypeTree, array_of}
use Rattle.c_type.specs.Layout.{Definitions, is_complete, size, IsLaidOut}

-- an array's elements are laid out
some-part : (n s : ℕ) → n * s ≤ most_type_bytes → (n ≡ 0 → ⊥) → s ≤ most_type_bytes
some-part zero s h ne = absurd (ne refl)
some-part (suc n) s h ne = let e = suc-mul n s in omega (arith, e)

not-zero : (n : ℕ) → not (n == 0) ≡ true → n ≡ 0 → ⊥
not-zero n h e = absurd-of n e h where
  absurd-of : (m : ℕ) → m ≡ 0 → not (m == 0) ≡ true → ⊥
  absurd-of zero e h = cc
  absurd-of (suc m) e h = cc

pub element : (defs : Definitions) (t : TypeTree) (n : ℕ) → IsLaidOut defs (array_of t n) → IsLaidOut defs t
element defs t n h =
    let b = and_parts (not (n == 0)) (is_complete defs t) h.complete in
    record { complete = b.1; small = some-part n (size defs t) h.small (not-zero n b.0) }
