-- Bounds of alignments, and where members end.
use Rattle.std.proofs.Common.{ℕ, ◌+◌, ◌-◌, ◌/◌, ◌<◌, ◌≤◌, ◌==◌, Bool, true, false, cond, List, [], ◌∷◌, arith, mul_comm}
use Rattle.c_type.specs.declared.scalar.Scalar.TheVariants.{Char, SignedChar, UnsignedChar, Short, UnsignedShort, Int, UnsignedInt}
use Rattle.c_type.specs.declared.scalar.Scalar.{Scalar}
use Rattle.c_type.specs.Trees.{TypeTree, void_type, scalar_type, pointer_to, array_of, struct_type}
use Rattle.c_type.specs.Layout.{Definitions, rounded_up, scalar_size, align, align_by, struct_align, largest, members_end}

-- at least 1 and at most 4
abbrev Between : ℕ → Type 0
Between n = (0 < n) × (n ≤ 4)

scalar-between : (s : Scalar) → Between (scalar_size s)
scalar-between Char = (omega arith, omega arith)
scalar-between SignedChar = (omega arith, omega arith)
scalar-between UnsignedChar = (omega arith, omega arith)
scalar-between Short = (omega arith, omega arith)
scalar-between UnsignedShort = (omega arith, omega arith)
scalar-between Int = (omega arith, omega arith)
scalar-between UnsignedInt = (omega arith, omega arith)

by-between : (f : ℕ → ℕ) → ((k : ℕ) → Between (f k)) → (t : TypeTree) → Between (align_by f t)
by-between f h void_type = (omega arith, omega arith)
by-between f h (scalar_type s) = scalar-between s
by-between f h (pointer_to t) = (omega arith, omega arith)
by-between f h (array_of t n) = by-between f h t
by-between f h (struct_type k) = h k

largest-between : (f : TypeTree → ℕ) → ((t : TypeTree) → Between (f t)) → (ts : List TypeTree) → Between (largest f ts)
largest-between f h [] = (omega arith, omega arith)
largest-between f h (t ∷ ts) = let a = h t in let b = largest-between f h ts in (omega arith, omega arith)

pick : (test : Bool) (m n : ℕ) → Between m → Between n → Between (cond test m n)
pick true m n h k = h
pick false m n h k = k

struct-between : (defs : Definitions) (tag : ℕ) → Between (struct_align defs tag)
struct-between [] tag = (omega arith, omega arith)
struct-between (d ∷ ds) tag =
    let own = largest-between (align ds) (by-between (struct_align ds) (struct-between ds)) d.members in
    pick (d.tag == tag) (largest (align ds) d.members) (struct_align ds tag) own (struct-between ds tag)

pub align-between : (defs : Definitions) (t : TypeTree) → Between (align defs t)
align-between defs t = by-between (struct_align defs) (struct-between defs) t

pub members-between : (defs : Definitions) (ts : List TypeTree) → Between (largest (align defs) ts)
members-between defs ts = largest-between (align defs) (align-between defs) ts

-- rounding up
pub round-lower : (n a : ℕ) → 0 < a → n ≤ rounded_up n a
round-lower n a h = let e = mul_comm ((n + (a - 1)) / a) a in omega (arith, e)

pub round-upper : (n a : ℕ) → 0 < a → rounded_up n a < n + a
round-upper n a h = let e = mul_comm ((n + (a - 1)) / a) a in omega (arith, e)

pub end-grows : (s a : TypeTree → ℕ) → ((t : TypeTree) → 0 < a t) → (at : ℕ) (ts : List TypeTree) → at ≤ members_end s a at ts
end-grows s a h at [] = omega arith
end-grows s a h at (t ∷ ts) =
    let k = end-grows s a h (rounded_up at (a t) + s t) ts in
    let j = round-lower at (a t) (h t) in
    omega (arith, k, j)
