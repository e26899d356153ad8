-- Sizes are multiples of alignments, and leaves stand in order.
use Rattle.std.proofs.Common.{◌≡◌, ℕ, zero, suc, ◌+◌, ◌-◌, ◌*◌, ◌/◌, ◌<◌, ◌≤◌, ◌==◌, max, not, Bool, true, false, cond, List, [], ◌∷◌, ◌++◌, refl, sym, ap, ap₂, ◌∙◌, subst, inl, inr, arith, add_assoc, add-mul, mul_assoc, mul-one, suc-mul}
use Rattle.val_core.specs.declared.leaf.Leaf.{Leaf}
use Rattle.std.proofs.lemmas.Bool.{and_parts}
use Rattle.c_type.specs.declared.scalar.Scalar.{Scalar}
use Rattle.c_type.specs.declared.scalar.Scalar.TheVariants.{Char, SignedChar, UnsignedChar, Short, UnsignedShort, Int, UnsignedInt}
use Rattle.c_type.specs.Trees.{TypeTree, void_type, scalar_type, pointer_to, array_of, struct_type}
use Rattle.c_type.specs.Layout.{Definitions, is_defined, is_complete, rounded_up, scalar_size, align, align_by, struct_align, largest, size, struct_size, members_end, repeated, leaves_at, members_leaves, struct_leaves}
use Rattle.c_type.specs.WellDefined.{AreLaidOut}
use Rattle.c_type.specs.LayoutLaws.{IsMultiple, IsWidth, AreInOrder, AlignmentIsWidth}
use Rattle.c_type.proofs.lemmas.Bounds.{align-between, round-lower}

-- ---- widths

scalar-width : (s : Scalar) → IsWidth (scalar_size s)
scalar-width Char = inl refl
scalar-width SignedChar = inl refl
scalar-width UnsignedChar = inl refl
scalar-width Short = inr (inl refl)
scalar-width UnsignedShort = inr (inl refl)
scalar-width Int = inr (inr refl)
scalar-width UnsignedInt = inr (inr refl)

by-width : (f : ℕ → ℕ) → ((k : ℕ) → IsWidth (f k)) → (t : TypeTree) → IsWidth (align_by f t)
by-width f h void_type = inl refl
by-width f h (scalar_type s) = scalar-width s
by-width f h (pointer_to t) = inr (inr refl)
by-width f h (array_of t n) = by-width f h t
by-width f h (struct_type k) = h k

larger : (m n : ℕ) → IsWidth m → IsWidth n → IsWidth (max m n)
larger m n (inl e) (inl d) = inl (omega arith)
larger m n (inl e) (inr (inl d)) = inr (inl (omega arith))
larger m n (inl e) (inr (inr d)) = inr (inr (omega arith))
larger m n (inr (inl e)) (inl d) = inr (inl (omega arith))
larger m n (inr (inl e)) (inr (inl d)) = inr (inl (omega arith))
larger m n (inr (inl e)) (inr (inr d)) = inr (inr (omega arith))
larger m n (inr (inr e)) (inl d) = inr (inr (omega arith))
larger m n (inr (inr e)) (inr (inl d)) = inr (inr (omega arith))
larger m n (inr (inr e)) (inr (inr d)) = inr (inr (omega arith))

largest-width : (f : TypeTree → ℕ) → ((t : TypeTree) → IsWidth (f t)) → (ts : List TypeTree) → IsWidth (largest f ts)
largest-width f h [] = inl refl
largest-width f h (t ∷ ts) = larger (f t) (largest f ts) (h t) (largest-width f h ts)

pick : {X : Type 0} (P : X → Type 0) (test : Bool) (m n : X) → P m → P n → P (cond test m n)
pick P true m n h k = h
pick P false m n h k = k

struct-width : (defs : Definitions) (tag : ℕ) → IsWidth (struct_align defs tag)
struct-width [] tag = inl refl
struct-width (d ∷ ds) tag =
    pick IsWidth (d.tag == tag) (largest (align ds) d.members) (struct_align ds tag)
    (largest-width (align ds) (by-width (struct_align ds) (struct-width ds)) d.members) (struct-width ds tag)

pub alignment_is_width : AlignmentIsWidth
alignment_is_width defs t = by-width (struct_align defs) (struct-width defs) t

pub members-width : (defs : Definitions) (ts : List TypeTree) → IsWidth (largest (align defs) ts)
members-width defs ts = largest-width (align defs) (alignment_is_width defs) ts

-- ---- multiples

pub multiple-itself : (a : ℕ) → IsMultiple a a
multiple-itself a = (1, omega arith)

pub multiple-plus : (a m n : ℕ) → IsMultiple a m → IsMultiple a n → IsMultiple a (m + n)
multiple-plus a m n (j, e) (k, d) = (j + k, ap₂ (λ x y. x + y) e d ∙ sym (add-mul j k a))

pub multiple-times : (a k n : ℕ) → IsMultiple a n → IsMultiple a (k * n)
multiple-times a k n (j, e) = (k * j, ap (λ x. k * x) e ∙ sym (mul_assoc k j a))

multiple-of : (a b n : ℕ) → IsMultiple a b → IsMultiple b n → IsMultiple a n
multiple-of a b n (j, e) (k, d) = (k * j, d ∙ ap (λ x. k * x) e ∙ sym (mul_assoc k j a))

pub multiple-round : (n a : ℕ) → IsMultiple a (rounded_up n a)
multiple-round n a = ((n + (a - 1)) / a, refl)

-- the widths divide each other
divides : (a b : ℕ) → IsWidth a → IsWidth b → a ≤ b → IsMultiple a b
divides a b (inl e) wb h = (b, sym (ap (λ x. b * x) e ∙ mul-one b))
divides a b (inr (inl e)) (inl d) h = absurd (omega arith)
divides a b (inr (inl e)) (inr (inl d)) h = (1, omega arith)
divides a b (inr (inl e)) (inr (inr d)) h = (2, omega arith)
divides a b (inr (inr e)) (inl d) h = absurd (omega arith)
divides a b (inr (inr e)) (inr (inl d)) h = absurd (omega arith)
divides a b (inr (inr e)) (inr (inr d)) h = (1, omega arith)

-- ---- order

lower : (low low' high : ℕ) (ls : List Leaf) → low ≤ low' → AreInOrder low' high ls → AreInOrder low high ls
lower low low' high [] h o = omega arith
lower low low' high (l ∷ ls) h o =
    let p = o.0 in
    (record { above = let a = p.above in omega (arith, a, h); width = p.width; aligned = p.aligned }, o.1)

joined : (low mid high : ℕ) (xs ys : List Leaf) → AreInOrder low mid xs → AreInOrder mid high ys → AreInOrder low high (xs ++ ys)
joined low mid high [] ys h k = lower low mid high ys h k
joined low mid high (x ∷ xs) ys h k = (h.0, joined (x.offset + x.width) mid high xs ys h.1 k)

one-leaf : (at w : ℕ) → IsWidth w → IsMultiple w at → AreInOrder at (at + w) (record { offset = at; width = w } ∷ [])
one-leaf at w h k = (record { above = omega arith; width = h; aligned = k }, omega arith)

-- what holds of the structs that are defined
pub record AreGood (defs : Definitions) : Type 0 where
  pub multiple : (tag : ℕ) → is_defined defs tag ≡ true → IsMultiple (struct_align defs tag) (struct_size defs tag)
  pub positive : (tag : ℕ) → is_defined defs tag ≡ true → 0 < struct_size defs tag
  pub order : (tag : ℕ) → is_defined defs tag ≡ true → (at : ℕ) → IsMultiple (struct_align defs tag) at → AreInOrder at (at + struct_size defs tag) (struct_leaves defs tag at)

positive-product : (n s : ℕ) → not (n == 0) ≡ true → 0 < s → 0 < n * s
positive-product zero s h k = cc
positive-product (suc n) s h k = let e = suc-mul n s in omega (arith, e, k)

elements-order : (f : ℕ → List Leaf) (s a : ℕ) → IsMultiple a s → ((at : ℕ) → IsMultiple a at → AreInOrder at (at + s) (f at)) → (n at : ℕ) → IsMultiple a at →
    AreInOrder at (at + n * s) (repeated n s at f)
elements-order f s a m h zero at k = omega arith
elements-order f s a m h (suc n) at k =
    let e : (at + s) + n * s ≡ at + suc n * s = let d = suc-mul n s in omega (arith, d) in
    joined at (at + s) (at + suc n * s) (f at) (repeated n s (at + s) f) (h at k)
    (subst (λ x. AreInOrder (at + s) x (repeated n s (at + s) f)) e (elements-order f s a m h n (at + s) (multiple-plus a at s k m)))

module _ (defs : Definitions) (good : AreGood defs) where
  pub size-multiple : (t : TypeTree) → is_complete defs t ≡ true → IsMultiple (align defs t) (size defs t)
  size-multiple void_type h = cc
  size-multiple (scalar_type s) h = multiple-itself (scalar_size s)
  size-multiple (pointer_to t) h = multiple-itself 4
  size-multiple (array_of t n) h = multiple-times (align defs t) n (size defs t) (size-multiple t (and_parts (not (n == 0)) (is_complete defs t) h).1)
  size-multiple (struct_type k) h = good.multiple k h

  pub size-positive : (t : TypeTree) → is_complete defs t ≡ true → 0 < size defs t
  size-positive void_type h = cc
  size-positive (scalar_type s) h = scalar-positive s where
    scalar-positive : (s : Scalar) → 0 < scalar_size s
    scalar-positive Char = omega arith
    scalar-positive SignedChar = omega arith
    scalar-positive UnsignedChar = omega arith
    scalar-positive Short = omega arith
    scalar-positive UnsignedShort = omega arith
    scalar-positive Int = omega arith
    scalar-positive UnsignedInt = omega arith
  size-positive (pointer_to t) h = omega arith
  size-positive (array_of t n) h =
      let b = and_parts (not (n == 0)) (is_complete defs t) h in
      positive-product n (size defs t) b.0 (size-positive t b.1)
  size-positive (struct_type k) h = good.positive k h

  pub type-order : (t : TypeTree) → is_complete defs t ≡ true → (at : ℕ) → IsMultiple (align defs t) at → AreInOrder at (at + size defs t) (leaves_at defs t at)
  type-order void_type h at m = cc
  type-order (scalar_type s) h at m = one-leaf at (scalar_size s) (scalar-width s) m
  type-order (pointer_to t) h at m = one-leaf at 4 (inr (inr refl)) m
  type-order (array_of t n) h at m =
      let c = (and_parts (not (n == 0)) (is_complete defs t) h).1 in
      elements-order (leaves_at defs t) (size defs t) (align defs t) (size-multiple t c) (type-order t c) n at m
  type-order (struct_type k) h at m = good.order k h at m

  -- the members of a struct that begins at a multiple of an alignment that is none of theirs is above
  pub members-order : (a start : ℕ) → IsWidth a → IsMultiple a start → (at : ℕ) (ts : List TypeTree) → largest (align defs) ts ≤ a → AreLaidOut defs ts →
      AreInOrder (start + at) (start + members_end (size defs) (align defs) at ts) (members_leaves (size defs) (align defs) (leaves_at defs) start at ts)
  members-order a start w m at [] h laid = omega arith
  members-order a start w m at (t ∷ ts) h laid =
      let b = align-between defs t in
      let o = rounded_up at (align defs t) in
      let up = round-lower at (align defs t) b.0 in
      let own = divides (align defs t) a (alignment_is_width defs t) w (omega (arith, h)) in
      let begin = multiple-plus (align defs t) start o (multiple-of (align defs t) a start own m) (multiple-round at (align defs t)) in
      let first = lower (start + at) (start + o) (start + o + size defs t) (leaves_at defs t (start + o)) (omega (arith, up)) (type-order t laid.0.complete (start + o) begin) in
      let rest = members-order a start w m (o + size defs t) ts (omega (arith, h)) laid.1 in
      joined (start + at) (start + o + size defs t) (start + members_end (size defs) (align defs) (o + size defs t) ts) (leaves_at defs t (start + o)) (members_leaves (size defs) (align defs)
      (leaves_at defs) start (o + size defs t) ts) first
      (subst (λ x. AreInOrder x (start + members_end (size defs) (align defs) (o + size defs t) ts) (members_leaves (size defs) (align defs) (leaves_at defs) start (o + size defs t) ts)) (sym
      (add_assoc start o (size defs t))) rest)
