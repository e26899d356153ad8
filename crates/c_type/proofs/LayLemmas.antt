-- Laying out one member after the other.
use Rattle.std.proofs.Common.{◌≡◌, ℕ, zero, suc, ◌+◌, ◌^◌, ◌<◌, ◌≤◌, ◌⊎◌, max, List, [], ◌∷◌, ◌++◌, length, slice_index, refl, sym, ap, ◌∙◌, inl, inr, arith, length-append}
use Rattle.base.specs.Limits.{most_type_bytes}
use Rattle.c_type.specs.Trees.{TypeTree}
use Rattle.c_type.specs.Layout.{Definitions, rounded_up, align, largest, size, members_end, offset_from, IsLaidOut}
use Rattle.c_type.specs.WellDefined.{AreLaidOut}
use Rattle.c_type.specs.LaidUpTo.{LaidUpTo, struct_bytes}
use Rattle.c_type.proofs.lemmas.Bounds.{align-between, members-between, round-lower, round-upper, end-grows}

pub nothing-laid : (defs : Definitions) (ms : List TypeTree) → AreLaidOut defs ms → LaidUpTo defs ms ms [] 0 1
nothing-laid defs ms laid =
    record {
      small = omega arith;
      ends = refl;
      aligned = one-of (largest (align defs) ms) (largest-positive ms);
      positive = omega arith;
      laid_out = laid;
      count = omega arith;
      offsets_are = λ k h. absurd (omega arith);
      later = λ k. let e : 0 + k ≡ k = omega arith in ap (offset_from (size defs) (align defs) 0 ms) e;
    } where
      largest-positive : (ts : List TypeTree) → 0 < largest (align defs) ts
      largest-positive [] = omega arith
      largest-positive (t ∷ ts) = let h = largest-positive ts in omega arith

      one-of : (n : ℕ) → 0 < n → max 1 n ≡ n
      one-of n h = omega arith

index-front : (xs : List ℕ) (y k : ℕ) → k < length xs → slice_index (xs ++ y ∷ []) k ≡ slice_index xs k
index-front [] y k h = absurd (omega arith)
index-front (x ∷ xs) y zero h = refl
index-front (x ∷ xs) y (suc k) h = index-front xs y k (omega arith)

index-last : (xs : List ℕ) (y : ℕ) → slice_index (xs ++ y ∷ []) (length xs) ≡ y
index-last [] y = refl
index-last (x ∷ xs) y = index-last xs y

pub one-laid : (defs : Definitions) (ms : List TypeTree) (t : TypeTree) (ts : List TypeTree) (offsets : List ℕ) (end a : ℕ) → LaidUpTo defs ms (t ∷ ts) offsets end a →
    rounded_up end (align defs t) + size defs t ≤ most_type_bytes →
    LaidUpTo defs ms ts (offsets ++ rounded_up end (align defs t) ∷ []) (rounded_up end (align defs t) + size defs t) (max a (align defs t))
one-laid defs ms t ts offsets end a l small =
    let one = length-append offsets (rounded_up end (align defs t) ∷ []) in
    record {
      small = small;
      ends = l.ends;
      aligned = let h = l.aligned in omega (arith, h);
      positive = let h = l.positive in omega (arith, h);
      laid_out = l.laid_out.1;
      count = let h = l.count in omega (arith, h, one);
      offsets_are = λ k h. by_place k h one;
      later = λ k.
          let e : length (offsets ++ rounded_up end (align defs t) ∷ []) + k ≡ length offsets + suc k = omega (arith, one) in
          ap (offset_from (size defs) (align defs) 0 ms) e ∙ l.later (suc k);
    } where
      at_place : (k : ℕ) → (k < length offsets) ⊎ (k ≡ length offsets) → slice_index (offsets ++ rounded_up end (align defs t) ∷ []) k ≡ offset_from (size defs) (align defs) 0 ms k
      at_place k (inl h) = index-front offsets (rounded_up end (align defs t)) k h ∙ l.offsets_are k h
      at_place k (inr e) =
          let z : length offsets + 0 ≡ length offsets = omega arith in
          ap (slice_index (offsets ++ rounded_up end (align defs t) ∷ [])) e
          ∙ index-last offsets (rounded_up end (align defs t))
          ∙ sym (l.later 0)
          ∙ ap (offset_from (size defs) (align defs) 0 ms) (z ∙ sym e)

      by_place : (k : ℕ) → k < length (offsets ++ rounded_up end (align defs t) ∷ []) → length (offsets ++ rounded_up end (align defs t) ∷ []) ≡ length offsets + 1 →
          slice_index (offsets ++ rounded_up end (align defs t) ∷ []) k ≡ offset_from (size defs) (align defs) 0 ms k
      by_place k h one = at_place k (either k (length offsets) (omega (arith, h, one))) where
        either : (i n : ℕ) → i < n + 1 → (i < n) ⊎ (i ≡ n)
        either i n h = grind arith

-- what is too large on the way is too large as a whole
pub too-large-end : (defs : Definitions) (ms : List TypeTree) (t : TypeTree) (ts : List TypeTree) (offsets : List ℕ) (end a : ℕ) → LaidUpTo defs ms (t ∷ ts) offsets end a →
    most_type_bytes < rounded_up end (align defs t) + size defs t → most_type_bytes < struct_bytes defs ms
too-large-end defs ms t ts offsets end a l large =
    let g = end-grows (size defs) (align defs) (λ x. (align-between defs x).0) (rounded_up end (align defs t) + size defs t) ts in
    let r = round-lower (members_end (size defs) (align defs) 0 ms) (largest (align defs) ms) (let h = l.aligned in let p = l.positive in omega (arith, h, p)) in
    let e = l.ends in
    omega (arith, g, r, e, large)

-- what fits on the way
pub lay-room : (defs : Definitions) (ms rest : List TypeTree) (offsets : List ℕ) (end a : ℕ) → LaidUpTo defs ms rest offsets end a → end + a < 2 ^ 32
lay-room defs ms rest offsets end a l =
    let h = l.aligned in
    let b = members-between defs ms in
    let s = l.small in
    omega (arith, h, b.1, s)

pub lay-next : (defs : Definitions) (end : ℕ) (t : TypeTree) → end ≤ most_type_bytes → IsLaidOut defs t →
    (0 < align defs t) × (end + align defs t < 2 ^ 32) × (rounded_up end (align defs t) + size defs t < 2 ^ 32)
lay-next defs end t small laid =
    let b = align-between defs t in
    let r = round-upper end (align defs t) b.0 in
    let s = laid.small in
    (b.0, omega (arith, small, b.1), omega (arith, small, b.1, r, s))
