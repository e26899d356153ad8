-- How many leaves there are, and the work of listing them.
use Rattle.std.proofs.Common.{◌≡◌, ℕ, zero, suc, ◌+◌, ◌-◌, ◌*◌, ◌<◌, ◌≤◌, ◌==◌, ◌&&◌, ◌||◌, not, Bool, true, false, cond, List, [], ◌∷◌, length, refl, sym, ap, ap₂, ◌∙◌, subst, arith, inl, inr, length-append, suc-mul, eq-eqb, zero-add}
use Rattle.std.proofs.lemmas.Bool.{and_parts, cases_eq, ne_eqb}
use Rattle.val_core.specs.declared.leaf.Leaf.{Leaf}
use Rattle.c_type.specs.Trees.{TypeTree, void_type, scalar_type, pointer_to, array_of, struct_type, tree_height}
use Rattle.c_type.specs.Layout.{Definitions, is_defined, is_complete, rounded_up, align, size, leaves_at, struct_leaves, repeated, members_leaves}
use Rattle.c_type.specs.WellDefined.{AreDefinitions, AreLaidOut}
use Rattle.c_type.specs.Normal.{is_normal}
use Rattle.c_type.specs.Pending.{leaf_count, type_work}
use Rattle.c_type.proofs.MovedLemmas.{leaves-moved, length-moved}

-- ---- how many leaves there are

pub count-at : (defs : Definitions) (t : TypeTree) (at : ℕ) → length (leaves_at defs t at) ≡ leaf_count defs t
count-at defs t at = ap (λ a. length (leaves_at defs t a)) (sym (zero-add at)) ∙ ap length (leaves-moved at defs t 0) ∙ length-moved at (leaves_at defs t 0)

pub count-repeated : (defs : Definitions) (t : TypeTree) (n s at : ℕ) → length (repeated n s at (leaves_at defs t)) ≡ n * leaf_count defs t
count-repeated defs t zero s at = none (leaf_count defs t)
  where
    none : (c : ℕ) → 0 ≡ 0 * c
    none c = omega arith
count-repeated defs t (suc n) s at =
    length-append (leaves_at defs t at) (repeated n s (at + s) (leaves_at defs t)) ∙ ap₂ (λ x y. x + y) (count-at defs t at) (count-repeated defs t n s (at + s))
    ∙ sums (leaf_count defs t) (n * leaf_count defs t) (suc n * leaf_count defs t) (suc-mul n (leaf_count defs t))
  where
    sums : (a b c : ℕ) → c ≡ b + a → a + b ≡ c
    sums a b c e = omega arith

abbrev pub members_count : Definitions → List TypeTree → ℕ
members_count defs [] = 0
members_count defs (t ∷ ts) = leaf_count defs t + members_count defs ts

pub count-members : (defs : Definitions) (start at : ℕ) (ts : List TypeTree) → length (members_leaves (size defs) (align defs) (leaves_at defs) start at ts) ≡ members_count defs ts
count-members defs start at [] = refl
count-members defs start at (t ∷ ts) =
    let o = rounded_up at (align defs t) in
    length-append (leaves_at defs t (start + o)) (members_leaves (size defs) (align defs) (leaves_at defs) start (o + size defs t) ts)
    ∙ ap₂ (λ x y. x + y) (count-at defs t (start + o)) (count-members defs start (o + size defs t) ts)

-- ---- there is a leaf

some-repeated : (n s at : ℕ) (f : ℕ → List Leaf) → not (n == 0) ≡ true → 0 < length (f at) → 0 < length (repeated n s at f)
some-repeated zero s at f some h = absurd cc
some-repeated (suc n) s at f some h = let e = length-append (f at) (repeated n s (at + s) f) in omega (arith, e, h)

some-members : (defs : Definitions) → ((t : TypeTree) → is_complete defs t ≡ true → (at : ℕ) → 0 < length (leaves_at defs t at)) → (start at : ℕ) (ts : List TypeTree) → 0 < length ts →
    AreLaidOut defs ts →
    0 < length (members_leaves (size defs) (align defs) (leaves_at defs) start at ts)
some-members defs each start at [] some laid = absurd (omega arith)
some-members defs each start at (t ∷ ts) some laid =
    let o = rounded_up at (align defs t) in
    let e = length-append (leaves_at defs t (start + o)) (members_leaves (size defs) (align defs) (leaves_at defs) start (o + size defs t) ts) in
    let h = each t laid.0.complete (start + o) in
    omega (arith, e, h)

by-type : (defs : Definitions) → ((tag : ℕ) → is_defined defs tag ≡ true → (at : ℕ) → 0 < length (struct_leaves defs tag at)) → (t : TypeTree) → is_complete defs t ≡ true → (at : ℕ) →
    0 < length (leaves_at defs t at)
by-type defs each void_type h at = absurd cc
by-type defs each (scalar_type s) h at = omega arith
by-type defs each (pointer_to t) h at = omega arith
by-type defs each (array_of t n) h at =
    let b = and_parts (not (n == 0)) (is_complete defs t) h in
    some-repeated n (size defs t) at (leaves_at defs t) b.0 (by-type defs each t b.1 at)
by-type defs each (struct_type tag) h at = each tag h at

some-struct : (defs : Definitions) → AreDefinitions defs → (tag : ℕ) → is_defined defs tag ≡ true → (at : ℕ) → 0 < length (struct_leaves defs tag at)
some-struct [] w tag h at = absurd cc
some-struct (d ∷ ds) w tag h at =
    by_test (d.tag == tag) h (some-struct ds w.1 tag) (some-members ds (by-type ds (some-struct ds w.1)) at 0 d.members w.0.some w.0.laid_out)
  where
    by_test : (test : Bool) → (test || is_defined ds tag) ≡ true → (is_defined ds tag ≡ true → (at : ℕ) → 0 < length (struct_leaves ds tag at)) →
        0 < length (members_leaves (size ds) (align ds) (leaves_at ds) at 0 d.members) →
        0 < length (cond test (members_leaves (size ds) (align ds) (leaves_at ds) at 0 d.members) (struct_leaves ds tag at))
    by_test true k later own = own
    by_test false k later own = later k at

pub some-leaf : (defs : Definitions) → AreDefinitions defs → (t : TypeTree) → is_complete defs t ≡ true → 0 < leaf_count defs t
some-leaf defs w t h = by-type defs (some-struct defs w) t h 0

-- ---- the work

pub work-normal : (defs : Definitions) (t : TypeTree) → is_normal defs t ≡ true → type_work defs t ≡ 6 * leaf_count defs t - 4
work-normal defs t e = ap (λ b. cond b (6 * leaf_count defs t - 4) (6 * leaf_count defs t + 3 * tree_height t)) e

pub work-other : (defs : Definitions) (t : TypeTree) → is_normal defs t ≡ false → type_work defs t ≡ 6 * leaf_count defs t + 3 * tree_height t
work-other defs t e = ap (λ b. cond b (6 * leaf_count defs t - 4) (6 * leaf_count defs t + 3 * tree_height t)) e

pub work-most : (defs : Definitions) (t : TypeTree) → type_work defs t ≤ 6 * leaf_count defs t + 3 * tree_height t
work-most defs t = by_test (is_normal defs t) (leaf_count defs t) (tree_height t)
  where
    by_test : (b : Bool) (c h : ℕ) → cond b (6 * c - 4) (6 * c + 3 * h) ≤ 6 * c + 3 * h
    by_test true c h = omega arith
    by_test false c h = omega arith

-- a type, its elements after the first, and the type of an array
array-sum : (b : Bool) (n c h w many : ℕ) → w ≡ cond b (6 * c - 4) (6 * c + 3 * h) → 0 < n → 0 < c → (n ≡ 1 → ⊥) → many ≡ n * c →
    1 + (1 + (n - 1) * c) + w ≤ cond b (6 * many - 4) (6 * many + 3 * (h + 1))
array-sum b zero c h w many is some leaf more all = absurd (omega arith)
array-sum b (suc zero) c h w many is some leaf more all = absurd (more refl)
array-sum true (suc (suc n)) c h w many is some leaf more all =
    let e = suc-mul (suc n) c in
    let f = suc-mul n c in
    let g : suc (suc n) - 1 ≡ suc n = omega arith in
    let k : (suc (suc n) - 1) * c ≡ suc n * c = ap (λ x. x * c) g in
    omega (arith, e, f, k, is, all)
array-sum false (suc (suc n)) c h w many is some leaf more all =
    let e = suc-mul (suc n) c in
    let f = suc-mul n c in
    let g : suc (suc n) - 1 ≡ suc n = omega arith in
    let k : (suc (suc n) - 1) * c ≡ suc n * c = ap (λ x. x * c) g in
    omega (arith, e, f, k, is, all)

pub array-work : (defs : Definitions) (t : TypeTree) (n : ℕ) → AreDefinitions defs → is_complete defs (array_of t n) ≡ true →
    1 + (1 + (n - 1) * leaf_count defs t) + type_work defs t ≤ type_work defs (array_of t n)
array-work defs t n ordered complete =
    let parts = and_parts (not (n == 0)) (is_complete defs t) complete in
    let leaf = some-leaf defs ordered t parts.1 in
    let many = count-repeated defs t n (size defs t) 0 in
    elim (cases_eq n 1) [
      | inl one ↦
          let single : is_normal defs (array_of t n) ≡ false = ap (λ b. not b && is_normal defs t) (eq-eqb n 1 one) in
          one_sum n (leaf_count defs t) (tree_height t) (type_work defs t) (leaf_count defs (array_of t n)) (type_work defs (array_of t n)) one (work-most defs t) many (work-other defs
          (array_of t n) single)
      | inr more ↦
          let same : is_normal defs (array_of t n) ≡ is_normal defs t = ap (λ b. not b && is_normal defs t) (ne_eqb n 1 more) in
          subst (λ b. 1 + (1 + (n - 1) * leaf_count defs t) + type_work defs t ≤ cond b (6 * leaf_count defs (array_of t n) - 4) (6 * leaf_count defs (array_of t n) + 3 * (tree_height t + 1)))
          (sym same)
          (array-sum (is_normal defs t) n (leaf_count defs t) (tree_height t) (type_work defs t) (leaf_count defs (array_of t n)) refl (not_zero n parts.0) leaf more many)
    ]
  where
    not_zero : (n : ℕ) → not (n == 0) ≡ true → 0 < n
    not_zero zero e = absurd cc
    not_zero (suc n) e = omega arith

    one_sum : (n c h w many all : ℕ) → n ≡ 1 → w ≤ 6 * c + 3 * h → many ≡ n * c → all ≡ 6 * many + 3 * (h + 1) → 1 + (1 + (n - 1) * c) + w ≤ all
    one_sum n c h w many all one most is whole =
        let e : n * c ≡ 1 * c = ap (λ x. x * c) one in
        let f : (n - 1) * c ≡ 0 * c = ap (λ x. (x - 1) * c) one in
        omega (arith, e, f)
