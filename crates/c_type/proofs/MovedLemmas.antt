-- Leaves move with their type.
use Rattle.std.proofs.Common.{◌≡◌, ℕ, zero, suc, ◌+◌, ◌-◌, ◌*◌, ◌^◌, ◌<◌, ◌≤◌, ◌==◌, Bool, true, false, cond, List, [], ◌∷◌, ◌++◌, map, length, drop, refl, sym, ap, ap₂, ◌∙◌, arith, length-append, suc-mul, length-drop}
use Rattle.val_core.specs.declared.leaf.Leaf.{Leaf}
use Rattle.base.specs.Limits.{most_type_bytes}
use Rattle.c_type.specs.Trees.{TypeTree, void_type, scalar_type, pointer_to, array_of, struct_type}
use Rattle.c_type.specs.Layout.{Definitions, rounded_up, align, largest, size, size_by, struct_size, members_end, repeated, leaves_at, leaves_by, members_leaves, struct_leaves}
use Rattle.c_type.specs.Moved.{moved, CanMove}
use Rattle.c_type.proofs.LeafLemmas.{within-elements}
use Rattle.c_type.proofs.lemmas.Bounds.{align-between, members-between, round-lower, end-grows}

map-append : (f : Leaf → Leaf) (xs ys : List Leaf) → map f (xs ++ ys) ≡ map f xs ++ map f ys
map-append f [] ys = refl
map-append f (x ∷ xs) ys = ap (λ r. f x ∷ r) (map-append f xs ys)

repeated-moved : (n s at by : ℕ) (f : ℕ → List Leaf) → ((at : ℕ) → f (at + by) ≡ map (moved by) (f at)) → repeated n s (at + by) f ≡ map (moved by) (repeated n s at f)
repeated-moved zero s at by f h = refl
repeated-moved (suc n) s at by f h =
    let e : (at + by) + s ≡ (at + s) + by = omega arith in
    ap₂ (λ x y. x ++ y) (h at) (ap (λ k. repeated n s k f) e ∙ repeated-moved n s (at + s) by f h)
    ∙ sym (map-append (moved by) (f at) (repeated n s (at + s) f))

type-moved : (sz : TypeTree → ℕ) (by : ℕ) (sl : ℕ → ℕ → List Leaf) → ((k at : ℕ) → sl k (at + by) ≡ map (moved by) (sl k at)) → (t : TypeTree) (at : ℕ) →
    leaves_by sz sl t (at + by) ≡ map (moved by) (leaves_by sz sl t at)
type-moved sz by sl h void_type at = refl
type-moved sz by sl h (scalar_type s) at = refl
type-moved sz by sl h (pointer_to t) at = refl
type-moved sz by sl h (array_of t n) at = repeated-moved n (sz t) at by (leaves_by sz sl t) (type-moved sz by sl h t)
type-moved sz by sl h (struct_type k) at = h k at

members-moved : (sz a : TypeTree → ℕ) (by : ℕ) (f : TypeTree → ℕ → List Leaf) → ((t : TypeTree) (at : ℕ) → f t (at + by) ≡ map (moved by) (f t at)) → (start at : ℕ) (ts : List TypeTree) →
    members_leaves sz a f (start + by) at ts ≡ map (moved by) (members_leaves sz a f start at ts)
members-moved sz a by f h start at [] = refl
members-moved sz a by f h start at (t ∷ ts) =
    let o = rounded_up at (a t) in
    let e : (start + by) + o ≡ (start + o) + by = omega arith in
    ap₂ (λ x y. x ++ y) (ap (f t) e ∙ h t (start + o)) (members-moved sz a by f h start (o + sz t) ts)
    ∙ sym (map-append (moved by) (f t (start + o)) (members_leaves sz a f start (o + sz t) ts))

either-moved : (by : ℕ) (test : Bool) (xs ys xs' ys' : List Leaf) → xs ≡ map (moved by) xs' → ys ≡ map (moved by) ys' → cond test xs ys ≡ map (moved by) (cond test xs' ys')
either-moved by true xs ys xs' ys' h k = h
either-moved by false xs ys xs' ys' h k = k

struct-moved : (by : ℕ) (defs : Definitions) (k at : ℕ) → struct_leaves defs k (at + by) ≡ map (moved by) (struct_leaves defs k at)
struct-moved by [] k at = refl
struct-moved by (d ∷ ds) k at =
    either-moved by (d.tag == k) _ _ _ _
    (members-moved (size ds) (align ds) by (leaves_at ds) (type-moved (size ds) by (struct_leaves ds) (struct-moved by ds)) at 0 d.members)
    (struct-moved by ds k at)

pub leaves-moved : (by : ℕ) (defs : Definitions) (t : TypeTree) (at : ℕ) → leaves_at defs t (at + by) ≡ map (moved by) (leaves_at defs t at)
leaves-moved by defs t at = type-moved (size defs) by (struct_leaves defs) (struct-moved by defs) t at

-- ---- how far leaves reach

abbrev pub AreBelow : (high : ℕ) → List Leaf → Type 0
AreBelow high [] = Unit {0}
AreBelow high (l ∷ ls) = (l.offset ≤ high) × AreBelow high ls

further : (m n : ℕ) (ls : List Leaf) → m ≤ n → AreBelow m ls → AreBelow n ls
further m n [] h b = tt
further m n (l ∷ ls) h b = (let x = b.0 in omega (arith, x, h), further m n ls h b.1)

joined : (n : ℕ) (xs ys : List Leaf) → AreBelow n xs → AreBelow n ys → AreBelow n (xs ++ ys)
joined n [] ys h k = k
joined n (x ∷ xs) ys h k = (h.0, joined n xs ys h.1 k)

repeated-below : (s : ℕ) (f : ℕ → List Leaf) → ((at : ℕ) → AreBelow (at + s) (f at)) → (n at : ℕ) → AreBelow (at + n * s) (repeated n s at f)
repeated-below s f h zero at = tt
repeated-below s f h (suc n) at =
    let m = suc-mul n s in
    joined (at + suc n * s) (f at) (repeated n s (at + s) f)
    (further (at + s) (at + suc n * s) (f at) (omega (arith, m)) (h at))
    (further ((at + s) + n * s) (at + suc n * s) (repeated n s (at + s) f) (omega (arith, m)) (repeated-below s f h n (at + s)))

type-below : (ss : ℕ → ℕ) (sl : ℕ → ℕ → List Leaf) → ((k at : ℕ) → AreBelow (at + ss k) (sl k at)) → (t : TypeTree) (at : ℕ) → AreBelow (at + size_by ss t) (leaves_by (size_by ss) sl t at)
type-below ss sl h void_type at = tt
type-below ss sl h (scalar_type s) at = (omega arith, tt)
type-below ss sl h (pointer_to t) at = (omega arith, tt)
type-below ss sl h (array_of t n) at = repeated-below (size_by ss t) (leaves_by (size_by ss) sl t) (type-below ss sl h t) n at
type-below ss sl h (struct_type k) at = h k at

members-below : (ds : Definitions) → ((t : TypeTree) (at : ℕ) → AreBelow (at + size ds t) (leaves_at ds t at)) → (start at : ℕ) (ts : List TypeTree) →
    AreBelow (start + members_end (size ds) (align ds) at ts) (members_leaves (size ds) (align ds) (leaves_at ds) start at ts)
members-below ds h start at [] = tt
members-below ds h start at (t ∷ ts) =
    let o = rounded_up at (align ds t) in
    let g = end-grows (size ds) (align ds) (λ x. (align-between ds x).0) (o + size ds t) ts in
    joined (start + members_end (size ds) (align ds) at (t ∷ ts)) (leaves_at ds t (start + o)) (members_leaves (size ds) (align ds) (leaves_at ds) start (o + size ds t) ts)
    (further (start + o + size ds t) (start + members_end (size ds) (align ds) at (t ∷ ts)) (leaves_at ds t (start + o)) (omega (arith, g)) (h t (start + o)))
    (members-below ds h start (o + size ds t) ts)

either-below : (test : Bool) (m n : ℕ) (xs ys : List Leaf) (at : ℕ) → AreBelow (at + m) xs → AreBelow (at + n) ys → AreBelow (at + cond test m n) (cond test xs ys)
either-below true m n xs ys at h k = h
either-below false m n xs ys at h k = k

struct-below : (defs : Definitions) (k at : ℕ) → AreBelow (at + struct_size defs k) (struct_leaves defs k at)
struct-below [] k at = tt
struct-below (d ∷ ds) k at =
    let e = members_end (size ds) (align ds) 0 d.members in
    let r = round-lower e (largest (align ds) d.members) (members-between ds d.members).0 in
    either-below (d.tag == k) (rounded_up e (largest (align ds) d.members)) (struct_size ds k) (members_leaves (size ds) (align ds) (leaves_at ds) at 0 d.members) (struct_leaves ds k at) at
    (further (at + e) (at + rounded_up e (largest (align ds) d.members)) (members_leaves (size ds) (align ds) (leaves_at ds) at 0 d.members) (omega (arith, r))
    (members-below ds (type-below (struct_size ds) (struct_leaves ds) (struct-below ds)) at 0 d.members))
    (struct-below ds k at)

can-move : (by n : ℕ) (ls : List Leaf) → n + by < 2 ^ 32 → AreBelow n ls → CanMove by ls
can-move by n [] h b = tt
can-move by n (l ∷ ls) h b = (let x = b.0 in omega (arith, x, h), can-move by n ls h b.1)

pub leaves-can-move : (by : ℕ) (defs : Definitions) (t : TypeTree) (at : ℕ) → at + size defs t + by < 2 ^ 32 → CanMove by (leaves_at defs t at)
leaves-can-move by defs t at h =
    can-move by (at + size defs t) (leaves_at defs t at) h (type-below (struct_size defs) (struct_leaves defs) (struct-below defs) t at)

-- ---- the last leaves, again

pub drop-front : (xs ys : List Leaf) → drop (length xs) (xs ++ ys) ≡ ys
drop-front [] ys = refl
drop-front (x ∷ xs) ys = drop-front xs ys

pub length-moved : (by : ℕ) (xs : List Leaf) → length (map (moved by) xs) ≡ length xs
length-moved by [] = refl
length-moved by (x ∷ xs) = ap suc (length-moved by xs)

pub again-last : (out new prev : List Leaf) (count by : ℕ) → count ≤ length out → drop (length out - count) out ≡ prev → new ≡ out ++ map (moved by) prev →
    (count ≤ length new) × (drop (length new - count) new ≡ map (moved by) prev)
again-last out new prev count by room last is =
    let n = ap length last in
    let d = length-drop (length out - count) out in
    let m = length-moved by prev in
    let a = length-append out (map (moved by) prev) in
    let w = ap length is in
    let e : length new - count ≡ length out = omega (arith, n, d, m, a, w) in
    (omega (arith, a, w), ap (λ k. drop k new) e ∙ ap (drop (length out)) is ∙ drop-front out (map (moved by) prev))

-- ---- one more element

index-step : (at s i : ℕ) → 0 < i → (at + (i - 1) * s) + s ≡ at + i * s
index-step at s zero h = absurd (omega arith)
index-step at s (suc j) h =
    let m = suc-mul j s in
    let e : suc j - 1 ≡ j = omega arith in
    ap (λ k. (at + k * s) + s) e ∙ omega (arith, m)

pub next-element : (defs : Definitions) (t : TypeTree) (at s i : ℕ) → 0 < i → leaves_at defs t (at + i * s) ≡ map (moved s) (leaves_at defs t (at + (i - 1) * s))
next-element defs t at s i h = ap (leaves_at defs t) (sym (index-step at s i h)) ∙ leaves-moved s defs t (at + (i - 1) * s)

pub room-again : (at n s z i : ℕ) → s ≡ z → at + n * z ≤ most_type_bytes → 0 < i → i < n → (at + (i - 1) * s) + z + s < 2 ^ 32
room-again at n s z i e room h k =
    let w = within-elements i n z k in
    let x = index-step at s i h in
    let y : i * s ≡ i * z = ap (λ v. i * v) e in
    omega (arith, w, x, y, e, room)
