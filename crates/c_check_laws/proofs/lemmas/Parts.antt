-- The elements of an array and the members of a struct stand in it in order.
use Rattle.std.proofs.Common.{◌≡◌, ◌≤◌, ◌<◌, inl, inr, ℕ, ◌+◌, ◌*◌, zero, suc, Bool, true, false, cond, List, [], ◌∷◌, ◌++◌, length, refl, sym, ap, subst, arith, suc-mul}
use Rattle.std.specs.Prelude.{◌==◌, not, nat_lt, slice_get, None, Some, if◌then◌else◌}
use Rattle.std.proofs.lemmas.Bool.{and_parts}
use Rattle.std.proofs.lemmas.Bool.Decides.{nat_tests}
use Rattle.val_core.specs.declared.leaf.Leaf.{Leaf}
use Rattle.c_type.specs.Trees.{TypeTree, array_of, struct_type}
use Rattle.c_type.specs.Layout.{Definitions, is_complete, rounded_up, align, size, offset, offset_from, leaves_at, struct_leaves, members_leaves, repeated, members}
use Rattle.c_type.specs.LayoutLaws.{IsWidth, AlignmentIsWidth, MemberIsWithin}
use Rattle.c_type.specs.WellDefined.{AreDefinitions}
use Rattle.c_typed.specs.WellTyped.{HasLeaf}
use Rattle.c_check_def.specs.State.{MaybeType}
use Rattle.c_check_def.specs.Initialisers.{part_type, part_offset, parts_of}
use Rattle.c_check_laws.proofs.lemmas.Definitions.{leaves_later, size_later, member_laid, laid_at}
use Rattle.c_type.proofs.lemmas.Bounds.{round-lower}

-- what the layouts of types keep to
pub record Layouts : Type 0 where
  pub widths : AlignmentIsWidth
  pub members : MemberIsWithin

-- ---- leaves of parts

leaf_left : (ls ms : List Leaf) (o w : ℕ) → HasLeaf ls o w → HasLeaf (ls ++ ms) o w
leaf_left [] ms o w h = absurd h
leaf_left (l ∷ ls) ms o w (inl h) = inl h
leaf_left (l ∷ ls) ms o w (inr h) = inr (leaf_left ls ms o w h)

leaf_right : (ls ms : List Leaf) (o w : ℕ) → HasLeaf ms o w → HasLeaf (ls ++ ms) o w
leaf_right [] ms o w h = h
leaf_right (l ∷ ls) ms o w h = inr (leaf_right ls ms o w h)

element_leaf : (f : ℕ → List Leaf) (n stride at i o w : ℕ) → i < n → HasLeaf (f (at + i * stride)) o w → HasLeaf (repeated n stride at f) o w
element_leaf f zero stride at i o w below h = absurd (omega (arith, below))
element_leaf f (suc n) stride at zero o w below h =
    let same : at + 0 * stride ≡ at = omega arith in
    leaf_left (f at) (repeated n stride (at + stride) f) o w (subst (λ a. HasLeaf (f a) o w) same h)
element_leaf f (suc n) stride at (suc i) o w below h =
    let same : at + suc i * stride ≡ at + stride + i * stride = let e = suc-mul i stride in omega (arith, e) in
    leaf_right (f at) (repeated n stride (at + stride) f) o w (element_leaf f n stride (at + stride) i o w (omega (arith, below)) (subst (λ a. HasLeaf (f a) o w) same h))

member_leaf : (s a : TypeTree → ℕ) (l : TypeTree → ℕ → List Leaf) (start at : ℕ) (ts : List TypeTree) (i : ℕ) (t : TypeTree) (o w : ℕ) → slice_get ts i ≡ Some t →
    HasLeaf (l t (start + offset_from s a at ts i)) o w → HasLeaf (members_leaves s a l start at ts) o w
member_leaf s a l start at [] i t o w e h = absurd (cc)
member_leaf s a l start at (u ∷ ts) zero t o w e h =
    let same : t ≡ u = cc in
    leaf_left (l u (start + rounded_up at (a u))) (members_leaves s a l start (rounded_up at (a u) + s u) ts) o w (subst (λ t. HasLeaf (l t (start + rounded_up at (a u))) o w) same h)
member_leaf s a l start at (u ∷ ts) (suc i) t o w e h =
    leaf_right (l u (start + rounded_up at (a u))) (members_leaves s a l start (rounded_up at (a u) + s u) ts) o w (member_leaf s a l start (rounded_up at (a u) + s u) ts i t o w e h)

struct_leaf : (defs : Definitions) → AreDefinitions defs → (tag at i : ℕ) (t : TypeTree) (o w : ℕ) → slice_get (members defs tag) i ≡ Some t →
    HasLeaf (leaves_at defs t (at + offset defs tag i)) o w → HasLeaf (struct_leaves defs tag at) o w
struct_leaf [] good tag at i t o w e h = absurd (cc)
struct_leaf (d ∷ ds) good tag at i t o w e h = by_test (d.tag == tag) e h (struct_leaf ds good.1 tag at i t o w)
  where
    before : (n : ℕ) → is_complete ds t ≡ true → HasLeaf (leaves_at (d ∷ ds) t n) o w → HasLeaf (leaves_at ds t n) o w
    before n c q = subst (λ f. HasLeaf (f n) o w) (leaves_later d ds good.0.new t c) q

    by_test : (b : Bool) → slice_get (cond b d.members (members ds tag)) i ≡ Some t →
        HasLeaf (leaves_at (d ∷ ds) t (at + cond b (offset_from (size ds) (align ds) 0 d.members i) (offset ds tag i))) o w →
        (slice_get (members ds tag) i ≡ Some t → HasLeaf (leaves_at ds t (at + offset ds tag i)) o w → HasLeaf (struct_leaves ds tag at) o w) →
        HasLeaf (cond b (members_leaves (size ds) (align ds) (leaves_at ds) at 0 d.members) (struct_leaves ds tag at)) o w
    by_test true q r k =
        member_leaf (size ds) (align ds) (leaves_at ds) at 0 d.members i t o w q
        (before (at + offset_from (size ds) (align ds) 0 d.members i) (laid_at ds d.members i t good.0.laid_out q).complete r)
    by_test false q r k = k q (before (at + offset ds tag i) (member_laid ds good.1 tag i t q).complete r)

-- the leaves of a part are leaves of the whole
pub part_leaf : (defs : Definitions) → AreDefinitions defs → (u : TypeTree) (at i : ℕ) (t : TypeTree) (o w : ℕ) → part_type defs u i ≡ Some t →
    HasLeaf (leaves_at defs t (at + part_offset defs u i)) o w → HasLeaf (leaves_at defs u at) o w
part_leaf defs good (array_of v n) at i t o w e h = by_test (nat_lt i n) refl e
  where
    by_test : (b : Bool) → nat_lt i n ≡ b → (if b then Some v else None) ≡ Some t → HasLeaf (leaves_at defs (array_of v n) at) o w
    by_test true below q =
        let same : t ≡ v = cc in
        element_leaf (leaves_at defs v) n (size defs v) at i o w (grind (arith, nat_tests, below)) (subst (λ t. HasLeaf (leaves_at defs t (at + i * size defs v)) o w) same h)
    by_test false below q = absurd (cc)
part_leaf defs good (struct_type tag) at i t o w e h = struct_leaf defs good tag at i t o w e h
part_leaf defs good u at i t o w e h = absurd (cc)

-- ---- order of parts

-- how many bytes a part has
abbrev pub part_size : Definitions → MaybeType → ℕ
part_size defs None = 0
part_size defs (Some t) = size defs t

-- where the first parts end
abbrev pub parts_end : Definitions → TypeTree → (count : ℕ) → ℕ
parts_end defs u zero = 0
parts_end defs u (suc i) = part_offset defs u i + part_size defs (part_type defs u i)

get_within : {A : Type 0} → (xs : List A) (i : ℕ) → i < length xs → (x : A) × (slice_get xs i ≡ Some x)
get_within [] i h = absurd (omega (arith, h))
get_within (x ∷ xs) zero h = (x, refl)
get_within (x ∷ xs) (suc i) h = get_within xs i (omega (arith, h))

-- a part that there is
pub record PartAt (defs : Definitions) (u : TypeTree) (i : ℕ) : Type 0 where
  pub type : TypeTree
  pub there : part_type defs u i ≡ Some type
  pub complete : is_complete defs type ≡ true

pub part_at_index : (defs : Definitions) → AreDefinitions defs → (u : TypeTree) (n i : ℕ) → is_complete defs u ≡ true → parts_of defs u ≡ Some n → i < n → PartAt defs u i
part_at_index defs good (array_of t m) n i c e below =
    let same : m ≡ n = cc in
    let test : nat_lt i m ≡ true = grind (arith, nat_tests, same, below) in
    record { type = t; there = ap (λ b. if b then Some t else None) test; complete = (and_parts (not (m == 0)) (is_complete defs t) c).1 }
part_at_index defs good (struct_type tag) n i c e below =
    let same : length (members defs tag) ≡ n = cc in
    let r = get_within (members defs tag) i (subst (λ n. i < n) (sym same) below) in
    record { type = r.0; there = r.1; complete = (member_laid defs good tag i r.0 r.1).complete }
part_at_index defs good u n i c e below = absurd (cc)

width_positive : (n : ℕ) → IsWidth n → 0 < n
width_positive n (inl e) = omega (arith, e)
width_positive n (inr (inl e)) = omega (arith, e)
width_positive n (inr (inr e)) = omega (arith, e)

offsets_rise : (s a : TypeTree → ℕ) → ((t : TypeTree) → 0 < a t) → (at : ℕ) (ts : List TypeTree) (i : ℕ) (t : TypeTree) → slice_get ts i ≡ Some t → suc i < length ts →
    offset_from s a at ts i + s t ≤ offset_from s a at ts (suc i)
offsets_rise s a h at [] i t e below = absurd (cc)
offsets_rise s a h at (u ∷ []) zero t e below = absurd (omega (arith, below))
offsets_rise s a h at (u ∷ v ∷ ts) zero t e below =
    let same : u ≡ t = cc in
    let r = round-lower (rounded_up at (a u) + s u) (a v) (h v) in
    subst (λ t. rounded_up at (a u) + s t ≤ rounded_up (rounded_up at (a u) + s u) (a v)) same r
offsets_rise s a h at (u ∷ ts) (suc i) t e below = offsets_rise s a h (rounded_up at (a u) + s u) ts i t e (omega (arith, below))

members_rise : (defs : Definitions) → AreDefinitions defs → AlignmentIsWidth → (tag i : ℕ) (t : TypeTree) → slice_get (members defs tag) i ≡ Some t → suc i < length (members defs tag) →
    offset defs tag i + size defs t ≤ offset defs tag (suc i)
members_rise [] good law tag i t e below = absurd (cc)
members_rise (d ∷ ds) good law tag i t e below = by_test (d.tag == tag) e below (members_rise ds good.1 law tag i t)
  where
    by_test : (b : Bool) → slice_get (cond b d.members (members ds tag)) i ≡ Some t → suc i < length (cond b d.members (members ds tag)) →
        (slice_get (members ds tag) i ≡ Some t → suc i < length (members ds tag) → offset ds tag i + size ds t ≤ offset ds tag (suc i)) →
        cond b (offset_from (size ds) (align ds) 0 d.members i) (offset ds tag i) + size (d ∷ ds) t ≤ cond b (offset_from (size ds) (align ds) 0 d.members (suc i)) (offset ds tag (suc i))
    by_test true q r k =
        subst (λ n. offset_from (size ds) (align ds) 0 d.members i + n ≤ offset_from (size ds) (align ds) 0 d.members (suc i))
        (sym (size_later d ds good.0.new t (laid_at ds d.members i t good.0.laid_out q).complete))
        (offsets_rise (size ds) (align ds) (λ u. width_positive (align ds u) (law ds u)) 0 d.members i t q r)
    by_test false q r k =
        subst (λ n. offset ds tag i + n ≤ offset ds tag (suc i)) (sym (size_later d ds good.0.new t (member_laid ds good.1 tag i t q).complete)) (k q r)

-- a part begins where the earlier ones end, or after that
pub parts_rise : (defs : Definitions) → AreDefinitions defs → AlignmentIsWidth → (u : TypeTree) (n i : ℕ) → parts_of defs u ≡ Some n → i < n → parts_end defs u i ≤ part_offset defs u i
parts_rise defs good law u n zero e below = omega arith
parts_rise defs good law (array_of t m) n (suc i) e below =
    let same : m ≡ n = cc in
    let test : nat_lt i m ≡ true = grind (arith, nat_tests, same, below) in
    let whole : part_size defs (if nat_lt i m then Some t else None) ≡ size defs t = ap (λ b. part_size defs (if b then Some t else None)) test in
    let next = suc-mul i (size defs t) in
    subst (λ k. i * size defs t + k ≤ suc i * size defs t) (sym whole) (omega (arith, next))
parts_rise defs good law (struct_type tag) n (suc i) e below =
    let same : length (members defs tag) ≡ n = cc in
    let r = get_within (members defs tag) i (omega (arith, same, below)) in
    subst (λ o. offset defs tag i + part_size defs o ≤ offset defs tag (suc i)) (sym r.1) (members_rise defs good law tag i r.0 r.1 (subst (λ n. suc i < n) (sym same) below))
parts_rise defs good law u n (suc i) e below = absurd (cc)

-- the parts end within the whole
pub parts_within : (defs : Definitions) → AreDefinitions defs → MemberIsWithin → (u : TypeTree) (n i : ℕ) → is_complete defs u ≡ true → parts_of defs u ≡ Some n → i ≤ n →
    parts_end defs u i ≤ size defs u
parts_within defs good law u n zero c e below = omega arith
parts_within defs good law (array_of t m) n (suc i) c e below =
    let same : m ≡ n = cc in
    let test : nat_lt i m ≡ true = grind (arith, nat_tests, same, below) in
    let whole : part_size defs (if nat_lt i m then Some t else None) ≡ size defs t = ap (λ b. part_size defs (if b then Some t else None)) test in
    subst (λ k. i * size defs t + k ≤ m * size defs t) (sym whole) (up_to i m (size defs t) (omega (arith, same, below)))
  where
    up_to : (i m s : ℕ) → suc i ≤ m → i * s + s ≤ m * s
    up_to i zero s h = absurd (omega (arith, h))
    up_to zero (suc m) s h = let e = suc-mul m s in omega (arith, e)
    up_to (suc i) (suc m) s h = let e = suc-mul m s in let f = suc-mul i s in let k = up_to i m s (omega (arith, h)) in omega (arith, e, f, k)
parts_within defs good law (struct_type tag) n (suc i) c e below =
    let same : length (members defs tag) ≡ n = cc in
    let r = get_within (members defs tag) i (omega (arith, same, below)) in
    subst (λ o. offset defs tag i + part_size defs o ≤ size defs (struct_type tag)) (sym r.1) (law defs good tag i r.0 c r.1).1
parts_within defs good law u n (suc i) c e below = absurd (cc)
