-- Normal types, and structs by the normal types of their members.
use Rattle.std.proofs.Common.{◌≡◌, ℕ, zero, suc, ◌+◌, ◌-◌, ◌*◌, ◌/◌, ◌<◌, ◌≤◌, ◌==◌, ◌&&◌, not, max, true, List, [], ◌∷◌, ◌++◌, length, get_or, Result, Ok, Err, refl, sym, ap, ap₂, ◌∙◌, subst, arith, inl, inr, append-nil, suc-mul, mul-le-mul_right}
use Rattle.std.proofs.lemmas.Bool.{and_parts, cases_eq, cases_order, ne_eqb, eq-eqb}
use Rattle.std.specs.Prelude.{IfOk}
use Rattle.base.specs.declared.no_memory.NoMemory.{NoMemory}
use Rattle.base.specs.Limits.{most_type_bytes}
use Rattle.val_core.specs.declared.leaf.Leaf.{Leaf}
use Rattle.c_type.specs.Trees.{TypeTree, array_of, struct_type}
use Rattle.c_type.specs.declared.structs.Struct.{Struct}
use Rattle.c_type.specs.Layout.{Definitions, is_complete, rounded_up, align, size, largest, members, members_end, leaves_at, repeated, members_leaves}
use Rattle.c_type.specs.LayoutLaws.{IsMultiple}
use Rattle.c_type.specs.WellDefined.{AreDefinitions, AreLaidOut}
use Rattle.c_type.specs.Normal.{IsNormalOf, AreNormalOf}
use Rattle.c_type.specs.Level.{IsLevel}
use Rattle.c_type.specs.Kept.{IsFound}
use Rattle.c_type.specs.Pending.{leaf_count, type_work, members_work}
use Rattle.c_type.proofs.lemmas.Bounds.{align-between, round-lower, round-upper}
use Rattle.c_type.proofs.Order.{size-multiple}
use Rattle.c_type.proofs.Good.{good}
use Rattle.c_type.proofs.MemberLemmas.{StructParts, struct-parts}
use Rattle.c_type.proofs.WorkLemmas.{members_count, count-members, some-leaf, work-normal, work-other}

-- ---- rounding

multiple-least : (a q k : ℕ) → 0 < a → k * a ≤ q * a → q * a < k * a + a → q * a ≡ k * a
multiple-least a q k pos low high =
    elim (cases_order q k) [
      | inl same ↦ ap (λ x. x * a) same
      | inr (inl less) ↦
          let m : suc q * a ≤ k * a = mul-le-mul_right a (omega arith) in
          let e = suc-mul q a in
          absurd (omega (arith, m, e))
      | inr (inr more) ↦
          let m : suc k * a ≤ q * a = mul-le-mul_right a (omega arith) in
          let e = suc-mul k a in
          absurd (omega (arith, m, e))
    ]

round-multiple : (a n : ℕ) → 0 < a → IsMultiple a n → rounded_up n a ≡ n
round-multiple a n pos (k, e) =
    let low = round-lower n a pos in
    let high = round-upper n a pos in
    let q = (n + (a - 1)) / a in
    multiple-least a q k pos (omega (arith, low, e)) (omega (arith, high, e)) ∙ sym e

-- ---- each form

pub normal-one : (defs : Definitions) (t of u : TypeTree) (n : ℕ) → t ≡ array_of of n → n ≡ 1 → IsNormalOf defs of u → IsNormalOf defs t u
normal-one defs t of u n is one h =
    subst (λ x. IsNormalOf defs x u) (sym (is ∙ ap (array_of of) one)) (record {
      complete = h.complete;
      also_complete = h.also_complete;
      size_is = h.size_is ∙ single (size defs of);
      align_is = h.align_is;
      leaves_are = λ at. h.leaves_are at ∙ sym (append-nil (leaves_at defs of at));
      normal = h.normal;
    }) where
      single : (s : ℕ) → s ≡ 1 * s
      single s = omega arith

repeated-same : (n s at : ℕ) (f g : ℕ → List Leaf) → ((at : ℕ) → f at ≡ g at) → repeated n s at f ≡ repeated n s at g
repeated-same zero s at f g h = refl
repeated-same (suc n) s at f g h = ap₂ (λ x y. x ++ y) (h at) (repeated-same n s (at + s) f g h)

pub normal-array : (defs : Definitions) (t of u : TypeTree) (n : ℕ) → t ≡ array_of of n → (n ≡ 1 → ⊥) → is_complete defs t ≡ true → IsNormalOf defs of u → IsNormalOf defs t (array_of u n)
normal-array defs t of u n is more complete h =
    let whole : is_complete defs (array_of of n) ≡ true = ap (is_complete defs) (sym is) ∙ complete in
    let some = (and_parts (not (n == 0)) (is_complete defs of) whole).0 in
    subst (λ x. IsNormalOf defs x (array_of u n)) (sym is) (record {
      complete = whole;
      also_complete = ap₂ (λ x y. x && y) some h.also_complete;
      size_is = ap (λ s. n * s) h.size_is;
      align_is = h.align_is;
      leaves_are = λ at. ap (λ s. repeated n s at (leaves_at defs u)) h.size_is ∙ repeated-same n (size defs of) at (leaves_at defs u) (leaves_at defs of) h.leaves_are;
      normal = ap₂ (λ x y. not x && y) (ne_eqb n 1 more) h.normal;
    })

-- a struct of one member occupies what the member does
one-member : (defs : Definitions) (tag : ℕ) (m u : TypeTree) → AreDefinitions defs → IsLevel defs tag → is_complete defs (struct_type tag) ≡ true → members defs tag ≡ m ∷ [] →
    IsNormalOf defs m u → IsNormalOf defs (struct_type tag) u
one-member defs tag m u ordered level complete is h =
    let a = align defs m in
    let between = align-between defs m in
    let rounds = round-multiple a (size defs m) between.0 (size-multiple defs (good defs ordered) m h.complete) in
    let first = round-multiple a 0 between.0 (0, omega arith) in
    let al : max a 1 ≡ a = omega (arith, between.0) in
    let starts : rounded_up 0 a + size defs m ≡ size defs m = omega (arith, first) in
    record {
      complete = complete;
      also_complete = h.also_complete;
      size_is = h.size_is ∙ sym (level.bytes_is ∙ ap (λ ms. rounded_up (members_end (size defs) (align defs) 0 ms) (largest (align defs) ms)) is ∙ ap₂ (λ x y. rounded_up x y) starts al ∙ rounds);
      align_is = h.align_is ∙ sym (level.alignment_is ∙ ap (largest (align defs)) is ∙ al);
      leaves_are = λ at.
          let there : at + rounded_up 0 a ≡ at = omega (arith, first) in
          h.leaves_are at ∙ sym (level.leaves_are at ∙ ap (members_leaves (size defs) (align defs) (leaves_at defs) at 0) is ∙ append-nil (leaves_at defs m (at + rounded_up 0 a))
          ∙ ap (leaves_at defs m) there);
      normal = h.normal;
    }

lengths : (defs : Definitions) (ts us : List TypeTree) → AreNormalOf defs ts us → length us ≡ length ts
lengths defs [] [] h = refl
lengths defs (t ∷ ts) (u ∷ us) h = ap suc (lengths defs ts us h.1)
lengths defs [] (u ∷ us) h = absurd h
lengths defs (t ∷ ts) [] h = absurd h

-- the members of a struct that was found
pub found-members : (defs : Definitions) (tag : ℕ) (s : Struct) → IsFound defs tag s → members defs tag ≡ s.members.items
found-members defs tag s f = ap (members defs) (sym f.tagged) ∙ f.kept.members

pub normal-single : (defs : Definitions) (t : TypeTree) (tag : ℕ) (s : Struct) (u : TypeTree) → t ≡ struct_type tag → IsFound defs tag s → s.parts.items ≡ u ∷ [] → IsNormalOf defs t u
normal-single defs t tag s u is found one =
    subst (λ x. IsNormalOf defs x u) (sym is) (by_members s.members.items (found-members defs tag s found) (subst (AreNormalOf defs s.members.items) one found.kept.normal))
  where
    by_members : (ms : List TypeTree) → members defs tag ≡ ms → AreNormalOf defs ms (u ∷ []) → IsNormalOf defs (struct_type tag) u
    by_members [] e h = absurd h
    by_members (m ∷ []) e h = one-member defs tag m u found.ordered found.level found.defined e h.0
    by_members (m ∷ k ∷ ms) e h = absurd h.1

pub normal-struct : (defs : Definitions) (t : TypeTree) (tag : ℕ) (s : Struct) → t ≡ struct_type tag → IsFound defs tag s → (length s.parts.items ≡ 1 → ⊥) → IsNormalOf defs t (struct_type tag)
normal-struct defs t tag s is found more =
    let same = lengths defs s.members.items s.parts.items found.kept.normal in
    let len = ap length (found-members defs tag s found) in
    subst (λ x. IsNormalOf defs x (struct_type tag)) (sym is) (record {
      complete = found.defined;
      also_complete = found.defined;
      size_is = refl;
      align_is = refl;
      leaves_are = λ at. refl;
      normal = ap not (ne_eqb (length (members defs tag)) 1 (λ e. more (same ∙ sym len ∙ e)));
    })

-- ---- several of them

pub one-more-normal : (defs : Definitions) (ts us : List TypeTree) (t u : TypeTree) → AreNormalOf defs ts us → IsNormalOf defs t u → AreNormalOf defs (ts ++ t ∷ []) (us ++ u ∷ [])
one-more-normal defs [] [] t u h k = (k, tt)
one-more-normal defs (x ∷ ts) (y ∷ us) t u h k = (h.0, one-more-normal defs ts us t u h.1 k)
one-more-normal defs [] (y ∷ us) t u h k = absurd h
one-more-normal defs (x ∷ ts) [] t u h k = absurd h

normal-end : (defs : Definitions) (at : ℕ) (ts us : List TypeTree) → AreNormalOf defs ts us → members_end (size defs) (align defs) at us ≡ members_end (size defs) (align defs) at ts
normal-end defs at [] [] h = refl
normal-end defs at (t ∷ ts) (u ∷ us) h =
    ap₂ (λ x y. members_end (size defs) (align defs) (rounded_up at y + x) us) h.0.size_is h.0.align_is ∙ normal-end defs (rounded_up at (align defs t) + size defs t) ts us h.1
normal-end defs at [] (u ∷ us) h = absurd h
normal-end defs at (t ∷ ts) [] h = absurd h

normal-leaves : (defs : Definitions) (start at : ℕ) (ts us : List TypeTree) → AreNormalOf defs ts us →
    members_leaves (size defs) (align defs) (leaves_at defs) start at us ≡ members_leaves (size defs) (align defs) (leaves_at defs) start at ts
normal-leaves defs start at [] [] h = refl
normal-leaves defs start at (t ∷ ts) (u ∷ us) h =
    ap₂ (λ x y. leaves_at defs u (start + rounded_up at y) ++ members_leaves (size defs) (align defs) (leaves_at defs) start (rounded_up at y + x) us) h.0.size_is h.0.align_is
    ∙ ap₂ (λ x y. x ++ y) (h.0.leaves_are (start + rounded_up at (align defs t))) (normal-leaves defs start (rounded_up at (align defs t) + size defs t) ts us h.1)
normal-leaves defs start at [] (u ∷ us) h = absurd h
normal-leaves defs start at (t ∷ ts) [] h = absurd h

normal-laid : (defs : Definitions) (ts us : List TypeTree) → AreNormalOf defs ts us → AreLaidOut defs ts → AreLaidOut defs us
normal-laid defs [] [] h laid = tt
normal-laid defs (t ∷ ts) (u ∷ us) h laid =
    (record { complete = h.0.also_complete; small = subst (λ n. n ≤ most_type_bytes) (sym h.0.size_is) laid.0.small }, normal-laid defs ts us h.1 laid.1)
normal-laid defs [] (u ∷ us) h laid = absurd h
normal-laid defs (t ∷ ts) [] h laid = absurd h

-- a struct that was found, by the normal types of its members
pub normal-parts : (defs : Definitions) (tag at : ℕ) (s : Struct) → IsFound defs tag s → at + size defs (struct_type tag) ≤ most_type_bytes → StructParts defs tag at s.parts.items
normal-parts defs tag at s found room =
    let own = struct-parts defs tag at s found room in
    let h = found.kept.normal in
    record {
      laid_out = normal-laid defs s.members.items s.parts.items h own.laid_out;
      room = subst (λ n. at + n ≤ most_type_bytes) (sym (normal-end defs 0 s.members.items s.parts.items h)) own.room;
      leaves = own.leaves ∙ sym (normal-leaves defs at 0 s.members.items s.parts.items h);
    }

-- ---- the work of a struct

parts-work : (defs : Definitions) (ts us : List TypeTree) → AreDefinitions defs → AreNormalOf defs ts us → members_work defs us + 3 * length us ≡ 6 * members_count defs us + 1
parts-work defs [] [] w h = refl
parts-work defs (t ∷ ts) (u ∷ us) w h =
    sums (type_work defs u) (leaf_count defs u) (members_work defs us) (members_count defs us) (length us) (work-normal defs u h.0.normal) (some-leaf defs w u h.0.also_complete)
    (parts-work defs ts us w h.1)
  where
    sums : (t c m k len : ℕ) → t ≡ 6 * c - 4 → 0 < c → m + 3 * len ≡ 6 * k + 1 → t + 1 + m + 3 * suc len ≡ 6 * (c + k) + 1
    sums t c m k len e some ih = omega arith
parts-work defs [] (u ∷ us) w h = absurd h
parts-work defs (t ∷ ts) [] w h = absurd h

pub struct-work : (defs : Definitions) (tag : ℕ) (s : Struct) → IsFound defs tag s → 1 + members_work defs s.parts.items ≤ type_work defs (struct_type tag)
struct-work defs tag s found =
    let ms = s.members.items in
    let us = s.parts.items in
    let h = found.kept.normal in
    let same = lengths defs ms us h in
    let mem = found-members defs tag s found in
    let len : length (members defs tag) ≡ length us = ap length mem ∙ sym same in
    let count : leaf_count defs (struct_type tag) ≡ members_count defs us =
    ap length (found.level.leaves_are 0 ∙ ap (members_leaves (size defs) (align defs) (leaves_at defs) 0 0) mem ∙ sym (normal-leaves defs 0 0 ms us h)) ∙ count-members defs 0 0 us in
    let parts = parts-work defs ms us found.ordered h in
    let some : 0 < length us = omega (arith, found.level.some, len) in
    elim (cases_eq (length us) 1) [
      | inl one ↦
          let w = work-other defs (struct_type tag) (ap not (eq-eqb (length (members defs tag)) 1 (len ∙ one))) in
          one_sum (members_work defs us) (members_count defs us) (length us) (leaf_count defs (struct_type tag)) (type_work defs (struct_type tag)) parts count one w
      | inr more ↦
          let w = work-normal defs (struct_type tag) (ap not (ne_eqb (length (members defs tag)) 1 (λ e. more (sym len ∙ e)))) in
          more_sum (members_work defs us) (members_count defs us) (length us) (leaf_count defs (struct_type tag)) (type_work defs (struct_type tag)) parts count some more w
    ]
  where
    one_sum : (m k len c w : ℕ) → m + 3 * len ≡ 6 * k + 1 → c ≡ k → len ≡ 1 → w ≡ 6 * c + 3 * 0 → 1 + m ≤ w
    one_sum m k len c w e f one is = omega arith

    more_sum : (m k len c w : ℕ) → m + 3 * len ≡ 6 * k + 1 → c ≡ k → 0 < len → (len ≡ 1 → ⊥) → w ≡ 6 * c - 4 → 1 + m ≤ w
    more_sum m k len c w e f some more is = by_len len e some more
      where
        by_len : (len : ℕ) → m + 3 * len ≡ 6 * k + 1 → 0 < len → (len ≡ 1 → ⊥) → 1 + m ≤ w
        by_len zero e some more = absurd (omega arith)
        by_len (suc zero) e some more = absurd (more refl)
        by_len (suc (suc n)) e some more = omega arith

-- ---- what a copy gives

pub copied : (defs : Definitions) (t u : TypeTree) (r : Result TypeTree NoMemory) → IfOk r (λ x. x ≡ u) → IsNormalOf defs t u → IfOk r (λ x. IsNormalOf defs t x)
copied defs t u (Ok x) e h = subst (λ y. IsNormalOf defs t y) (sym e) h
copied defs t u (Err e) k h = tt

pub only-one : (xs : List TypeTree) (x : TypeTree) → 1 ≤ length xs → length xs < 2 → x ≡ get_or xs 0 x → xs ≡ x ∷ []
only-one [] x low high is = absurd (omega arith)
only-one (y ∷ []) x low high is = ap (λ z. z ∷ []) (sym is)
only-one (y ∷ z ∷ ys) x low high is = absurd (omega arith)

pub array-made : (defs : Definitions) (t of u : TypeTree) (n : ℕ) (r : Result TypeTree NoMemory) → t ≡ array_of of n → is_complete defs t ≡ true → IsNormalOf defs of u →
    IfOk r (λ x. n ≡ 1 → x ≡ u) → IfOk r (λ x. (n ≡ 1 → ⊥) → x ≡ array_of u n) → IfOk r (λ x. IsNormalOf defs t x)
array-made defs t of u n (Ok x) is complete h one more =
    elim (cases_eq n 1) [
      | inl single ↦ subst (λ y. IsNormalOf defs t y) (sym (one single)) (normal-one defs t of u n is single h)
      | inr several ↦ subst (λ y. IsNormalOf defs t y) (sym (more several)) (normal-array defs t of u n is several complete h)
    ]
array-made defs t of u n (Err e) is complete h one more = tt
