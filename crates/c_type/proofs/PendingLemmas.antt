-- Steps of a listing.
use Rattle.std.proofs.Common.{◌≡◌, ℕ, zero, suc, ◌+◌, ◌-◌, ◌*◌, ◌<◌, ◌≤◌, false, true, List, [], ◌∷◌, ◌++◌, length, drop, refl, sym, ap, ◌∙◌, subst, arith, length-append, append_assoc, add_assoc, add-zero, zero-add, suc-mul, Bor}
use Rattle.val_core.specs.declared.leaf.Leaf.{Leaf}
use Rattle.base.specs.Limits.{most_type_bytes}
use Rattle.c_type.specs.Trees.{TypeTree, void_type, scalar_type, pointer_to, array_of, struct_type}
use Rattle.c_type.specs.Layout.{Definitions, is_defined, scalar_size, rounded_up, align, size, members_end, members_leaves, leaves_at, repeated, IsLaidOut}
use Rattle.c_type.specs.WellDefined.{AreLaidOut, AreDefinitions, MemberFits}
use Rattle.c_type.specs.Pending.{listed, all_listed, CanList, CanListAll, leaf_count, type_work, members_work, work, all_work, CanGoOn, HasGoneOn}
use Rattle.c_type.specs.Kept.{IsFound}
use Rattle.c_type.specs.declared.scalar.Scalar.{Scalar}
use Rattle.c_type.specs.declared.structs.Struct.{Struct}
use Rattle.c_type.specs.declared.listing.Pending.{Pending}
use Rattle.c_type.specs.declared.listing.Pending.TheVariants.{Whole, Members, Elements}
use Rattle.c_type.proofs.MemberLemmas.{fits-first}
use Rattle.c_type.proofs.WorkLemmas.{count-repeated, array-work}
use Rattle.c_type.proofs.NormalLemmas.{normal-parts, struct-work}
use Rattle.c_type.proofs.MovedLemmas.{drop-front}
use Rattle.c_type.proofs.SizeLemmas.{element}

-- ---- the last is listed first

pub listed-snoc : (defs : Definitions) (ps : List Pending) (p : Pending) (out : List Leaf) → all_listed defs (ps ++ p ∷ []) out ≡ all_listed defs ps (listed defs p out)
listed-snoc defs [] p out = refl
listed-snoc defs (q ∷ ps) p out = ap (listed defs q) (listed-snoc defs ps p out)

pub work-snoc : (defs : Definitions) (ps : List Pending) (p : Pending) → all_work defs (ps ++ p ∷ []) ≡ all_work defs ps + work defs p
work-snoc defs [] p = add-zero (work defs p) ∙ sym (zero-add (work defs p))
work-snoc defs (q ∷ ps) p = ap (λ n. work defs q + n) (work-snoc defs ps p) ∙ sym (add_assoc (work defs q) (all_work defs ps) (work defs p))

pub can-snoc : (defs : Definitions) (ps : List Pending) (p : Pending) (out : List Leaf) → CanList defs p out → CanListAll defs ps (listed defs p out) → CanListAll defs (ps ++ p ∷ []) out
can-snoc defs [] p out h k = (h, tt)
can-snoc defs (q ∷ ps) p out h k =
    (subst (CanList defs q) (sym (listed-snoc defs ps p out)) k.0, can-snoc defs ps p out h k.1)

pub can-last : (defs : Definitions) (ps : List Pending) (p : Pending) (out : List Leaf) → AreDefinitions defs → CanListAll defs (ps ++ p ∷ []) out → CanGoOn defs p ps out
can-last defs [] p out ordered h = record { ordered = ordered; next_can = h.0; others_can = tt }
can-last defs (q ∷ ps) p out ordered h =
    let r = can-last defs ps p out ordered h.1 in
    record { ordered = ordered; next_can = r.next_can; others_can = (subst (CanList defs q) (listed-snoc defs ps p out) h.0, r.others_can) }

-- ---- nothing, one thing or two are left of what was next

pub gone : (defs : Definitions) (p : Pending) (others : List Pending) (out new : List Leaf) (n : ℕ) → new ≡ listed defs p out → length new ≡ length out + n → 1 + n ≤ work defs p →
    CanGoOn defs p others out →
    HasGoneOn defs p others others out new
gone defs p others out new n is more some h = record {
  same = ap (all_listed defs others) is;
  can = subst (CanListAll defs others) (sym is) h.others_can;
  grows = omega (arith, more);
  cost = goes-on (all_work defs others) (work defs p) (length out) (length new) n more some;
}
  where
    goes-on : (o w len after n : ℕ) → after ≡ len + n → 1 + n ≤ w → o + 1 + after ≤ o + w + len
    goes-on o w len after n e h = omega arith

one-left : (defs : Definitions) (p a : Pending) (others : List Pending) (out : List Leaf) → listed defs a out ≡ listed defs p out → CanList defs a out → 1 + work defs a ≤ work defs p →
    CanGoOn defs p others out →
    HasGoneOn defs p others (others ++ a ∷ []) out out
one-left defs p a others out is can less h = record {
  same = listed-snoc defs others a out ∙ ap (all_listed defs others) is;
  can = can-snoc defs others a out can (subst (CanListAll defs others) (sym is) h.others_can);
  grows = omega arith;
  cost = goes-on (all_work defs (others ++ a ∷ [])) (all_work defs others) (work defs a) (work defs p) (length out) (work-snoc defs others a) less;
}
  where
    goes-on : (all o a p len : ℕ) → all ≡ o + a → 1 + a ≤ p → all + 1 + len ≤ o + p + len
    goes-on all o a p len e h = omega arith

two-left : (defs : Definitions) (p a b : Pending) (others : List Pending) (out : List Leaf) → listed defs a (listed defs b out) ≡ listed defs p out → CanList defs b out →
    CanList defs a (listed defs b out) →
    1 + work defs a + work defs b ≤ work defs p → CanGoOn defs p others out → HasGoneOn defs p others ((others ++ a ∷ []) ++ b ∷ []) out out
two-left defs p a b others out is can_b can_a less h = record {
  same = listed-snoc defs (others ++ a ∷ []) b out ∙ listed-snoc defs others a (listed defs b out) ∙ ap (all_listed defs others) is;
  can = can-snoc defs (others ++ a ∷ []) b out can_b (can-snoc defs others a (listed defs b out) can_a (subst (CanListAll defs others) (sym is) h.others_can));
  grows = omega arith;
  cost = goes-on (all_work defs ((others ++ a ∷ []) ++ b ∷ [])) (all_work defs (others ++ a ∷ [])) (all_work defs others) (work defs a) (work defs b) (work defs p) (length out) (work-snoc defs
      (others ++ a ∷ []) b) (work-snoc defs others a) less;
}
  where
    goes-on : (all most o a b p len : ℕ) → all ≡ most + b → most ≡ o + a → 1 + a + b ≤ p → all + 1 + len ≤ o + p + len
    goes-on all most o a b p len e f h = omega arith

-- ---- a type by its form

pub gone_void : (defs : Definitions) (t : Bor TypeTree) (at : ℕ) (others : List Pending) (out : List Leaf) → t.now ≡ void_type → CanGoOn defs (Whole t at) others out →
    HasGoneOn defs (Whole t at) others others out out
gone_void defs t at others out is h =
    let laid = subst (IsLaidOut defs) is h.next_can.0 in
    absurd (none laid.complete) where
      none : false ≡ true → ⊥
      none e = cc

one-more : (out new : List Leaf) (l : Leaf) → new ≡ out ++ l ∷ [] → length new ≡ length out + 1
one-more out new l e = ap length e ∙ length-append out (l ∷ [])

pub gone_scalar : (defs : Definitions) (t : Bor TypeTree) (at : ℕ) (s : Scalar) (others : List Pending) (out new : List Leaf) → t.now ≡ scalar_type s →
    new ≡ out ++ (record { offset = at; width = scalar_size s }) ∷ [] →
    CanGoOn defs (Whole t at) others out → HasGoneOn defs (Whole t at) others others out new
gone_scalar defs t at s others out new is e h =
    let w : type_work defs t.now ≡ 2 = ap (type_work defs) is in
    gone defs (Whole t at) others out new 1 (e ∙ sym (ap (λ u. out ++ leaves_at defs u at) is)) (one-more out new _ e) (rw w (omega arith)) h

pub gone_pointer : (defs : Definitions) (t : Bor TypeTree) (at : ℕ) (u : TypeTree) (others : List Pending) (out new : List Leaf) → t.now ≡ pointer_to u →
    new ≡ out ++ (record { offset = at; width = 4 }) ∷ [] →
    CanGoOn defs (Whole t at) others out → HasGoneOn defs (Whole t at) others others out new
gone_pointer defs t at u others out new is e h =
    let w : type_work defs t.now ≡ 2 = ap (type_work defs) is in
    gone defs (Whole t at) others out new 1 (e ∙ sym (ap (λ v. out ++ leaves_at defs v at) is)) (one-more out new _ e) (rw w (omega arith)) h

repeated-first : (n s at : ℕ) (f : ℕ → List Leaf) → 0 < n → f at ++ repeated (n - 1) s (at + s) f ≡ repeated n s at f
repeated-first zero s at f h = absurd (omega arith)
repeated-first (suc n) s at f h = let e : suc n - 1 ≡ n = omega arith in ap (λ k. f at ++ repeated k s (at + s) f) e

complete-some : (defs : Definitions) (t : TypeTree) (n : ℕ) → IsLaidOut defs (array_of t n) → 0 < n
complete-some defs t zero h = absurd (none h.complete) where
  none : false ≡ true → ⊥
  none e = cc
complete-some defs t (suc n) h = omega arith

pub gone_array : (defs : Definitions) (t u v : Bor TypeTree) (n at first : ℕ) (others : List Pending) (out : List Leaf) → t.now ≡ array_of u.now n → v.now ≡ u.now → first ≡ length out →
    CanGoOn defs (Whole t at) others out →
    HasGoneOn defs (Whole t at) others ((others ++ Elements u n at first ∷ []) ++ Whole v at ∷ []) out out
gone_array defs t u v n at first others out is same_of front h =
    let s = size defs u.now in
    let f = leaves_at defs u.now in
    let laid = subst (IsLaidOut defs) is h.next_can.0 in
    let room : at + n * s ≤ most_type_bytes = subst (λ x. at + size defs x ≤ most_type_bytes) is h.next_can.1 in
    let some = complete-some defs u.now n laid in
    let el = element defs u.now n laid in
    let vl = ap (λ x. leaves_at defs x at) same_of in
    let one : s ≤ n * s = at-least n s some in
    let len = length-append out (leaves_at defs v.now at) in
    let st : type_work defs t.now ≡ type_work defs (array_of u.now n) = ap (type_work defs) is in
    let sv : type_work defs v.now ≡ type_work defs u.now = ap (type_work defs) same_of in
    let w = array-work defs u.now n h.ordered laid.complete in
    two-left defs (Whole t at) (Elements u n at first) (Whole v at) others out
    (append_assoc out (leaves_at defs v.now at) (repeated (n - 1) s (at + s) f)
    ∙ ap (λ x. out ++ (x ++ repeated (n - 1) s (at + s) f)) vl
    ∙ ap (λ x. out ++ x) (repeated-first n s at f some)
    ∙ sym (ap (λ x. out ++ leaves_at defs x at) is))
    (subst (IsLaidOut defs) (sym same_of) el, subst (λ x. at + size defs x ≤ most_type_bytes) (sym same_of) (omega (arith, room, one)))
    (record {
      laid_out = el;
      room = room;
      some = some;
      inside = omega (arith, len, front);
      element = ap (λ k. drop k (out ++ leaves_at defs v.now at)) front ∙ drop-front out (leaves_at defs v.now at) ∙ vl;
    })
    (rw (st, sv) w) h where
      at-least : (n s : ℕ) → 0 < n → s ≤ n * s
      at-least zero s h = absurd (omega arith)
      at-least (suc n) s h = let e = suc-mul n s in omega (arith, e)

pub gone_struct : (defs : Definitions) (t : Bor TypeTree) (tag at : ℕ) (s : Struct) (ms : Bor (List TypeTree)) (others : List Pending) (out : List Leaf) → t.now ≡ struct_type tag →
    IsFound defs tag s → ms.now ≡ s.parts.items → CanGoOn defs (Whole t at) others out →
    HasGoneOn defs (Whole t at) others (others ++ Members ms at 0 ∷ []) out out
gone_struct defs t tag at s ms others out is found members h =
    let p = normal-parts defs tag at s found (subst (λ x. at + size defs x ≤ most_type_bytes) is h.next_can.1) in
    let st : type_work defs t.now ≡ type_work defs (struct_type tag) = ap (type_work defs) is in
    let e = sym members in
    let m : members_work defs ms.now ≡ members_work defs s.parts.items = ap (members_work defs) members in
    one-left defs (Whole t at) (Members ms at 0) others out
    (ap (λ x. out ++ members_leaves (size defs) (align defs) (leaves_at defs) at 0 x) members ∙ sym (ap (λ x. out ++ x) (ap (λ x. leaves_at defs x at) is ∙ p.leaves)))
    (subst (AreLaidOut defs) e p.laid_out, subst (λ x. at + members_end (size defs) (align defs) 0 x ≤ most_type_bytes) e p.room)
    (rw (st, m) (struct-work defs tag s found)) h

pub gone_undefined : (defs : Definitions) (t : Bor TypeTree) (tag at : ℕ) (others : List Pending) (out : List Leaf) → t.now ≡ struct_type tag → is_defined defs tag ≡ false →
    CanGoOn defs (Whole t at) others out →
    HasGoneOn defs (Whole t at) others others out out
gone_undefined defs t tag at others out is none h =
    let laid = subst (IsLaidOut defs) is h.next_can.0 in
    absurd (clash none laid.complete) where
      clash : is_defined defs tag ≡ false → is_defined defs tag ≡ true → ⊥
      clash a b = cc

-- ---- members

pub member_fits : (defs : Definitions) (ts rest : Bor (List TypeTree)) (t : Bor TypeTree) (at end : ℕ) (others : List Pending) (out : List Leaf) → ts.now ≡ t.now ∷ rest.now →
    CanGoOn defs (Members ts at end) others out → MemberFits defs at end t.now
member_fits defs ts rest t at end others out is h =
    fits-first defs at end t.now rest.now (subst (AreLaidOut defs) is h.next_can.0) (subst (λ x. at + members_end (size defs) (align defs) end x ≤ most_type_bytes) is h.next_can.1)

pub gone_member : (defs : Definitions) (ts rest : Bor (List TypeTree)) (t : Bor TypeTree) (at end : ℕ) (others : List Pending) (out : List Leaf) → ts.now ≡ t.now ∷ rest.now →
    CanGoOn defs (Members ts at end) others out →
    HasGoneOn defs (Members ts at end) others ((others ++ Members rest at (rounded_up end (align defs t.now) + size defs t.now) ∷ []) ++ Whole t (at + rounded_up end (align defs t.now)) ∷ []) out out
gone_member defs ts rest t at end others out is h =
    let laid = subst (AreLaidOut defs) is h.next_can.0 in
    let room = subst (λ x. at + members_end (size defs) (align defs) end x ≤ most_type_bytes) is h.next_can.1 in
    let fits = fits-first defs at end t.now rest.now laid room in
    let within = fits.within in
    let off = rounded_up end (align defs t.now) in
    let w : members_work defs ts.now ≡ type_work defs t.now + 1 + members_work defs rest.now = ap (members_work defs) is in
    two-left defs (Members ts at end) (Members rest at (off + size defs t.now)) (Whole t (at + off)) others out
    (append_assoc out (leaves_at defs t.now (at + off)) _ ∙ sym (ap (λ x. out ++ members_leaves (size defs) (align defs) (leaves_at defs) at end x) is))
    (laid.0, omega (arith, within))
    (laid.1, room)
    (rw w (swap (type_work defs t.now) (members_work defs rest.now))) h where
      swap : (a b : ℕ) → 1 + b + a ≤ a + 1 + b
      swap a b = omega arith

-- ---- the elements of an array

pub gone_elements : (defs : Definitions) (t : Bor TypeTree) (n at first : ℕ) (others : List Pending) (out new : List Leaf) → CanGoOn defs (Elements t n at first) others out →
    new ≡ out ++ repeated (n - 1) (size defs t.now) (at + size defs t.now) (leaves_at defs t.now) → HasGoneOn defs (Elements t n at first) others others out new
gone_elements defs t n at first others out new h is =
    let r = repeated (n - 1) (size defs t.now) (at + size defs t.now) (leaves_at defs t.now) in
    let len : length new ≡ length out + (n - 1) * leaf_count defs t.now = ap length is ∙ length-append out r
    ∙ ap (λ k. length out + k) (count-repeated defs t.now (n - 1) (size defs t.now) (at + size defs t.now)) in
    gone defs (Elements t n at first) others out new ((n - 1) * leaf_count defs t.now) is len (le-refl-of (1 + (n - 1) * leaf_count defs t.now)) h where
      le-refl-of : (k : ℕ) → k ≤ k
      le-refl-of k = omega arith
