-- What holds of every struct that is defined.
use Rattle.std.proofs.Common.{◌≡◌, ℕ, zero, suc, ◌+◌, ◌<◌, ◌≤◌, ◌==◌, ◌||◌, Bool, true, false, cond, List, [], ◌∷◌, length, slice_get, Some, sym, subst, arith}
use Rattle.val_core.specs.declared.leaf.Leaf.{Leaf}
use Rattle.c_type.specs.Trees.{TypeTree}
use Rattle.c_type.specs.Layout.{Definitions, is_defined, rounded_up, align, struct_align, largest, size, struct_size, members_end, offset_from, leaves_at, members_leaves, struct_leaves, members}
use Rattle.c_type.specs.WellDefined.{AreLaidOut, AreDefinitions}
use Rattle.c_type.specs.LayoutLaws.{IsMultiple, AreInOrder, SizeIsMultiple, MemberIsWithin, LeavesAreInOrder}
use Rattle.c_type.proofs.lemmas.Bounds.{align-between, members-between, round-lower, end-grows}
use Rattle.c_type.proofs.lemmas.Levels.{level}
use Rattle.c_type.proofs.Order.{AreGood, multiple-round, members-width, size-multiple, size-positive, type-order, members-order}

higher : (low high high' : ℕ) (ls : List Leaf) → high ≤ high' → AreInOrder low high ls → AreInOrder low high' ls
higher low high high' [] h o = omega arith
higher low high high' (l ∷ ls) h o = (o.0, higher (l.offset + l.width) high high' ls h o.1)

end-positive : (ds : Definitions) → AreGood ds → (ts : List TypeTree) → 0 < length ts → AreLaidOut ds ts → 0 < members_end (size ds) (align ds) 0 ts
end-positive ds g [] h laid = absurd (omega arith)
end-positive ds g (t ∷ ts) h laid =
    let s = size-positive ds g t laid.0.complete in
    let e = end-grows (size ds) (align ds) (λ x. (align-between ds x).0) (rounded_up 0 (align ds t) + size ds t) ts in
    omega (arith, s, e)

pub good : (defs : Definitions) → AreDefinitions defs → AreGood defs
good [] w = record { multiple = λ tag h. cc; positive = λ tag h. cc; order = λ tag h at m. cc }
good (d ∷ ds) w = with_rest (good ds w.1) where
  with_rest : AreGood ds → AreGood (d ∷ ds)
  with_rest g =
      record {
        multiple = λ tag h. multiple_of tag (d.tag == tag) h;
        positive = λ tag h. positive_of tag (d.tag == tag) h;
        order = λ tag h at m. order_of tag (d.tag == tag) h at m;
      } where
        multiple_of : (tag : ℕ) (test : Bool) → (test || is_defined ds tag) ≡ true →
            IsMultiple (cond test (largest (align ds) d.members) (struct_align ds tag)) (cond test (rounded_up (members_end (size ds) (align ds) 0 d.members) (largest (align ds) d.members))
            (struct_size ds tag))
        multiple_of tag true h = multiple-round (members_end (size ds) (align ds) 0 d.members) (largest (align ds) d.members)
        multiple_of tag false h = g.multiple tag h

        positive_of : (tag : ℕ) (test : Bool) → (test || is_defined ds tag) ≡ true →
            0 < cond test (rounded_up (members_end (size ds) (align ds) 0 d.members) (largest (align ds) d.members)) (struct_size ds tag)
        positive_of tag true h =
            let e = end-positive ds g d.members w.0.some w.0.laid_out in
            let r = round-lower (members_end (size ds) (align ds) 0 d.members) (largest (align ds) d.members) (members-between ds d.members).0 in
            omega (arith, e, r)
        positive_of tag false h = g.positive tag h

        order_of : (tag : ℕ) (test : Bool) → (test || is_defined ds tag) ≡ true → (at : ℕ) → IsMultiple (cond test (largest (align ds) d.members) (struct_align ds tag)) at →
            AreInOrder at (at + cond test (rounded_up (members_end (size ds) (align ds) 0 d.members) (largest (align ds) d.members)) (struct_size ds tag))
            (cond test (members_leaves (size ds) (align ds) (leaves_at ds) at 0 d.members) (struct_leaves ds tag at))
        order_of tag true h at m =
            let o = members-order ds g (largest (align ds) d.members) at (members-width ds d.members) m 0 d.members (omega arith) w.0.laid_out in
            let r = round-lower (members_end (size ds) (align ds) 0 d.members) (largest (align ds) d.members) (members-between ds d.members).0 in
            let z : at + 0 ≡ at = omega arith in
            higher at (at + members_end (size ds) (align ds) 0 d.members) (at + rounded_up (members_end (size ds) (align ds) 0 d.members) (largest (align ds) d.members))
            (members_leaves (size ds) (align ds) (leaves_at ds) at 0 d.members) (omega (arith, r))
            (subst (λ x. AreInOrder x (at + members_end (size ds) (align ds) 0 d.members) (members_leaves (size ds) (align ds) (leaves_at ds) at 0 d.members)) z o)
        order_of tag false h at m = g.order tag h at m

pub size_is_multiple : SizeIsMultiple
size_is_multiple defs w t h = (size-multiple defs (good defs w) t h, size-positive defs (good defs w) t h)

pub leaves_are_in_order : LeavesAreInOrder
leaves_are_in_order defs w t h at m = type-order defs (good defs w) t h at m

member-at : (defs : Definitions) (at : ℕ) (ts : List TypeTree) (i : ℕ) (t : TypeTree) → slice_get ts i ≡ Some t →
    IsMultiple (align defs t) (offset_from (size defs) (align defs) at ts i) × (offset_from (size defs) (align defs) at ts i + size defs t ≤ members_end (size defs) (align defs) at ts)
member-at defs at [] i t is = cc
member-at defs at (x ∷ ts) zero t is =
    let e : x ≡ t = cc in
    let g = end-grows (size defs) (align defs) (λ y. (align-between defs y).0) (rounded_up at (align defs x) + size defs x) ts in (
      subst (λ y. IsMultiple (align defs y) (rounded_up at (align defs x))) e (multiple-round at (align defs x)),
      subst (λ y. rounded_up at (align defs x) + size defs y ≤ members_end (size defs) (align defs) at (x ∷ ts)) e g,
    )
member-at defs at (x ∷ ts) (suc i) t is = member-at defs (rounded_up at (align defs x) + size defs x) ts i t is

pub member_is_within : MemberIsWithin
member_is_within defs w tag i t h is =
    let l = level defs w tag h in
    let m = member-at defs 0 (members defs tag) i t is in
    let r = round-lower (members_end (size defs) (align defs) 0 (members defs tag)) (largest (align defs) (members defs tag)) (members-between defs (members defs tag)).0 in
    let o = l.offsets_are i in
    let b = l.bytes_is in
    let n = m.1 in
    (subst (IsMultiple (align defs t)) (sym o) m.0, omega (arith, o, b, n, r))
