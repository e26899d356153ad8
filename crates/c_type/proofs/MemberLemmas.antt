-- One member of a struct after the other.
use Rattle.std.proofs.Common.{◌≡◌, ℕ, suc, ◌+◌, ◌<◌, ◌≤◌, List, ◌∷◌, length, get_or, drop, sym, ap, ◌∙◌, subst, arith, add-one, drop-cons}
use Rattle.base.specs.Limits.{most_type_bytes}
use Rattle.c_type.specs.Trees.{TypeTree, struct_type}
use Rattle.c_type.specs.Layout.{Definitions, rounded_up, align, size, members_end, members_leaves, leaves_at, largest, members}
use Rattle.c_type.specs.WellDefined.{AreLaidOut, MemberFits}
use Rattle.c_type.specs.Kept.{IsFound}
use Rattle.c_type.specs.Level.{IsLevel}
use Rattle.c_type.specs.declared.structs.Struct.{Struct}
use Rattle.c_type.proofs.lemmas.Bounds.{align-between, members-between, round-lower, end-grows}

pub at-member : (ms : List TypeTree) (i : ℕ) (t : TypeTree) → i < length ms → t ≡ get_or ms i t → drop i ms ≡ t ∷ drop (i + 1) ms
at-member ms i t h is = rw (add-one i) (drop-cons ms i t h ∙ ap (λ x. x ∷ drop (suc i) ms) (sym is))

pub fits-first : (defs : Definitions) (at end : ℕ) (t : TypeTree) (ts : List TypeTree) → AreLaidOut defs (t ∷ ts) → at + members_end (size defs) (align defs) end (t ∷ ts) ≤ most_type_bytes →
    MemberFits defs at end t
fits-first defs at end t ts laid room =
    let a = align-between defs t in
    let g = end-grows (size defs) (align defs) (λ x. (align-between defs x).0) (rounded_up end (align defs t) + size defs t) ts in
    let l = round-lower end (align defs t) a.0 in
    record { laid_out = laid.0; positive = a.0; room = omega (arith, a.1, g, l); within = omega (arith, g); above = l }

-- the members of a struct that was found
pub record StructParts (defs : Definitions) (tag at : ℕ) (ms : List TypeTree) : Type 0 where
  pub laid_out : AreLaidOut defs ms
  pub room : at + members_end (size defs) (align defs) 0 ms ≤ most_type_bytes
  pub leaves : leaves_at defs (struct_type tag) at ≡ members_leaves (size defs) (align defs) (leaves_at defs) at 0 ms

parts-of : (defs : Definitions) (tag at : ℕ) → IsLevel defs tag → at + size defs (struct_type tag) ≤ most_type_bytes → StructParts defs tag at (members defs tag)
parts-of defs tag at l room =
    let a = members-between defs (members defs tag) in
    let r = round-lower (members_end (size defs) (align defs) 0 (members defs tag)) (largest (align defs) (members defs tag)) a.0 in
    let b = l.bytes_is in
    record { laid_out = l.laid_out; room = omega (arith, r, b); leaves = l.leaves_are at }

pub struct-parts : (defs : Definitions) (tag at : ℕ) (s : Struct) → IsFound defs tag s → at + size defs (struct_type tag) ≤ most_type_bytes → StructParts defs tag at s.members.items
struct-parts defs tag at s f room =
    subst (StructParts defs tag at) (ap (members defs) (sym f.tagged) ∙ f.kept.members) (parts-of defs tag at f.level room)
