-- One more definition.
use Rattle.std.proofs.Common.{◌≡◌, ℕ, ◌-◌, ◌^◌, ◌<◌, ◌≤◌, ◌==◌, ◌⊎◌, Bool, true, false, cond, List, [], ◌∷◌, ◌++◌, length, slice_get, slice_set, Some, refl, sym, ap, ◌∙◌, subst, inl, inr, arith, length-append, eq-eqb, eqb-true}
use Rattle.std.proofs.lemmas.Option.{slice_get_within}
use Rattle.std.proofs.lemmas.Bool.{eqb-false}
use Rattle.base.specs.Limits.{most_type_bytes}
use Rattle.c_type.specs.Trees.{TypeTree}
use Rattle.c_type.specs.Layout.{Definition, Definitions, is_defined, members, align, largest, size, struct_size, struct_align, offset, offset_from}
use Rattle.c_type.specs.WellDefined.{AreLaidOut, Follows, AreDefinitions}
use Rattle.c_type.specs.Normal.{AreNormalOf}
use Rattle.c_type.specs.LaidUpTo.{IsLaid, struct_bytes}
use Rattle.c_type.specs.Structs.{definitions_of, IsKept, AreIndexed, absent}
use Rattle.c_type.specs.declared.structs.Struct.{Struct}
use Rattle.c_type.proofs.lemmas.Levels.{other-tag, normals-later}
use Rattle.c_type.proofs.Indices.{get-either, get-set-same, get-set-other}
use Rattle.c_type.proofs.StructLemmas.{defined-is, has-there}

abbrev pub definition_of : Struct → Definition
definition_of s = record { tag = s.tag; members = s.members.items }

pub definitions-more : (acc : Definitions) (ss : List Struct) (s : Struct) → definitions_of acc (ss ++ s ∷ []) ≡ definition_of s ∷ definitions_of acc ss
definitions-more acc [] s = refl
definitions-more acc (x ∷ ss) s = definitions-more (definition_of x ∷ acc) ss s

pub defined-size : (defs : Definitions) (tag : ℕ) (ms : List TypeTree) → struct_size (record { tag = tag; members = ms } ∷ defs) tag ≡ struct_bytes defs ms
defined-size defs tag ms = ap (λ b. cond b (struct_bytes defs ms) (struct_size defs tag)) (eq-eqb tag tag refl)

kept-later : (defs : Definitions) (d : Definition) (x : Struct) → is_defined defs x.tag ≡ true → is_defined defs d.tag ≡ false → IsKept defs x → IsKept (d ∷ defs) x
kept-later defs d x here new k =
    let e = other-tag defs x.tag d.tag here new in
    record {
      members = ap (λ b. cond b d.members (members defs x.tag)) e ∙ k.members;
      size = k.size ∙ sym (ap (λ b. cond b (struct_bytes defs d.members) (struct_size defs x.tag)) e);
      small = k.small;
      align = k.align ∙ sym (ap (λ b. cond b (largest (align defs) d.members) (struct_align defs x.tag)) e);
      count = k.count;
      normal = normals-later d defs new x.members.items x.parts.items k.normal;
      offsets = λ i h. k.offsets i h ∙ sym (ap (λ b. cond b (offset_from (size defs) (align defs) 0 d.members i) (offset defs x.tag i)) e);
    }

kept-new : (defs : Definitions) (s : Struct) → is_defined defs s.tag ≡ false → AreNormalOf defs s.members.items s.parts.items → IsLaid defs s.members.items s.offsets.items s.size s.align →
    IsKept (definition_of s ∷ defs) s
kept-new defs s new normal l =
    let e = eq-eqb s.tag s.tag refl in
    record {
      members = ap (λ b. cond b s.members.items (members defs s.tag)) e;
      size = l.bytes_is ∙ sym (ap (λ b. cond b (struct_bytes defs s.members.items) (struct_size defs s.tag)) e);
      small = l.small;
      align = l.alignment_is ∙ sym (ap (λ b. cond b (largest (align defs) s.members.items) (struct_align defs s.tag)) e);
      count = l.count;
      normal = normals-later (definition_of s) defs new s.members.items s.parts.items normal;
      offsets = λ i h. l.offsets_are i h ∙ sym (ap (λ b. cond b (offset_from (size defs) (align defs) 0 s.members.items i) (offset defs s.tag i)) e);
    }

follows : (defs : Definitions) (s : Struct) → is_defined defs s.tag ≡ false → 0 < length s.members.items → AreLaidOut defs s.members.items →
    IsLaid defs s.members.items s.offsets.items s.size s.align → Follows defs (definition_of s)
follows defs s new some laid l =
    let e = eq-eqb s.tag s.tag refl in
    record {
      new = new;
      some = some;
      laid_out = laid;
      small = subst (λ n. n ≤ most_type_bytes) (l.bytes_is ∙ sym (ap (λ b. cond b (struct_bytes defs s.members.items) (struct_size defs s.tag)) e)) l.small;
    }

module _ (indices : List ℕ) (structs : List Struct) (s : Struct) (index : ℕ) (i : AreIndexed indices structs) (is_index : index ≡ length structs) (few : index < 2 ^ 32 - 1)
    (room : s.tag < length indices) (new : is_defined (definitions_of [] structs) s.tag ≡ false) (some : 0 < length s.members.items) (laid : AreLaidOut
    (definitions_of [] structs) s.members.items) (normal : AreNormalOf (definitions_of [] structs) s.members.items s.parts.items) (l : IsLaid
    (definitions_of [] structs) s.members.items s.offsets.items s.size s.align) where
  defined-at : (p : ℕ) (x : Struct) → slice_get structs p ≡ Some x → is_defined (definitions_of [] structs) x.tag ≡ true
  defined-at p x is = defined-is structs x.tag ∙ has-there structs p x x.tag is refl

  -- the new tag is that of no earlier struct
  apart : (p : ℕ) (x : Struct) → slice_get structs p ≡ Some x → s.tag ≡ x.tag → ⊥
  apart p x is e = eqb-false s.tag x.tag (other-tag (definitions_of [] structs) x.tag s.tag (defined-at p x is) new) e

  kept-all : (p : ℕ) (x : Struct) → (slice_get structs p ≡ Some x) ⊎ ((p ≡ length structs) × (x ≡ s)) → IsKept (definition_of s ∷ definitions_of [] structs) x
  kept-all p x (inl is) = kept-later (definitions_of [] structs) (definition_of s) x (defined-at p x is) new (i.kept p x is)
  kept-all p x (inr e) = subst (IsKept (definition_of s ∷ definitions_of [] structs)) (sym e.1) (kept-new (definitions_of [] structs) s new normal l)

  found-other : (tag p : ℕ) (x : Struct) → slice_get indices tag ≡ Some p → (slice_get structs p ≡ Some x) ⊎ ((p ≡ length structs) × (x ≡ s)) → x.tag ≡ tag
  found-other tag p x is (inl at) = i.found tag p x is at
  found-other tag p x is (inr e) = none (i.bounded tag p is) where
    none : (p < length structs) ⊎ (p ≡ absent) → x.tag ≡ tag
    none (inl h) = absurd (omega (arith, h, e.0))
    none (inr h) = absurd (omega (arith, h, e.0, few, is_index))

  found-same : (p : ℕ) (x : Struct) → p ≡ index → (slice_get structs p ≡ Some x) ⊎ ((p ≡ length structs) × (x ≡ s)) → x.tag ≡ s.tag
  found-same p x e (inl is) = let b = slice_get_within structs p x is in absurd (omega (arith, b, e, is_index))
  found-same p x e (inr d) = ap (λ y. y.tag) d.1

  found-all : (test : Bool) (tag p : ℕ) (x : Struct) → (s.tag == tag) ≡ test → slice_get (slice_set indices s.tag index) tag ≡ Some p → slice_get (structs ++ s ∷ []) p ≡ Some x → x.tag ≡ tag
  found-all true tag p x same is at =
      let e = eqb-true s.tag tag same in
      let w = sym (get-set-same indices s.tag index room) ∙ ap (slice_get (slice_set indices s.tag index)) e ∙ is in
      let q : p ≡ index = cc in
      found-same p x q (get-either structs s x p at) ∙ e
  found-all false tag p x differ is at =
      found-other tag p x (sym (get-set-other indices s.tag tag index (eqb-false s.tag tag differ)) ∙ is) (get-either structs s x p at)

  indexed-all : (p : ℕ) (x : Struct) → (slice_get structs p ≡ Some x) ⊎ ((p ≡ length structs) × (x ≡ s)) → slice_get (slice_set indices s.tag index) x.tag ≡ Some p
  indexed-all p x (inl is) = get-set-other indices s.tag x.tag index (apart p x is) ∙ i.indexed p x is
  indexed-all p x (inr e) =
      ap (λ y. slice_get (slice_set indices s.tag index) y.tag) e.1 ∙ get-set-same indices s.tag index room ∙ ap Some (is_index ∙ sym e.0)

  bounded-all : (test : Bool) (tag p : ℕ) → (s.tag == tag) ≡ test → slice_get (slice_set indices s.tag index) tag ≡ Some p → (p < length (structs ++ s ∷ [])) ⊎ (p ≡ absent)
  bounded-all true tag p same is =
      let w = sym (get-set-same indices s.tag index room) ∙ ap (slice_get (slice_set indices s.tag index)) (eqb-true s.tag tag same) ∙ is in
      let q : p ≡ index = cc in
      let n = length-append structs (s ∷ []) in
      inl (omega (arith, q, n, is_index))
  bounded-all false tag p differ is = more (i.bounded tag p (sym (get-set-other indices s.tag tag index (eqb-false s.tag tag differ)) ∙ is)) where
    more : (p < length structs) ⊎ (p ≡ absent) → (p < length (structs ++ s ∷ [])) ⊎ (p ≡ absent)
    more (inl h) = let n = length-append structs (s ∷ []) in inl (omega (arith, n, h))
    more (inr h) = inr h

  pub indexed-define : AreIndexed (slice_set indices s.tag index) (structs ++ s ∷ [])
  indexed-define =
      let d = sym (definitions-more [] structs s) in
      record {
        kept = λ p x is. subst (λ defs. IsKept defs x) d (kept-all p x (get-either structs s x p is));
        found = λ tag p x is at. found-all (s.tag == tag) tag p x refl is at;
        indexed = λ p x is. indexed-all p x (get-either structs s x p is);
        bounded = λ tag p is. bounded-all (s.tag == tag) tag p refl is;
        few = let n = length-append structs (s ∷ []) in omega (arith, n, few, is_index);
        ordered = subst AreDefinitions d (follows (definitions_of [] structs) s new some laid l, i.ordered);
      }
