-- What a later definition leaves as it was, and the layout of a struct by its members alone.
use Rattle.std.proofs.Common.{◌≡◌, ℕ, zero, suc, ◌+◌, ◌*◌, ◌≤◌, ◌==◌, ◌&&◌, ◌||◌, max, not, Bool, true, false, cond, List, [], ◌∷◌, ◌++◌, length, refl, sym, ap, ap₂, ◌∙◌, subst, eq-eqb, eqb-true}
use mathlib.Core.Path.{fun_ext}
use Rattle.val_core.specs.declared.leaf.Leaf.{Leaf}
use Rattle.base.specs.Limits.{most_type_bytes}
use Rattle.std.proofs.lemmas.Bool.{and_parts}
use Rattle.c_type.specs.Trees.{TypeTree, void_type, scalar_type, pointer_to, array_of, struct_type}
use Rattle.c_type.specs.Layout.{Definition, Definitions, is_defined, is_complete, rounded_up, align, struct_align, largest, size, struct_size, members_end, offset, offset_from, leaves_at, struct_leaves, members_leaves, repeated, members}
use Rattle.c_type.specs.Normal.{is_normal, IsNormalOf, AreNormalOf}
use Rattle.c_type.specs.Level.{IsLevelOf, IsLevel}
use Rattle.c_type.specs.WellDefined.{AreLaidOut, AreDefinitions}

-- a tag that is defined is no new one
pub other-tag : (defs : Definitions) (tag new : ℕ) → is_defined defs tag ≡ true → is_defined defs new ≡ false → (new == tag) ≡ false
other-tag defs tag new here absent = by_test (new == tag) refl where
  by_test : (test : Bool) → (new == tag) ≡ test → (new == tag) ≡ false
  by_test false is = is
  by_test true is = absurd (clash (subst (λ k. is_defined defs k ≡ true) (sym (eqb-true new tag is)) here)) where
    clash : is_defined defs new ≡ true → ⊥
    clash h = cc

module _ (d : Definition) (ds : Definitions) (new : is_defined ds d.tag ≡ false) where
  size-later : (t : TypeTree) → is_complete ds t ≡ true → size (d ∷ ds) t ≡ size ds t
  size-later void_type h = refl
  size-later (scalar_type s) h = refl
  size-later (pointer_to t) h = refl
  size-later (array_of t n) h = ap (λ s. n * s) (size-later t (and_parts (not (n == 0)) (is_complete ds t) h).1)
  size-later (struct_type k) h = ap (λ b. cond b (rounded_up (members_end (size ds) (align ds) 0 d.members) (largest (align ds) d.members)) (struct_size ds k)) (other-tag ds k d.tag h new)

  align-later : (t : TypeTree) → is_complete ds t ≡ true → align (d ∷ ds) t ≡ align ds t
  align-later void_type h = refl
  align-later (scalar_type s) h = refl
  align-later (pointer_to t) h = refl
  align-later (array_of t n) h = align-later t (and_parts (not (n == 0)) (is_complete ds t) h).1
  align-later (struct_type k) h = ap (λ b. cond b (largest (align ds) d.members) (struct_align ds k)) (other-tag ds k d.tag h new)

  leaves-later : (t : TypeTree) → is_complete ds t ≡ true → leaves_at (d ∷ ds) t ≡ leaves_at ds t
  leaves-later void_type h = refl
  leaves-later (scalar_type s) h = refl
  leaves-later (pointer_to t) h = refl
  leaves-later (array_of t n) h =
      let c = (and_parts (not (n == 0)) (is_complete ds t) h).1 in
      fun_ext (λ at. ap₂ (λ s f. repeated n s at f) (size-later t c) (leaves-later t c))
  leaves-later (struct_type k) h =
      fun_ext (λ at. ap (λ b. cond b (members_leaves (size ds) (align ds) (leaves_at ds) at 0 d.members) (struct_leaves ds k at)) (other-tag ds k d.tag h new))

  members-later : (k : ℕ) → is_defined ds k ≡ true → members (d ∷ ds) k ≡ members ds k
  members-later k h = ap (λ b. cond b d.members (members ds k)) (other-tag ds k d.tag h new)

  normal-later : (t : TypeTree) → is_complete ds t ≡ true → is_normal (d ∷ ds) t ≡ is_normal ds t
  normal-later void_type h = refl
  normal-later (scalar_type s) h = refl
  normal-later (pointer_to t) h = refl
  normal-later (array_of t n) h = ap (λ b. not (n == 1) && b) (normal-later t (and_parts (not (n == 0)) (is_complete ds t) h).1)
  normal-later (struct_type k) h = ap (λ ms. not (length ms == 1)) (members-later k h)

  complete-later : (t : TypeTree) → is_complete ds t ≡ true → is_complete (d ∷ ds) t ≡ true
  complete-later void_type h = h
  complete-later (scalar_type s) h = h
  complete-later (pointer_to t) h = h
  complete-later (array_of t n) h =
      let b = and_parts (not (n == 0)) (is_complete ds t) h in
      ap₂ (λ x y. x && y) b.0 (complete-later t b.1)
  complete-later (struct_type k) h = ap (λ b. b || is_defined ds k) (other-tag ds k d.tag h new) ∙ h

-- ---- functions that agree on the members

abbrev Agree : {X : Type 0} → (f g : TypeTree → X) → List TypeTree → Type 0
Agree f g [] = Unit {0}
Agree f g (t ∷ ts) = (f t ≡ g t) × Agree f g ts

end-agree : (s s' a a' : TypeTree → ℕ) (at : ℕ) (ts : List TypeTree) → Agree s s' ts → Agree a a' ts → members_end s a at ts ≡ members_end s' a' at ts
end-agree s s' a a' at [] h k = refl
end-agree s s' a a' at (t ∷ ts) h k =
    ap₂ (λ x y. members_end s a (rounded_up at y + x) ts) h.0 k.0 ∙ end-agree s s' a a' (rounded_up at (a' t) + s' t) ts h.1 k.1

largest-agree : (a a' : TypeTree → ℕ) (ts : List TypeTree) → Agree a a' ts → largest a ts ≡ largest a' ts
largest-agree a a' [] h = refl
largest-agree a a' (t ∷ ts) h = ap₂ (λ x y. max x y) h.0 (largest-agree a a' ts h.1)

offset-agree : (s s' a a' : TypeTree → ℕ) (at : ℕ) (ts : List TypeTree) (i : ℕ) → Agree s s' ts → Agree a a' ts → offset_from s a at ts i ≡ offset_from s' a' at ts i
offset-agree s s' a a' at [] i h k = refl
offset-agree s s' a a' at (t ∷ ts) zero h k = ap (λ y. rounded_up at y) k.0
offset-agree s s' a a' at (t ∷ ts) (suc i) h k =
    ap₂ (λ x y. offset_from s a (rounded_up at y + x) ts i) h.0 k.0 ∙ offset-agree s s' a a' (rounded_up at (a' t) + s' t) ts i h.1 k.1

leaves-agree : (s s' a a' : TypeTree → ℕ) (l l' : TypeTree → ℕ → List Leaf) (start at : ℕ) (ts : List TypeTree) → Agree s s' ts → Agree a a' ts → Agree l l' ts →
    members_leaves s a l start at ts ≡ members_leaves s' a' l' start at ts
leaves-agree s s' a a' l l' start at [] h k j = refl
leaves-agree s s' a a' l l' start at (t ∷ ts) h k j =
    ap₂ (λ x y. l t (start + rounded_up at y) ++ members_leaves s a l start (rounded_up at y + x) ts) h.0 k.0
    ∙ ap₂ (λ f rest. f (start + rounded_up at (a' t)) ++ rest) j.0 (leaves-agree s s' a a' l l' start (rounded_up at (a' t) + s' t) ts h.1 k.1 j.1)

agree-later : {X : Type 0} (f g : TypeTree → X) (ds : Definitions) (ts : List TypeTree) → ((t : TypeTree) → is_complete ds t ≡ true → f t ≡ g t) → AreLaidOut ds ts → Agree f g ts
agree-later f g ds [] same h = tt
agree-later f g ds (t ∷ ts) same h = (same t h.0.complete, agree-later f g ds ts same h.1)

laid-later : (d : Definition) (ds : Definitions) → is_defined ds d.tag ≡ false → (ts : List TypeTree) → AreLaidOut ds ts → AreLaidOut (d ∷ ds) ts
laid-later d ds new [] h = tt
laid-later d ds new (t ∷ ts) h = (
  record { complete = complete-later d ds new t h.0.complete; small = rw (size-later d ds new t h.0.complete) h.0.small },
  laid-later d ds new ts h.1,
)

-- a layout by the members stays through a later definition
raised : (d : Definition) (ds : Definitions) → is_defined ds d.tag ≡ false → (ms : List TypeTree) (s a : ℕ) (o : ℕ → ℕ) (l : ℕ → List Leaf) →
    IsLevelOf ds ms s a o l → IsLevelOf (d ∷ ds) ms s a o l
raised d ds new ms s a o l lv =
    let sizes = agree-later (size ds) (size (d ∷ ds)) ds ms (λ t c. sym (size-later d ds new t c)) lv.laid_out in
    let aligns = agree-later (align ds) (align (d ∷ ds)) ds ms (λ t c. sym (align-later d ds new t c)) lv.laid_out in
    let parts = agree-later (leaves_at ds) (leaves_at (d ∷ ds)) ds ms (λ t c. sym (leaves-later d ds new t c)) lv.laid_out in
    record {
      bytes_is = lv.bytes_is ∙ ap₂ (λ x y. rounded_up x y) (end-agree (size ds) (size (d ∷ ds)) (align ds) (align (d ∷ ds)) 0 ms sizes aligns) (largest-agree (align ds) (align (d ∷ ds)) ms aligns);
      alignment_is = lv.alignment_is ∙ largest-agree (align ds) (align (d ∷ ds)) ms aligns;
      offsets_are = λ i. lv.offsets_are i ∙ offset-agree (size ds) (size (d ∷ ds)) (align ds) (align (d ∷ ds)) 0 ms i sizes aligns;
      leaves_are = λ at. lv.leaves_are at ∙ leaves-agree (size ds) (size (d ∷ ds)) (align ds) (align (d ∷ ds)) (leaves_at ds) (leaves_at (d ∷ ds)) at 0 ms sizes aligns parts;
      laid_out = laid-later d ds new ms lv.laid_out;
      some = lv.some;
      small = lv.small;
    }

normal-of-later : (d : Definition) (ds : Definitions) → is_defined ds d.tag ≡ false → (t u : TypeTree) → IsNormalOf ds t u → IsNormalOf (d ∷ ds) t u
normal-of-later d ds new t u h = record {
  complete = complete-later d ds new t h.complete;
  also_complete = complete-later d ds new u h.also_complete;
  size_is = size-later d ds new u h.also_complete ∙ h.size_is ∙ sym (size-later d ds new t h.complete);
  align_is = align-later d ds new u h.also_complete ∙ h.align_is ∙ sym (align-later d ds new t h.complete);
  leaves_are = λ at. ap (λ f. f at) (leaves-later d ds new u h.also_complete) ∙ h.leaves_are at ∙ sym (ap (λ f. f at) (leaves-later d ds new t h.complete));
  normal = normal-later d ds new u h.also_complete ∙ h.normal;
}

-- normal types stay so through a later definition
pub normals-later : (d : Definition) (ds : Definitions) → is_defined ds d.tag ≡ false → (ts us : List TypeTree) → AreNormalOf ds ts us → AreNormalOf (d ∷ ds) ts us
normals-later d ds new [] [] h = tt
normals-later d ds new (t ∷ ts) (u ∷ us) h = (normal-of-later d ds new t u h.0, normals-later d ds new ts us h.1)
normals-later d ds new [] (u ∷ us) h = absurd h
normals-later d ds new (t ∷ ts) [] h = absurd h

pub level : (defs : Definitions) → AreDefinitions defs → (tag : ℕ) → is_defined defs tag ≡ true → IsLevel defs tag
level [] w tag h = cc
level (d ∷ ds) w tag h = by_test (d.tag == tag) refl h (level ds w.1 tag) where
  by_test : (test : Bool) → (d.tag == tag) ≡ test → (test || is_defined ds tag) ≡ true → (is_defined ds tag ≡ true → IsLevel ds tag) →
      IsLevelOf (d ∷ ds) (cond test d.members (members ds tag))
      (cond test (rounded_up (members_end (size ds) (align ds) 0 d.members) (largest (align ds) d.members)) (struct_size ds tag))
      (cond test (largest (align ds) d.members) (struct_align ds tag))
      (λ i. cond test (offset_from (size ds) (align ds) 0 d.members i) (offset ds tag i))
      (λ at. cond test (members_leaves (size ds) (align ds) (leaves_at ds) at 0 d.members) (struct_leaves ds tag at))
  by_test true same k rest =
      raised d ds w.0.new d.members _ _ _ _
      (record {
        bytes_is = refl;
        alignment_is = refl;
        offsets_are = λ i. refl;
        leaves_are = λ at. refl;
        laid_out = w.0.laid_out;
        some = w.0.some;
        small = subst (λ b. cond b (rounded_up (members_end (size ds) (align ds) 0 d.members) (largest (align ds) d.members)) (struct_size ds d.tag) ≤ most_type_bytes)
            (eq-eqb d.tag d.tag refl) w.0.small;
      })
  by_test false differ k rest = raised d ds w.0.new (members ds tag) _ _ _ _ (rest k)
