-- Later struct definitions leave what types occupy as it was, and the parts of a type stand in it in order.
use Rattle.std.proofs.Common.{◌≡◌, ℕ, ◌*◌, zero, suc, Bool, true, false, cond, List, [], ◌∷◌, ◌++◌, refl, ap, ap₂, ◌∙◌, subst}
use Rattle.std.specs.Prelude.{◌==◌, ◌&&◌, ◌||◌, not, slice_get, Some}
use Rattle.std.proofs.lemmas.Bool.{and_parts}
use mathlib.Core.Path.{fun_ext}
use Rattle.c_type.specs.Trees.{TypeTree, void_type, scalar_type, pointer_to, array_of, struct_type}
use Rattle.c_type.specs.Layout.{Definition, Definitions, is_defined, is_complete, rounded_up, align, largest, size, struct_size, members_end, offset, offset_from, leaves_at, struct_leaves, members_leaves, repeated, members, IsLaidOut}
use Rattle.c_type.specs.WellDefined.{AreLaidOut, AreDefinitions}
use Rattle.c_type.proofs.lemmas.Levels.{other-tag}

-- ---- one more definition

module _ (d : Definition) (ds : Definitions) (new : is_defined ds d.tag ≡ false) where
  pub size_later : (t : TypeTree) → is_complete ds t ≡ true → size (d ∷ ds) t ≡ size ds t
  size_later void_type h = refl
  size_later (scalar_type s) h = refl
  size_later (pointer_to t) h = refl
  size_later (array_of t n) h = ap (λ s. n * s) (size_later t (and_parts (not (n == 0)) (is_complete ds t) h).1)
  size_later (struct_type k) h = ap (λ b. cond b (rounded_up (members_end (size ds) (align ds) 0 d.members) (largest (align ds) d.members)) (struct_size ds k)) (other-tag ds k d.tag h new)

  pub leaves_later : (t : TypeTree) → is_complete ds t ≡ true → leaves_at (d ∷ ds) t ≡ leaves_at ds t
  leaves_later void_type h = refl
  leaves_later (scalar_type s) h = refl
  leaves_later (pointer_to t) h = refl
  leaves_later (array_of t n) h =
      let c = (and_parts (not (n == 0)) (is_complete ds t) h).1 in
      fun_ext (λ at. ap₂ (λ s f. repeated n s at f) (size_later t c) (leaves_later t c))
  leaves_later (struct_type k) h =
      fun_ext (λ at. ap (λ b. cond b (members_leaves (size ds) (align ds) (leaves_at ds) at 0 d.members) (struct_leaves ds k at)) (other-tag ds k d.tag h new))

  members_later : (k : ℕ) → is_defined ds k ≡ true → members (d ∷ ds) k ≡ members ds k
  members_later k h = ap (λ b. cond b d.members (members ds k)) (other-tag ds k d.tag h new)

  offset_later : (k i : ℕ) → is_defined ds k ≡ true → offset (d ∷ ds) k i ≡ offset ds k i
  offset_later k i h = ap (λ b. cond b (offset_from (size ds) (align ds) 0 d.members i) (offset ds k i)) (other-tag ds k d.tag h new)

  complete_later : (t : TypeTree) → is_complete ds t ≡ true → is_complete (d ∷ ds) t ≡ true
  complete_later void_type h = h
  complete_later (scalar_type s) h = h
  complete_later (pointer_to t) h = h
  complete_later (array_of t n) h =
      let b = and_parts (not (n == 0)) (is_complete ds t) h in
      ap₂ (λ x y. x && y) b.0 (complete_later t b.1)
  complete_later (struct_type k) h = ap (λ b. b || is_defined ds k) (other-tag ds k d.tag h new) ∙ h

-- ---- any number of definitions

module _ (defs : Definitions) where
  pub complete_after : (ds : Definitions) → AreDefinitions (ds ++ defs) → (t : TypeTree) → is_complete defs t ≡ true → is_complete (ds ++ defs) t ≡ true
  complete_after [] w t h = h
  complete_after (d ∷ ds) w t h = complete_later d (ds ++ defs) w.0.new t (complete_after ds w.1 t h)

  pub size_after : (ds : Definitions) → AreDefinitions (ds ++ defs) → (t : TypeTree) → is_complete defs t ≡ true → size (ds ++ defs) t ≡ size defs t
  size_after [] w t h = refl
  size_after (d ∷ ds) w t h = size_later d (ds ++ defs) w.0.new t (complete_after ds w.1 t h) ∙ size_after ds w.1 t h

  pub leaves_after : (ds : Definitions) → AreDefinitions (ds ++ defs) → (t : TypeTree) → is_complete defs t ≡ true → leaves_at (ds ++ defs) t ≡ leaves_at defs t
  leaves_after [] w t h = refl
  leaves_after (d ∷ ds) w t h = leaves_later d (ds ++ defs) w.0.new t (complete_after ds w.1 t h) ∙ leaves_after ds w.1 t h

  pub members_after : (ds : Definitions) → AreDefinitions (ds ++ defs) → (k : ℕ) → is_defined defs k ≡ true → members (ds ++ defs) k ≡ members defs k
  members_after [] w k h = refl
  members_after (d ∷ ds) w k h = members_later d (ds ++ defs) w.0.new k (complete_after ds w.1 (struct_type k) h) ∙ members_after ds w.1 k h

  pub offset_after : (ds : Definitions) → AreDefinitions (ds ++ defs) → (k i : ℕ) → is_defined defs k ≡ true → offset (ds ++ defs) k i ≡ offset defs k i
  offset_after [] w k i h = refl
  offset_after (d ∷ ds) w k i h = offset_later d (ds ++ defs) w.0.new k i (complete_after ds w.1 (struct_type k) h) ∙ offset_after ds w.1 k i h

  pub laid_after : (ds : Definitions) → AreDefinitions (ds ++ defs) → (t : TypeTree) → IsLaidOut defs t → IsLaidOut (ds ++ defs) t
  laid_after ds w t h = record { complete = complete_after ds w t h.complete; small = rw (size_after ds w t h.complete) h.small }

-- a struct that has members is defined
pub has_members : (defs : Definitions) (tag i : ℕ) (t : TypeTree) → slice_get (members defs tag) i ≡ Some t → is_defined defs tag ≡ true
has_members [] tag i t h = absurd (cc)
has_members (d ∷ ds) tag i t h = by_test (d.tag == tag) h (has_members ds tag i t)
  where
    by_test : (b : Bool) → slice_get (cond b d.members (members ds tag)) i ≡ Some t → (slice_get (members ds tag) i ≡ Some t → is_defined ds tag ≡ true) → (b || is_defined ds tag) ≡ true
    by_test true q k = refl
    by_test false q k = k q

pub laid_at : (ds : Definitions) (ts : List TypeTree) (i : ℕ) (t : TypeTree) → AreLaidOut ds ts → slice_get ts i ≡ Some t → IsLaidOut ds t
laid_at ds [] i t h e = absurd (cc)
laid_at ds (u ∷ ts) zero t h e = let same : u ≡ t = cc in subst (IsLaidOut ds) same h.0
laid_at ds (u ∷ ts) (suc i) t h e = laid_at ds ts i t h.1 e

-- members are laid out
pub member_laid : (defs : Definitions) → AreDefinitions defs → (tag i : ℕ) (t : TypeTree) → slice_get (members defs tag) i ≡ Some t → IsLaidOut defs t
member_laid [] w tag i t h = absurd (cc)
member_laid (d ∷ ds) w tag i t h = laid_after ds (d ∷ []) w t (by_test (d.tag == tag) h (member_laid ds w.1 tag i t))
  where
    by_test : (b : Bool) → slice_get (cond b d.members (members ds tag)) i ≡ Some t → (slice_get (members ds tag) i ≡ Some t → IsLaidOut ds t) → IsLaidOut ds t
    by_test true q k = laid_at ds d.members i t w.0.laid_out q
    by_test false q k = k q
