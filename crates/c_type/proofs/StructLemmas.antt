-- Structs and their indices.
use Rattle.std.proofs.Common.{◌≡◌, ℕ, zero, suc, ◌==◌, ◌||◌, Bool, true, false, List, [], ◌∷◌, slice_get, Option, None, Some, option_and_then, MatchOption, option_copied, Bor, refl, sym, ap, ◌∙◌, subst, eqb-true, eq-eqb}
use Rattle.std.specs.List.{list_any}
use Rattle.std.proofs.lemmas.Bool.{false_from_ne_true}
use Rattle.c_type.specs.Layout.{Definitions, is_defined}
use Rattle.c_type.specs.Structs.{definitions_of, AreIndexed}
use Rattle.c_type.specs.Kept.{IsFound}
use Rattle.c_type.proofs.lemmas.Levels.{level}
use Rattle.c_type.specs.declared.structs.Struct.{Struct}

abbrev has_tag : ℕ → List Struct → Bool
has_tag tag ss = list_any (λ s. s.tag == tag) ss

or-swapped : (a b c : Bool) → (a || (b || c)) ≡ ((b || a) || c)
or-swapped true true c = refl
or-swapped true false c = refl
or-swapped false true c = refl
or-swapped false false c = refl

pub defined-by : (acc : Definitions) (ss : List Struct) (tag : ℕ) → is_defined (definitions_of acc ss) tag ≡ (has_tag tag ss || is_defined acc tag)
defined-by acc [] tag = refl
defined-by acc (s ∷ ss) tag =
    defined-by (record { tag = s.tag; members = s.members.items } ∷ acc) ss tag
    ∙ or-swapped (has_tag tag ss) (s.tag == tag) (is_defined acc tag)

or-false : (a : Bool) → (a || false) ≡ a
or-false true = refl
or-false false = refl

pub defined-is : (ss : List Struct) (tag : ℕ) → is_defined (definitions_of [] ss) tag ≡ has_tag tag ss
defined-is ss tag = defined-by [] ss tag ∙ or-false (has_tag tag ss)

-- a tag of a struct is defined
pub has-there : (ss : List Struct) (p : ℕ) (s : Struct) (tag : ℕ) → slice_get ss p ≡ Some s → s.tag ≡ tag → has_tag tag ss ≡ true
has-there [] p s tag is e = cc
has-there (x ∷ ss) zero s tag is e =
    let same : x ≡ s = cc in
    ap (λ b. b || has_tag tag ss) (eq-eqb x.tag tag (ap (λ y. y.tag) same ∙ e))
has-there (x ∷ ss) (suc p) s tag is e = later (x.tag == tag) (has_tag tag ss) (has-there ss p s tag is e) where
  later : (a b : Bool) → b ≡ true → (a || b) ≡ true
  later true b h = refl
  later false b h = h

-- and a tag that is defined is that of a struct
pub there-of : (ss : List Struct) (tag : ℕ) → has_tag tag ss ≡ true → (p : ℕ) × ((s : Struct) × ((slice_get ss p ≡ Some s) × (s.tag ≡ tag)))
there-of [] tag h = cc
there-of (x ∷ ss) tag h = by_test (x.tag == tag) refl h (there-of ss tag) where
  by_test : (test : Bool) → (x.tag == tag) ≡ test → (test || has_tag tag ss) ≡ true →
      (has_tag tag ss ≡ true → (p : ℕ) × ((s : Struct) × ((slice_get ss p ≡ Some s) × (s.tag ≡ tag)))) →
      (p : ℕ) × ((s : Struct) × ((slice_get (x ∷ ss) p ≡ Some s) × (s.tag ≡ tag)))
  by_test true same k rest = (0, (x, (refl, eqb-true x.tag tag same)))
  by_test false differ k rest = let r = rest k in (suc r.0, (r.1.0, (r.1.1.0, r.1.1.1)))

-- what is found by a tag
none-found : (indices : List ℕ) (structs : List Struct) (tag : ℕ) → AreIndexed indices structs → option_and_then (slice_get structs) (slice_get indices tag) ≡ None →
    is_defined (definitions_of [] structs) tag ≡ false
none-found indices structs tag i none =
    defined-is structs tag
    ∙ false_from_ne_true (has_tag tag structs)
    (λ h.
    let r = there-of structs tag h in
    let at = subst (λ k. slice_get indices k ≡ Some r.0) r.1.1.1 (i.indexed r.0 r.1.0 r.1.1.0) in
    let e = ap (option_and_then (slice_get structs)) at ∙ r.1.1.0 in
    cc)

some-found : (indices : List ℕ) (structs : List Struct) (tag : ℕ) (s : Struct) (index : Option ℕ) → AreIndexed indices structs → slice_get indices tag ≡ index →
    option_and_then (slice_get structs) index ≡ Some s → IsFound (definitions_of [] structs) tag s
some-found indices structs tag s None i at is = cc
some-found indices structs tag s (Some p) i at is =
    let e = i.found tag p s at is in
    let h = defined-is structs tag ∙ has-there structs p s tag is e in
    record { defined = h; tagged = e; kept = i.kept p s is; level = level (definitions_of [] structs) i.ordered tag h; ordered = i.ordered }

pub found : (indices : List ℕ) (structs : List Struct) (tag : ℕ) (result : Option (Bor Struct)) → AreIndexed indices structs →
    option_copied result ≡ option_and_then (slice_get structs) (slice_get indices tag) →
    MatchOption result (is_defined (definitions_of [] structs) tag ≡ false) (λ s. IsFound (definitions_of [] structs) tag s.now)
found indices structs tag None i e = none-found indices structs tag i (sym e)
found indices structs tag (Some s) i e = some-found indices structs tag s.now (slice_get indices tag) i refl (sym e)
