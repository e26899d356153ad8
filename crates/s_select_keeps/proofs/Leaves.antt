-- Leaves that stand in order: where each lies, and what links and values stand at them.
use Rattle.std.proofs.Common.{◌≡◌, ◌≢◌, ◌⊎◌, ℕ, zero, suc, ◌+◌, ◌%◌, ◌<◌, ◌≤◌, ◌==◌, nat_le, nat_lt, ◌&&◌, ◌||◌, Bool, true, false, cond, if◌then◌else◌, List, [], ◌∷◌, map, slice_get, None, Some, refl, sym, ap, ◌∙◌, subst, arith, inl, inr, eqb-true, eq-eqb}
use Rattle.std.specs.List.{list_any}
use Rattle.std.proofs.lemmas.Bool.{and_parts, leb-true, ltb-true, or_cases, both_ways}
use Rattle.std.proofs.lemmas.Option.{same_Some}
use Rattle.val_core.specs.declared.leaf.Leaf.{Leaf}
use Rattle.val_core.specs.declared.values.Value.{Value}
use Rattle.val_core.specs.Memory.{is_at, value_at}
use Rattle.g_graph.specs.declared.link.Link.{Link}
use Rattle.g_graph.specs.Plain.{PlainDelta}
use Rattle.g_graph.specs.Program.{link_fits}
use Rattle.g_graph.specs.WellFormed.{all_of, some_of, is_width, leaves_fit}
use Rattle.g_mean.specs.Calls.{link_at, leaf_value, first_cell}
use Rattle.rv_machine.specs.Memory.{IsWidth}

abbrev pub is_leaf : (width offset : ℕ) → Leaf → Bool
is_leaf width offset l = (l.offset == offset) && (l.width == width)

-- a leaf within so many bytes, no earlier than from the first
pub record IsWithin (size first width offset : ℕ) : Type 0 where
  pub width_is : IsWidth width
  pub aligned : offset % width ≡ 0
  pub from : first ≤ offset
  pub to : offset + width ≤ size

-- two leaves are the same, or have no byte in common
abbrev AreSeparate : (w o w' o' : ℕ) → Type 0
AreSeparate w o w' o' = ((w ≡ w') × (o ≡ o')) ⊎ (o + w ≤ o') ⊎ (o' + w' ≤ o)

record First (size first : ℕ) (l : Leaf) (ls : List Leaf) : Type 0 where
  here : IsWithin size first l.width l.offset
  rest : leaves_fit size (l.offset + l.width) ls ≡ true

first-of : (size first : ℕ) (l : Leaf) (ls : List Leaf) → leaves_fit size first (l ∷ ls) ≡ true → First size first l ls
first-of size first l ls fit =
    let all = and_parts (nat_le first l.offset && nat_le (l.offset + l.width) size && is_width l.width && (l.offset % l.width == 0)) (leaves_fit size (l.offset + l.width) ls) fit in
    let even = and_parts (nat_le first l.offset && nat_le (l.offset + l.width) size && is_width l.width) (l.offset % l.width == 0) all.0 in
    let wide = and_parts (nat_le first l.offset && nat_le (l.offset + l.width) size) (is_width l.width) even.0 in
    let width =
    elim (or_cases ((l.width == 1) || (l.width == 2)) (l.width == 4) wide.1) as (λ _. IsWidth l.width) [
      | inl low ↦ elim (or_cases (l.width == 1) (l.width == 2) low) as (λ _. IsWidth l.width) [
        | inl one ↦ inl (eqb-true l.width 1 one)
        | inr two ↦ inr (inl (eqb-true l.width 2 two))
      ]
      | inr four ↦ inr (inr (eqb-true l.width 4 four))
    ]
    in
    let ends = and_parts (nat_le first l.offset) (nat_le (l.offset + l.width) size) wide.0 in
    record {
      here = record { width_is = width; aligned = eqb-true (l.offset % l.width) 0 even.1; from = leb-true first l.offset ends.0; to = leb-true (l.offset + l.width) size ends.1 };
      rest = all.1;
    }

leaf_is : (w o : ℕ) (l : Leaf) → is_leaf w o l ≡ true → (l.offset ≡ o) × (l.width ≡ w)
leaf_is w o l e = let two = and_parts (l.offset == o) (l.width == w) e in (eqb-true l.offset o two.0, eqb-true l.width w two.1)

pub leaf_within : (size first w o : ℕ) (ls : List Leaf) → leaves_fit size first ls ≡ true → some_of (is_leaf w o) ls ≡ true → IsWithin size first w o
leaf_within size first w o [] fit has = absurd cc
leaf_within size first w o (l ∷ ls) fit has =
    by (first-of size first l ls fit) (leaf_within size (l.offset + l.width) w o ls) (or_cases (is_leaf w o l) (some_of (is_leaf w o) ls) has)
  where
    by : First size first l ls → (leaves_fit size (l.offset + l.width) ls ≡ true → some_of (is_leaf w o) ls ≡ true → IsWithin size (l.offset + l.width) w o)
        → (is_leaf w o l ≡ true) ⊎ (some_of (is_leaf w o) ls ≡ true) → IsWithin size first w o
    by h later (inl e) =
        let is = leaf_is w o l e in
        subst (λ x. IsWithin size first w x) is.0 (subst (λ x. IsWithin size first x l.offset) is.1 h.here)
    by h later (inr e) =
        let next = later h.rest e in
        let start = h.here.from in
        let after = next.from in
        record { width_is = next.width_is; aligned = next.aligned; from = omega (arith, start, after); to = next.to }

pub leaves_are_separate : (size first w o w' o' : ℕ) (ls : List Leaf) → leaves_fit size first ls ≡ true → some_of (is_leaf w o) ls ≡ true → some_of (is_leaf w' o') ls ≡ true → AreSeparate w o w' o'
leaves_are_separate size first w o w' o' [] fit one two = absurd cc
leaves_are_separate size first w o w' o' (l ∷ ls) fit one two =
    by (first-of size first l ls fit).rest (leaves_are_separate size (l.offset + l.width) w o w' o' ls) (or_cases (is_leaf w o l) (some_of (is_leaf w o) ls) one)
    (or_cases (is_leaf w' o' l) (some_of (is_leaf w' o') ls) two)
  where
    after : (v p : ℕ) → leaves_fit size (l.offset + l.width) ls ≡ true → some_of (is_leaf v p) ls ≡ true → l.offset + l.width ≤ p
    after v p fits h = (leaf_within size (l.offset + l.width) v p ls fits h).from

    by : leaves_fit size (l.offset + l.width) ls ≡ true
        → (leaves_fit size (l.offset + l.width) ls ≡ true → some_of (is_leaf w o) ls ≡ true → some_of (is_leaf w' o') ls ≡ true → AreSeparate w o w' o')
        → (is_leaf w o l ≡ true) ⊎ (some_of (is_leaf w o) ls ≡ true) → (is_leaf w' o' l ≡ true) ⊎ (some_of (is_leaf w' o') ls ≡ true) → AreSeparate w o w' o'
    by fits later (inl a) (inl b) = let x = leaf_is w o l a in let y = leaf_is w' o' l b in inl (sym x.1 ∙ y.1, sym x.0 ∙ y.0)
    by fits later (inl a) (inr b) = let x = leaf_is w o l a in let at = x.0 in let wide = x.1 in let next = after w' o' fits b in inr (inl (omega (arith, at, wide, next)))
    by fits later (inr a) (inl b) = let y = leaf_is w' o' l b in let at = y.0 in let wide = y.1 in let next = after w o fits a in inr (inr (omega (arith, at, wide, next)))
    by fits later (inr a) (inr b) = later fits a b

-- ---- cells of a global

pub leaf_of_cell : (global : ℕ → Value) (d : PlainDelta) (w o : ℕ) (ls : List Leaf) → list_any (is_at w o) (map (first_cell global d) ls) ≡ some_of (is_leaf w o) ls
leaf_of_cell global d w o [] = refl
leaf_of_cell global d w o (l ∷ ls) = ap (λ t. is_leaf w o l || t) (leaf_of_cell global d w o ls)

-- the value of a leaf
pub record ValueIs (global : ℕ → Value) (d : PlainDelta) (w o : ℕ) (v : Value) : Type 0 where
  pub leaf : Leaf
  pub offset : leaf.offset ≡ o
  pub width : leaf.width ≡ w
  pub value : leaf_value global d.bytes leaf (link_at leaf.offset d.links) ≡ v

pub value_is : (global : ℕ → Value) (d : PlainDelta) (w o : ℕ) (v : Value) (ls : List Leaf) → value_at w o (map (first_cell global d) ls) ≡ Some v → ValueIs global d w o v
value_is global d w o v [] e = absurd cc
value_is global d w o v (l ∷ ls) e = by (is_leaf w o l) refl (value_is global d w o v ls) e
  where
    by : (test : Bool) → is_leaf w o l ≡ test → (value_at w o (map (first_cell global d) ls) ≡ Some v → ValueIs global d w o v)
        → cond test (Some (leaf_value global d.bytes l (link_at l.offset d.links))) (value_at w o (map (first_cell global d) ls)) ≡ Some v → ValueIs global d w o v
    by true is later has =
        let at = leaf_is w o l is in
        record { leaf = l; offset = at.0; width = at.1; value = same_Some (leaf_value global d.bytes l (link_at l.offset d.links)) v has }
    by false is later has = later has

-- ---- links

-- a link that is found stands at a leaf of width 4, and names a global
pub link_there : (globals : ℕ) (leaves : List Leaf) (links : List Link) (o k : ℕ) → all_of (link_fits globals leaves) links ≡ true → link_at o links ≡ Some k
    → (some_of (is_leaf 4 o) leaves ≡ true) × (k < globals)
link_there globals leaves [] o k fit found = absurd cc
link_there globals leaves (l ∷ ls) o k fit found = by (l.at == o) refl (link_there globals leaves ls o k two.1) found
  where
    two : (link_fits globals leaves l ≡ true) × (all_of (link_fits globals leaves) ls ≡ true)
    two = and_parts (link_fits globals leaves l) (all_of (link_fits globals leaves) ls) fit

    by : (test : Bool) → (l.at == o) ≡ test → (link_at o ls ≡ Some k → (some_of (is_leaf 4 o) leaves ≡ true) × (k < globals)) → (if test then Some l.delta else link_at o ls) ≡ Some k
        → (some_of (is_leaf 4 o) leaves ≡ true) × (k < globals)
    by true same later is =
        let parts = and_parts (some_of (is_leaf 4 l.at) leaves) (nat_lt l.delta globals) two.0 in (
          subst (λ x. some_of (is_leaf 4 x) leaves ≡ true) (eqb-true l.at o same) parts.0,
          subst (λ x. x < globals) (same_Some l.delta k is) (ltb-true l.delta globals parts.1),
        )
    by false other later is = later is

-- where none is found, each link stands elsewhere, at a leaf of width 4
pub links_elsewhere : (globals : ℕ) (leaves : List Leaf) (links : List Link) (o i : ℕ) (l : Link) → all_of (link_fits globals leaves) links ≡ true → link_at o links ≡ None → slice_get links i ≡ Some l
    → (some_of (is_leaf 4 l.at) leaves ≡ true) × (l.at ≢ o)
links_elsewhere globals leaves [] o i l fit none there = absurd cc
links_elsewhere globals leaves (x ∷ ls) o i l fit none there = by (x.at == o) refl none i (λ j. links_elsewhere globals leaves ls o j l two.1) there
  where
    two : (link_fits globals leaves x ≡ true) × (all_of (link_fits globals leaves) ls ≡ true)
    two = and_parts (link_fits globals leaves x) (all_of (link_fits globals leaves) ls) fit

    by : (test : Bool) → (x.at == o) ≡ test → (if test then Some x.delta else link_at o ls) ≡ None → (j : ℕ)
        → ((j : ℕ) → link_at o ls ≡ None → slice_get ls j ≡ Some l → (some_of (is_leaf 4 l.at) leaves ≡ true) × (l.at ≢ o))
        → slice_get (x ∷ ls) j ≡ Some l → (some_of (is_leaf 4 l.at) leaves ≡ true) × (l.at ≢ o)
    by true same found j later at = absurd cc
    by false other found zero later at =
        let parts = and_parts (some_of (is_leaf 4 x.at) leaves) (nat_lt x.delta globals) two.0 in
        let apart : x.at ≢ o = λ same. both_ways (x.at == o) other (eq-eqb x.at o same) in
        subst (λ (k : Link). (some_of (is_leaf 4 k.at) leaves ≡ true) × (k.at ≢ o)) (same_Some x l at) (parts.0, apart)
    by false other found (suc j) later at = later j found at
