-- The code of items one after the other: where each ends, and where labels are marked.
use Rattle.std.proofs.Common.{◌≡◌, ℕ, ◌+◌, ◌≤◌, ◌==◌, Bool, true, false, if◌then◌else◌, List, [], ◌∷◌, Option, Some, refl, sym, ap, subst, ◌∙◌, arith, eq-eqb}
use Rattle.std.proofs.lemmas.List.Sums.{sum_by-cons}
use Rattle.rv_layout.specs.declared.item.Item.{Item}
use Rattle.rv_layout.specs.declared.item.Item.TheVariants.{Word, Mark, Jump, Call, Stub, Address}
use Rattle.rv_layout.specs.Items.{item_size, items_size, marks, label_at}
use Rattle.rv_layout.specs.Layout.{Addresses, functions_from, item_code, items_code, function_code, functions_code}
use Rattle.rv_machine.specs.Standing.{Text, CodeStands}
use Rattle.s_select_keeps.specs.Standing.{IsResolved, ItemsStand, FunctionsStandFrom}
use Rattle.s_select_keeps.specs.Laws.{ItemsAreResolved, ItemsAreCut, WordsStand}
use Rattle.rv_machine.proofs.lemmas.Standing.{code_is_cut}

module _ (text : Text) (addresses : Addresses) where
  -- ---- where code ends

  item-end : (labels : ℕ → Option ℕ) (at : ℕ) (i : Item) (m : ℕ) → CodeStands text at (item_code addresses labels at i) m → m ≡ at + item_size i
  item-end labels at (Word i) m h = sym h.1
  item-end labels at (Mark l) m h = let e : at ≡ m = h in omega (arith, e)
  item-end labels at (Jump l) m h = sym h.1
  item-end labels at (Call f) m h = let e : at + 4 + 4 ≡ m = h.1.1 in omega (arith, e)
  item-end labels at (Stub s) m h = let e : at + 4 + 4 ≡ m = h.1.1 in omega (arith, e)
  item-end labels at (Address r k) m h = let e : at + 4 + 4 ≡ m = h.1.1 in omega (arith, e)

  -- an item, and those after it
  item-then : (labels : ℕ → Option ℕ) (at b : ℕ) (i : Item) (is : List Item) → CodeStands text at (items_code addresses labels at (i ∷ is)) b
      → CodeStands text at (item_code addresses labels at i) (at + item_size i) × CodeStands text (at + item_size i) (items_code addresses labels (at + item_size i) is) b
  item-then labels at b i is h =
      let r = code_is_cut text at b (item_code addresses labels at i) (items_code addresses labels (at + item_size i) is) h in
      let end = item-end labels at i r.0 r.1 in (
        subst (λ m. CodeStands text at (item_code addresses labels at i) m) end r.1,
        subst (λ m. CodeStands text m (items_code addresses labels (at + item_size i) is) b) end r.2,
      )

  items-end : (labels : ℕ → Option ℕ) (at : ℕ) (is : List Item) (m : ℕ) → CodeStands text at (items_code addresses labels at is) m → m ≡ at + items_size is
  items-end labels at [] m h = let e : at ≡ m = h in omega (arith, e)
  items-end labels at (i ∷ is) m h =
      let e = items-end labels (at + item_size i) is m (item-then labels at m i is h).1 in
      let sum = sum_by-cons item_size i is in
      omega (arith, e, sum)

  pub functions_stand : (at b : ℕ) (fs : List (List Item)) → CodeStands text at (functions_code addresses at fs) b
      → FunctionsStandFrom text addresses fs (functions_from at fs)
  functions_stand at b [] h = tt
  functions_stand at b (f ∷ fs) h =
      let r = code_is_cut text at b (function_code addresses at f) (functions_code addresses (at + items_size f) fs) h in
      let end = items-end (λ l. label_at l at f) at f r.0 r.1 in (
        subst (λ m. CodeStands text at (function_code addresses at f) m) end r.1,
        functions_stand (at + items_size f) b fs (subst (λ m. CodeStands text m (functions_code addresses (at + items_size f) fs) b) end r.2),
      )

-- ---- labels

marks-more : (l : ℕ) (i : Item) (is : List Item) → marks l is ≤ marks l (i ∷ is)
marks-more l (Word i) is = omega arith
marks-more l (Mark n) is = omega arith
marks-more l (Jump n) is = omega arith
marks-more l (Call f) is = omega arith
marks-more l (Stub s) is = omega arith
marks-more l (Address r k) is = omega arith

-- a label that is marked later, and once at most
label-later : (l at : ℕ) (i : Item) (is : List Item) → marks l (i ∷ is) ≤ 1 → 1 ≤ marks l is → label_at l at (i ∷ is) ≡ label_at l (at + item_size i) is
label-later l at (Word i) is once later = refl
label-later l at (Mark n) is once later = by (n == l) once
  where
    by : (test : Bool) → (if test then 1 else 0) + marks l is ≤ 1 → (if test then Some at else label_at l at is) ≡ label_at l (at + 0) is
    by true twice = absurd (omega (arith, twice, later))
    by false other = let same : at ≡ at + 0 = omega arith in ap (λ a. label_at l a is) same
label-later l at (Jump n) is once later = refl
label-later l at (Call f) is once later = refl
label-later l at (Stub s) is once later = refl
label-later l at (Address r k) is once later = refl

marked-here : (n at : ℕ) (is : List Item) → (1 ≤ marks n (Mark n ∷ is)) × (label_at n at (Mark n ∷ is) ≡ Some at)
marked-here n at is = let same : (n == n) ≡ true = eq-eqb n n refl in rw same (omega arith, refl)

-- each label that is marked from here on is resolved as these items say
abbrev Resolves : (labels : ℕ → Option ℕ) → (at : ℕ) → List Item → Type 0
Resolves labels at is = (l : ℕ) → 1 ≤ marks l is → labels l ≡ label_at l at is

here-resolved : (labels : ℕ → Option ℕ) (at : ℕ) (i : Item) (is : List Item) → Resolves labels at (i ∷ is) → IsResolved labels at i
here-resolved labels at (Mark n) is h = h n (marked-here n at is).0 ∙ (marked-here n at is).1
here-resolved labels at (Word i) is h = tt
here-resolved labels at (Jump n) is h = tt
here-resolved labels at (Call f) is h = tt
here-resolved labels at (Stub s) is h = tt
here-resolved labels at (Address r k) is h = tt

items-resolved : (text : Text) (addresses : Addresses) (labels : ℕ → Option ℕ) (at b : ℕ) (items : List Item) → ((l : ℕ) → marks l items ≤ 1) → Resolves labels at items
    → CodeStands text at (items_code addresses labels at items) b → ItemsStand text addresses labels at items b
items-resolved text addresses labels at b [] once same h = h
items-resolved text addresses labels at b (i ∷ is) once same h =
    let r = item-then text addresses labels at b i is h in (
      here-resolved labels at i is same,
      r.0,
      items-resolved text addresses labels (at + item_size i) b is (λ l. let more = marks-more l i is in let all = once l in omega (arith, more, all))
          (λ l later. let more = marks-more l i is in same l (omega (arith, more, later)) ∙ label-later l at i is (once l) later) r.1,
    )

pub items_are_resolved : ItemsAreResolved
items_are_resolved text addresses at b items once h = items-resolved text addresses (λ l. label_at l at items) at b items once (λ l marked. refl) h

-- ---- items that stand

pub items_are_cut : ItemsAreCut
items_are_cut text addresses labels a b [] second h = (a, refl, h)
items_are_cut text addresses labels a b (i ∷ is) second h =
    let r = items_are_cut text addresses labels (a + item_size i) b is second h.2 in (r.0, (h.0, h.1, r.1), r.2)

pub words_stand : WordsStand
words_stand text addresses labels a b [] h = h
words_stand text addresses labels a b (i ∷ is) h = (h.1.0, words_stand text addresses labels (a + 4) b is h.2)
