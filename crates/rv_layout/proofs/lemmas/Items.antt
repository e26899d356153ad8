-- Lemmas on the code of items and on the addresses of labels.
use Rattle.std.proofs.Common.{◌≡◌, ℕ, ◌+◌, ◌%◌, ◌^◌, ◌==◌, ◌<◌, ◌≤◌, refl, sym, ◌∙◌, ap, subst, true, false, List, [], ◌∷◌, ◌++◌, if◌then◌else◌, Option, Some, unwrap_or, append_assoc, append-nil, arith}
use Rattle.std.proofs.lemmas.Grind.{flat_map-append}
use Rattle.std.proofs.lemmas.Bool.{and_parts, ltb-true}
use Rattle.std.proofs.lemmas.Bool.Decides.{nat_tests}
use Rattle.std.specs.Prelude.{Bool, IsTrue, ◌&&◌}
use Rattle.g_graph.specs.WellFormed.{all_of}
use Rattle.std.proofs.lemmas.List.Sums.{sum_by-cons}
use Rattle.elf_file.specs.Header.{word}
use Rattle.rv_isa.specs.Words.{word_of}
use Rattle.rv_isa.specs.declared.instruction.Instr.{Instr}
use Rattle.rv_layout.specs.declared.item.Item.{Item}
use Rattle.rv_layout.specs.declared.item.Item.TheVariants.{Word, Mark, Jump, Call, Stub, Address}
use Rattle.rv_layout.specs.Sequences.{bytes_of}
use Rattle.rv_layout.specs.Items.{item_size, items_size, marks, label_at}
use Rattle.rv_layout.specs.Layout.{Addresses, item_code, items_code, function_code, functions_code}
use Rattle.rv_layout.specs.Conditions.{is_marked_once, labels_are_marked, is_within_reach, item_fits, function_fits, Reaches}

pub bytes_of-append : (xs ys : List Instr) → bytes_of (xs ++ ys) ≡ bytes_of xs ++ bytes_of ys
unfolding bytes_of
bytes_of-append xs ys = flat_map-append (λ i. word (word_of i)) xs ys

-- the code of an item asks for its label alone
item_code-same : (a : Addresses) (f g : ℕ → Option ℕ) → ((q : ℕ) → f q ≡ g q) → (at : ℕ) (i : Item) → item_code a f at i ≡ item_code a g at i
item_code-same a f g same at (Word i) = refl
item_code-same a f g same at (Mark l) = refl
item_code-same a f g same at (Jump l) = rw (same l) refl
item_code-same a f g same at (Call k) = refl
item_code-same a f g same at (Stub s) = refl
item_code-same a f g same at (Address r k) = refl

-- an address among items that begin at `at`
pub record IsWithin (at size a : ℕ) : Type 0 where
  pub from : at ≤ a
  pub to : a ≤ at + size
  pub aligned : a % 4 ≡ at % 4

-- the same after so many bytes more
within_later : (size at rest whole a : ℕ) → whole ≡ size + rest → size % 4 ≡ 0 → IsWithin (at + size) rest a → IsWithin at whole a
within_later size at rest whole a sum four w = record { from = omega arith; to = omega arith; aligned = omega arith }

within_whole : (at rest whole a : ℕ) → whole ≡ 0 + rest → IsWithin at rest a → IsWithin at whole a
within_whole at rest whole a sum w = record { from = w.from; to = omega arith; aligned = w.aligned }

-- a label that is marked has an address among the items
pub label_within : (l at : ℕ) (is : List Item) → 1 ≤ marks l is → IsWithin at (items_size is) (unwrap_or (label_at l at is) 0)
label_within l at [] h = absurd (omega arith)
label_within l at (Mark n ∷ is) h =
    elim (n == l) as (λ b. 1 ≤ (if b then 1 else 0) + marks l is → IsWithin at (items_size (Mark n ∷ is)) (unwrap_or (if b then Some at else label_at l at is) 0)) [
      | true ↦ λ _. record { from = omega arith; to = omega arith; aligned = refl }
      | false ↦ λ k. within_whole at (items_size is) _ _ (sum_by-cons item_size (Mark n) is) (label_within l at is (omega arith))
    ] h
label_within l at (Word i ∷ is) h = within_later 4 at (items_size is) _ _ (sum_by-cons item_size (Word i) is) refl (label_within l (at + 4) is h)
label_within l at (Jump k ∷ is) h = within_later 4 at (items_size is) _ _ (sum_by-cons item_size (Jump k) is) refl (label_within l (at + 4) is h)
label_within l at (Call f ∷ is) h = within_later 8 at (items_size is) _ _ (sum_by-cons item_size (Call f) is) refl (label_within l (at + 8) is h)
label_within l at (Stub s ∷ is) h = within_later 8 at (items_size is) _ _ (sum_by-cons item_size (Stub s) is) refl (label_within l (at + 8) is h)
label_within l at (Address r k ∷ is) h = within_later 8 at (items_size is) _ _ (sum_by-cons item_size (Address r k) is) refl (label_within l (at + 8) is h)

-- a jump among short items reaches its label
pub reaches : (f : ℕ → Option ℕ) (items : List Item) (at here : ℕ) (i : Item)
    → ((q : ℕ) → f q ≡ label_at q at items) → is_marked_once items i ≡ true → items_size items < 2 ^ 20
    → at % 4 ≡ 0 → at ≤ here → here ≤ at + items_size items → here % 4 ≡ 0 → Reaches f here i
reaches f items at here (Jump l) found marked short start low high aligned =
    let once : marks l items ≡ 1 = grind (arith, nat_tests) in
    let w = label_within l at items (omega arith) in
    rw (found l) (record { back = omega arith; forth = omega arith; from_aligned = aligned; to_aligned = omega arith })
reaches f items at here (Word i) found marked short start low high aligned = tt
reaches f items at here (Mark l) found marked short start low high aligned = tt
reaches f items at here (Call k) found marked short start low high aligned = tt
reaches f items at here (Stub s) found marked short start low high aligned = tt
reaches f items at here (Address r k) found marked short start low high aligned = tt

-- one item more of a text
pub items_step : (a : Addresses) (f g : ℕ → Option ℕ) → ((q : ℕ) → f q ≡ g q) → (here : ℕ) (x : Item) (rest all : List Item) (next : ℕ) (t t' whole : List ℕ)
    → all ≡ x ∷ rest → next ≡ here + item_size x → t ++ bytes_of (items_code a g here all) ≡ whole → t' ≡ t ++ bytes_of (item_code a f here x)
    → t' ++ bytes_of (items_code a g next rest) ≡ whole
items_step a f g same here x rest all next t t' whole first sum before pushed =
    let code = item_code a g here x in
    let later = items_code a g (here + item_size x) rest in
    ap (λ n. t' ++ bytes_of (items_code a g n rest)) sum
    ∙ ap (λ z. z ++ bytes_of later) (pushed ∙ ap (λ y. t ++ bytes_of y) (item_code-same a f g same here x))
    ∙ append_assoc t (bytes_of code) (bytes_of later)
    ∙ ap (λ z. t ++ z) (sym (bytes_of-append code later))
    ∙ ap (λ y. t ++ bytes_of (items_code a g here y)) (sym first)
    ∙ before

-- what holds of each of a list holds of its first, and of each of the rest
pub all_first : {X : Type 0} (test : X → Bool) (x : X) (rest all : List X) → all ≡ x ∷ rest → IsTrue (all_of test all) → IsTrue (test x)
all_first test x rest all first h = (and_parts (test x) (all_of test rest) (subst (λ xs. IsTrue (all_of test xs)) first h)).0

pub all_rest : {X : Type 0} (test : X → Bool) (x : X) (rest all : List X) → all ≡ x ∷ rest → IsTrue (all_of test all) → IsTrue (all_of test rest)
all_rest test x rest all first h = (and_parts (test x) (all_of test rest) (subst (λ xs. IsTrue (all_of test xs)) first h)).1

pub items_short : (fs gs : ℕ) (items : List Item) → IsTrue (function_fits fs gs items) → items_size items < 2 ^ 20
items_short fs gs items h =
    ltb-true _ _
    (and_parts (labels_are_marked items) (is_within_reach items)
    (and_parts (labels_are_marked items && is_within_reach items) (all_of (item_fits fs gs) items) h).0).1

-- and at the end of the items
pub items_end : (a : Addresses) (g : ℕ → Option ℕ) (here : ℕ) (rest : List Item) (t whole : List ℕ)
    → rest ≡ [] → t ++ bytes_of (items_code a g here rest) ≡ whole → t ≡ whole
unfolding bytes_of
items_end a g here rest t whole none all =
    sym (append-nil t) ∙ ap (λ is. t ++ bytes_of (items_code a g here is)) (sym none) ∙ all

pub item_size-aligned : (i : Item) → item_size i % 4 ≡ 0
item_size-aligned (Word i) = refl
item_size-aligned (Mark l) = refl
item_size-aligned (Jump l) = refl
item_size-aligned (Call f) = refl
item_size-aligned (Stub s) = refl
item_size-aligned (Address r k) = refl

pub items_size-aligned : (is : List Item) → items_size is % 4 ≡ 0
items_size-aligned [] = refl
items_size-aligned (i ∷ is) =
    let sum : items_size (i ∷ is) ≡ item_size i + items_size is = sum_by-cons item_size i is in
    omega (arith, item_size-aligned i, items_size-aligned is)

-- one function more of a text
pub functions_step : (a : Addresses) (at : ℕ) (f : List Item) (rest all : List (List Item)) (next : ℕ) (t t' whole : List ℕ)
    → all ≡ f ∷ rest → next ≡ at + items_size f → t ++ bytes_of (functions_code a at all) ≡ whole → t' ≡ t ++ bytes_of (function_code a at f)
    → t' ++ bytes_of (functions_code a next rest) ≡ whole
functions_step a at f rest all next t t' whole first sum before pushed =
    let code = function_code a at f in
    let later = functions_code a (at + items_size f) rest in
    ap (λ n. t' ++ bytes_of (functions_code a n rest)) sum
    ∙ ap (λ z. z ++ bytes_of later) pushed
    ∙ append_assoc t (bytes_of code) (bytes_of later)
    ∙ ap (λ z. t ++ z) (sym (bytes_of-append code later))
    ∙ ap (λ y. t ++ bytes_of (functions_code a at y)) (sym first)
    ∙ before

-- and at the end of the functions
pub functions_end : (a : Addresses) (at : ℕ) (rest : List (List Item)) (t whole : List ℕ)
    → rest ≡ [] → t ++ bytes_of (functions_code a at rest) ≡ whole → t ≡ whole
unfolding bytes_of
functions_end a at rest t whole none all =
    sym (append-nil t) ∙ ap (λ fs. t ++ bytes_of (functions_code a at fs)) (sym none) ∙ all
