-- Leaves of laid-out types fit, and so does what is written at them.
use Rattle.std.proofs.Common.{◌≡◌, ◌≤◌, ◌<◌, inl, inr, ℕ, ◌+◌, ◌*◌, zero, suc, Bool, true, false, List, [], ◌∷◌, length, map, refl, ap, ◌∙◌, arith, subst}
use Rattle.std.specs.Prelude.{◌-◌, ◌/◌, ◌%◌, ◌^◌, ◌==◌, ◌&&◌, ◌||◌, not, nat_le, nat_lt, if◌then◌else◌, slice_index_or}
use Rattle.std.proofs.lemmas.Bool.Decides.{nat_tests}
use Rattle.g_build_keeps.proofs.lemmas.Names.{below}
use Rattle.std.specs.List.{filter}
use Rattle.std.proofs.lemmas.Bool.{or_right}
use Rattle.std.proofs.Math.Nat.{mod-lt}
use Rattle.val_core.specs.declared.leaf.Leaf.{Leaf}
use Rattle.c_type.specs.Layout.{Definitions, size, leaves, IsLaidOut}
use Rattle.c_type.specs.LayoutLaws.{IsMultiple, IsWidth, AreInOrder, LeavesAreInOrder}
use Rattle.c_type.specs.WellDefined.{AreDefinitions}
use Rattle.c_type.specs.Trees.{TypeTree}
use Rattle.c_typed.specs.Typed.{WrittenTree, word_at, link_at, characters_at, VariableTree}
use Rattle.c_typed.specs.WellTyped.{HasLeaf, AreCharactersAt, WrittenFits, VariablesFit}
use Rattle.g_graph.specs.declared.link.Link.{Link}
use Rattle.g_graph.specs.Plain.{PlainObject}
use Rattle.g_graph.specs.Program.{link_fits}
use Rattle.g_graph.specs.WellFormed.{all_of, some_of, distinct, is_width, leaves_fit}
use Rattle.g_build_def.specs.Globals.{byte_at, bytes_from, links_in}
use Rattle.g_build_def.specs.Functions.{objects_made}

-- ---- leaves

pub order_rises : (low high : ℕ) (ls : List Leaf) → AreInOrder low high ls → low ≤ high
order_rises low high [] h = h
order_rises low high (l ∷ ls) h = let r = order_rises (l.offset + l.width) high ls h.1 in omega (arith, r, h.0.above)

width_fits : (w : ℕ) → IsWidth w → is_width w ≡ true
width_fits w (inl e) = ap is_width e
width_fits w (inr (inl e)) = ap is_width e
width_fits w (inr (inr e)) = ap is_width e

multiple : (w o : ℕ) → IsWidth w → IsMultiple w o → (o % w == 0) ≡ true
multiple w o (inl e) m = let none : o % w ≡ 0 = ap (λ v. o % v) e ∙ omega arith in grind (arith, nat_tests, none)
multiple w o (inr (inl e)) m =
    let twice : o ≡ m.0 * 2 = m.1 ∙ ap (λ v. m.0 * v) e in
    let none : o % w ≡ 0 = ap (λ v. o % v) e ∙ omega (arith, twice) in grind (arith, nat_tests, none)
multiple w o (inr (inr e)) m =
    let four : o ≡ m.0 * 4 = m.1 ∙ ap (λ v. m.0 * v) e in
    let none : o % w ≡ 0 = ap (λ v. o % v) e ∙ omega (arith, four) in grind (arith, nat_tests, none)

order_fits : (low high : ℕ) (ls : List Leaf) → AreInOrder low high ls → leaves_fit high low ls ≡ true
order_fits low high [] h = refl
order_fits low high (l ∷ ls) h =
    let within = order_rises (l.offset + l.width) high ls h.1 in
    λ i. ((((le_true h.0.above i) && le_true within i) && width_fits l.width h.0.width i) && multiple l.width l.offset h.0.width h.0.aligned i) && order_fits (l.offset + l.width) high ls h.1 i
  where
    le_true : {m n : ℕ} → m ≤ n → nat_le m n ≡ true
    le_true h = grind (arith, nat_tests, h)

pub leaves_of_fit : LeavesAreInOrder → (defs : Definitions) → AreDefinitions defs → (t : TypeTree) → IsLaidOut defs t → leaves_fit (size defs t) 0 (leaves defs t) ≡ true
leaves_of_fit law defs good t h =
    let whole : 0 + size defs t ≡ size defs t = omega arith in
    order_fits 0 (size defs t) (leaves defs t) (subst (λ n. AreInOrder 0 n (leaves defs t)) whole (law defs good t h.complete 0 (0, omega arith)))

pub objects_fit_of : LeavesAreInOrder → (defs : Definitions) → AreDefinitions defs → (vs : List VariableTree) → VariablesFit defs vs →
    all_of (λ (o : PlainObject). leaves_fit o.size 0 o.leaves) (objects_made defs vs) ≡ true
objects_fit_of law defs good [] h = refl
objects_fit_of law defs good (v ∷ vs) h = by_kind v.is_object (leaves_of_fit law defs good v.type h.0.0) (objects_fit_of law defs good vs h.1)
  where
    by_kind : (t : Bool) → leaves_fit (size defs v.type) 0 (leaves defs v.type) ≡ true → all_of (λ (o : PlainObject). leaves_fit o.size 0 o.leaves) (objects_made defs vs) ≡ true →
        all_of (λ (o : PlainObject). leaves_fit o.size 0 o.leaves) (map (λ (v : VariableTree). record { size = size defs v.type; leaves = leaves defs v.type })
        (if t then v ∷ filter (λ (v : VariableTree). v.is_object) vs else filter (λ (v : VariableTree). v.is_object) vs)) ≡ true
    by_kind true a b = λ i. a i && b i
    by_kind false a b = b

-- ---- what is written

characters_below : (ls : List Leaf) (o i : ℕ) (cs : List ℕ) → AreCharactersAt ls o cs → slice_index_or cs i 0 < 256
characters_below ls o i [] h = omega arith
characters_below ls o zero (c ∷ cs) h = h.1
characters_below ls o (suc i) (c ∷ cs) h = characters_below ls (suc o) i cs h.2

byte_below : (ls : List Leaf) (n from i : ℕ) (ws : List WrittenTree) → WrittenFits ls n from ws → byte_at ws i < 256
byte_below ls n from i [] h = omega arith
byte_below ls n from i (word_at o width w ∷ ws) h =
    by_test (nat_le o i && nat_lt i (o + width)) (mod-lt (w / 2 ^ (8 * (i - o))) (omega arith)) (byte_below ls n (o + width) i ws h.3)
  where
    by_test : (t : Bool) → w / 2 ^ (8 * (i - o)) % 2 ^ 8 < 2 ^ 8 → byte_at ws i < 256 → (if t then w / 2 ^ (8 * (i - o)) % 2 ^ 8 else byte_at ws i) < 256
    by_test true a b = a
    by_test false a b = b
byte_below ls n from i (link_at o k ∷ ws) h = byte_below ls n (o + 4) i ws h.3
byte_below ls n from i (characters_at o cs ∷ ws) h =
    by_test (nat_le o i && nat_lt i (o + length cs)) (characters_below ls o (i - o) cs h.1) (byte_below ls n (o + length cs) i ws h.2)
  where
    by_test : (t : Bool) → slice_index_or cs (i - o) 0 < 256 → byte_at ws i < 256 → (if t then slice_index_or cs (i - o) 0 else byte_at ws i) < 256
    by_test true a b = a
    by_test false a b = b

pub bytes_below : (ls : List Leaf) (n from : ℕ) (ws : List WrittenTree) (i count : ℕ) → WrittenFits ls n from ws → all_of (λ b. nat_lt b 256) (bytes_from ws i count) ≡ true
bytes_below ls n from ws i zero h = refl
bytes_below ls n from ws i (suc count) h = λ k. below (byte_at ws i) 256 (byte_below ls n from i ws h) k && bytes_below ls n from ws (suc i) count h k

-- ---- links

leaf_found : (ls : List Leaf) (o w : ℕ) → HasLeaf ls o w → some_of (λ (l : Leaf). (l.offset == o) && (l.width == w)) ls ≡ true
leaf_found [] o w h = absurd h
leaf_found (l ∷ ls) o w (inl h) = ap (λ t. t || some_of (λ (l : Leaf). (l.offset == o) && (l.width == w)) ls) both
  where
    equal : {m n : ℕ} → m ≡ n → (m == n) ≡ true
    equal e = grind (arith, nat_tests, e)

    both : ((l.offset == o) && (l.width == w)) ≡ true
    both = λ i. equal h.0 i && equal h.1 i
leaf_found (l ∷ ls) o w (inr h) = or_right ((l.offset == o) && (l.width == w)) (some_of (λ (l : Leaf). (l.offset == o) && (l.width == w)) ls) (leaf_found ls o w h)

pub links_fit : (ls : List Leaf) (n from : ℕ) (ws : List WrittenTree) → WrittenFits ls n from ws → all_of (link_fits n ls) (links_in ws) ≡ true
links_fit ls n from [] h = refl
links_fit ls n from (word_at o width w ∷ ws) h = links_fit ls n (o + width) ws h.3
links_fit ls n from (link_at o k ∷ ws) h = λ i. (leaf_found ls o 4 h.1 i && below k n h.2 i) && links_fit ls n (o + 4) ws h.3 i
links_fit ls n from (characters_at o cs ∷ ws) h = links_fit ls n (o + length cs) ws h.2

differ : (m n : ℕ) → m < n → (m == n) ≡ false
differ m n h = grind (arith, nat_tests, h)

-- links stand from this offset on
links_after : (ls : List Leaf) (n from a : ℕ) (ws : List WrittenTree) → WrittenFits ls n from ws → a < from → some_of (λ m. a == m) (map (λ (link : Link). link.at) (links_in ws)) ≡ false
links_after ls n from a [] h l = refl
links_after ls n from a (word_at o width w ∷ ws) h l = links_after ls n (o + width) a ws h.3 (omega (arith, l, h.0))
links_after ls n from a (link_at o k ∷ ws) h l = λ i. differ a o (omega (arith, l, h.0)) i || links_after ls n (o + 4) a ws h.3 (omega (arith, l, h.0)) i
links_after ls n from a (characters_at o cs ∷ ws) h l = links_after ls n (o + length cs) a ws h.2 (omega (arith, l, h.0))

pub links_apart : (ls : List Leaf) (n from : ℕ) (ws : List WrittenTree) → WrittenFits ls n from ws → distinct (map (λ (link : Link). link.at) (links_in ws)) ≡ true
links_apart ls n from [] h = refl
links_apart ls n from (word_at o width w ∷ ws) h = links_apart ls n (o + width) ws h.3
links_apart ls n from (link_at o k ∷ ws) h = λ i. not (links_after ls n (o + 4) o ws h.3 (omega arith) i) && links_apart ls n (o + 4) ws h.3 i
links_apart ls n from (characters_at o cs ∷ ws) h = links_apart ls n (o + length cs) ws h.2
