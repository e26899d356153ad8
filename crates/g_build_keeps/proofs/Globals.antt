-- The globals as a program begins: what is written in each stands in its bytes and links.
use Rattle.std.proofs.Common.{◌≡◌, ◌≤◌, ◌<◌, ◌⊎◌, inl, inr, ℕ, zero, suc, ◌+◌, ◌-◌, ◌*◌, ◌/◌, ◌%◌, ◌^◌, ◌==◌, List, [], ◌∷◌, map, length, refl, sym, ap, ap₂, ◌∙◌, subst, arith}
use Rattle.std.specs.Prelude.{Bool, true, false, cond, ◌&&◌, nat_le, nat_lt, take, drop, slice_get, slice_index_or, Option, None, Some}
use Rattle.std.proofs.lemmas.Bool.{and_parts}
use Rattle.std.proofs.lemmas.Bool.Decides.{nat_tests}
use Rattle.val_core.specs.declared.leaf.Leaf.{Leaf}
use Rattle.val_core.specs.declared.values.Value.{Value}
use Rattle.val_core.specs.declared.values.Value.TheVariants.{Num}
use Rattle.val_core.specs.Memory.{Cell, IsSoundMemory}
use Rattle.val_core.specs.Objects.{word_of, address_in}
use Rattle.c_type.specs.Layout.{Definitions, size, leaves}
use Rattle.c_type.specs.LayoutLaws.{IsWidth, AreInOrder, LeavesAreInOrder}
use Rattle.c_typed.specs.Typed.{WrittenTree, word_at, link_at, characters_at, GlobalTree, ProgramTree}
use Rattle.c_typed.specs.WellTyped.{HasLeaf, AreCharactersAt, WrittenFits, GlobalIsTyped, IsWellTyped}
use Rattle.c_mean.specs.Run as source
use Rattle.c_mean.specs.Run.{global_address}
use Rattle.g_graph.specs.WellFormed.{all_of}
use Rattle.g_build_def.specs.Globals.{byte_at, bytes_from, links_in, global_made, globals_made}
use Rattle.g_build_def.proofs.lemmas.Programs.{bytes_counted, bytes_same}
use Rattle.g_build_keeps.proofs.lemmas.Leaves.{bytes_below, order_rises}
use Rattle.g_mean.specs.Calls as graph
use Rattle.g_mean.specs.Calls.{delta_sizes, global_of, little_endian}
use Rattle.g_mean.specs.LessDefined.{AreBytes, AreNarrow, AreSoundDeltas}
use Rattle.g_mean.proofs.lemmas.Programs.{memory-sound}

-- ---- leaves that stand apart

-- the same leaf, or one that ends where the other begins or before
abbrev Apart : (o w : ℕ) → Leaf → Type 0
Apart o w l = ((o ≡ l.offset) × (w ≡ l.width)) ⊎ ((o + w ≤ l.offset) ⊎ (l.offset + l.width ≤ o))

leaf-low : (low high : ℕ) (ls : List Leaf) (o w : ℕ) → AreInOrder low high ls → HasLeaf ls o w → (low ≤ o) × (o + w ≤ high) × IsWidth w
leaf-low low high [] o w h k = absurd k
leaf-low low high (l ∷ ls) o w h (inl k) =
    let up = order_rises (l.offset + l.width) high ls h.1 in
    let a = h.0.above in
    let b = k.0 in
    let c = k.1 in
    (omega (arith, a, b), omega (arith, up, b, c), subst IsWidth k.1 h.0.width)
leaf-low low high (l ∷ ls) o w h (inr k) =
    let r = leaf-low (l.offset + l.width) high ls o w h.1 k in
    let a = r.0 in
    let b = h.0.above in
    (omega (arith, a, b), r.1, r.2)

leaves-apart : (low high : ℕ) (ls : List Leaf) → AreInOrder low high ls → (o w : ℕ) (l : Leaf) → HasLeaf ls o w → HasLeaf ls l.offset l.width → Apart o w l
leaves-apart low high [] h o w l j k = absurd j
leaves-apart low high (x ∷ ls) h o w l (inl j) (inl k) = inl (sym j.0 ∙ k.0, sym j.1 ∙ k.1)
leaves-apart low high (x ∷ ls) h o w l (inl j) (inr k) =
    let r = (leaf-low (x.offset + x.width) high ls l.offset l.width h.1 k).0 in
    let a = j.0 in
    let b = j.1 in
    inr (inl (omega (arith, r, a, b)))
leaves-apart low high (x ∷ ls) h o w l (inr j) (inl k) =
    let r = (leaf-low (x.offset + x.width) high ls o w h.1 j).0 in
    let a = k.0 in
    let b = k.1 in
    inr (inr (omega (arith, r, a, b)))
leaves-apart low high (x ∷ ls) h o w l (inr j) (inr k) = leaves-apart (x.offset + x.width) high ls h.1 o w l j k

width-some : (w : ℕ) → IsWidth w → (0 < w) × (w ≤ 4)
width-some w (inl e) = (omega (arith, e), omega (arith, e))
width-some w (inr (inl e)) = (omega (arith, e), omega (arith, e))
width-some w (inr (inr e)) = (omega (arith, e), omega (arith, e))

-- ---- bytes

drop-bytes : (ws : List WrittenTree) (i o n : ℕ) → drop o (bytes_from ws i (o + n)) ≡ bytes_from ws (i + o) n
drop-bytes ws i zero n = ap₂ (bytes_from ws) (omega arith) (omega arith)
drop-bytes ws i (suc o) n =
    let one : suc o + n ≡ suc (o + n) = omega arith in
    let next : suc i + o ≡ i + suc o = omega arith in
    ap (λ k. drop (suc o) (bytes_from ws i k)) one ∙ drop-bytes ws (suc i) o n ∙ ap (λ k. bytes_from ws k n) next

take-bytes : (ws : List WrittenTree) (i w n : ℕ) → take w (bytes_from ws i (w + n)) ≡ bytes_from ws i w
take-bytes ws i zero n = refl
take-bytes ws i (suc w) n =
    let one : suc w + n ≡ suc (w + n) = omega arith in
    ap (λ k. take (suc w) (bytes_from ws i k)) one ∙ ap (λ bs. byte_at ws i ∷ bs) (take-bytes ws (suc i) w n)

-- the bytes of a leaf
leaf-bytes : (ws : List WrittenTree) (o w n : ℕ) → o + w ≤ n → take w (drop o (bytes_from ws 0 n)) ≡ bytes_from ws o w
leaf-bytes ws o w n h =
    let all : o + (w + (n - (o + w))) ≡ n = omega (arith, h) in
    let at : 0 + o ≡ o = omega arith in
    ap (λ k. take w (drop o (bytes_from ws 0 k))) (sym all) ∙ ap (take w) (drop-bytes ws 0 o (w + (n - (o + w))) ∙ ap (λ k. bytes_from ws k (w + (n - (o + w)))) at)
    ∙ take-bytes ws o w (n - (o + w))

-- the bytes of a word, from one on
abbrev pieces : (word from count : ℕ) → List ℕ
pieces w k zero = []
pieces w k (suc n) = w / 2 ^ (8 * k) % 2 ^ 8 ∷ pieces w (suc k) n

word-byte : (o width w : ℕ) (ws : List WrittenTree) (k : ℕ) → k < width → byte_at (word_at o width w ∷ ws) (o + k) ≡ w / 2 ^ (8 * k) % 2 ^ 8
word-byte o width w ws k h = ap (λ (t : Bool). cond t (w / 2 ^ (8 * (o + k - o)) % 2 ^ 8) (byte_at ws (o + k))) within ∙ ap (λ j. w / 2 ^ (8 * j) % 2 ^ 8) same
  where
    within : (nat_le o (o + k) && nat_lt (o + k) (o + width)) ≡ true
    within = grind (arith, nat_tests, h)

    same : o + k - o ≡ k
    same = omega arith

word-bytes : (o width w : ℕ) (ws : List WrittenTree) (k n : ℕ) → k + n ≤ width → bytes_from (word_at o width w ∷ ws) (o + k) n ≡ pieces w k n
word-bytes o width w ws k zero h = refl
word-bytes o width w ws k (suc n) h =
    let next : suc (o + k) ≡ o + suc k = omega arith in
    ap₂ (λ b bs. b ∷ bs) (word-byte o width w ws k (omega (arith, h))) (ap (λ i. bytes_from (word_at o width w ∷ ws) i n) next ∙ word-bytes o width w ws (suc k) n (omega (arith, h)))

-- a word stands in its bytes
word-back : (width w : ℕ) → IsWidth width → w < 2 ^ (8 * width) → little_endian (pieces w 0 width) ≡ w
word-back width w (inl e) h = ap (λ n. little_endian (pieces w 0 n)) e ∙ one (subst (λ n. w < 2 ^ (8 * n)) e h)
  where
    one : w < 2 ^ 8 → little_endian (pieces w 0 1) ≡ w
    one low = omega (arith, low)
word-back width w (inr (inl e)) h = ap (λ n. little_endian (pieces w 0 n)) e ∙ two (subst (λ n. w < 2 ^ (8 * n)) e h)
  where
    two : w < 2 ^ 16 → little_endian (pieces w 0 2) ≡ w
    two low = omega (arith, low)
word-back width w (inr (inr e)) h = ap (λ n. little_endian (pieces w 0 n)) e ∙ four (subst (λ n. w < 2 ^ (8 * n)) e h)
  where
    four : w < 2 ^ 32 → little_endian (pieces w 0 4) ≡ w
    four low = omega (arith, low)

zero-bytes : (i n : ℕ) → little_endian (bytes_from [] i n) ≡ 0
zero-bytes i zero = refl
zero-bytes i (suc n) = let r = zero-bytes (suc i) n in omega (arith, r)

-- ---- links

links-none : (ls : List Leaf) (n from a : ℕ) (ws : List WrittenTree) → WrittenFits ls n from ws → a < from → graph.link_at a (links_in ws) ≡ None
links-none ls n from a [] h low = refl
links-none ls n from a (word_at o width w ∷ ws) h low = let up = h.0 in links-none ls n (o + width) a ws h.3 (omega (arith, low, up))
links-none ls n from a (link_at o k ∷ ws) h low =
    let up = h.0 in
    let other : (o == a) ≡ false = grind (arith, nat_tests, up, low) in
    ap (λ t. cond t (Some k) (graph.link_at a (links_in ws))) other ∙ links-none ls n (o + 4) a ws h.3 (omega (arith, low, up))
links-none ls n from a (characters_at o cs ∷ ws) h low = let up = h.0 in links-none ls n (o + length cs) a ws h.2 (omega (arith, low, up))

-- ---- a leaf

-- the value of a leaf by the link that stands there, and by its bytes
abbrev by_link : (ℕ → Value) → Option ℕ → (word : ℕ) → Value
by_link global (Some k) w = global k
by_link global None w = Num w

-- the leaf is not at these characters
apart-characters : (ls : List Leaf) (low high : ℕ) → AreInOrder low high ls → (l : Leaf) → HasLeaf ls l.offset l.width → (o : ℕ) (cs : List ℕ) → AreCharactersAt ls o cs →
    (nat_le o l.offset && nat_lt l.offset (o + length cs)) ≡ false → (j : ℕ) → l.offset ≤ j → j < l.offset + l.width → (nat_le o j && nat_lt j (o + length cs)) ≡ false
apart-characters ls low high order l here o [] h other j up down = grind (arith, nat_tests)
apart-characters ls low high order l here o (c ∷ cs) h other j up down = by (leaves-apart low high ls order o 1 l h.0 here)
  where
    by : Apart o 1 l → (nat_le o j && nat_lt j (o + suc (length cs))) ≡ false
    by a = grind (arith, nat_tests)

character-leaf : (ls : List Leaf) (o : ℕ) (cs : List ℕ) (a : ℕ) → AreCharactersAt ls o cs → o ≤ a → a < o + length cs → HasLeaf ls a 1
character-leaf ls o [] a h low high = absurd (omega (arith, low, high))
character-leaf ls o (c ∷ cs) a h low high = by (o == a) refl (λ more. character-leaf ls (suc o) cs a h.2 more (omega (arith, high)))
  where
    by : (t : Bool) → (o == a) ≡ t → (suc o ≤ a → HasLeaf ls a 1) → HasLeaf ls a 1
    by true e r = let same : o ≡ a = grind (arith, nat_tests, e) in subst (λ k. HasLeaf ls k 1) same h.0
    by false e r = r (grind (arith, nat_tests, e, low))

module _ (ls : List Leaf) (low high : ℕ) (order : AreInOrder low high ls) (l : Leaf) (here : HasLeaf ls l.offset l.width) (n : ℕ) (global : ℕ → Value) where
  abbrev leaf_word : List WrittenTree → ℕ
  leaf_word ws = little_endian (bytes_from ws l.offset l.width)

  abbrev Same : List WrittenTree → Type 0
  Same ws = source.leaf_value global l.offset ws ≡ by_link global (graph.link_at l.offset (links_in ws)) (leaf_word ws)

  some : 0 < l.width
  some = (width-some l.width (leaf-low low high ls l.offset l.width order here).2).0

  -- what is written elsewhere says nothing of the leaf
  passed : (x : WrittenTree) (ws : List WrittenTree) → ((j : ℕ) → l.offset ≤ j → j < l.offset + l.width → byte_at (x ∷ ws) j ≡ byte_at ws j) → leaf_word (x ∷ ws) ≡ leaf_word ws
  passed x ws h = ap little_endian (bytes_same (x ∷ ws) ws l.offset l.width h)

  word-same : (from o width w : ℕ) (ws : List WrittenTree) → WrittenFits ls n from (word_at o width w ∷ ws) → Same ws → Same (word_at o width w ∷ ws)
  word-same from o width w ws h r = by (o == l.offset) refl
    where
      apart : Apart o width l
      apart = leaves-apart low high ls order o width l h.1 here

      by : (t : Bool) → (o == l.offset) ≡ t → cond t (Num w) (source.leaf_value global l.offset ws) ≡ by_link global (graph.link_at l.offset (links_in ws)) (leaf_word (word_at o width w ∷ ws))
      by true e =
          let same : o ≡ l.offset = grind (arith, nat_tests, e) in
          let positive : 0 < width = (width-some width (leaf-low low high ls o width order h.1).2).0 in
          let wide : width ≡ l.width = grind (arith, apart, same, some, positive) in
          let zero_is : o ≡ o + 0 = omega arith in
          ap Num (sym (word-back width w (leaf-low low high ls o width order h.1).2 h.2) ∙ ap little_endian (sym (word-bytes o width w ws 0 width (omega arith)))
          ∙ ap₂ (λ i k. little_endian (bytes_from (word_at o width w ∷ ws) i k)) (sym zero_is ∙ same) wide)
          ∙ ap (λ x. by_link global x (leaf_word (word_at o width w ∷ ws))) (sym (links-none ls n (o + width) l.offset ws h.3 (omega (arith, same, positive))))
      by false e =
          r ∙ ap (by_link global (graph.link_at l.offset (links_in ws))) (sym (passed (word_at o width w) ws (λ j up down.
          let other : (nat_le o j && nat_lt j (o + width)) ≡ false = grind (arith, nat_tests, e, apart, up, down) in
          ap (λ t. cond t (w / 2 ^ (8 * (j - o)) % 2 ^ 8) (byte_at ws j)) other)))

  link-same : (o k : ℕ) (ws : List WrittenTree) → Same ws → Same (link_at o k ∷ ws)
  link-same o k ws r = by (o == l.offset)
    where
      by : (t : Bool) → cond t (global k) (source.leaf_value global l.offset ws) ≡ by_link global (cond t (Some k) (graph.link_at l.offset (links_in ws))) (leaf_word (link_at o k ∷ ws))
      by true = refl
      by false = r ∙ ap (by_link global (graph.link_at l.offset (links_in ws))) (sym (passed (link_at o k) ws (λ j up down. refl)))

  characters-same : (from o : ℕ) (cs : List ℕ) (ws : List WrittenTree) → WrittenFits ls n from (characters_at o cs ∷ ws) → Same ws → Same (characters_at o cs ∷ ws)
  characters-same from o cs ws h r = by (nat_le o l.offset && nat_lt l.offset (o + length cs)) refl
    where
      by : (t : Bool) → (nat_le o l.offset && nat_lt l.offset (o + length cs)) ≡ t →
          cond t (Num (slice_index_or cs (l.offset - o) 0)) (source.leaf_value global l.offset ws) ≡ by_link global (graph.link_at l.offset (links_in ws)) (leaf_word (characters_at o cs ∷ ws))
      by true e =
          let low' : o ≤ l.offset = grind (arith, nat_tests, e) in
          let high' : l.offset < o + length cs = grind (arith, nat_tests, e) in
          let apart = leaves-apart low high ls order l.offset 1 l (character-leaf ls o cs l.offset h.1 low' high') here in
          let wide : 1 ≡ l.width = grind (arith, apart, some) in
          let byte : byte_at (characters_at o cs ∷ ws) l.offset ≡ slice_index_or cs (l.offset - o) 0 = ap (λ t. cond t (slice_index_or cs (l.offset - o) 0) (byte_at ws l.offset)) e in
          let one : slice_index_or cs (l.offset - o) 0 ≡ little_endian (slice_index_or cs (l.offset - o) 0 ∷ []) = omega arith in
          ap Num (one ∙ ap (λ b. little_endian (b ∷ [])) (sym byte) ∙ ap (λ k. little_endian (bytes_from (characters_at o cs ∷ ws) l.offset k)) wide)
          ∙ ap (λ x. by_link global x (leaf_word (characters_at o cs ∷ ws))) (sym (links-none ls n (o + length cs) l.offset ws h.2 high'))
      by false e =
          r ∙ ap (by_link global (graph.link_at l.offset (links_in ws))) (sym (passed (characters_at o cs) ws (λ j up down.
          ap (λ t. cond t (slice_index_or cs (j - o) 0) (byte_at ws j)) (apart-characters ls low high order l here o cs h.1 e j up down))))

  leaf-same : (ws : List WrittenTree) (from : ℕ) → WrittenFits ls n from ws → Same ws
  leaf-same [] from h = ap Num (sym (zero-bytes l.offset l.width))
  leaf-same (word_at o width w ∷ ws) from h = word-same from o width w ws h (leaf-same ws (o + width) h.3)
  leaf-same (link_at o k ∷ ws) from h = link-same o k ws (leaf-same ws (o + 4) h.3)
  leaf-same (characters_at o cs ∷ ws) from h = characters-same from o cs ws h (leaf-same ws (o + length cs) h.2)

-- ---- blocks

by-link-is : (global : ℕ → Value) (bytes : List ℕ) (l : Leaf) (x : Option ℕ) → graph.leaf_value global bytes l x ≡ by_link global x (little_endian (take l.width (drop l.offset bytes)))
by-link-is global bytes l None = refl
by-link-is global bytes l (Some k) = refl

abbrev EachLeaf : (all some : List Leaf) → Type 0
EachLeaf all [] = Unit {0}
EachLeaf all (l ∷ ls) = HasLeaf all l.offset l.width × EachLeaf all ls

each-more : (x : Leaf) (all some : List Leaf) → EachLeaf all some → EachLeaf (x ∷ all) some
each-more x all [] h = tt
each-more x all (l ∷ ls) h = (inr h.0, each-more x all ls h.1)

each-leaf : (ls : List Leaf) → EachLeaf ls ls
each-leaf [] = tt
each-leaf (l ∷ ls) = (inl (refl, refl), each-more l ls ls (each-leaf ls))

module _ (defs : Definitions) (g : GlobalTree) (n : ℕ) (global : ℕ → Value) (ls : List Leaf) (order : AreInOrder 0 (size defs g.type) ls) (fits : WrittenFits ls n 0 g.written) where
  cell-same : (l : Leaf) → HasLeaf ls l.offset l.width → source.first_cell global g.written l ≡ graph.first_cell global (global_made defs g) l
  cell-same l here =
      ap (λ v. record { leaf = l; value = Some v })
      (leaf-same ls 0 (size defs g.type) order l here n global g.written 0 fits
      ∙ ap (by_link global (graph.link_at l.offset (links_in g.written)))
      (ap little_endian (sym (leaf-bytes g.written l.offset l.width (size defs g.type) (leaf-low 0 (size defs g.type) ls l.offset l.width order here).1)))
      ∙ sym (by-link-is global (bytes_from g.written 0 (size defs g.type)) l (graph.link_at l.offset (links_in g.written))))

  cells-same : (some : List Leaf) → EachLeaf ls some → map (source.first_cell global g.written) some ≡ map (graph.first_cell global (global_made defs g)) some
  cells-same [] h = refl
  cells-same (l ∷ some) h = ap₂ (λ c cs. c ∷ cs) (cell-same l h.0) (cells-same some h.1)

module _ (p : ProgramTree) (typed : IsWellTyped p) (law : LeavesAreInOrder) where
  leaves-in-order : (g : GlobalTree) → GlobalIsTyped p g → AreInOrder 0 (size p.structs g.type) (leaves p.structs g.type)
  leaves-in-order g h =
      let whole : 0 + size p.structs g.type ≡ size p.structs g.type = omega arith in
      subst (λ n. AreInOrder 0 n (leaves p.structs g.type)) whole (law p.structs typed.structs g.type h.laid_out.complete 0 (0, omega arith))

  block-same : (global : ℕ → Value) (g : GlobalTree) → GlobalIsTyped p g → source.first_block p.structs global g ≡ graph.first_block global (global_made p.structs g)
  block-same global g h =
      ap₂ (λ (bytes : ℕ) (cells : List Cell). record { size = word_of bytes; cells = cells; live = true; fixed = g.fixed }) (sym (bytes_counted g.written 0 (size p.structs g.type)))
      (cells-same p.structs g (length p.globals) global (leaves p.structs g.type) (leaves-in-order g h) h.written (leaves p.structs g.type) (each-leaf (leaves p.structs g.type)))

  blocks-same : (global : ℕ → Value) (gs : List GlobalTree) → ((k : ℕ) (g : GlobalTree) → slice_get gs k ≡ Some g → GlobalIsTyped p g) →
      map (source.first_block p.structs global) gs ≡ map (graph.first_block global) (map (global_made p.structs) gs)
  blocks-same global [] h = refl
  blocks-same global (g ∷ gs) h = ap₂ (λ b bs. b ∷ bs) (block-same global g (h 0 g refl)) (blocks-same global gs (λ k x e. h (suc k) x e))

  sizes-same : (gs : List GlobalTree) → delta_sizes (map (global_made p.structs) gs) ≡ map (λ (g : GlobalTree). size p.structs g.type) gs
  sizes-same [] = refl
  sizes-same (g ∷ gs) = ap₂ (λ s ss. s ∷ ss) (bytes_counted g.written 0 (size p.structs g.type)) (sizes-same gs)

  -- the addresses of the globals are the same, and so is the memory as the program begins
  pub addresses-same : global_of (globals_made p) ≡ global_address p
  addresses-same = ap (λ sizes k. address_in 0 sizes k) (sizes-same p.globals)

  pub memory-same : graph.first_memory (globals_made p) ≡ source.first_memory p
  memory-same = ap (λ global. map (graph.first_block global) (globals_made p)) addresses-same ∙ sym (blocks-same (global_address p) p.globals typed.globals)

  -- ---- it is sound

  all-bytes : (bs : List ℕ) → all_of (λ b. nat_lt b 256) bs ≡ true → AreBytes bs
  all-bytes [] h = tt
  all-bytes (b ∷ bs) h = let r = and_parts (nat_lt b 256) (all_of (λ b. nat_lt b 256) bs) h in let first = r.0 in (grind (arith, nat_tests, first), all-bytes bs r.1)

  narrow : (low high : ℕ) (ls : List Leaf) → AreInOrder low high ls → AreNarrow ls
  narrow low high [] h = tt
  narrow low high (l ∷ ls) h = ((width-some l.width h.0.width).1, narrow (l.offset + l.width) high ls h.1)

  deltas-sound : (gs : List GlobalTree) → ((k : ℕ) (g : GlobalTree) → slice_get gs k ≡ Some g → GlobalIsTyped p g) → AreSoundDeltas (map (global_made p.structs) gs)
  deltas-sound [] h = tt
  deltas-sound (g ∷ gs) h =
      let t = h 0 g refl in (
        record {
          bytes = all-bytes (bytes_from g.written 0 (size p.structs g.type)) (bytes_below (leaves p.structs g.type) (length p.globals) 0 g.written 0 (size p.structs g.type) t.written);
          leaves = narrow 0 (size p.structs g.type) (leaves p.structs g.type) (leaves-in-order g t);
        },
        deltas-sound gs (λ k x e. h (suc k) x e),
      )

  pub first-sound : IsSoundMemory (source.first_memory p)
  first-sound = subst IsSoundMemory memory-same (memory-sound (globals_made p) (deltas-sound p.globals typed.globals))
