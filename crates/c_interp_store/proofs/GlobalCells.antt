-- The cells of a global as the program begins, and its block.
use Rattle.std.proofs.Common.{◌≡◌, ℕ, zero, suc, ◌+◌, ◌<◌, ◌≤◌, true, List, [], ◌∷◌, ◌++◌, map, length, take, get_or, refl, sym, ap, ap₂, ◌∙◌, subst, arith}
use Rattle.std.specs.Prelude.{Bool, IsTrue, nat_le, ◌&&◌, Some}
use Rattle.std.proofs.lemmas.Bool.Decides.{nat_tests}
use Rattle.std.proofs.lemmas.List.{take_more, map-append, get_or_default}
use Rattle.val_core.specs.declared.leaf.Leaf.{Leaf}
use Rattle.val_core.specs.declared.values.Value.{Value}
use Rattle.val_core.specs.Memory as mem
use Rattle.val_core.specs.Objects.{word_of, address_in}
use Rattle.c_type.specs.Layout.{Definitions, size, leaves}
use Rattle.c_typed.specs.Typed.{WrittenTree, GlobalTree, ProgramTree}
use Rattle.c_mean.specs.Run.{leaf_value, first_cell, first_block, first_memory, global_address, global_sizes}
use Rattle.c_interp_store.specs.declared.cell.Cell.{Cell}
use Rattle.c_interp_store.specs.declared.store.Store.{Store}
use Rattle.c_interp_store.specs.Ascending.{ascends, leaf_offset}
use Rattle.c_interp_store.specs.Cells.{cells_of, offset_of}
use Rattle.c_interp_store.specs.Blocks.{whole_block}
use Rattle.c_interp_store.specs.Holding.{Holds, globals_of}
use Rattle.c_interp_store.specs.Starts.{start_cell, memory_of, HoldsGlobals}

-- from a leaf on, the same is written in both
abbrev pub AgreesFrom : (global : ℕ → Value) → List Leaf → (index : ℕ) → (all left : List WrittenTree) → Type 0
AgreesFrom global ls i ws us = (k : ℕ) (d : Leaf) → i ≤ k → k < length ls → leaf_value global (leaf_offset (get_or ls k d)) ws ≡ leaf_value global (leaf_offset (get_or ls k d)) us

first-of : (from : ℕ) (l : Leaf) (ls : List Leaf) → ascends leaf_offset from (l ∷ ls) ≡ true → (from ≤ leaf_offset l) × (ascends leaf_offset (suc (leaf_offset l)) ls ≡ true)
first-of from l ls h = (grind (arith, nat_tests), grind (arith, nat_tests))

above : (from : ℕ) (ls : List Leaf) (k : ℕ) (d : Leaf) → ascends leaf_offset from ls ≡ true → k < length ls → from ≤ leaf_offset (get_or ls k d)
above from [] k d h lt = absurd (omega arith)
above from (l ∷ ls) zero d h lt = (first-of from l ls h).0
above from (l ∷ ls) (suc k) d h lt =
    let f = first-of from l ls h in
    let r = above (suc (leaf_offset l)) ls k d f.1 (omega arith) in
    omega (arith, f.0, r)

rises : (from : ℕ) (ls : List Leaf) (i k : ℕ) (d : Leaf) → ascends leaf_offset from ls ≡ true → i ≤ k → k < length ls → leaf_offset (get_or ls i d) ≤ leaf_offset (get_or ls k d)
rises from [] i k d h le lt = absurd (omega arith)
rises from (l ∷ ls) zero zero d h le lt = omega arith
rises from (l ∷ ls) zero (suc k) d h le lt =
    let r = above (suc (leaf_offset l)) ls k d (first-of from l ls h).1 (omega arith) in
    omega (arith, r)
rises from (l ∷ ls) (suc i) zero d h le lt = absurd (omega arith)
rises from (l ∷ ls) (suc i) (suc k) d h le lt = rises (suc (leaf_offset l)) ls i k d (first-of from l ls h).1 (omega arith) (omega arith)

-- what ends before a leaf is passed for those after it too
pub agree_more : (global : ℕ → Value) (ls : List Leaf) (i : ℕ) (ws us vs : List WrittenTree) (e : Leaf) → IsTrue (ascends leaf_offset 0 ls) → AgreesFrom global ls i ws us
    → ((q : ℕ) → leaf_offset (get_or ls i e) ≤ q → leaf_value global q us ≡ leaf_value global q vs) → i < length ls → AgreesFrom global ls i ws vs
agree_more global ls i ws us vs e up h skip lt k d le in_range =
    let same : get_or ls i e ≡ get_or ls i d = get_or_default ls i e d lt in
    h k d le in_range ∙ skip (leaf_offset (get_or ls k d)) (rw same (rises 0 ls i k d up le in_range))

pub agree_later : (global : ℕ → Value) (ls : List Leaf) (i : ℕ) (ws us : List WrittenTree) → AgreesFrom global ls i ws us → AgreesFrom global ls (i + 1) ws us
agree_later global ls i ws us h k d le lt = h k d (omega (arith, le)) lt

cells-more : (global : ℕ → Value) (ws : List WrittenTree) (ls : List Leaf) (i : ℕ) (d : Leaf) → i < length ls
    → map (start_cell global ws) (take i ls) ++ start_cell global ws (get_or ls i d) ∷ [] ≡ map (start_cell global ws) (take (i + 1) ls)
cells-more global ws ls i d lt = sym (ap (map (start_cell global ws)) (take_more ls i d lt) ∙ map-append (start_cell global ws) (take i ls) (get_or ls i d ∷ []))

-- one more cell
pub cells_step : (global : ℕ → Value) (ws us : List WrittenTree) (ls : List Leaf) (i : ℕ) (e : Leaf) (cs more : List Cell) (v : Value) → i < length ls → AgreesFrom global ls i ws us
    → v ≡ leaf_value global (leaf_offset (get_or ls i e)) us → cs ≡ map (start_cell global ws) (take i ls) → more ≡ cs ++ record { leaf = get_or ls i e; value = Some v } ∷ []
    → more ≡ map (start_cell global ws) (take (i + 1) ls)
cells_step global ws us ls i e cs more v lt h is so_far pushed =
    let value : v ≡ leaf_value global (leaf_offset (get_or ls i e)) ws = is ∙ sym (h i e (omega arith) lt) in
    let cell : Value → Cell = λ u. record { leaf = get_or ls i e; value = Some u } in
    pushed ∙ ap (λ xs. xs ++ cell v ∷ []) so_far ∙ ap (λ u. map (start_cell global ws) (take i ls) ++ cell u ∷ []) value ∙ cells-more global ws ls i e lt

pub cells_ascend : (global : ℕ → Value) (ws : List WrittenTree) (from : ℕ) (ls : List Leaf) → ascends offset_of from (map (start_cell global ws) ls) ≡ ascends leaf_offset from ls
cells_ascend global ws from [] = refl
cells_ascend global ws from (l ∷ ls) = ap (λ b. nat_le from (leaf_offset l) && b) (cells_ascend global ws (suc (leaf_offset l)) ls)

cells-are : (global : ℕ → Value) (ws : List WrittenTree) (ls : List Leaf) → cells_of (map (start_cell global ws) ls) ≡ map (first_cell global ws) ls
cells-are global ws [] = refl
cells-are global ws (l ∷ ls) = ap (λ cs. first_cell global ws l ∷ cs) (cells-are global ws ls)

-- one more global
pub memory_more : (types : Definitions) (global : ℕ → Value) (gs : List GlobalTree) (i n : ℕ) (fixed : Bool) (g : GlobalTree) (cs : List Cell) → i < length gs → g ≡ get_or gs i g → n ≡ size types g.type
    → fixed ≡ g.fixed → cs ≡ map (start_cell global g.written) (leaves types g.type)
    → memory_of types global (take i gs) ++ whole_block (word_of n) fixed cs ∷ [] ≡ memory_of types global (take (i + 1) gs)
memory_more types global gs i n fixed g cs lt read is kept cells =
    let block : whole_block (word_of n) fixed cs ≡ first_block types global g =
    ap₂ (λ (k : ℕ) (b : Bool). whole_block (word_of k) b cs) is kept
    ∙ ap (λ (xs : List mem.Cell). mem_block (word_of (size types g.type)) xs g.fixed) (ap cells_of cells ∙ cells-are global g.written (leaves types g.type)) in
    ap (λ b. memory_of types global (take i gs) ++ b ∷ []) block
    ∙ sym (ap (memory_of types global) (take_more gs i g lt ∙ ap (λ x. take i gs ++ x ∷ []) (sym read)) ∙ map-append (first_block types global) (take i gs) (g ∷ []))
  where
    mem_block : ℕ → List mem.Cell → Bool → mem.Block
    mem_block k xs b = record { size = k; cells = xs; live = true; fixed = b }

-- the globals of a program
pub first_held : (p : ProgramTree) (types : Definitions) (sizes : List ℕ) (gs : List GlobalTree) (s : Store) → types ≡ p.structs → gs ≡ p.globals → sizes ≡ global_sizes p
    → HoldsGlobals types (λ k. address_in 0 sizes k) gs s → Holds s (globals_of (first_memory p)) (first_memory p)
first_held p types sizes gs s e d same h =
    let with_sizes = subst (λ (xs : List ℕ). HoldsGlobals types (λ k. address_in 0 xs k) gs s) same h in
    let with_globals = subst (λ (xs : List GlobalTree). HoldsGlobals types (global_address p) xs s) d with_sizes in
    subst (λ (ds : Definitions). HoldsGlobals ds (global_address p) p.globals s) e with_globals
