-- A cell by its index.
use Rattle.std.proofs.Common.{◌≡◌, ◌≢◌, ℕ, zero, suc, ◌+◌, ◌<◌, ◌≤◌, ◌++◌, take, drop, true, false, List, [], ◌∷◌, Bool, length, get_or, set, map, Some, None, refl, sym, ap, ◌∙◌, subst, arith}
use Rattle.std.specs.Prelude.{◌&&◌, nat_le}
use Rattle.std.specs.List.{list_any}
use mathlib.Core.Bool.{false≢true}
use Rattle.std.proofs.lemmas.List.{get_or_default}
use Rattle.std.proofs.lemmas.List.Edits.{map_over_more}
use Rattle.std.proofs.lemmas.Bool.Decides.{nat_tests}
use Rattle.val_core.specs.declared.values.Value.{Value}
use Rattle.val_core.specs.Memory.{is_at, value_at, cell_written, cell_zeroed, new_cell}
use Rattle.val_core.specs.declared.leaf.Leaf.{Leaf}
use Rattle.c_interp_store.specs.declared.cell.Cell.{Cell}
use Rattle.c_interp_store.specs.Ascending.{ascends, leaf_offset, IsFoundAt, IsAbsent}
use Rattle.c_interp_store.specs.Cells.{cell_of, cells_of, offset_of, zero_cell, blank_cell, IsCellAt}
use Rattle.c_interp_store.proofs.Ascending.{first_ascends, ascends_first, ascends_lower, is_above, only_one}

-- what stands at another offset is another leaf
elsewhere : (width offset : ℕ) (c : Cell) → offset_of c ≢ offset → is_at width offset (cell_of c) ≡ false
elsewhere width offset c ne = grind (arith, nat_tests)

here : (width offset : ℕ) (c : Cell) → is_at width offset (cell_of c) ≡ true → (offset_of c ≡ offset) × (c.leaf.width ≡ width)
here width offset c h = (grind (arith, nat_tests), grind (arith, nat_tests))

not_there : (b : Bool) → (b ≡ true → ⊥) → b ≡ false
not_there true h = absurd (h refl)
not_there false h = refl

-- where no cell has the offset, there is no leaf
pub none_any : (width offset : ℕ) (cs : List Cell) → ((i : ℕ) (d : Cell) → i < length cs → is_at width offset (cell_of (get_or cs i d)) ≡ false) → list_any (is_at width offset) (cells_of cs) ≡ false
none_any width offset [] h = refl
none_any width offset (c ∷ cs) h = rw (h 0 c (omega arith)) (none_any width offset cs (λ i d lt. h (suc i) d (omega arith)))

pub none_value : (width offset : ℕ) (cs : List Cell) → list_any (is_at width offset) (cells_of cs) ≡ false → value_at width offset (cells_of cs) ≡ None
none_value width offset [] h = refl
none_value width offset (c ∷ cs) h =
    let e : is_at width offset (cell_of c) ≡ false = grind (arith, nat_tests) in
    let r : list_any (is_at width offset) (cells_of cs) ≡ false = grind (arith, nat_tests) in
    rw e (none_value width offset cs r)

-- the cell that follows in ascending order is not at the offset of the first
later : (width offset from i : ℕ) (cs : List Cell) (d : Cell) → ascends offset_of from cs ≡ true → i < length cs → is_at width offset (cell_of (get_or cs i d)) ≡ true → from ≤ offset
later width offset from i cs d h lt there =
    let a = is_above offset_of from cs i d h lt in
    let b = here width offset (get_or cs i d) there in
    omega (arith, a, b.0)

module _ (width offset : ℕ) where
  pub some_any : (cs : List Cell) (i : ℕ) (d : Cell) → i < length cs → is_at width offset (cell_of (get_or cs i d)) ≡ true → list_any (is_at width offset) (cells_of cs) ≡ true
  some_any [] i d lt there = absurd (omega arith)
  some_any (c ∷ cs) zero d lt there = rw there refl
  some_any (c ∷ cs) (suc i) d lt there = grind (arith, nat_tests, some_any cs i d (omega arith) there)

  pub some_value : (from : ℕ) (cs : List Cell) (i : ℕ) (d : Cell) → ascends offset_of from cs ≡ true → i < length cs → is_at width offset (cell_of (get_or cs i d)) ≡ true →
      value_at width offset (cells_of cs) ≡ (get_or cs i d).value
  some_value from [] i d h lt there = absurd (omega arith)
  some_value from (c ∷ cs) zero d h lt there = rw there refl
  some_value from (c ∷ cs) (suc i) d h lt there =
      let f = first_ascends offset_of from c cs h in
      let l = later width offset (suc (offset_of c)) i cs d f.1 (omega arith) there in
      let e : is_at width offset (cell_of c) ≡ false = elsewhere width offset c (λ s. omega (arith, l, s)) in
      rw e (some_value (suc (offset_of c)) cs i d f.1 (omega arith) there)

  -- no cell after it is written
  unwritten : (v : Value) (from : ℕ) (cs : List Cell) → ascends offset_of from cs ≡ true → offset < from → map (cell_written width offset v) (cells_of cs) ≡ cells_of cs
  unwritten v from [] h lt = refl
  unwritten v from (c ∷ cs) h lt =
      let f = first_ascends offset_of from c cs h in
      let e : is_at width offset (cell_of c) ≡ false = elsewhere width offset c (λ s. omega (arith, f.0, s)) in
      rw e (ap (λ r. cell_of c ∷ r) (unwritten v (suc (offset_of c)) cs f.1 (omega (arith, f.0))))

  -- the cell alone is written
  pub some_written : (v : Value) (from : ℕ) (cs : List Cell) (i : ℕ) (d : Cell) → ascends offset_of from cs ≡ true → i < length cs → is_at width offset (cell_of (get_or cs i d)) ≡ true →
      map (cell_written width offset v) (cells_of cs) ≡ cells_of (set cs i (record { leaf = (get_or cs i d).leaf; value = Some v }))
  some_written v from [] i d h lt there = absurd (omega arith)
  some_written v from (c ∷ cs) zero d h lt there =
      let f = first_ascends offset_of from c cs h in
      let b = here width offset c there in
      rw there (ap (λ r. record { leaf = c.leaf; value = Some v } ∷ r) (unwritten v (suc (offset_of c)) cs f.1 (omega (arith, b.0))))
  some_written v from (c ∷ cs) (suc i) d h lt there =
      let f = first_ascends offset_of from c cs h in
      let l = later width offset (suc (offset_of c)) i cs d f.1 (omega arith) there in
      let e : is_at width offset (cell_of c) ≡ false = elsewhere width offset c (λ s. omega (arith, l, s)) in
      rw e (ap (λ r. cell_of c ∷ r) (some_written v (suc (offset_of c)) cs i d f.1 (omega arith) there))

-- a cell with another value keeps the order
pub set_ascends : (from : ℕ) (cs : List Cell) (i : ℕ) (c d : Cell) → i < length cs → offset_of c ≡ offset_of (get_or cs i d) → ascends offset_of from cs ≡ true → ascends offset_of from (set cs i c)
    ≡ true
set_ascends from [] i c d lt same h = absurd (omega arith)
set_ascends from (x ∷ cs) zero c d lt same h =
    let f = first_ascends offset_of from x cs h in
    ascends_first offset_of from c cs (omega (arith, f.0)) (ascends_lower offset_of (suc (offset_of c)) (suc (offset_of x)) cs (omega arith) f.1)
set_ascends from (x ∷ cs) (suc i) c d lt same h =
    let f = first_ascends offset_of from x cs h in
    ascends_first offset_of from x (set cs i c) f.0 (set_ascends (suc (offset_of x)) cs i c d (omega arith) same f.1)

-- ---- what a search finds

-- the leaf of this offset has another width
pub other_width : (cs : List Cell) (width offset i : ℕ) (c : Cell) → ascends offset_of 0 cs ≡ true → IsFoundAt offset_of cs offset i → is_at width offset (cell_of (get_or cs i c)) ≡ false →
    list_any (is_at width offset) (cells_of cs) ≡ false
other_width cs width offset i c h f differs =
    none_any width offset cs (λ j d lt. not_there (is_at width offset (cell_of (get_or cs j d))) (λ there.
    let b = here width offset (get_or cs j d) there in
    let same : j ≡ i = only_one offset_of 0 cs j i d h lt f.inside (b.0 ∙ sym (f.number_is d)) in
    let read : get_or cs j d ≡ get_or cs i c = ap (λ k. get_or cs k d) same ∙ get_or_default cs i d c f.inside in
    let agrees : is_at width offset (cell_of (get_or cs i c)) ≡ true = subst (λ x. is_at width offset (cell_of x) ≡ true) read there in
    absurd (false≢true (sym differs ∙ agrees))))

pub no_offset : (cs : List Cell) (width offset : ℕ) → IsAbsent offset_of cs offset → list_any (is_at width offset) (cells_of cs) ≡ false
no_offset cs width offset none =
    none_any width offset cs (λ i d lt. not_there (is_at width offset (cell_of (get_or cs i d))) (λ there. none i d lt (here width offset (get_or cs i d) there).0))

pub read_cell : (cs : List Cell) (width offset i : ℕ) (c : Cell) → ascends offset_of 0 cs ≡ true → IsCellAt cs width offset i → c ≡ get_or cs i c → c.value ≡ value_at width offset (cells_of cs)
read_cell cs width offset i c h at read = ap (λ (x : Cell). x.value) read ∙ sym (some_value width offset 0 cs i c h at.inside (at.is_at c))

pub written_cell : (cs : List Cell) (width offset i : ℕ) (c : Cell) (v : Value) → ascends offset_of 0 cs ≡ true → IsCellAt cs width offset i → c ≡ get_or cs i c →
    cells_of (set cs i (record { leaf = c.leaf; value = Some v })) ≡ map (cell_written width offset v) (cells_of cs)
written_cell cs width offset i c v h at read =
    ap (λ (x : Cell). cells_of (set cs i (record { leaf = x.leaf; value = Some v }))) read ∙ sym (some_written width offset v 0 cs i c h at.inside (at.is_at c))

pub zeros : (cs : List Cell) → cells_of (map zero_cell cs) ≡ map cell_zeroed (cells_of cs)
zeros [] = refl
zeros (c ∷ cs) = ap (λ r. cell_of (zero_cell c) ∷ r) (zeros cs)

pub zeros_ascend : (from : ℕ) (cs : List Cell) → ascends offset_of from (map zero_cell cs) ≡ ascends offset_of from cs
zeros_ascend from [] = refl
zeros_ascend from (c ∷ cs) = ap (λ b. nat_le from (offset_of c) && b) (zeros_ascend (suc (offset_of c)) cs)

pub blanks : (ls : List Leaf) → cells_of (map blank_cell ls) ≡ map new_cell ls
blanks [] = refl
blanks (l ∷ ls) = ap (λ r. cell_of (blank_cell l) ∷ r) (blanks ls)

pub blanks_ascend : (from : ℕ) (ls : List Leaf) → ascends offset_of from (map blank_cell ls) ≡ ascends leaf_offset from ls
blanks_ascend from [] = refl
blanks_ascend from (l ∷ ls) = ap (λ b. nat_le from (leaf_offset l) && b) (blanks_ascend (suc (leaf_offset l)) ls)

-- one more cell is cleared
pub zeros_next : (old cs : List Cell) (i : ℕ) (d : Cell) → i < length old → length cs ≡ length old → cs ≡ map zero_cell (take i old) ++ drop i old →
    set cs i (zero_cell (get_or cs i d)) ≡ map zero_cell (take (i + 1) old) ++ drop (i + 1) old
zeros_next old cs i d lt size is = map_over_more zero_cell old cs i (get_or cs i d) lt is (get_or_default cs i d (get_or cs i d) (omega arith))
