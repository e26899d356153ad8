-- The laws of clearing, of new blocks and of the end of lifetimes.
use Rattle.std.proofs.Common.{◌≡◌, ℕ, zero, suc, ◌+◌, ◌<◌, ◌≤◌, ◌==◌, ◌||◌, Bool, true, false, cond, List, [], ◌∷◌, ◌++◌, map, length, slice_get, None, Some, option_map, option_and_then, refl, ap, ap₂, ◌∙◌, inl, inr, arith}
use Rattle.std.specs.List.{list_any}
use Rattle.val_core.specs.declared.values.Value.TheVariants.{Num}
use Rattle.val_core.specs.Memory.{Cell, Block, Memory, is_at, value_at, read_block, cell_zeroed, zeroed, dead, closed, shape_of}
use Rattle.val_core.specs.MemoryLaws.{LoadAfterClear, ClearElsewhere, NewBlocksKeepLoads, ClosedBlocksKeepLoads, ClosedIsDead, ClearKeepsBlocks, ClosedKeepsBlocks}
use Rattle.val_laws.proofs.Blocks.{map-changed, named-changed, named-other, named-in}

-- ---- clearing

zero-at : (w o : ℕ) (cs : List Cell) → list_any (is_at w o) cs ≡ true → value_at w o (map cell_zeroed cs) ≡ Some (Num 0)
zero-at w o [] here = cc
zero-at w o (c ∷ cs) here = by_test (is_at w o c) (list_any (is_at w o) cs) here (zero-at w o cs) where
  by_test : (test rest : Bool) → (test || rest) ≡ true → (rest ≡ true → value_at w o (map cell_zeroed cs) ≡ Some (Num 0)) → cond test (Some (Num 0)) (value_at w o (map cell_zeroed cs)) ≡ Some (Num 0)
  by_test true rest is h = refl
  by_test false rest is h = h is

pub load_after_clear : LoadAfterClear
load_after_clear w o b k m is alive here =
    ap (read_block w o) (named-changed b zeroed m (λ j. refl) ∙ ap (option_map zeroed) is)
    ∙ ap (λ l. cond l (value_at w o (map cell_zeroed k.cells)) None) alive
    ∙ zero-at w o k.cells here

pub clear_elsewhere : ClearElsewhere
clear_elsewhere w o b c m ne = ap (read_block w o) (named-other b.number c zeroed m ne)

leaves-zeroed : (cs : List Cell) → map (λ c. c.leaf) (map cell_zeroed cs) ≡ map (λ c. c.leaf) cs
leaves-zeroed [] = refl
leaves-zeroed (c ∷ cs) = ap (λ ls. c.leaf ∷ ls) (leaves-zeroed cs)

pub clear_keeps_blocks : ClearKeepsBlocks
clear_keeps_blocks b m = (
  map-changed shape_of b.number zeroed m (λ k. ap (λ ls. record { size = k.size; leaves = ls }) (leaves-zeroed k.cells)),
  map-changed (λ k. k.live) b.number zeroed m (λ k. refl),
  map-changed (λ k. k.fixed) b.number zeroed m (λ k. refl),
)

-- ---- new blocks

get-front : (m new : Memory) (n : ℕ) → n < length m → slice_get (m ++ new) n ≡ slice_get m n
get-front [] new n h = absurd (omega arith)
get-front (k ∷ m) new zero h = refl
get-front (k ∷ m) new (suc n) h = get-front m new n (omega arith)

pub new_blocks_keep_loads : NewBlocksKeepLoads
new_blocks_keep_loads w o b m new h =
    ap (λ found. read_block w o (option_and_then (λ k. cond (k.size == b.size) (Some k) None) found)) (get-front m new b.number h)

-- ---- ends of lifetimes

get-before : (first count n : ℕ) (m : Memory) → n < first → slice_get (closed first count m) n ≡ slice_get m n
get-before first count n [] h = refl
get-before zero count n (k ∷ m) h = absurd (omega arith)
get-before (suc first) count zero (k ∷ m) h = refl
get-before (suc first) count (suc n) (k ∷ m) h = get-before first count n m (omega arith)

get-after : (first count n : ℕ) (m : Memory) → first + count ≤ n → slice_get (closed first count m) n ≡ slice_get m n
get-after first count n [] h = refl
get-after zero zero n (k ∷ m) h = refl
get-after zero (suc count) zero (k ∷ m) h = absurd (omega arith)
get-after zero (suc count) (suc n) (k ∷ m) h = get-after zero count n m (omega arith)
get-after (suc first) count zero (k ∷ m) h = absurd (omega arith)
get-after (suc first) count (suc n) (k ∷ m) h = get-after first count n m (omega arith)

get-within : (first count n : ℕ) (m : Memory) → first ≤ n → n < first + count → slice_get (closed first count m) n ≡ option_map dead (slice_get m n)
get-within first count n [] h k = refl
get-within zero zero n (j ∷ m) h k = absurd (omega arith)
get-within zero (suc count) zero (j ∷ m) h k = refl
get-within zero (suc count) (suc n) (j ∷ m) h k = get-within zero count n m (omega arith) (omega arith)
get-within (suc first) count zero (j ∷ m) h k = absurd (omega arith)
get-within (suc first) count (suc n) (j ∷ m) h k = get-within first count n m (omega arith) (omega arith)

pub closed_blocks_keep_loads : ClosedBlocksKeepLoads
closed_blocks_keep_loads w o first count b m (inl h) =
    ap (λ found. read_block w o (option_and_then (λ k. cond (k.size == b.size) (Some k) None) found)) (get-before first count b.number m h)
closed_blocks_keep_loads w o first count b m (inr h) =
    ap (λ found. read_block w o (option_and_then (λ k. cond (k.size == b.size) (Some k) None) found)) (get-after first count b.number m h)

pub closed_is_dead : ClosedIsDead
closed_is_dead first count b m h k =
    ap (option_and_then (λ j. cond (j.size == b.size) (Some j) None)) (get-within first count b.number m h k)
    ∙ named-in b dead (slice_get m b.number) (λ j. refl)

map-closed : {X : Type 0} (p : Block → X) (first count : ℕ) (m : Memory) → ((k : Block) → p (dead k) ≡ p k) → map p (closed first count m) ≡ map p m
map-closed p first count [] e = refl
map-closed p zero zero (k ∷ m) e = refl
map-closed p zero (suc count) (k ∷ m) e = ap₂ (λ x xs. x ∷ xs) (e k) (map-closed p zero count m e)
map-closed p (suc first) count (k ∷ m) e = ap (λ xs. p k ∷ xs) (map-closed p first count m e)

pub closed_keeps_blocks : ClosedKeepsBlocks
closed_keeps_blocks first count m =
    (map-closed shape_of first count m (λ k. refl), map-closed (λ k. k.fixed) first count m (λ k. refl))
