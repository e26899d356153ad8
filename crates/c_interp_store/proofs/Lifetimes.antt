-- Which blocks of a memory live.
use Rattle.std.proofs.Common.{◌≡◌, ◌≢◌, ℕ, zero, suc, ◌+◌, ◌<◌, ◌≤◌, ◌++◌, true, false, Bool, [], ◌∷◌, length, slice_get, Option, Some, None, refl, ap, ◌∙◌, arith}
use Rattle.std.specs.Prelude.{if◌then◌else◌, ◌==◌, ◌&&◌, not, option_map, option_and_then, is_some}
use Rattle.std.specs.List.{list_any}
use Rattle.val_core.specs.declared.values.BlockName.{BlockName}
use Rattle.val_core.specs.Memory.{Block, Memory, block_changed, block_named, closed, takes_store, is_at, is_live}
use Rattle.c_interp_store.specs.Holding.{only_live, live_block, of_size, live_named}

pub live_past : (n : ℕ) (m : Memory) → length m ≤ n → live_block n m ≡ None
live_past n [] le = refl
live_past zero (k ∷ m) le = absurd (omega arith)
live_past (suc n) (k ∷ m) le = live_past n m (omega arith)

pub live_before : (n : ℕ) (m : Memory) (k : Block) → n < length m → live_block n (m ++ k ∷ []) ≡ live_block n m
live_before n [] k lt = absurd (omega arith)
live_before zero (x ∷ m) k lt = refl
live_before (suc n) (x ∷ m) k lt = live_before n m k (omega arith)

pub live_last : (n : ℕ) (m : Memory) (k : Block) → n ≡ length m → live_block n (m ++ k ∷ []) ≡ only_live (Some k)
live_last zero [] k e = refl
live_last (suc n) [] k e = absurd (omega arith)
live_last zero (x ∷ m) k e = absurd (omega arith)
live_last (suc n) (x ∷ m) k e = live_last n m k (omega arith)

pub length_changed : (j : ℕ) (f : Block → Block) (m : Memory) → length (block_changed j f m) ≡ length m
length_changed j f [] = refl
length_changed zero f (k ∷ m) = refl
length_changed (suc j) f (k ∷ m) = ap suc (length_changed j f m)

pub length_closed : (first count : ℕ) (m : Memory) → length (closed first count m) ≡ length m
length_closed first count [] = refl
length_closed (suc first) count (k ∷ m) = ap suc (length_closed first count m)
length_closed zero zero (k ∷ m) = refl
length_closed zero (suc count) (k ∷ m) = ap suc (length_closed zero count m)

module _ (f : Block → Block) (keeps : (k : Block) → (f k).live ≡ k.live) where
  live_changed_block : (k : Block) → only_live (Some (f k)) ≡ option_map f (only_live (Some k))
  live_changed_block k = ap (λ l. if l then Some (f k) else None) (keeps k) ∙ by_life k.live
    where
      by_life : (b : Bool) → (if b then Some (f k) else None) ≡ option_map f (if b then Some k else None)
      by_life true = refl
      by_life false = refl

  pub changed_here : (j : ℕ) (m : Memory) → live_block j (block_changed j f m) ≡ option_map f (live_block j m)
  changed_here j [] = refl
  changed_here zero (k ∷ m) = live_changed_block k
  changed_here (suc j) (k ∷ m) = changed_here j m

pub changed_elsewhere : (f : Block → Block) (j n : ℕ) (m : Memory) → n ≢ j → live_block n (block_changed j f m) ≡ live_block n m
changed_elsewhere f j n [] ne = refl
changed_elsewhere f zero zero (k ∷ m) ne = absurd (ne refl)
changed_elsewhere f zero (suc n) (k ∷ m) ne = refl
changed_elsewhere f (suc j) zero (k ∷ m) ne = refl
changed_elsewhere f (suc j) (suc n) (k ∷ m) ne = changed_elsewhere f j n m (λ e. ne (ap suc e))

pub closed_inside : (first count n : ℕ) (m : Memory) → first ≤ n → n < first + count → live_block n (closed first count m) ≡ None
closed_inside first count n [] le lt = refl
closed_inside (suc first) count zero (k ∷ m) le lt = absurd (omega arith)
closed_inside (suc first) count (suc n) (k ∷ m) le lt = closed_inside first count n m (omega arith) (omega arith)
closed_inside zero zero n (k ∷ m) le lt = absurd (omega arith)
closed_inside zero (suc count) zero (k ∷ m) le lt = refl
closed_inside zero (suc count) (suc n) (k ∷ m) le lt = closed_inside zero count n m (omega arith) (omega arith)

pub closed_before : (first count n : ℕ) (m : Memory) → n < first → live_block n (closed first count m) ≡ live_block n m
closed_before first count n [] lt = refl
closed_before zero count n (k ∷ m) lt = absurd (omega arith)
closed_before (suc first) count zero (k ∷ m) lt = refl
closed_before (suc first) count (suc n) (k ∷ m) lt = closed_before first count n m (omega arith)

pub closed_after : (first count n : ℕ) (m : Memory) → first + count ≤ n → live_block n (closed first count m) ≡ live_block n m
closed_after first count n [] le = refl
closed_after (suc first) count zero (k ∷ m) le = absurd (omega arith)
closed_after (suc first) count (suc n) (k ∷ m) le = closed_after first count n m (omega arith)
closed_after zero zero n (k ∷ m) le = refl
closed_after zero (suc count) zero (k ∷ m) le = absurd (omega arith)
closed_after zero (suc count) (suc n) (k ∷ m) le = closed_after zero count n m (omega arith)

-- ---- by name

-- whether the block of a name takes a store, where it lives
abbrev pub takes_in : (width offset : ℕ) → Option Block → Bool
takes_in width offset None = false
takes_in width offset (Some k) = not k.fixed && list_any (is_at width offset) k.cells

pub takes_live : (b : BlockName) (width offset : ℕ) (m : Memory) → takes_store width offset (block_named b m) ≡ takes_in width offset (live_named b m)
takes_live b width offset m = by_block (slice_get m b.number)
  where
    by_tests : (k : Block) (s l : Bool) → (k.size == b.size) ≡ s → k.live ≡ l →
        takes_store width offset (if k.size == b.size then Some k else None) ≡ takes_in width offset (of_size b.size (only_live (Some k)))
    by_tests k true true e f = simp (e, f)
    by_tests k true false e f = simp (e, f)
    by_tests k false true e f = simp (e, f)
    by_tests k false false e f = simp (e, f)

    by_block : (o : Option Block) → takes_store width offset (option_and_then (λ (k : Block). if k.size == b.size then Some k else None) o) ≡ takes_in width offset (of_size b.size (only_live o))
    by_block None = refl
    by_block (Some k) = by_tests k (k.size == b.size) k.live refl refl

pub life_live : (b : BlockName) (m : Memory) → is_live (block_named b m) ≡ is_some (live_named b m)
life_live b m = by_block (slice_get m b.number)
  where
    by_tests : (k : Block) (s l : Bool) → (k.size == b.size) ≡ s → k.live ≡ l →
        is_live (if k.size == b.size then Some k else None) ≡ is_some (of_size b.size (only_live (Some k)))
    by_tests k true true e f = simp (e, f)
    by_tests k true false e f = simp (e, f)
    by_tests k false true e f = simp (e, f)
    by_tests k false false e f = simp (e, f)

    by_block : (o : Option Block) → is_live (option_and_then (λ (k : Block). if k.size == b.size then Some k else None) o) ≡ is_some (of_size b.size (only_live o))
    by_block None = refl
    by_block (Some k) = by_tests k (k.size == b.size) k.live refl refl
