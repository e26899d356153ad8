-- The blocks of the globals, laid out in memory as the program begins.
use Rattle.std.proofs.Common.{◌≡◌, ◌≢◌, ◌⊎◌, ℕ, zero, suc, ◌+◌, ◌%◌, ◌^◌, ◌<◌, ◌≤◌, if◌then◌else◌, Bool, true, false, List, [], ◌∷◌, map, length, slice_get, slice_index, Some, None, option_map, get_or, refl, sym, ap, ◌∙◌, subst, arith, inl, inr}
use Rattle.std.specs.List.{list_any}
use Rattle.std.proofs.lemmas.Option.{same_Some, slice_get-map, slice_get_cases}
use Rattle.elf_file.specs.Laws.{executable_for}
use Rattle.elf_file.specs.Segments.{AreSound}
use Rattle.val_core.specs.declared.values.Value.{Value}
use Rattle.val_core.specs.Memory.{Block, is_at}
use Rattle.val_core.specs.Objects.{word_of, block_address}
use Rattle.g_graph.specs.Plain.{PlainDelta}
use Rattle.g_graph.specs.WellFormed.{some_of}
use Rattle.g_mean.specs.Calls.{delta_sizes, global_of, first_block, first_memory}
use Rattle.rv_machine.specs.Memory.{flags_of, IsWidth}
use Rattle.rv_layout.specs.declared.item.Item.{Item}
use Rattle.rv_layout.specs.Conditions.{CanLayOut}
use Rattle.rv_layout.specs.Globals.{global_room, globals_from}
use Rattle.rv_layout.specs.Layout.{data_address, stack_address, addresses_of, laid_out}
use Rattle.s_select_keeps.specs.Relation.{Bases, Shows, Lives, IsOutside, has_leaf, LeafFits, BlockFits, AreLaidOut}
use Rattle.s_select_keeps.specs.Globals.{bases_of, AreGlobals}
use Rattle.s_select_keeps.proofs.Leaves.{is_leaf, leaf_within, leaves_are_separate, leaf_of_cell}
use Rattle.s_select_keeps.proofs.Loaded.{GlobalAt, global_at, Disjoint, globals_are_apart}

-- the global of a block
block_there : (global : ℕ → Value) (ds : List PlainDelta) (n : ℕ) (b : Block) → slice_get (map (first_block global) ds) n ≡ Some b
    → (d : PlainDelta) × (slice_get ds n ≡ Some d) × (first_block global d ≡ b)
block_there global [] n b there = absurd cc
block_there global (d ∷ ds) zero b there = (d, refl, same_Some (first_block global d) b there)
block_there global (d ∷ ds) (suc n) b there = block_there global ds n b there

pub length_blocks : (global : ℕ → Value) (ds : List PlainDelta) → length (map (first_block global) ds) ≡ length ds
length_blocks global [] = refl
length_blocks global (d ∷ ds) = ap suc (length_blocks global ds)

-- there is an address for each global, and beyond them none
pub has_global : (fixed other : ℕ) (ds : List PlainDelta) (k : ℕ) → k < length (globals_from fixed other ds) → k < length ds
has_global fixed other [] k below = absurd (omega (arith, below))
has_global fixed other (d ∷ ds) zero below = omega arith
has_global fixed other (d ∷ ds) (suc k) below = by d.fixed below (has_global (fixed + global_room d) other ds k) (has_global fixed (other + global_room d) ds k)
  where
    by : (b : Bool) → suc k < length (if b then fixed ∷ globals_from (fixed + global_room d) other ds else other ∷ globals_from fixed (other + global_room d) ds)
        → (k < length (globals_from (fixed + global_room d) other ds) → k < length ds) → (k < length (globals_from fixed (other + global_room d) ds) → k < length ds) → suc k < length (d ∷ ds)
    by true low one two = let h = one (omega (arith, low)) in omega (arith, h)
    by false low one two = let h = two (omega (arith, low)) in omega (arith, h)

pub no_address : (fixed other : ℕ) (ds : List PlainDelta) (k : ℕ) → length ds ≤ k → slice_index (globals_from fixed other ds) k ≡ 0
no_address fixed other [] k past = refl
no_address fixed other (d ∷ ds) zero past = absurd (omega (arith, past))
no_address fixed other (d ∷ ds) (suc k) past = by d.fixed (no_address (fixed + global_room d) other ds k (omega (arith, past))) (no_address fixed (other + global_room d) ds k (omega (arith, past)))
  where
    by : (b : Bool) → slice_index (globals_from (fixed + global_room d) other ds) k ≡ 0 → slice_index (globals_from fixed (other + global_room d) ds) k ≡ 0
        → slice_index (if b then fixed ∷ globals_from (fixed + global_room d) other ds else other ∷ globals_from fixed (other + global_room d) ds) (suc k) ≡ 0
    by true one two = one
    by false one two = two

module _ (fs : List (List Item)) (ds : List PlainDelta) (main : ℕ) (can : CanLayOut fs ds main) (sound : AreSound (executable_for (laid_out fs ds main)).segments) where
  abbrev flags : ℕ → ℕ
  flags = flags_of (executable_for (laid_out fs ds main)).segments

  abbrev bases : Bases
  bases = bases_of (addresses_of fs ds)

  -- a block that lives is that of a global
  pub record OfGlobal (n : ℕ) (b : Block) : Type 0 where
    pub delta : PlainDelta
    pub there : slice_get ds n ≡ Some delta
    pub is : first_block (global_of ds) delta ≡ b
    pub size : b.size ≡ length delta.bytes

  size_is_word : (k : ℕ) (d : PlainDelta) → slice_get ds k ≡ Some d → word_of (length d.bytes) ≡ length d.bytes
  size_is_word k d there = let high = (global_at fs ds main can sound k d there).high in let memory = can.fits_memory in omega (arith, high, memory)

  pub of_global : (n : ℕ) (b : Block) → Lives (first_memory ds) n b → OfGlobal n b
  of_global n b lives =
      let of = block_there (global_of ds) ds n b lives.there in
      record { delta = of.0; there = of.1; is = of.2; size = ap (λ (k : Block). k.size) (sym of.2) ∙ size_is_word n of.0 of.1 }

  block-fits : (n : ℕ) (b : Block) → Lives (first_memory ds) n b → BlockFits flags (bases n) b
  block-fits n b lives = record {
    low = at.low;
    high = let high = at.high in let memory = can.fits_memory in let size = of.size in omega (arith, high, memory, size);
    aligned = at.aligned;
    readable = λ j below. at.readable j (let size = of.size in omega (arith, size, below));
    writable = λ free j below. at.writable (ap (λ (k : Block). k.fixed) of.is ∙ free) j (let size = of.size in omega (arith, size, below));
  }
    where
      of : OfGlobal n b
      of = of_global n b lives

      at : GlobalAt fs ds main can sound n of.delta
      at = global_at fs ds main can sound n of.delta of.there

  blocks-apart : (n k : ℕ) (b c : Block) → Lives (first_memory ds) n b → Lives (first_memory ds) k c → n ≢ k → (bases n + b.size + 4 ≤ bases k) ⊎ (bases k + c.size + 4 ≤ bases n)
  blocks-apart n k b c lives lives' differ = by (globals_are_apart fs ds main can sound n k one.delta two.delta one.there two.there differ)
    where
      one : OfGlobal n b
      one = of_global n b lives

      two : OfGlobal k c
      two = of_global k c lives'

      by : Disjoint fs ds main can sound n k one.delta two.delta → (bases n + b.size + 4 ≤ bases k) ⊎ (bases k + c.size + 4 ≤ bases n)
      by (inl h) = let size = one.size in inl (omega (arith, h, size))
      by (inr h) = let size = two.size in inr (omega (arith, h, size))

  pub has_leaf_of : (n w o : ℕ) (b : Block) (of : OfGlobal n b) → has_leaf w o b ≡ true → some_of (is_leaf w o) of.delta.leaves ≡ true
  has_leaf_of n w o b of has =
      sym (leaf_of_cell (global_of ds) of.delta w o of.delta.leaves) ∙ ap (λ (k : Block). list_any (is_at w o) k.cells) of.is ∙ has

  aligned-sum : (w a o : ℕ) → IsWidth w → a % 4 ≡ 0 → o % w ≡ 0 → (a + o) % w ≡ 0
  aligned-sum w a o (inl one) even at = subst (λ v. (a + o) % v ≡ 0) (sym one) (omega arith)
  aligned-sum w a o (inr (inl two)) even at = subst (λ v. (a + o) % v ≡ 0) (sym two) (let same : o % 2 ≡ 0 = subst (λ v. o % v ≡ 0) two at in omega (arith, same, even))
  aligned-sum w a o (inr (inr four)) even at = subst (λ v. (a + o) % v ≡ 0) (sym four) (let same : o % 4 ≡ 0 = subst (λ v. o % v ≡ 0) four at in omega (arith, same, even))

  pub globals_are_laid_out : AreGlobals ds → AreLaidOut flags bases (first_memory ds)
  globals_are_laid_out globals = record {
    leaves = leaf;
    leaves_apart = λ n w o w' o' b lives has has'.
        let of = of_global n b lives in
        leaves_are_separate (length of.delta.bytes) 0 w o w' o' of.delta.leaves (globals n of.delta of.there).leaves (has_leaf_of n w o b of has) (has_leaf_of n w' o' b of has');
    blocks_fit = block-fits;
    apart = blocks-apart;
  }
    where
      leaf : (n width offset : ℕ) (b : Block) → Lives (first_memory ds) n b → has_leaf width offset b ≡ true → LeafFits (bases n) b.size width offset
      leaf n w o b lives has =
          let of = of_global n b lives in
          let within = leaf_within (length of.delta.bytes) 0 w o of.delta.leaves (globals n of.delta of.there).leaves (has_leaf_of n w o b of has) in
          let to = within.to in
          let size = of.size in
          record {
            is_width = within.width_is;
            aligned = aligned-sum w (bases n) o within.width_is (global_at fs ds main can sound n of.delta of.there).aligned within.aligned;
            within = omega (arith, to, size);
          }

  -- ---- what they are apart from

  -- no block reaches the stack
  pub stack_is_outside : (a : ℕ) → stack_address fs ds ≤ a → IsOutside bases (first_memory ds) a
  stack_is_outside a from live =
      let of = of_global live.number live.block live.lives in
      let end = (global_at fs ds main can sound live.number of.delta of.there).high in
      let high = live.high in
      let size = of.size in
      omega (arith, end, high, size, from)

  pub buffer_is_outside : IsOutside bases (first_memory ds) (data_address fs ds)
  buffer_is_outside live = by (global_at fs ds main can sound live.number of.delta of.there).off_buffer
    where
      of : OfGlobal live.number live.block
      of = of_global live.number live.block live.lives

      by : (bases live.number + global_room of.delta ≤ data_address fs ds) ⊎ (data_address fs ds + 8 ≤ bases live.number) → ⊥
      by (inl h) = let high = live.high in let size = of.size in omega (arith, h, high, size)
      by (inr h) = let low = live.low in omega (arith, h, low)

  -- the address of a global is shown
  global_is_shown : (k : ℕ) (d : PlainDelta) → slice_get ds k ≡ Some d → Shows bases (global_of ds k) (bases k)
  global_is_shown k d there =
      let sized : slice_get (delta_sizes ds) k ≡ Some (length d.bytes) = slice_get-map (λ (x : PlainDelta). length x.bytes) ds k ∙ ap (option_map (λ (x : PlainDelta). length x.bytes)) there in
      let at = global_at fs ds main can sound k d there in
      let same : bases (0 + k) ≡ bases k = ap bases (omega arith) in
      let high = at.high in
      let low = at.low in
      let memory = can.fits_memory in
      let size = size_is_word k d there in
      subst (λ s. Shows bases (block_address (0 + k) s) (bases k)) (sym sized)
      (record { is = omega (arith, same); within = omega arith; low = omega (arith, same, low); high = omega (arith, same, high, memory, size) })

  pub global_address : (k : ℕ) → k < length ds → (bases k < 2 ^ 32) × Shows bases (global_of ds k) (bases k)
  global_address k below = by (slice_get_cases ds k).1
    where
      by : ((d : PlainDelta) × (k < length ds) × (slice_get ds k ≡ Some d) × (get_or ds k d ≡ d)) ⊎ ((length ds ≤ k) × (slice_get ds k ≡ None))
          → (bases k < 2 ^ 32) × Shows bases (global_of ds k) (bases k)
      by (inl h) =
          let high = (global_at fs ds main can sound k h.0 h.2).high in
          let memory = can.fits_memory in
          (omega (arith, high, memory), global_is_shown k h.0 h.2)
      by (inr h) = let past = h.0 in absurd (omega (arith, past, below))
