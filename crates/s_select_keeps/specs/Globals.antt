-- The memory of the globals as a program begins: its blocks are shown in the bytes of the loaded image.
use Rattle.std.specs.Prelude.{◌≡◌, ℕ, ◌+◌, List, map, length, slice_get, slice_index, Some}
use Rattle.elf_file.specs.Image.{stack_size}
use Rattle.elf_file.specs.Laws.{executable_for}
use Rattle.elf_file.specs.Segments.{AreSound}
use Rattle.g_graph.specs.Plain.{PlainDelta}
use Rattle.g_graph.specs.Program.{IsGlobal}
use Rattle.g_mean.specs.Calls.{global_of, first_memory}
use Rattle.rv_layout.specs.Conditions.{CanLayOut}
use Rattle.rv_layout.specs.Layout.{Addresses, addresses_of, laid_out}
use Rattle.s_linear.specs.Linear.{LinearFunction}
use Rattle.s_select_keeps.specs.Functions.{Layout, HasBlocks}
use Rattle.s_select_keeps.specs.LaidFunctions.{function_items, loaded_program}
use Rattle.s_select_keeps.specs.Relation.{Bases, ShowsMemory}

-- the blocks of the globals are the first, each at the address of its global; there are no others yet
abbrev pub bases_of : Addresses → Bases
bases_of addresses k = slice_index addresses.globals k

abbrev pub AreGlobals : List PlainDelta → Type 0
AreGlobals ds = (k : ℕ) (d : PlainDelta) → slice_get ds k ≡ Some d → IsGlobal (length ds) d

-- Where a program can be laid out and the segments of its image are sound, the bytes of the image show the memory of its globals.
abbrev pub GlobalsAreShown : Type 0
GlobalsAreShown =
    (places : Layout) (fs : List LinearFunction) (ds : List PlainDelta) (main : ℕ) → CanLayOut (map (function_items places) fs) ds main → AreSound (executable_for (laid_out (map (function_items places) fs) ds main)).segments
    → AreGlobals ds
    → ShowsMemory (loaded_program places fs ds main (global_of ds)).text.flags (bases_of (addresses_of (map (function_items places) fs) ds)) (first_memory ds) (loaded_program places fs ds main (global_of ds)).text.bytes

-- Each global stands where the program has it, and its block is apart from the stack and from the buffer of the stubs.
abbrev pub GlobalsHaveBlocks : Type 0
GlobalsHaveBlocks =
    (places : Layout) (fs : List LinearFunction) (ds : List PlainDelta) (main : ℕ) → CanLayOut (map (function_items places) fs) ds main → AreSound (executable_for (laid_out (map (function_items places) fs) ds main)).segments
    → HasBlocks (loaded_program places fs ds main (global_of ds)) (bases_of (addresses_of (map (function_items places) fs) ds)) (first_memory ds)
    (addresses_of (map (function_items places) fs) ds).stack_at ((addresses_of (map (function_items places) fs) ds).stack_at + stack_size)
