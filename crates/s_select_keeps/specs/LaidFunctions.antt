-- That the functions of a program that is laid out can run.
use Rattle.std.specs.Prelude.{◌≡◌, ℕ, ◌+◌, ◌^◌, ◌<◌, ◌≤◌, nat_lt, Bool, true, IsTrue, List, map, length, slice_get, Some, All}
use Rattle.val_core.specs.declared.values.Value.{Value}
use Rattle.val_core.specs.Memory.{Memory}
use Rattle.elf_file.specs.Image.{IsPlaced, stack_size}
use Rattle.elf_file.specs.Laws.{executable_for}
use Rattle.elf_file.specs.Segments.{AreSound}
use Rattle.g_graph.specs.Plain.{PlainDelta}
use Rattle.g_graph.specs.WellFormed.{all_of, leaves_fit}
use Rattle.rv_machine.specs.Run.{start}
use Rattle.rv_layout.specs.declared.item.Item.{Item}
use Rattle.rv_layout.specs.Conditions.{is_within_reach, CanLayOut}
use Rattle.rv_layout.specs.Items.{marks}
use Rattle.rv_layout.specs.Layout.{put_at, addresses_of, laid_out}
use Rattle.s_linear.specs.Frame.{PlainPlaces}
use Rattle.s_linear.specs.Linear.{Instr, const, LinearFunction}
use Rattle.s_linear.specs.Lines.{does, lines}
use Rattle.s_linear.specs.Operands.{has_its_global}
use Rattle.s_linear.specs.declared.frame.Frame.{Frame}
use Rattle.s_select.specs.Conditions.{CanSelect}
use Rattle.s_select.specs.Templates.{items_of}
use Rattle.s_select_keeps.specs.Formats.{IsInRange}
use Rattle.s_select_keeps.specs.Functions.{Layout, Program, FunctionCanRun, ProgramCanRun, HasBlocks}
use Rattle.s_select_keeps.specs.Mains.{HasStart}
use Rattle.s_select_keeps.specs.Programs.{text_loaded}
use Rattle.s_select_keeps.specs.Relation.{Bases, ShowsMemory}

abbrev pub function_items : Layout → LinearFunction → List Item
function_items places f = items_of (places f) f.objects (lines f)

-- a constant is a word
abbrev pub is_word_constant : Instr → Bool
is_word_constant (const t w) = nat_lt w (2 ^ 32)
is_word_constant _ = true

-- A function whose lines can be selected can run, where its lines name globals of the program, its constants are words, its code is short
-- and its frame in range, and the leaves of its objects do not overlap.
abbrev pub SelectedCanRun : Type 0
SelectedCanRun =
    (globals : ℕ) (f : LinearFunction) (p : PlainPlaces) (frame : Frame) → CanSelect (lines f) p frame f.objects
    → IsTrue (all_of (does (has_its_global globals)) (lines f))
    → IsTrue (all_of (does is_word_constant) (lines f)) → IsTrue (is_within_reach (items_of p f.objects (lines f))) → IsInRange p f.objects
    → IsTrue (all_of (λ o. leaves_fit o.size 0 o.leaves) f.objects) → FunctionCanRun globals p f

-- these functions and globals in memory, as their image is loaded
abbrev pub loaded_program : Layout → List LinearFunction → List PlainDelta → (main : ℕ) → (global : ℕ → Value) → Program
loaded_program places fs ds main global = record {
  text = text_loaded (map (function_items places) fs) ds main;
  addresses = addresses_of (map (function_items places) fs) ds;
  functions = fs;
  places = places;
  global = global;
}

-- A program that can be laid out can run once its image is loaded, where each function can and its labels are marked once at most.
abbrev pub LaidProgramCanRun : Type 0
LaidProgramCanRun =
    (places : Layout) (fs : List LinearFunction) (ds : List PlainDelta) (main : ℕ) (global : ℕ → Value) → CanLayOut (map (function_items places) fs) ds main
    → AreSound (executable_for (laid_out (map (function_items places) fs) ds main)).segments
    → ((k : ℕ) (f : LinearFunction) → slice_get fs k ≡ Some f → FunctionCanRun (length (addresses_of (map (function_items places) fs) ds).globals) (places f) f)
    → ((k : ℕ) (f : LinearFunction) → slice_get fs k ≡ Some f → (l : ℕ) → marks l (function_items places f) ≤ 1) → ProgramCanRun (loaded_program places fs ds main global)

-- Its image begins at the start code, with its stack and its text, where it is placed. The last conditions are on the memory of its
-- globals: it is shown in the bytes of the image, in blocks apart from the stack.
abbrev pub LaidProgramStarts : Type 0
LaidProgramStarts =
    (places : Layout) (fs : List LinearFunction) (ds : List PlainDelta) (main : ℕ) (global : ℕ → Value) (blocks : Memory) (bases : Bases) (input : List ℕ)
    → CanLayOut (map (function_items places) fs) ds main
    → IsPlaced (laid_out (map (function_items places) fs) ds main) → AreSound (executable_for (laid_out (map (function_items places) fs) ds main)).segments
    → ((k : ℕ) (f : LinearFunction) → slice_get fs k ≡ Some f → FunctionCanRun (length (addresses_of (map (function_items places) fs) ds).globals) (places f) f)
    → ShowsMemory (loaded_program places fs ds main global).text.flags bases blocks (loaded_program places fs ds main global).text.bytes
    → HasBlocks (loaded_program places fs ds main global) bases blocks (addresses_of (map (function_items places) fs) ds).stack_at
    ((addresses_of (map (function_items places) fs) ds).stack_at + stack_size)
    → All (λ byte. byte < 2 ^ 8) input
    → HasStart (loaded_program places fs ds main global) main (addresses_of (map (function_items places) fs) ds).stack_at put_at blocks bases input
    (start (executable_for (laid_out (map (function_items places) fs) ds main)))
