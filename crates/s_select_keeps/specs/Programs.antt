-- Where a program that is laid out stands in memory.
use Rattle.std.specs.Prelude.{ℕ, List, slice_index}
use Rattle.elf_file.specs.Image.{text_at}
use Rattle.elf_file.specs.Laws.{executable_for}
use Rattle.elf_file.specs.Segments.{AreSound}
use Rattle.g_graph.specs.Plain.{PlainDelta}
use Rattle.rv_machine.specs.Memory.{memory_of, flags_of}
use Rattle.rv_machine.specs.Standing.{Text, CodeStands}
use Rattle.rv_layout.specs.declared.item.Item.{Item}
use Rattle.rv_layout.specs.Conditions.{CanLayOut}
use Rattle.rv_layout.specs.Layout.{put_at, functions_at, functions_from, addresses_of, laid_out}
use Rattle.rv_layout.specs.Sequences.{start_code}
use Rattle.s_select_keeps.specs.Formats.{EachFits}
use Rattle.s_select_keeps.specs.Standing.{FunctionsStandFrom}
use Rattle.s_select_keeps.specs.Streams.{StubsStand}

-- what an image has in memory as it is loaded
abbrev pub text_loaded : List (List Item) → List PlainDelta → (main : ℕ) → Text
text_loaded fs ds main = record {
  flags = flags_of (executable_for (laid_out fs ds main)).segments;
  bytes = memory_of (executable_for (laid_out fs ds main)).segments;
}

-- the start code, the stubs, and each function at its address
pub record ProgramStands (fs : List (List Item)) (ds : List PlainDelta) (main : ℕ) : Type 0 where
  pub start : CodeStands (text_loaded fs ds main) text_at (start_code (addresses_of fs ds).stack_at (slice_index (addresses_of fs ds).functions main)) put_at
  pub stubs : StubsStand (text_loaded fs ds main) (addresses_of fs ds).data_at
  pub functions : FunctionsStandFrom (text_loaded fs ds main) (addresses_of fs ds) fs (functions_from functions_at fs)

-- A program that can be laid out stands in memory once its image is loaded, where the segments of the image are sound.
abbrev pub LaidProgramStands : Type 0
LaidProgramStands =
    (fs : List (List Item)) (ds : List PlainDelta) (main : ℕ) → CanLayOut fs ds main → EachFits fs → AreSound (executable_for (laid_out fs ds main)).segments
    → ProgramStands fs ds main
