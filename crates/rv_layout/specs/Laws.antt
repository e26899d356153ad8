-- What holds of the sections of every program.
use Rattle.std.specs.Prelude.{ℕ, ◌+◌, ◌≤◌, List}
use Rattle.elf_file.specs.Image.{IsPlaced, memory_limit, stack_size, text_at}
use Rattle.g_graph.specs.Plain.{PlainDelta}
use Rattle.rv_layout.specs.declared.item.Item.{Item}
use Rattle.rv_layout.specs.Layout.{laid_out, stack_address}
use Rattle.rv_layout.specs.Conditions.{CanLayOut}

-- Where memory up to the end of the stack is within the limit, the sections stand where a file wants them.
abbrev pub LaidIsPlaced : Type 0
LaidIsPlaced =
    (fs : List (List Item)) (ds : List PlainDelta) (main : ℕ) → CanLayOut fs ds main
    → stack_address fs ds + stack_size ≤ text_at + memory_limit → IsPlaced (laid_out fs ds main)
