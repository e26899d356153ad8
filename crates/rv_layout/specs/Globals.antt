-- Globals in memory: where each stands, and its bytes with the addresses that its links name.
use Rattle.std.specs.Prelude.{ℕ, ◌+◌, ◌-◌, Bool, not, if◌then◌else◌, List, [], ◌∷◌, ◌++◌, length, take, drop, replicate, slice_index}
use Rattle.base.specs.Limits.{counted_bytes}
use Rattle.elf_file.specs.Header.{word}
use Rattle.g_graph.specs.declared.link.Link.{Link}
use Rattle.g_graph.specs.Plain.{PlainDelta}

-- the bytes of a global in memory
abbrev pub global_room : PlainDelta → ℕ
global_room d = counted_bytes (length d.bytes)

abbrev pub is_where : (fixed : Bool) → PlainDelta → Bool
is_where fixed d = if fixed then d.fixed else not d.fixed

-- those that never change, or the others
abbrev pub globals_where : (fixed : Bool) → List PlainDelta → List PlainDelta
globals_where fixed [] = []
globals_where fixed (d ∷ ds) = if is_where fixed d then d ∷ globals_where fixed ds else globals_where fixed ds

-- the addresses of globals, the fixed ones from `fixed` on, and the others from `other` on
abbrev pub globals_from : (fixed other : ℕ) → List PlainDelta → List ℕ
globals_from fixed other [] = []
globals_from fixed other (d ∷ ds) =
    if d.fixed then fixed ∷ globals_from (fixed + global_room d) other ds else other ∷ globals_from fixed (other + global_room d) ds

-- with a word in place of the four bytes at an offset
abbrev pub with_word : (at w : ℕ) → List ℕ → List ℕ
with_word at w bytes = take at bytes ++ word w ++ drop (at + 4) bytes

-- with an address in place of the four bytes at each link
abbrev pub with_links : (globals : List ℕ) → List Link → List ℕ → List ℕ
with_links globals [] bytes = bytes
with_links globals (l ∷ ls) bytes = with_links globals ls (with_word l.at (slice_index globals l.delta) bytes)

-- a global in memory; zeros follow its bytes
abbrev pub global_bytes : (globals : List ℕ) → PlainDelta → List ℕ
global_bytes globals d = with_links globals d.links d.bytes ++ replicate (global_room d - length d.bytes) 0
