-- Globals (ISO/IEC 9899:2011, 6.7.9): what is written in one, byte by byte, the lowest byte of a word first, and zeros.
use Rattle.std.specs.Prelude.{ℕ, zero, suc, ◌+◌, ◌-◌, ◌*◌, ◌/◌, ◌%◌, ◌^◌, ◌&&◌, nat_le, nat_lt, if◌then◌else◌, List, [], ◌∷◌, map, length, slice_index_or}
use Rattle.c_type.specs.Layout.{Definitions, size, leaves}
use Rattle.c_typed.specs.Typed.{WrittenTree, word_at, link_at, characters_at, GlobalTree, ProgramTree}
use Rattle.g_graph.specs.declared.link.Link.{Link}
use Rattle.g_graph.specs.Plain.{PlainDelta}

-- the byte at an offset, zero where a link or nothing stands
abbrev pub byte_at : List WrittenTree → (offset : ℕ) → ℕ
byte_at [] i = 0
byte_at (word_at o width w ∷ ws) i = if nat_le o i && nat_lt i (o + width) then w / 2 ^ (8 * (i - o)) % 2 ^ 8 else byte_at ws i
byte_at (link_at o k ∷ ws) i = byte_at ws i
byte_at (characters_at o cs ∷ ws) i = if nat_le o i && nat_lt i (o + length cs) then slice_index_or cs (i - o) 0 else byte_at ws i

-- so many bytes from an offset on
abbrev pub bytes_from : List WrittenTree → (offset count : ℕ) → List ℕ
bytes_from ws i zero = []
bytes_from ws i (suc n) = byte_at ws i ∷ bytes_from ws (suc i) n

abbrev pub links_in : List WrittenTree → List Link
links_in [] = []
links_in (word_at o width w ∷ ws) = links_in ws
links_in (link_at o k ∷ ws) = record { at = o; delta = k } ∷ links_in ws
links_in (characters_at o cs ∷ ws) = links_in ws

abbrev pub global_made : Definitions → GlobalTree → PlainDelta
global_made defs g =
    record { bytes = bytes_from g.written 0 (size defs g.type); links = links_in g.written; leaves = leaves defs g.type; fixed = g.fixed }

abbrev pub globals_made : ProgramTree → List PlainDelta
globals_made p = map (global_made p.structs) p.globals
