-- What the file of an image loads as.
use Rattle.std.specs.Prelude.{◌≡◌, ℕ, ◌+◌, ◌≤◌, ◌<◌, false, ◌==◌, List, [], ◌∷◌, ◌++◌, length, Ok, if◌then◌else◌}
use Rattle.elf_file.specs.Image.{Sections, IsPlaced, text_at, data_size}
use Rattle.elf_file.specs.Written.{file_of}
use Rattle.elf_file.specs.Loading.{LoadedSegment, Executable, is_apart, loaded}
use Rattle.elf_file.specs.Header.{ProgramHeader}
use Rattle.elf_file.specs.Segments.{AreSound}

abbrev pub text_segment : Sections → LoadedSegment
text_segment i = record { at = text_at; size = length i.text; flags = 5; bytes = i.text }

abbrev pub fixed_segment : Sections → LoadedSegment
fixed_segment i = record { at = i.fixed_at; size = length i.fixed; flags = 4; bytes = i.fixed }

abbrev pub data_segment : Sections → LoadedSegment
data_segment i = record { at = i.data_at; size = data_size i; flags = 6; bytes = i.globals }

-- an image in memory: the text, the read-only globals where there are any, and the other globals with the
-- stack after them
unfoldable pub executable_for : Sections → Executable
executable_for i = record {
  entry = text_at;
  segments = text_segment i ∷ (if length i.fixed == 0 then [] else fixed_segment i ∷ []) ++ data_segment i ∷ [];
}

-- The file of an image loads as the image.
abbrev pub WrittenLoads : Type 0
WrittenLoads = (i : Sections) → IsPlaced i → loaded (file_of i) ≡ Ok (executable_for i)

-- The segments of every executable are contained in the address space, apart from one another, and few.
abbrev pub LoadedIsSound : Type 0
LoadedIsSound = (bytes : List ℕ) (e : Executable) → loaded bytes ≡ Ok e → AreSound e.segments

-- Two segments that are not apart have an address in common.
abbrev pub OverlapHasAddress : Type 0
OverlapHasAddress =
    (a b : ProgramHeader) → is_apart a b ≡ false
    → (address : ℕ) × (a.at ≤ address) × (address < a.at + a.memory_size) × (b.at ≤ address) × (address < b.at + b.memory_size)
