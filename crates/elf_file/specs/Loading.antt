-- What a file loads as: the segments and the entry of an ELF executable for 32-bit RISC-V (System V ABI,
-- chapter 4 "Object Files" and chapter 5 "Program Loading"), or the first fault of the file.
use Rattle.std.specs.Prelude.{ℕ, zero, suc, ◌+◌, ◌*◌, ◌==◌, ◌&&◌, ◌||◌, ◌^◌, nat_lt, nat_le, nat_eq, not, Bool, true, List, [], ◌∷◌, length, slice_index, filter, map, sum_by, Option, Some, None, Result, Ok, Err, if◌then◌else◌}
use Rattle.std.specs.List.{list_all, starts_with, slice_range}
use Rattle.elf_file.specs.Image.{memory_limit}
use Rattle.elf_file.specs.Header.{ProgramHeader, half_at, word_at, header_at}
use Rattle.elf_file.specs.declared.fault.ElfFault.{ElfFault}
use Rattle.elf_file.specs.declared.fault.ElfFault.TheVariants.{Short, NotElf, NotProfile, BadSegment, LongFile}

-- A segment in memory: its address and size, what is allowed (4 to read, 2 to write, 1 to execute), and its
-- first bytes. The rest of its memory is zero.
pub record LoadedSegment : Type 0 where
  pub at : ℕ
  pub size : ℕ
  pub flags : ℕ
  pub bytes : List ℕ

pub record Executable : Type 0 where
  pub entry : ℕ
  pub segments : List LoadedSegment

-- the most bytes of a file
abbrev pub file_limit : ℕ
file_limit = 268_435_456

-- ELFMAG
abbrev pub has_magic : List ℕ → Bool
has_magic bytes = starts_with nat_eq bytes (0x7f ∷ 0x45 ∷ 0x4c ∷ 0x46 ∷ [])

-- e_phoff and e_phnum
abbrev pub headers_start : List ℕ → ℕ
headers_start bytes = word_at bytes 28

abbrev pub header_count : List ℕ → ℕ
header_count bytes = half_at bytes 44

abbrev pub headers_end : List ℕ → ℕ
headers_end bytes = headers_start bytes + 32 * header_count bytes

-- an executable for RISC-V, 32-bit, little-endian, with 1 to 16 program headers
unfoldable pub is_profile : List ℕ → Bool
is_profile bytes =
    slice_index bytes 4 == 1  -- EI_CLASS: ELFCLASS32
    && slice_index bytes 5 == 1  -- EI_DATA: ELFDATA2LSB
    && slice_index bytes 6 == 1  -- EI_VERSION
    && half_at bytes 16 == 2  -- e_type: ET_EXEC
    && half_at bytes 18 == 243  -- e_machine: EM_RISCV
    && word_at bytes 20 == 1  -- e_version
    && half_at bytes 42 == 32  -- e_phentsize
    && nat_le 1 (header_count bytes)
    && nat_le (header_count bytes) 16

-- this many program headers from an offset on
unfoldable pub headers_from : List ℕ → ℕ → ℕ → List ProgramHeader
headers_from bytes at zero = []
headers_from bytes at (suc n) = header_at bytes at ∷ headers_from bytes (at + 32) n

abbrev pub is_load : ProgramHeader → Bool
is_load h = h.kind == 1

-- those of segments that are loaded
unfoldable pub loads_from : List ℕ → ℕ → ℕ → List ProgramHeader
loads_from bytes at n = filter is_load (headers_from bytes at n)

abbrev pub load_headers : List ℕ → List ProgramHeader
load_headers bytes = loads_from bytes (headers_start bytes) (header_count bytes)

-- The bytes of the file are no more than those of the memory and within a file of this length, and the
-- memory is within 2^32 bytes.
unfoldable pub is_contained : ℕ → ProgramHeader → Bool
is_contained file_length h =
    nat_le h.file_size h.memory_size
    && nat_le (h.offset + h.file_size) file_length
    && nat_le (h.at + h.memory_size) (2 ^ 32)

-- No address is in the memory of both.
unfoldable pub is_apart : ProgramHeader → ProgramHeader → Bool
is_apart a b =
    a.memory_size == 0
    || b.memory_size == 0
    || nat_le (a.at + a.memory_size) b.at
    || nat_le (b.at + b.memory_size) a.at

-- each is contained, and any two are apart
unfoldable pub are_separate : ℕ → List ProgramHeader → Bool
are_separate file_length [] = true
are_separate file_length (h ∷ hs) =
    is_contained file_length h && list_all (is_apart h) hs && are_separate file_length hs

abbrev pub total_memory : List ProgramHeader → ℕ
total_memory hs = sum_by (λ h. h.memory_size) hs

unfoldable pub are_loadable : ℕ → List ProgramHeader → Bool
are_loadable file_length hs =
    are_separate file_length hs && nat_le (total_memory hs) memory_limit

-- The first fault that the file has, in the order of these tests.
unfoldable pub fault_of : List ℕ → Option ElfFault
fault_of bytes =
    if nat_lt file_limit (length bytes) then Some LongFile
    else if nat_lt (length bytes) 52 then Some Short
    else if not (has_magic bytes) then Some NotElf
    else if not (is_profile bytes) then Some NotProfile
    else if nat_lt (length bytes) (headers_end bytes) then Some Short
    else if not (are_loadable (length bytes) (load_headers bytes)) then Some BadSegment
    else None

abbrev pub segment_at : List ℕ → ProgramHeader → LoadedSegment
segment_at bytes h = record {
  at = h.at;
  size = h.memory_size;
  flags = h.flags;
  bytes = slice_range bytes h.offset (h.offset + h.file_size);
}

unfoldable pub executable : List ℕ → Executable
executable bytes = record {
  entry = word_at bytes 24;
  segments = map (segment_at bytes) (load_headers bytes);
}

abbrev pub unless_fault : Option ElfFault → Executable → Result Executable ElfFault
unless_fault None e = Ok e
unless_fault (Some f) e = Err f

abbrev pub loaded : List ℕ → Result Executable ElfFault
loaded bytes = unless_fault (fault_of bytes) (executable bytes)
