-- The headers of an ELF file for 32-bit processors, little-endian (System V ABI, chapter 4 "Object Files"
-- and chapter 5 "Program Loading"): as bytes, and read from bytes. A byte past the end reads as 0.
use Rattle.std.specs.Prelude.{ℕ, ◌+◌, List, [], ◌∷◌, ◌++◌, slice_index, replicate}
use Rattle.std.specs.Int.{to_le_bytes, from_le_bytes, w16, w32}
use Rattle.elf_file.specs.declared.header.ProgramHeader as rust

-- Elf32_Half
abbrev pub half : ℕ → List ℕ
half n = to_le_bytes w16 n

unfoldable pub half_at : List ℕ → ℕ → ℕ
half_at bytes at = from_le_bytes w16 (slice_index bytes at ∷ slice_index bytes (at + 1) ∷ [])

-- Elf32_Word, Elf32_Addr and Elf32_Off
abbrev pub word : ℕ → List ℕ
word n = to_le_bytes w32 n

unfoldable pub word_at : List ℕ → ℕ → ℕ
word_at bytes at =
    from_le_bytes w32
    (slice_index bytes at ∷ slice_index bytes (at + 1) ∷ slice_index bytes (at + 2) ∷ slice_index bytes (at + 3) ∷ [])

-- e_ident: the magic number, 32-bit, little-endian, version 1, padding
abbrev pub ident : List ℕ
ident = 0x7f ∷ 0x45 ∷ 0x4c ∷ 0x46 ∷ 1 ∷ 1 ∷ 1 ∷ replicate 9 0

-- Elf32_Ehdr of an executable with this entry and this many program headers, which follow it
unfoldable pub elf_header : ℕ → ℕ → List ℕ
elf_header entry count =
    ident
    ++ half 2  -- e_type: ET_EXEC
    ++ half 243  -- e_machine: EM_RISCV
    ++ word 1  -- e_version: EV_CURRENT
    ++ word entry  -- e_entry
    ++ word 52  -- e_phoff
    ++ word 0  -- e_shoff
    ++ word 0  -- e_flags
    ++ half 52  -- e_ehsize
    ++ half 32  -- e_phentsize
    ++ half count  -- e_phnum
    ++ half 0  -- e_shentsize
    ++ half 0  -- e_shnum
    ++ half 0  -- e_shstrndx

-- Elf32_Phdr, without the physical address and the alignment
pub record ProgramHeader : Type 0 where
  pub kind : ℕ
  pub offset : ℕ
  pub at : ℕ
  pub file_size : ℕ
  pub memory_size : ℕ
  pub flags : ℕ

unfoldable pub program_header : ProgramHeader → List ℕ
program_header h =
    word h.kind  -- p_type
    ++ word h.offset  -- p_offset
    ++ word h.at  -- p_vaddr
    ++ word h.at  -- p_paddr
    ++ word h.file_size  -- p_filesz
    ++ word h.memory_size  -- p_memsz
    ++ word h.flags  -- p_flags: 4 to read, 2 to write, 1 to execute
    ++ word 4096  -- p_align

unfoldable pub header_at : List ℕ → ℕ → ProgramHeader
header_at bytes at = record {
  kind = word_at bytes at;
  offset = word_at bytes (at + 4);
  at = word_at bytes (at + 8);
  file_size = word_at bytes (at + 16);
  memory_size = word_at bytes (at + 20);
  flags = word_at bytes (at + 24);
}

abbrev pub header_of : rust.ProgramHeader → ProgramHeader
header_of h = record {
  kind = h.kind;
  offset = h.offset;
  at = h.at;
  file_size = h.file_size;
  memory_size = h.memory_size;
  flags = h.flags;
}
