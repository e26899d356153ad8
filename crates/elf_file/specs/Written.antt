-- The executable file of an image.
use Rattle.std.specs.Prelude.{ℕ, ◌+◌, ◌-◌, ◌==◌, List, [], ◌∷◌, ◌++◌, length, replicate, if◌then◌else◌}
use Rattle.std.specs.List.{flat_map}
use Rattle.elf_file.specs.Image.{Sections, page_size, text_at, next_page, data_size}
use Rattle.elf_file.specs.Header.{ProgramHeader, elf_header, program_header}

-- the offsets of the sections in the file
abbrev pub fixed_offset : Sections → ℕ
fixed_offset i = next_page (page_size + length i.text)

abbrev pub data_offset : Sections → ℕ
data_offset i = next_page (fixed_offset i + length i.fixed)

-- the segments that are loaded: the text, to read and execute
abbrev pub text_header : Sections → ProgramHeader
text_header i = record {
  kind = 1;
  offset = page_size;
  at = text_at;
  file_size = length i.text;
  memory_size = length i.text;
  flags = 5;
}

-- the read-only globals
abbrev pub fixed_header : Sections → ProgramHeader
fixed_header i = record {
  kind = 1;
  offset = fixed_offset i;
  at = i.fixed_at;
  file_size = length i.fixed;
  memory_size = length i.fixed;
  flags = 4;
}

-- the other globals with the stack after them, to read and write
abbrev pub data_header : Sections → ProgramHeader
data_header i = record {
  kind = 1;
  offset = data_offset i;
  at = i.data_at;
  file_size = length i.globals;
  memory_size = data_size i;
  flags = 6;
}

abbrev pub fixed_headers : Sections → List ProgramHeader
fixed_headers i = if length i.fixed == 0 then [] else fixed_header i ∷ []

abbrev pub program_headers : Sections → List ProgramHeader
program_headers i = text_header i ∷ fixed_headers i ++ data_header i ∷ []

unfoldable pub headers : Sections → List ℕ
headers i =
    elf_header text_at (length (program_headers i)) ++ flat_map program_header (program_headers i)

-- a list and the zeros that fill its last page
abbrev pub padded : List ℕ → List ℕ
padded xs = xs ++ replicate (next_page (length xs) - length xs) 0

unfoldable pub file_of : Sections → List ℕ
file_of i = padded (headers i) ++ padded i.text ++ padded i.fixed ++ i.globals
