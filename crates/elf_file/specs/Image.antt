-- A program image as plain lists and numbers, and where its sections are in memory.
use Rattle.std.specs.Prelude.{◌≡◌, ℕ, ◌+◌, ◌-◌, ◌*◌, ◌/◌, ◌≤◌, List, length}
use Rattle.elf_file.specs.declared.image.Image.{Image}

-- The bytes of the three sections, and the addresses of the second, of the third and of the stack.
pub record Sections : Type 0 where
  pub text : List ℕ
  pub fixed : List ℕ
  pub fixed_at : ℕ
  pub globals : List ℕ
  pub data_at : ℕ
  pub stack_at : ℕ

abbrev pub sections_of : Image → Sections
sections_of i = record {
  text = i.text.items;
  fixed = i.fixed.items;
  fixed_at = i.fixed_at;
  globals = i.globals.items;
  data_at = i.data_at;
  stack_at = i.stack_at;
}

abbrev pub page_size : ℕ
page_size = 4096

-- the address of the text, and the entry
abbrev pub text_at : ℕ
text_at = 0x10000

abbrev pub stack_size : ℕ
stack_size = 8_388_608

-- the most bytes of memory that the segments of an executable may have together
abbrev pub memory_limit : ℕ
memory_limit = 268_435_456

-- the least multiple of a page's size that is not below n
abbrev pub next_page : ℕ → ℕ
next_page n = (n + (page_size - 1)) / page_size * page_size

-- the bytes of memory from the globals to the end of the stack
abbrev pub data_size : Sections → ℕ
data_size i = i.stack_at + stack_size - i.data_at

-- Each section begins on the first page after the section before it, and the stack on the first page after
-- the globals. Where there are no fixed bytes, their address and that of the globals are the same.
-- The limit on memory also keeps the file below its limit, and every address below 2^32.
pub record IsPlaced (i : Sections) : Type 0 where
  pub fixed_place : i.fixed_at ≡ next_page (text_at + length i.text)
  pub globals_place : i.data_at ≡ next_page (i.fixed_at + length i.fixed)
  pub stack_place : i.stack_at ≡ next_page (i.data_at + length i.globals)
  pub sizes : length i.text + length i.fixed + data_size i ≤ memory_limit
