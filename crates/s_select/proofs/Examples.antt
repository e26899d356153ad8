-- Worked rows: operands in registers and in words of the frame, and a whole program.
use Rattle.std.specs.Prelude.{◌≡◌, refl, ◌-◌, ◌^◌, true, List, [], ◌∷◌, length}
use Rattle.elf_file.specs.Image.{Sections}
use Rattle.elf_file.specs.Header.{elf_header, program_header}
use Rattle.elf_file.specs.Written.{file_of, headers, program_headers}
use Rattle.rv_isa.specs.Registers.{sp, t0}
use Rattle.rv_isa.specs.declared.instruction.Instr.TheVariants.{Lui, Lw, Add}
use Rattle.g_graph.specs.Plain.{PlainDelta}
use Rattle.s_linear.specs.Frame.{PlainPlaces}
use Rattle.s_linear.specs.Linear.{const, global_address, load, call}
use Rattle.s_linear.specs.Lines.{enter, leave, done}
use Rattle.rv_layout.specs.declared.item.Item.{Item}
use Rattle.rv_layout.specs.Items.{items_size}
use Rattle.rv_layout.specs.Sequences.{bytes_of}
use Rattle.rv_layout.specs.Layout.{laid_out}
use Rattle.s_select.specs.Operands.{t2, get, location_of}
use Rattle.s_select.specs.Templates.{instr_items, items_of}

-- ---- operands

first-word : get t0 (location_of 0 11) ≡ Lw t0 sp 0 ∷ []
first-word = refl

last-near-word : get t0 (location_of 0 522) ≡ Lw t0 sp 2044 ∷ []
last-near-word = refl

first-far-word : get t0 (location_of 0 523) ≡ Lui t2 1 ∷ Add t2 t2 sp ∷ Lw t0 t2 (2 ^ 32 - 2048) ∷ []
first-far-word = refl

-- a call whose eight arguments and value are in far words
abbrev far_places : PlainPlaces
far_places = record { of = 600 ∷ 601 ∷ 602 ∷ 603 ∷ 604 ∷ 605 ∷ 606 ∷ 607 ∷ 608 ∷ []; count = 609; temporaries = 0 }

far-call : items_size (instr_items far_places [] (call 0 8 (0 ∷ 1 ∷ 2 ∷ 3 ∷ 4 ∷ 5 ∷ 6 ∷ 7 ∷ []))) ≡ 116
far-call = refl

-- ---- programs

-- return 42;
abbrev answer : List Item
answer = items_of (record { of = 0 ∷ []; count = 1; temporaries = 0 }) [] (enter [] ∷ done (const 0 42) ∷ leave 0 ∷ [])

abbrev answer_sections : Sections
answer_sections = laid_out (answer ∷ []) [] 0

answer-file : length (file_of answer_sections) ≡ 8200
unfolding file_of headers elf_header program_header bytes_of
answer-file = refl

-- return t[2];, where t is a fixed global of three words
abbrev table : PlainDelta
table = record { bytes = 1 ∷ 0 ∷ 0 ∷ 0 ∷ 2 ∷ 0 ∷ 0 ∷ 0 ∷ 3 ∷ 0 ∷ 0 ∷ 0 ∷ []; links = []; leaves = []; fixed = true }

abbrev third : List Item
third = items_of (record { of = 0 ∷ 1 ∷ []; count = 2; temporaries = 0 }) [] (enter [] ∷ done (global_address 0 0) ∷ done (load 4 1 0) ∷ leave 1 ∷ [])

abbrev third_sections : Sections
third_sections = laid_out (third ∷ []) (table ∷ []) 0

third-file : length (file_of third_sections) ≡ 12296
unfolding file_of headers elf_header program_header bytes_of
third-file = refl

third-headers : length (program_headers third_sections) ≡ 3
third-headers = refl
