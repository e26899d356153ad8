-- Sequences of instructions that every program has, and the bytes of instructions.
use Rattle.std.specs.Prelude.{ℕ, ◌+◌, ◌-◌, ◌/◌, ◌^◌, List, [], ◌∷◌, ◌++◌}
use Rattle.std.specs.List.{flat_map}
use Rattle.elf_file.specs.Image.{text_at, stack_size}
use Rattle.elf_file.specs.Header.{word}
use Rattle.rv_isa.specs.Calls.{read_call, write_call, exit_call}
use Rattle.rv_isa.specs.Registers.{x0, ra, sp, t0, s0, a0, a1, a2, a7}
use Rattle.rv_isa.specs.WordParts.{upper_part, low_part}
use Rattle.rv_isa.specs.Words.{word_of}
use Rattle.rv_isa.specs.declared.instruction.Instr.{Instr}
use Rattle.rv_isa.specs.declared.instruction.Instr.TheVariants.{Lui, Auipc, Jalr, Beq, Lbu, Sb, Addi, Add, Ecall}

-- a word in a register, always by two instructions
abbrev pub load_address : (rd v : ℕ) → List Instr
load_address rd v = Lui rd (upper_part v) ∷ Addi rd rd (low_part v) ∷ []

-- a call of the code at this offset from the first instruction
abbrev pub call : (offset : ℕ) → List Instr
call offset = Auipc ra (upper_part offset) ∷ Jalr ra ra (low_part offset) ∷ []

-- The start code: s0 is the stack's base and sp its end; it calls `main` and exits with its value.
abbrev pub start_code : (stack main : ℕ) → List Instr
start_code stack main =
    load_address s0 stack
    ++ Lui t0 (stack_size / 2 ^ 12)
    ∷ Add sp s0 t0
    ∷ call (main - (text_at + 16))
    ++ Addi a7 x0 exit_call
    ∷ Ecall
    ∷ []

-- Writes the low byte of a0, by way of the word at `buffer`.
abbrev pub put_stub : (buffer : ℕ) → List Instr
put_stub buffer =
    load_address t0 buffer
    ++ Sb t0 a0 0
    ∷ Addi a0 x0 1
    ∷ Addi a1 t0 0
    ∷ Addi a2 x0 1
    ∷ Addi a7 x0 write_call
    ∷ Ecall
    ∷ Jalr x0 ra 0
    ∷ []

-- What is done with the answer of the call that reads: 1, or 0 at the end of the input.
abbrev pub read_answer : List Instr
read_answer =
    Beq a0 x0 12
    ∷ Lbu a0 a1 0
    ∷ Jalr x0 ra 0
    ∷ Addi a0 x0 (2 ^ 32 - 1)
    ∷ Jalr x0 ra 0
    ∷ []

-- Reads a byte to a0, which is -1 at the end of the input.
abbrev pub get_stub : (buffer : ℕ) → List Instr
get_stub buffer =
    load_address t0 buffer
    ++ Addi a0 x0 0
    ∷ Addi a1 t0 0
    ∷ Addi a2 x0 1
    ∷ Addi a7 x0 read_call
    ∷ Ecall
    ∷ read_answer

-- each instruction as a word, little-endian
unfoldable pub bytes_of : List Instr → List ℕ
bytes_of code = flat_map (λ i. word (word_of i)) code
