-- One instruction of RV32IM on a machine whose memory has flags (RISC-V Unprivileged ISA 20191213, chapters 2, 7
-- and 24), with the environment calls write, read and exit.
use Rattle.std.specs.Prelude.{ℕ, ◌+◌, ◌-◌, ◌*◌, ◌%◌, ◌^◌, ◌==◌, Bool, not, ◌&&◌, if◌then◌else◌, Option, Some, None}
use Rattle.rv_isa.specs.Calls.{exit_call, read_call, write_call}
use Rattle.rv_isa.specs.Formats.{sign_extended}
use Rattle.rv_isa.specs.Registers.{a0, a1, a2, a7}
use Rattle.rv_isa.specs.Encodings.{decoded}
use Rattle.rv_isa.specs.declared.instruction.Instr.{Instr}
use Rattle.rv_isa.specs.declared.instruction.Instr.TheVariants.{Lui, Auipc, Jal, Jalr, Beq, Bne, Blt, Bge, Bltu, Bgeu, Lb, Lh, Lw, Lbu, Lhu, Sb, Sh, Sw, Addi, Slti, Sltiu, Xori, Ori, Andi, Slli, Srli, Srai, Add, Sub, Sll, Slt, Sltu, Xor, Srl, Sra, Or, And, Mul, Mulh, Mulhsu, Mulhu, Div, Divu, Rem, Remu, Fence, Ecall, Ebreak}
use Rattle.rv_machine.specs.Memory.{Bytes, put_at, load_bytes, store_bytes, allowed, to_read, to_write, to_execute}
use Rattle.rv_machine.specs.Words.{is_less, is_below, add, sub, sll, slt, sltu, xor, srl, sra, or, and, mul, mulh, mulhsu, mulhu, div, divu, rem, remu}

pub record State : Type 0 where
  pub pc : ℕ
  pub regs : ℕ → ℕ
  pub mem : Bytes

-- how a run ends: by the environment call exit, by ebreak, or at an instruction that cannot be done
pub data Ending : Type 0 where
  exit : (status : ℕ) → Ending
  stack : Ending
  stuck : (pc why : ℕ) → Ending

-- The reasons to be stuck.

abbrev pub bad_pc : ℕ
bad_pc = 1

abbrev pub no_instruction : ℕ
no_instruction = 2

abbrev pub no_access : ℕ
no_access = 3

abbrev pub misaligned : ℕ
misaligned = 4

abbrev pub no_call : ℕ
no_call = 5

-- The effect of an instruction: it goes on, ends the run, writes a byte, or asks for the next byte of the input,
-- which is missing at its end.
pub data Effect : Type 0 where
  next : (state : State) → Effect
  stop : (ending : Ending) → Effect
  put : (byte : ℕ) (state : State) → Effect
  get : (received : Option ℕ → State) → Effect

-- x0 is 0
abbrev pub look : (regs : ℕ → ℕ) → ℕ → ℕ
look regs r = if r == 0 then 0 else regs r

-- a write to x0 changes nothing
abbrev pub set_register : (regs : ℕ → ℕ) → ℕ → ℕ → (ℕ → ℕ)
set_register regs rd n = if rd == 0 then regs else put_at regs rd n

abbrev pub offset : ℕ → ℕ → ℕ
offset address n = (address + n) % 2 ^ 32

abbrev pub after : ℕ → ℕ
after pc = offset pc 4

-- the instruction is done, and the next one follows
abbrev pub go_on : State → State
go_on s = record { pc = after s.pc; regs = s.regs; mem = s.mem }

-- the same, with a result in a register
unfoldable pub give : State → (rd n : ℕ) → State
give s rd n = record { pc = after s.pc; regs = set_register s.regs rd n; mem = s.mem }

abbrev pub register_op : (ℕ → ℕ → ℕ) → (rd rs1 rs2 : ℕ) → State → Effect
register_op op rd rs1 rs2 s = next (give s rd (op (look s.regs rs1) (look s.regs rs2)))

abbrev pub immediate_op : (ℕ → ℕ → ℕ) → (rd rs1 imm : ℕ) → State → Effect
immediate_op op rd rs1 imm s = next (give s rd (op (look s.regs rs1) imm))

-- to a target, with the address of the next instruction in a register
unfoldable pub jump : (rd target : ℕ) → State → Effect
jump rd target s =
    next (record { pc = target; regs = set_register s.regs rd (after s.pc); mem = s.mem })

abbrev pub branch : (ℕ → ℕ → Bool) → (rs1 rs2 distance : ℕ) → State → Effect
branch test rs1 rs2 distance s =
    next (record {
      pc = if test (look s.regs rs1) (look s.regs rs2) then offset s.pc distance else after s.pc;
      regs = s.regs;
      mem = s.mem;
    })

-- An access to memory: the address is a multiple of the width, and each byte has the flag.
abbrev pub access : (flags : ℕ → ℕ) (flag width address : ℕ) → State → Effect → Effect
access flags flag width address s effect =
    if not (address % width == 0) then stop (stuck s.pc misaligned)
    else if not (allowed flags flag address width) then stop (stuck s.pc no_access)
    else effect

abbrev pub load : (flags : ℕ → ℕ) (width : ℕ) → (ℕ → ℕ) → (rd rs1 distance : ℕ) → State → Effect
load flags width extended rd rs1 distance s =
    let address = offset (look s.regs rs1) distance in
    access flags to_read width address s
    (next (give s rd (extended (load_bytes s.mem address width))))

abbrev pub store : (flags : ℕ → ℕ) (width rs1 rs2 distance : ℕ) → State → Effect
store flags width rs1 rs2 distance s =
    let address = offset (look s.regs rs1) distance in
    access flags to_write width address s
    (next (record {
      pc = after s.pc;
      regs = s.regs;
      mem = store_bytes s.mem address (look s.regs rs2) width;
    }))

-- the call is done, and a0 has its answer
abbrev pub answer : State → ℕ → State
answer s n = give s a0 n

-- one byte read to the address in a1, or the end of the input
abbrev pub received : State → Option ℕ → State
received s None = answer s 0
received s (Some byte) =
    answer (record { pc = s.pc; regs = s.regs; mem = put_at s.mem (s.regs a1) byte }) 1

-- a7 has the number of the call, and a0, a1 and a2 have its arguments: exit with a status, write of one byte to the
-- standard output (1), and read of one byte from the standard input (0)
unfoldable pub call : (flags : ℕ → ℕ) → State → Effect
call flags s =
    if s.regs a7 == exit_call then stop (exit (s.regs a0 % 256))
    else if s.regs a7 == write_call && s.regs a0 == 1 && s.regs a2 == 1 then
    access flags to_read 1 (s.regs a1) s (put (s.mem (s.regs a1)) (answer s 1))
    else if s.regs a7 == read_call && s.regs a0 == 0 && s.regs a2 == 1 then
    access flags to_write 1 (s.regs a1) s (get (received s))
    else stop (stuck s.pc no_call)

-- what each instruction does
unfoldable pub act : (flags : ℕ → ℕ) → Instr → State → Effect
act flags (Lui rd imm) s = next (give s rd (imm * 2 ^ 12))
act flags (Auipc rd imm) s = next (give s rd (offset s.pc (imm * 2 ^ 12)))
act flags (Jal rd distance) s = jump rd (offset s.pc distance) s
act flags (Jalr rd rs1 distance) s =
    let target = offset (look s.regs rs1) distance in
    jump rd (target - target % 2) s
act flags (Beq rs1 rs2 distance) s = branch (λ a b. a == b) rs1 rs2 distance s
act flags (Bne rs1 rs2 distance) s = branch (λ a b. not (a == b)) rs1 rs2 distance s
act flags (Blt rs1 rs2 distance) s = branch is_less rs1 rs2 distance s
act flags (Bge rs1 rs2 distance) s = branch (λ a b. not (is_less a b)) rs1 rs2 distance s
act flags (Bltu rs1 rs2 distance) s = branch is_below rs1 rs2 distance s
act flags (Bgeu rs1 rs2 distance) s = branch (λ a b. not (is_below a b)) rs1 rs2 distance s
act flags (Lb rd rs1 distance) s = load flags 1 (sign_extended 8) rd rs1 distance s
act flags (Lh rd rs1 distance) s = load flags 2 (sign_extended 16) rd rs1 distance s
act flags (Lw rd rs1 distance) s = load flags 4 (λ n. n) rd rs1 distance s
act flags (Lbu rd rs1 distance) s = load flags 1 (λ n. n) rd rs1 distance s
act flags (Lhu rd rs1 distance) s = load flags 2 (λ n. n) rd rs1 distance s
act flags (Sb rs1 rs2 distance) s = store flags 1 rs1 rs2 distance s
act flags (Sh rs1 rs2 distance) s = store flags 2 rs1 rs2 distance s
act flags (Sw rs1 rs2 distance) s = store flags 4 rs1 rs2 distance s
act flags (Addi rd rs1 imm) s = immediate_op add rd rs1 imm s
act flags (Slti rd rs1 imm) s = immediate_op slt rd rs1 imm s
act flags (Sltiu rd rs1 imm) s = immediate_op sltu rd rs1 imm s
act flags (Xori rd rs1 imm) s = immediate_op xor rd rs1 imm s
act flags (Ori rd rs1 imm) s = immediate_op or rd rs1 imm s
act flags (Andi rd rs1 imm) s = immediate_op and rd rs1 imm s
act flags (Slli rd rs1 shamt) s = immediate_op sll rd rs1 shamt s
act flags (Srli rd rs1 shamt) s = immediate_op srl rd rs1 shamt s
act flags (Srai rd rs1 shamt) s = immediate_op sra rd rs1 shamt s
act flags (Add rd rs1 rs2) s = register_op add rd rs1 rs2 s
act flags (Sub rd rs1 rs2) s = register_op sub rd rs1 rs2 s
act flags (Sll rd rs1 rs2) s = register_op sll rd rs1 rs2 s
act flags (Slt rd rs1 rs2) s = register_op slt rd rs1 rs2 s
act flags (Sltu rd rs1 rs2) s = register_op sltu rd rs1 rs2 s
act flags (Xor rd rs1 rs2) s = register_op xor rd rs1 rs2 s
act flags (Srl rd rs1 rs2) s = register_op srl rd rs1 rs2 s
act flags (Sra rd rs1 rs2) s = register_op sra rd rs1 rs2 s
act flags (Or rd rs1 rs2) s = register_op or rd rs1 rs2 s
act flags (And rd rs1 rs2) s = register_op and rd rs1 rs2 s
act flags (Mul rd rs1 rs2) s = register_op mul rd rs1 rs2 s
act flags (Mulh rd rs1 rs2) s = register_op mulh rd rs1 rs2 s
act flags (Mulhsu rd rs1 rs2) s = register_op mulhsu rd rs1 rs2 s
act flags (Mulhu rd rs1 rs2) s = register_op mulhu rd rs1 rs2 s
act flags (Div rd rs1 rs2) s = register_op div rd rs1 rs2 s
act flags (Divu rd rs1 rs2) s = register_op divu rd rs1 rs2 s
act flags (Rem rd rs1 rs2) s = register_op rem rd rs1 rs2 s
act flags (Remu rd rs1 rs2) s = register_op remu rd rs1 rs2 s
act flags (Fence rd rs1 imm) s = next (go_on s)
act flags Ecall s = call flags s
act flags Ebreak s = stop stack

-- the word at pc, where it may be executed
unfoldable pub fetched : (flags : ℕ → ℕ) → State → Option ℕ
fetched flags s =
    if s.pc % 4 == 0 && allowed flags to_execute s.pc 4 then Some (load_bytes s.mem s.pc 4) else None

abbrev pub act_decoded : (flags : ℕ → ℕ) → Option Instr → State → Effect
act_decoded flags None s = stop (stuck s.pc no_instruction)
act_decoded flags (Some i) s = act flags i s

abbrev pub act_fetched : (flags : ℕ → ℕ) → Option ℕ → State → Effect
act_fetched flags None s = stop (stuck s.pc bad_pc)
act_fetched flags (Some w) s = act_decoded flags (decoded w) s

-- what the instruction at pc does
unfoldable pub next_effect : (flags : ℕ → ℕ) → State → Effect
next_effect flags s = act_fetched flags (fetched flags s) s
