-- The text of an instruction: its name in the manual (RISC-V Unprivileged ISA 20191213, chapters 2, 7 and 25), a tab, and
-- its operands, with the registers' names of the calling convention. It is what `objdump -M no-aliases` prints, but for
-- the target of a branch or a jump, which is an offset from the instruction's own address.
use Rattle.std.specs.Prelude.{ℕ, zero, suc, ◌+◌, ◌-◌, ◌/◌, ◌%◌, ◌^◌, ◌==◌, ◌&&◌, nat_lt, if◌then◌else◌, Bool, true, false, List, [], ◌∷◌, ◌++◌, codes, decimal}
use Rattle.rv_isa.specs.Words.{word_of}
use Rattle.rv_isa.specs.declared.instruction.Instr.{Instr}
use Rattle.rv_isa.specs.declared.instruction.Instr.TheVariants.{Lui, Auipc, Jal, Jalr, Beq, Bne, Blt, Bge, Bltu, Bgeu, Lb, Lh, Lw, Lbu, Lhu, Sb, Sh, Sw, Addi, Slti, Sltiu, Xori, Ori, Andi, Slli, Srli, Srai, Add, Sub, Sll, Slt, Sltu, Xor, Srl, Sra, Or, And, Mul, Mulh, Mulhsu, Mulhu, Div, Divu, Rem, Remu, Fence, Ecall, Ebreak}

-- ---- operands

abbrev pub numbered : (letter : List ℕ) → ℕ → List ℕ
numbered letter n = letter ++ decimal n

-- the registers that have one name each
abbrev pub named : ℕ → List ℕ
named n =
    if n == 0 then codes "zero" else (if n == 1 then codes "ra" else (if n == 2 then codes "sp" else (if n == 3 then codes "gp" else codes "tp")))

-- by number, as the calling convention has them (RISC-V ELF psABI, 1.1)
abbrev pub register_name : ℕ → List ℕ
register_name n =
    if nat_lt n 5 then named n else (if nat_lt n 8 then numbered (codes "t") (n - 5) else (
    if nat_lt n 10 then numbered (codes "s") (n - 8) else (if nat_lt n 18 then numbered (codes "a") (n - 10) else (
    if nat_lt n 28 then numbered (codes "s") (n - 16) else numbered (codes "t") (n - 25)))))

-- a word, read as signed
abbrev pub signed : ℕ → List ℕ
signed word = if nat_lt word (2 ^ 31) then decimal word else numbered (codes "-") (2 ^ 32 - word)

abbrev pub hex_digit : ℕ → ℕ
hex_digit d = if nat_lt d 10 then 48 + d else 87 + d

-- in hexadecimal, with at most so many digits and no leading zero
abbrev pub hex : (digits : ℕ) → ℕ → List ℕ
hex zero n = []
hex (suc digits) n = if nat_lt n 16 then hex_digit n ∷ [] else (hex digits (n / 16) ++ hex_digit (n % 16) ∷ [])

-- an address so many bytes after that of the instruction
abbrev pub target : ℕ → List ℕ
target offset = if nat_lt offset (2 ^ 31) then numbered (codes ".+") offset else numbered (codes ".-") (2 ^ 32 - offset)

-- ---- instructions by what operands they have

-- the name and the first register
abbrev pub led : (name : List ℕ) → ℕ → List ℕ
led name reg = name ++ codes "\t" ++ register_name reg

abbrev pub with_registers : (name : List ℕ) → (rd rs1 rs2 : ℕ) → List ℕ
with_registers name rd rs1 rs2 = led name rd ++ codes "," ++ register_name rs1 ++ codes "," ++ register_name rs2

abbrev pub with_immediate : (name : List ℕ) → (rd rs1 imm : ℕ) → List ℕ
with_immediate name rd rs1 imm = led name rd ++ codes "," ++ register_name rs1 ++ codes "," ++ signed imm

abbrev pub with_shift : (name : List ℕ) → (rd rs1 shamt : ℕ) → List ℕ
with_shift name rd rs1 shamt = led name rd ++ codes "," ++ register_name rs1 ++ codes ",0x" ++ hex 2 shamt

abbrev pub with_address : (name : List ℕ) → (reg base offset : ℕ) → List ℕ
with_address name reg base offset = led name reg ++ codes "," ++ signed offset ++ codes "(" ++ register_name base ++ codes ")"

abbrev pub with_branch : (name : List ℕ) → (rs1 rs2 offset : ℕ) → List ℕ
with_branch name rs1 rs2 offset = led name rs1 ++ codes "," ++ register_name rs2 ++ codes "," ++ target offset

abbrev pub with_upper : (name : List ℕ) → (rd imm : ℕ) → List ℕ
with_upper name rd imm = led name rd ++ codes ",0x" ++ hex 5 imm

abbrev pub with_jump : (name : List ℕ) → (rd offset : ℕ) → List ℕ
with_jump name rd offset = led name rd ++ codes "," ++ target offset

-- ---- fences

abbrev pub letter : Bool → (name : List ℕ) → List ℕ
letter true name = name
letter false name = []

-- which accesses a fence orders, by four bits: input and output of devices, reads and writes
abbrev pub accesses : ℕ → List ℕ
accesses bits =
    letter (nat_lt 7 (bits % 16)) (codes "i") ++ letter (nat_lt 3 (bits % 8)) (codes "o") ++ letter (nat_lt 1 (bits % 4)) (codes "r") ++ letter (nat_lt 0 (bits % 2)) (codes "w")

abbrev pub named_fence : (imm : ℕ) → List ℕ
named_fence imm = codes "fence\t" ++ accesses (imm / 16) ++ codes "," ++ accesses imm

abbrev pub word_text : Instr → List ℕ
word_text i = codes ".4byte\t0x" ++ hex 8 (word_of i)

-- A fence that is reserved has no name: its word stands for it.
abbrev pub fence_text : (rd rs1 imm : ℕ) → List ℕ
fence_text rd rs1 imm =
    if rd == 0 && (rs1 == 0 && nat_lt imm 256) then named_fence imm else word_text (Fence rd rs1 imm)

abbrev pub text : Instr → List ℕ
text (Lui rd imm) = with_upper (codes "lui") rd imm
text (Auipc rd imm) = with_upper (codes "auipc") rd imm
text (Jal rd offset) = with_jump (codes "jal") rd offset
text (Jalr rd rs1 offset) = with_address (codes "jalr") rd rs1 offset
text (Beq rs1 rs2 offset) = with_branch (codes "beq") rs1 rs2 offset
text (Bne rs1 rs2 offset) = with_branch (codes "bne") rs1 rs2 offset
text (Blt rs1 rs2 offset) = with_branch (codes "blt") rs1 rs2 offset
text (Bge rs1 rs2 offset) = with_branch (codes "bge") rs1 rs2 offset
text (Bltu rs1 rs2 offset) = with_branch (codes "bltu") rs1 rs2 offset
text (Bgeu rs1 rs2 offset) = with_branch (codes "bgeu") rs1 rs2 offset
text (Lb rd rs1 offset) = with_address (codes "lb") rd rs1 offset
text (Lh rd rs1 offset) = with_address (codes "lh") rd rs1 offset
text (Lw rd rs1 offset) = with_address (codes "lw") rd rs1 offset
text (Lbu rd rs1 offset) = with_address (codes "lbu") rd rs1 offset
text (Lhu rd rs1 offset) = with_address (codes "lhu") rd rs1 offset
text (Sb rs1 rs2 offset) = with_address (codes "sb") rs2 rs1 offset
text (Sh rs1 rs2 offset) = with_address (codes "sh") rs2 rs1 offset
text (Sw rs1 rs2 offset) = with_address (codes "sw") rs2 rs1 offset
text (Addi rd rs1 imm) = with_immediate (codes "addi") rd rs1 imm
text (Slti rd rs1 imm) = with_immediate (codes "slti") rd rs1 imm
text (Sltiu rd rs1 imm) = with_immediate (codes "sltiu") rd rs1 imm
text (Xori rd rs1 imm) = with_immediate (codes "xori") rd rs1 imm
text (Ori rd rs1 imm) = with_immediate (codes "ori") rd rs1 imm
text (Andi rd rs1 imm) = with_immediate (codes "andi") rd rs1 imm
text (Slli rd rs1 shamt) = with_shift (codes "slli") rd rs1 shamt
text (Srli rd rs1 shamt) = with_shift (codes "srli") rd rs1 shamt
text (Srai rd rs1 shamt) = with_shift (codes "srai") rd rs1 shamt
text (Add rd rs1 rs2) = with_registers (codes "add") rd rs1 rs2
text (Sub rd rs1 rs2) = with_registers (codes "sub") rd rs1 rs2
text (Sll rd rs1 rs2) = with_registers (codes "sll") rd rs1 rs2
text (Slt rd rs1 rs2) = with_registers (codes "slt") rd rs1 rs2
text (Sltu rd rs1 rs2) = with_registers (codes "sltu") rd rs1 rs2
text (Xor rd rs1 rs2) = with_registers (codes "xor") rd rs1 rs2
text (Srl rd rs1 rs2) = with_registers (codes "srl") rd rs1 rs2
text (Sra rd rs1 rs2) = with_registers (codes "sra") rd rs1 rs2
text (Or rd rs1 rs2) = with_registers (codes "or") rd rs1 rs2
text (And rd rs1 rs2) = with_registers (codes "and") rd rs1 rs2
text (Mul rd rs1 rs2) = with_registers (codes "mul") rd rs1 rs2
text (Mulh rd rs1 rs2) = with_registers (codes "mulh") rd rs1 rs2
text (Mulhsu rd rs1 rs2) = with_registers (codes "mulhsu") rd rs1 rs2
text (Mulhu rd rs1 rs2) = with_registers (codes "mulhu") rd rs1 rs2
text (Div rd rs1 rs2) = with_registers (codes "div") rd rs1 rs2
text (Divu rd rs1 rs2) = with_registers (codes "divu") rd rs1 rs2
text (Rem rd rs1 rs2) = with_registers (codes "rem") rd rs1 rs2
text (Remu rd rs1 rs2) = with_registers (codes "remu") rd rs1 rs2
text (Fence rd rs1 imm) = fence_text rd rs1 imm
text Ecall = codes "ecall"
text Ebreak = codes "ebreak"
