-- The word of an instruction, by its encoding in the instruction listings of RV32I and RV32M (RISC-V
-- Unprivileged ISA 20191213, chapter 24).
use Rattle.std.specs.Prelude.{ℕ}
use Rattle.rv_isa.specs.Formats.{Encoding, r_type, i_type, s_type, b_type, u_type, j_type, fixed_word, packed, IsInRange}
use Rattle.rv_isa.specs.declared.instruction.Instr.{Instr}
use Rattle.rv_isa.specs.declared.instruction.Instr.TheVariants.{Lui, Auipc, Jal, Jalr, Beq, Bne, Blt, Bge, Bltu, Bgeu, Lb, Lh, Lw, Lbu, Lhu, Sb, Sh, Sw, Addi, Slti, Sltiu, Xori, Ori, Andi, Slli, Srli, Srai, Add, Sub, Sll, Slt, Sltu, Xor, Srl, Sra, Or, And, Mul, Mulh, Mulhsu, Mulhu, Div, Divu, Rem, Remu, Fence, Ecall, Ebreak}

-- a shift amount is in the field of rs2 of format R
abbrev pub encoding_of : Instr → Encoding
encoding_of (Lui rd imm) = u_type imm rd 0x37
encoding_of (Auipc rd imm) = u_type imm rd 0x17
encoding_of (Jal rd offset) = j_type offset rd 0x6f
encoding_of (Jalr rd rs1 offset) = i_type offset rs1 0 rd 0x67
encoding_of (Beq rs1 rs2 offset) = b_type offset rs2 rs1 0 0x63
encoding_of (Bne rs1 rs2 offset) = b_type offset rs2 rs1 1 0x63
encoding_of (Blt rs1 rs2 offset) = b_type offset rs2 rs1 4 0x63
encoding_of (Bge rs1 rs2 offset) = b_type offset rs2 rs1 5 0x63
encoding_of (Bltu rs1 rs2 offset) = b_type offset rs2 rs1 6 0x63
encoding_of (Bgeu rs1 rs2 offset) = b_type offset rs2 rs1 7 0x63
encoding_of (Lb rd rs1 offset) = i_type offset rs1 0 rd 0x03
encoding_of (Lh rd rs1 offset) = i_type offset rs1 1 rd 0x03
encoding_of (Lw rd rs1 offset) = i_type offset rs1 2 rd 0x03
encoding_of (Lbu rd rs1 offset) = i_type offset rs1 4 rd 0x03
encoding_of (Lhu rd rs1 offset) = i_type offset rs1 5 rd 0x03
encoding_of (Sb rs1 rs2 offset) = s_type offset rs2 rs1 0 0x23
encoding_of (Sh rs1 rs2 offset) = s_type offset rs2 rs1 1 0x23
encoding_of (Sw rs1 rs2 offset) = s_type offset rs2 rs1 2 0x23
encoding_of (Addi rd rs1 imm) = i_type imm rs1 0 rd 0x13
encoding_of (Slti rd rs1 imm) = i_type imm rs1 2 rd 0x13
encoding_of (Sltiu rd rs1 imm) = i_type imm rs1 3 rd 0x13
encoding_of (Xori rd rs1 imm) = i_type imm rs1 4 rd 0x13
encoding_of (Ori rd rs1 imm) = i_type imm rs1 6 rd 0x13
encoding_of (Andi rd rs1 imm) = i_type imm rs1 7 rd 0x13
encoding_of (Slli rd rs1 shamt) = r_type 0x00 shamt rs1 1 rd 0x13
encoding_of (Srli rd rs1 shamt) = r_type 0x00 shamt rs1 5 rd 0x13
encoding_of (Srai rd rs1 shamt) = r_type 0x20 shamt rs1 5 rd 0x13
encoding_of (Add rd rs1 rs2) = r_type 0x00 rs2 rs1 0 rd 0x33
encoding_of (Sub rd rs1 rs2) = r_type 0x20 rs2 rs1 0 rd 0x33
encoding_of (Sll rd rs1 rs2) = r_type 0x00 rs2 rs1 1 rd 0x33
encoding_of (Slt rd rs1 rs2) = r_type 0x00 rs2 rs1 2 rd 0x33
encoding_of (Sltu rd rs1 rs2) = r_type 0x00 rs2 rs1 3 rd 0x33
encoding_of (Xor rd rs1 rs2) = r_type 0x00 rs2 rs1 4 rd 0x33
encoding_of (Srl rd rs1 rs2) = r_type 0x00 rs2 rs1 5 rd 0x33
encoding_of (Sra rd rs1 rs2) = r_type 0x20 rs2 rs1 5 rd 0x33
encoding_of (Or rd rs1 rs2) = r_type 0x00 rs2 rs1 6 rd 0x33
encoding_of (And rd rs1 rs2) = r_type 0x00 rs2 rs1 7 rd 0x33
encoding_of (Mul rd rs1 rs2) = r_type 0x01 rs2 rs1 0 rd 0x33
encoding_of (Mulh rd rs1 rs2) = r_type 0x01 rs2 rs1 1 rd 0x33
encoding_of (Mulhsu rd rs1 rs2) = r_type 0x01 rs2 rs1 2 rd 0x33
encoding_of (Mulhu rd rs1 rs2) = r_type 0x01 rs2 rs1 3 rd 0x33
encoding_of (Div rd rs1 rs2) = r_type 0x01 rs2 rs1 4 rd 0x33
encoding_of (Divu rd rs1 rs2) = r_type 0x01 rs2 rs1 5 rd 0x33
encoding_of (Rem rd rs1 rs2) = r_type 0x01 rs2 rs1 6 rd 0x33
encoding_of (Remu rd rs1 rs2) = r_type 0x01 rs2 rs1 7 rd 0x33
encoding_of (Fence rd rs1 imm) = i_type imm rs1 0 rd 0x0f
encoding_of Ecall = fixed_word 0x00000073
encoding_of Ebreak = fixed_word 0x00100073

unfoldable pub word_of : Instr → ℕ
word_of i = packed (encoding_of i)

-- each operand is within what the instruction's format holds, as in every `Instr` of the code
unfoldable pub FitsFormat : Instr → Type 0
FitsFormat i = IsInRange (encoding_of i)
