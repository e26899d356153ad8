-- The instruction of a word: that of the first encoding of RV32I and RV32M that the word's fields match
-- (RISC-V Unprivileged ISA 20191213, chapter 24).
use Rattle.std.specs.Prelude.{ℕ, Bool, ◌==◌, ◌&&◌, if◌then◌else◌, Option, Some, None, List, [], ◌∷◌}
use Rattle.std.specs.List.{list_any}
use Rattle.rv_isa.specs.Formats.{opcode_of, rd_of, funct3_of, rs1_of, rs2_of, funct7_of, i_imm, s_imm, b_imm, u_imm, j_imm}
use Rattle.rv_isa.specs.declared.instruction.Instr.{Instr}
use Rattle.rv_isa.specs.declared.instruction.Instr.TheVariants.{Lui, Auipc, Jal, Jalr, Beq, Bne, Blt, Bge, Bltu, Bgeu, Lb, Lh, Lw, Lbu, Lhu, Sb, Sh, Sw, Addi, Slti, Sltiu, Xori, Ori, Andi, Slli, Srli, Srai, Add, Sub, Sll, Slt, Sltu, Xor, Srl, Sra, Or, And, Mul, Mulh, Mulhsu, Mulhu, Div, Divu, Rem, Remu, Fence, Ecall, Ebreak}

-- which fields distinguish an encoding from the others, and their values
pub data Pattern : Type 0 where
  by_opcode : (opcode : ℕ) → Pattern
  by_funct3 : (opcode funct3 : ℕ) → Pattern
  by_funct7 : (opcode funct3 funct7 : ℕ) → Pattern
  by_word : (w : ℕ) → Pattern

abbrev pub matches : Pattern → ℕ → Bool
matches (by_opcode opcode) w = opcode_of w == opcode
matches (by_funct3 opcode funct3) w = opcode_of w == opcode && funct3_of w == funct3
matches (by_funct7 opcode funct3 funct7) w =
    opcode_of w == opcode && funct3_of w == funct3 && funct7_of w == funct7
matches (by_word v) w = w == v

-- The operands of a word, by format.

abbrev pub r_fields : (ℕ → ℕ → ℕ → Instr) → ℕ → Instr
r_fields made w = made (rd_of w) (rs1_of w) (rs2_of w)

abbrev pub i_fields : (ℕ → ℕ → ℕ → Instr) → ℕ → Instr
i_fields made w = made (rd_of w) (rs1_of w) (i_imm w)

abbrev pub s_fields : (ℕ → ℕ → ℕ → Instr) → ℕ → Instr
s_fields made w = made (rs1_of w) (rs2_of w) (s_imm w)

abbrev pub b_fields : (ℕ → ℕ → ℕ → Instr) → ℕ → Instr
b_fields made w = made (rs1_of w) (rs2_of w) (b_imm w)

abbrev pub u_fields : (ℕ → ℕ → Instr) → ℕ → Instr
u_fields made w = made (rd_of w) (u_imm w)

abbrev pub j_fields : (ℕ → ℕ → Instr) → ℕ → Instr
j_fields made w = made (rd_of w) (j_imm w)

abbrev pub encodings : List (Pattern × (ℕ → Instr))
encodings =
    (by_opcode 0x37, u_fields Lui) ∷
    (by_opcode 0x17, u_fields Auipc) ∷
    (by_opcode 0x6f, j_fields Jal) ∷
    (by_funct3 0x67 0, i_fields Jalr) ∷
    (by_funct3 0x63 0, b_fields Beq) ∷
    (by_funct3 0x63 1, b_fields Bne) ∷
    (by_funct3 0x63 4, b_fields Blt) ∷
    (by_funct3 0x63 5, b_fields Bge) ∷
    (by_funct3 0x63 6, b_fields Bltu) ∷
    (by_funct3 0x63 7, b_fields Bgeu) ∷
    (by_funct3 0x03 0, i_fields Lb) ∷
    (by_funct3 0x03 1, i_fields Lh) ∷
    (by_funct3 0x03 2, i_fields Lw) ∷
    (by_funct3 0x03 4, i_fields Lbu) ∷
    (by_funct3 0x03 5, i_fields Lhu) ∷
    (by_funct3 0x23 0, s_fields Sb) ∷
    (by_funct3 0x23 1, s_fields Sh) ∷
    (by_funct3 0x23 2, s_fields Sw) ∷
    (by_funct3 0x13 0, i_fields Addi) ∷
    (by_funct3 0x13 2, i_fields Slti) ∷
    (by_funct3 0x13 3, i_fields Sltiu) ∷
    (by_funct3 0x13 4, i_fields Xori) ∷
    (by_funct3 0x13 6, i_fields Ori) ∷
    (by_funct3 0x13 7, i_fields Andi) ∷
    (by_funct7 0x13 1 0x00, r_fields Slli) ∷
    (by_funct7 0x13 5 0x00, r_fields Srli) ∷
    (by_funct7 0x13 5 0x20, r_fields Srai) ∷
    (by_funct7 0x33 0 0x00, r_fields Add) ∷
    (by_funct7 0x33 0 0x20, r_fields Sub) ∷
    (by_funct7 0x33 1 0x00, r_fields Sll) ∷
    (by_funct7 0x33 2 0x00, r_fields Slt) ∷
    (by_funct7 0x33 3 0x00, r_fields Sltu) ∷
    (by_funct7 0x33 4 0x00, r_fields Xor) ∷
    (by_funct7 0x33 5 0x00, r_fields Srl) ∷
    (by_funct7 0x33 5 0x20, r_fields Sra) ∷
    (by_funct7 0x33 6 0x00, r_fields Or) ∷
    (by_funct7 0x33 7 0x00, r_fields And) ∷
    (by_funct7 0x33 0 0x01, r_fields Mul) ∷
    (by_funct7 0x33 1 0x01, r_fields Mulh) ∷
    (by_funct7 0x33 2 0x01, r_fields Mulhsu) ∷
    (by_funct7 0x33 3 0x01, r_fields Mulhu) ∷
    (by_funct7 0x33 4 0x01, r_fields Div) ∷
    (by_funct7 0x33 5 0x01, r_fields Divu) ∷
    (by_funct7 0x33 6 0x01, r_fields Rem) ∷
    (by_funct7 0x33 7 0x01, r_fields Remu) ∷
    (by_funct3 0x0f 0, i_fields Fence) ∷
    (by_word 0x00000073, λ _. Ecall) ∷
    (by_word 0x00100073, λ _. Ebreak) ∷ []

-- whether any encoding matches
abbrev pub some_encoding_matches : ℕ → Bool
some_encoding_matches w = list_any (λ encoding. matches encoding.0 w) encodings

abbrev pub first_match : List (Pattern × (ℕ → Instr)) → ℕ → Option Instr
first_match [] w = None
first_match (encoding ∷ others) w = if matches encoding.0 w then Some (encoding.1 w) else first_match others w

-- the instruction of the first encoding that matches
unfoldable pub decoded : ℕ → Option Instr
decoded w = first_match encodings w
