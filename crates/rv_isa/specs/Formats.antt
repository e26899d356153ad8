-- The instruction formats R, I, S, B, U and J (RISC-V Unprivileged ISA 20191213, sections 2.2 and 2.3).
use Rattle.std.specs.Prelude.{◌≡◌, ℕ, ◌+◌, ◌-◌, ◌*◌, ◌/◌, ◌%◌, ◌^◌, ◌<◌}

-- bits `high` to `low` of a number, which the manual writes imm[high:low]
abbrev pub bit_field : (high low n : ℕ) → ℕ
bit_field high low n = n / 2 ^ low % 2 ^ (high + 1 - low)

-- The fields of an instruction in its format, named in the order in which the manual draws them, from
-- the highest bit. An immediate is the sign-extended word, except that format U has its upper 20 bits.
pub data Encoding : Type 0 where
  r_type : (funct7 rs2 rs1 funct3 rd opcode : ℕ) → Encoding
  i_type : (imm rs1 funct3 rd opcode : ℕ) → Encoding
  s_type : (imm rs2 rs1 funct3 opcode : ℕ) → Encoding
  b_type : (imm rs2 rs1 funct3 opcode : ℕ) → Encoding
  u_type : (imm rd opcode : ℕ) → Encoding
  j_type : (imm rd opcode : ℕ) → Encoding
  fixed_word : (w : ℕ) → Encoding

-- the word with these fields
abbrev pub packed : Encoding → ℕ
packed (r_type funct7 rs2 rs1 funct3 rd opcode) =
    funct7 * 2 ^ 25 + rs2 * 2 ^ 20 + rs1 * 2 ^ 15 + funct3 * 2 ^ 12 + rd * 2 ^ 7 + opcode
packed (i_type imm rs1 funct3 rd opcode) =
    bit_field 11 0 imm * 2 ^ 20 + rs1 * 2 ^ 15 + funct3 * 2 ^ 12 + rd * 2 ^ 7 + opcode
packed (s_type imm rs2 rs1 funct3 opcode) =
    bit_field 11 5 imm * 2 ^ 25 + rs2 * 2 ^ 20 + rs1 * 2 ^ 15 + funct3 * 2 ^ 12
    + bit_field 4 0 imm * 2 ^ 7 + opcode
packed (b_type imm rs2 rs1 funct3 opcode) =
    bit_field 12 12 imm * 2 ^ 31 + bit_field 10 5 imm * 2 ^ 25 + rs2 * 2 ^ 20 + rs1 * 2 ^ 15
    + funct3 * 2 ^ 12 + bit_field 4 1 imm * 2 ^ 8 + bit_field 11 11 imm * 2 ^ 7 + opcode
packed (u_type imm rd opcode) = imm * 2 ^ 12 + rd * 2 ^ 7 + opcode
packed (j_type imm rd opcode) =
    bit_field 20 20 imm * 2 ^ 31 + bit_field 10 1 imm * 2 ^ 21 + bit_field 11 11 imm * 2 ^ 20
    + bit_field 19 12 imm * 2 ^ 12 + rd * 2 ^ 7 + opcode
packed (fixed_word w) = w

-- a word, read as signed, that `size` bits hold
abbrev pub IsSigned : (size w : ℕ) → Type 0
IsSigned size w = (w < 2 ^ 32) × ((w + 2 ^ (size - 1)) % 2 ^ 32 < 2 ^ size)

-- the operands are within what the format holds
abbrev pub IsInRange : Encoding → Type 0
IsInRange (r_type _ rs2 rs1 _ rd _) = (rs2 < 32) × (rs1 < 32) × (rd < 32)
IsInRange (i_type imm rs1 _ rd _) = IsSigned 12 imm × (rs1 < 32) × (rd < 32)
IsInRange (s_type imm rs2 rs1 _ _) = IsSigned 12 imm × (rs2 < 32) × (rs1 < 32)
IsInRange (b_type imm rs2 rs1 _ _) =
    IsSigned 13 imm × (imm % 2 ≡ 0) × (rs2 < 32) × (rs1 < 32)
IsInRange (u_type imm rd _) = (imm < 2 ^ 20) × (rd < 32)
IsInRange (j_type imm rd _) = IsSigned 21 imm × (imm % 2 ≡ 0) × (rd < 32)
IsInRange (fixed_word _) = Unit {0}

-- The fields of a word, which the formats have in common.

abbrev pub opcode_of : ℕ → ℕ
opcode_of w = bit_field 6 0 w

abbrev pub rd_of : ℕ → ℕ
rd_of w = bit_field 11 7 w

abbrev pub funct3_of : ℕ → ℕ
funct3_of w = bit_field 14 12 w

abbrev pub rs1_of : ℕ → ℕ
rs1_of w = bit_field 19 15 w

abbrev pub rs2_of : ℕ → ℕ
rs2_of w = bit_field 24 20 w

abbrev pub funct7_of : ℕ → ℕ
funct7_of w = bit_field 31 25 w

-- the word whose low `size` bits are `n`, and whose other bits are the highest of these
abbrev pub sign_extended : (size n : ℕ) → ℕ
sign_extended size n = n + bit_field (size - 1) (size - 1) n * (2 ^ 32 - 2 ^ size)

-- The immediates of a word, by format.

abbrev pub i_imm : ℕ → ℕ
i_imm w = sign_extended 12 (bit_field 31 20 w)

abbrev pub s_imm : ℕ → ℕ
s_imm w = sign_extended 12 (bit_field 31 25 w * 2 ^ 5 + bit_field 11 7 w)

abbrev pub b_imm : ℕ → ℕ
b_imm w =
    sign_extended 13
    (bit_field 31 31 w * 2 ^ 12 + bit_field 7 7 w * 2 ^ 11 + bit_field 30 25 w * 2 ^ 5
    + bit_field 11 8 w * 2)

abbrev pub u_imm : ℕ → ℕ
u_imm w = bit_field 31 12 w

abbrev pub j_imm : ℕ → ℕ
j_imm w =
    sign_extended 21
    (bit_field 31 31 w * 2 ^ 20 + bit_field 19 12 w * 2 ^ 12 + bit_field 20 20 w * 2 ^ 11
    + bit_field 30 21 w * 2)
