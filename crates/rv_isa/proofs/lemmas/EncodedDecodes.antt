-- Decoding the word of an instruction gives the instruction.
use Rattle.std.proofs.Common.{◌≡◌, ℕ, ◌<◌, Bool, ◌==◌, ◌&&◌, if◌then◌else◌, Option, Some, None, List, [], ◌∷◌, refl, arith, lit<}
use Rattle.rv_isa.specs.Formats.{r_type, i_type, s_type, b_type, u_type, j_type, packed, IsInRange, opcode_of, rd_of, funct3_of, rs1_of, rs2_of, funct7_of, i_imm, s_imm, b_imm, u_imm, j_imm}
use Rattle.rv_isa.specs.Encodings.{Pattern, by_opcode, by_funct3, by_funct7, by_word, encodings, r_fields, i_fields, s_fields, b_fields, u_fields, j_fields, decoded}
use Rattle.rv_isa.specs.Words.{word_of, FitsFormat}
use Rattle.rv_isa.specs.RoundTrip.{EncodedDecodes}
use Rattle.rv_isa.specs.declared.instruction.Instr.{Instr}
use Rattle.rv_isa.specs.declared.instruction.Instr.TheVariants.{Lui, Auipc, Jal, Jalr, Beq, Bne, Blt, Bge, Bltu, Bgeu, Lb, Lh, Lw, Lbu, Lhu, Sb, Sh, Sw, Addi, Slti, Sltiu, Xori, Ori, Andi, Slli, Srli, Srai, Add, Sub, Sll, Slt, Sltu, Xor, Srl, Sra, Or, And, Mul, Mulh, Mulhsu, Mulhu, Div, Divu, Rem, Remu, Fence, Ecall, Ebreak}

-- `matches` and `decoded`, of the fields that distinguish encodings as numbers of their own
abbrev matches_at : (opcode funct3 funct7 w : ℕ) → Pattern → Bool
matches_at opcode funct3 funct7 w (by_opcode o) = opcode == o
matches_at opcode funct3 funct7 w (by_funct3 o f) = opcode == o && funct3 == f
matches_at opcode funct3 funct7 w (by_funct7 o f g) = opcode == o && funct3 == f && funct7 == g
matches_at opcode funct3 funct7 w (by_word v) = w == v

abbrev first_match_at : (opcode funct3 funct7 w : ℕ) → List (Pattern × (ℕ → Instr)) → Option Instr
first_match_at opcode funct3 funct7 w [] = None
first_match_at opcode funct3 funct7 w (encoding ∷ others) =
    if matches_at opcode funct3 funct7 w encoding.0
    then Some (encoding.1 w)
    else first_match_at opcode funct3 funct7 w others

unfoldable decoded_at : (opcode funct3 funct7 w : ℕ) → Option Instr
decoded_at opcode funct3 funct7 w = first_match_at opcode funct3 funct7 w encodings

decoded-fields : (w : ℕ) → decoded w ≡ decoded_at (opcode_of w) (funct3_of w) (funct7_of w) w
unfolding decoded decoded_at
decoded-fields w = refl

r_decodes :
    (made : ℕ → ℕ → ℕ → Instr) (op f3 f7 : ℕ) → op < 128 → f3 < 8 → f7 < 128
    → ((w : ℕ) → decoded_at op f3 f7 w ≡ Some (r_fields made w))
    → (rd rs1 rs2 : ℕ) → IsInRange (r_type f7 rs2 rs1 f3 rd op)
    → decoded (packed (r_type f7 rs2 rs1 f3 rd op)) ≡ Some (made rd rs1 rs2)
r_decodes made op f3 f7 op_fits f3_fits f7_fits encoding rd rs1 rs2 fits =
    let w : ℕ = packed (r_type f7 rs2 rs1 f3 rd op) in
    let at_op : opcode_of w ≡ op = omega arith in
    let at_f3 : funct3_of w ≡ f3 = omega arith in
    let at_f7 : funct7_of w ≡ f7 = omega arith in
    let at_rd : rd_of w ≡ rd = omega arith in
    let at_rs1 : rs1_of w ≡ rs1 = omega arith in
    let at_rs2 : rs2_of w ≡ rs2 = omega arith in
    let matched : decoded_at op f3 f7 w ≡ Some (r_fields made w) = encoding w in
    cc (decoded-fields w)

i_decodes :
    (made : ℕ → ℕ → ℕ → Instr) (op f3 : ℕ) → op < 128 → f3 < 8
    → ((f7 w : ℕ) → decoded_at op f3 f7 w ≡ Some (i_fields made w))
    → (rd rs1 imm : ℕ) → IsInRange (i_type imm rs1 f3 rd op)
    → decoded (packed (i_type imm rs1 f3 rd op)) ≡ Some (made rd rs1 imm)
i_decodes made op f3 op_fits f3_fits encoding rd rs1 imm fits =
    let w : ℕ = packed (i_type imm rs1 f3 rd op) in
    let at_op : opcode_of w ≡ op = omega arith in
    let at_f3 : funct3_of w ≡ f3 = omega arith in
    let at_rd : rd_of w ≡ rd = omega arith in
    let at_rs1 : rs1_of w ≡ rs1 = omega arith in
    let at_imm : i_imm w ≡ imm = omega arith in
    let matched : decoded_at op f3 (funct7_of w) w ≡ Some (i_fields made w) = encoding (funct7_of w) w in
    cc (decoded-fields w)

s_decodes :
    (made : ℕ → ℕ → ℕ → Instr) (op f3 : ℕ) → op < 128 → f3 < 8
    → ((f7 w : ℕ) → decoded_at op f3 f7 w ≡ Some (s_fields made w))
    → (rs1 rs2 imm : ℕ) → IsInRange (s_type imm rs2 rs1 f3 op)
    → decoded (packed (s_type imm rs2 rs1 f3 op)) ≡ Some (made rs1 rs2 imm)
s_decodes made op f3 op_fits f3_fits encoding rs1 rs2 imm fits =
    let w : ℕ = packed (s_type imm rs2 rs1 f3 op) in
    let at_op : opcode_of w ≡ op = omega arith in
    let at_f3 : funct3_of w ≡ f3 = omega arith in
    let at_rs1 : rs1_of w ≡ rs1 = omega arith in
    let at_rs2 : rs2_of w ≡ rs2 = omega arith in
    let at_imm : s_imm w ≡ imm = omega arith in
    let matched : decoded_at op f3 (funct7_of w) w ≡ Some (s_fields made w) = encoding (funct7_of w) w in
    cc (decoded-fields w)

b_decodes :
    (made : ℕ → ℕ → ℕ → Instr) (op f3 : ℕ) → op < 128 → f3 < 8
    → ((f7 w : ℕ) → decoded_at op f3 f7 w ≡ Some (b_fields made w))
    → (rs1 rs2 offset : ℕ) → IsInRange (b_type offset rs2 rs1 f3 op)
    → decoded (packed (b_type offset rs2 rs1 f3 op)) ≡ Some (made rs1 rs2 offset)
b_decodes made op f3 op_fits f3_fits encoding rs1 rs2 offset fits =
    let w : ℕ = packed (b_type offset rs2 rs1 f3 op) in
    let at_op : opcode_of w ≡ op = omega arith in
    let at_f3 : funct3_of w ≡ f3 = omega arith in
    let at_rs1 : rs1_of w ≡ rs1 = omega arith in
    let at_rs2 : rs2_of w ≡ rs2 = omega arith in
    let at_imm : b_imm w ≡ offset = omega arith in
    let matched : decoded_at op f3 (funct7_of w) w ≡ Some (b_fields made w) = encoding (funct7_of w) w in
    cc (decoded-fields w)

u_decodes :
    (made : ℕ → ℕ → Instr) (op : ℕ) → op < 128
    → ((f3 f7 w : ℕ) → decoded_at op f3 f7 w ≡ Some (u_fields made w))
    → (rd imm : ℕ) → IsInRange (u_type imm rd op)
    → decoded (packed (u_type imm rd op)) ≡ Some (made rd imm)
u_decodes made op op_fits encoding rd imm fits =
    let w : ℕ = packed (u_type imm rd op) in
    let at_op : opcode_of w ≡ op = omega arith in
    let at_rd : rd_of w ≡ rd = omega arith in
    let at_imm : u_imm w ≡ imm = omega arith in
    let matched : decoded_at op (funct3_of w) (funct7_of w) w ≡ Some (u_fields made w) =
    encoding (funct3_of w) (funct7_of w) w in
    cc (decoded-fields w)

j_decodes :
    (made : ℕ → ℕ → Instr) (op : ℕ) → op < 128
    → ((f3 f7 w : ℕ) → decoded_at op f3 f7 w ≡ Some (j_fields made w))
    → (rd offset : ℕ) → IsInRange (j_type offset rd op)
    → decoded (packed (j_type offset rd op)) ≡ Some (made rd offset)
j_decodes made op op_fits encoding rd offset fits =
    let w : ℕ = packed (j_type offset rd op) in
    let at_op : opcode_of w ≡ op = omega arith in
    let at_rd : rd_of w ≡ rd = omega arith in
    let at_imm : j_imm w ≡ offset = omega arith in
    let matched : decoded_at op (funct3_of w) (funct7_of w) w ≡ Some (j_fields made w) =
    encoding (funct3_of w) (funct7_of w) w in
    cc (decoded-fields w)

pub encoded_decodes : EncodedDecodes
unfolding decoded_at decoded word_of FitsFormat
encoded_decodes (Lui rd imm) fits =
    u_decodes Lui 0x37 (lit< tt) (λ _ _ _. refl) rd imm fits
encoded_decodes (Auipc rd imm) fits =
    u_decodes Auipc 0x17 (lit< tt) (λ _ _ _. refl) rd imm fits
encoded_decodes (Jal rd offset) fits =
    j_decodes Jal 0x6f (lit< tt) (λ _ _ _. refl) rd offset fits
encoded_decodes (Jalr rd rs1 offset) fits =
    i_decodes Jalr 0x67 0 (lit< tt) (lit< tt) (λ _ _. refl) rd rs1 offset fits
encoded_decodes (Beq rs1 rs2 offset) fits =
    b_decodes Beq 0x63 0 (lit< tt) (lit< tt) (λ _ _. refl) rs1 rs2 offset fits
encoded_decodes (Bne rs1 rs2 offset) fits =
    b_decodes Bne 0x63 1 (lit< tt) (lit< tt) (λ _ _. refl) rs1 rs2 offset fits
encoded_decodes (Blt rs1 rs2 offset) fits =
    b_decodes Blt 0x63 4 (lit< tt) (lit< tt) (λ _ _. refl) rs1 rs2 offset fits
encoded_decodes (Bge rs1 rs2 offset) fits =
    b_decodes Bge 0x63 5 (lit< tt) (lit< tt) (λ _ _. refl) rs1 rs2 offset fits
encoded_decodes (Bltu rs1 rs2 offset) fits =
    b_decodes Bltu 0x63 6 (lit< tt) (lit< tt) (λ _ _. refl) rs1 rs2 offset fits
encoded_decodes (Bgeu rs1 rs2 offset) fits =
    b_decodes Bgeu 0x63 7 (lit< tt) (lit< tt) (λ _ _. refl) rs1 rs2 offset fits
encoded_decodes (Lb rd rs1 offset) fits =
    i_decodes Lb 0x03 0 (lit< tt) (lit< tt) (λ _ _. refl) rd rs1 offset fits
encoded_decodes (Lh rd rs1 offset) fits =
    i_decodes Lh 0x03 1 (lit< tt) (lit< tt) (λ _ _. refl) rd rs1 offset fits
encoded_decodes (Lw rd rs1 offset) fits =
    i_decodes Lw 0x03 2 (lit< tt) (lit< tt) (λ _ _. refl) rd rs1 offset fits
encoded_decodes (Lbu rd rs1 offset) fits =
    i_decodes Lbu 0x03 4 (lit< tt) (lit< tt) (λ _ _. refl) rd rs1 offset fits
encoded_decodes (Lhu rd rs1 offset) fits =
    i_decodes Lhu 0x03 5 (lit< tt) (lit< tt) (λ _ _. refl) rd rs1 offset fits
encoded_decodes (Sb rs1 rs2 offset) fits =
    s_decodes Sb 0x23 0 (lit< tt) (lit< tt) (λ _ _. refl) rs1 rs2 offset fits
encoded_decodes (Sh rs1 rs2 offset) fits =
    s_decodes Sh 0x23 1 (lit< tt) (lit< tt) (λ _ _. refl) rs1 rs2 offset fits
encoded_decodes (Sw rs1 rs2 offset) fits =
    s_decodes Sw 0x23 2 (lit< tt) (lit< tt) (λ _ _. refl) rs1 rs2 offset fits
encoded_decodes (Addi rd rs1 imm) fits =
    i_decodes Addi 0x13 0 (lit< tt) (lit< tt) (λ _ _. refl) rd rs1 imm fits
encoded_decodes (Slti rd rs1 imm) fits =
    i_decodes Slti 0x13 2 (lit< tt) (lit< tt) (λ _ _. refl) rd rs1 imm fits
encoded_decodes (Sltiu rd rs1 imm) fits =
    i_decodes Sltiu 0x13 3 (lit< tt) (lit< tt) (λ _ _. refl) rd rs1 imm fits
encoded_decodes (Xori rd rs1 imm) fits =
    i_decodes Xori 0x13 4 (lit< tt) (lit< tt) (λ _ _. refl) rd rs1 imm fits
encoded_decodes (Ori rd rs1 imm) fits =
    i_decodes Ori 0x13 6 (lit< tt) (lit< tt) (λ _ _. refl) rd rs1 imm fits
encoded_decodes (Andi rd rs1 imm) fits =
    i_decodes Andi 0x13 7 (lit< tt) (lit< tt) (λ _ _. refl) rd rs1 imm fits
encoded_decodes (Slli rd rs1 shamt) fits =
    r_decodes Slli 0x13 1 0x00 (lit< tt) (lit< tt) (lit< tt) (λ _. refl) rd rs1 shamt fits
encoded_decodes (Srli rd rs1 shamt) fits =
    r_decodes Srli 0x13 5 0x00 (lit< tt) (lit< tt) (lit< tt) (λ _. refl) rd rs1 shamt fits
encoded_decodes (Srai rd rs1 shamt) fits =
    r_decodes Srai 0x13 5 0x20 (lit< tt) (lit< tt) (lit< tt) (λ _. refl) rd rs1 shamt fits
encoded_decodes (Add rd rs1 rs2) fits =
    r_decodes Add 0x33 0 0x00 (lit< tt) (lit< tt) (lit< tt) (λ _. refl) rd rs1 rs2 fits
encoded_decodes (Sub rd rs1 rs2) fits =
    r_decodes Sub 0x33 0 0x20 (lit< tt) (lit< tt) (lit< tt) (λ _. refl) rd rs1 rs2 fits
encoded_decodes (Sll rd rs1 rs2) fits =
    r_decodes Sll 0x33 1 0x00 (lit< tt) (lit< tt) (lit< tt) (λ _. refl) rd rs1 rs2 fits
encoded_decodes (Slt rd rs1 rs2) fits =
    r_decodes Slt 0x33 2 0x00 (lit< tt) (lit< tt) (lit< tt) (λ _. refl) rd rs1 rs2 fits
encoded_decodes (Sltu rd rs1 rs2) fits =
    r_decodes Sltu 0x33 3 0x00 (lit< tt) (lit< tt) (lit< tt) (λ _. refl) rd rs1 rs2 fits
encoded_decodes (Xor rd rs1 rs2) fits =
    r_decodes Xor 0x33 4 0x00 (lit< tt) (lit< tt) (lit< tt) (λ _. refl) rd rs1 rs2 fits
encoded_decodes (Srl rd rs1 rs2) fits =
    r_decodes Srl 0x33 5 0x00 (lit< tt) (lit< tt) (lit< tt) (λ _. refl) rd rs1 rs2 fits
encoded_decodes (Sra rd rs1 rs2) fits =
    r_decodes Sra 0x33 5 0x20 (lit< tt) (lit< tt) (lit< tt) (λ _. refl) rd rs1 rs2 fits
encoded_decodes (Or rd rs1 rs2) fits =
    r_decodes Or 0x33 6 0x00 (lit< tt) (lit< tt) (lit< tt) (λ _. refl) rd rs1 rs2 fits
encoded_decodes (And rd rs1 rs2) fits =
    r_decodes And 0x33 7 0x00 (lit< tt) (lit< tt) (lit< tt) (λ _. refl) rd rs1 rs2 fits
encoded_decodes (Mul rd rs1 rs2) fits =
    r_decodes Mul 0x33 0 0x01 (lit< tt) (lit< tt) (lit< tt) (λ _. refl) rd rs1 rs2 fits
encoded_decodes (Mulh rd rs1 rs2) fits =
    r_decodes Mulh 0x33 1 0x01 (lit< tt) (lit< tt) (lit< tt) (λ _. refl) rd rs1 rs2 fits
encoded_decodes (Mulhsu rd rs1 rs2) fits =
    r_decodes Mulhsu 0x33 2 0x01 (lit< tt) (lit< tt) (lit< tt) (λ _. refl) rd rs1 rs2 fits
encoded_decodes (Mulhu rd rs1 rs2) fits =
    r_decodes Mulhu 0x33 3 0x01 (lit< tt) (lit< tt) (lit< tt) (λ _. refl) rd rs1 rs2 fits
encoded_decodes (Div rd rs1 rs2) fits =
    r_decodes Div 0x33 4 0x01 (lit< tt) (lit< tt) (lit< tt) (λ _. refl) rd rs1 rs2 fits
encoded_decodes (Divu rd rs1 rs2) fits =
    r_decodes Divu 0x33 5 0x01 (lit< tt) (lit< tt) (lit< tt) (λ _. refl) rd rs1 rs2 fits
encoded_decodes (Rem rd rs1 rs2) fits =
    r_decodes Rem 0x33 6 0x01 (lit< tt) (lit< tt) (lit< tt) (λ _. refl) rd rs1 rs2 fits
encoded_decodes (Remu rd rs1 rs2) fits =
    r_decodes Remu 0x33 7 0x01 (lit< tt) (lit< tt) (lit< tt) (λ _. refl) rd rs1 rs2 fits
encoded_decodes (Fence rd rs1 imm) fits =
    i_decodes Fence 0x0f 0 (lit< tt) (lit< tt) (λ _ _. refl) rd rs1 imm fits
encoded_decodes Ecall fits = refl
encoded_decodes Ebreak fits = refl
