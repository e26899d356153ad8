-- Encoding the instruction of a word gives the word.
use Rattle.std.proofs.Common.{◌≡◌, ℕ, ◌^◌, ◌<◌, true, ◌==◌, ◌&&◌, Some, List, [], ◌∷◌, refl, arith, inl, inr}
use Rattle.std.proofs.lemmas.Bool.{and_parts, eqb-true, cases_Bool}
use Rattle.rv_isa.specs.Formats.{Encoding, r_type, i_type, s_type, b_type, u_type, j_type, fixed_word, packed, IsInRange, opcode_of, rd_of, funct3_of, rs1_of, rs2_of, funct7_of, i_imm, s_imm, b_imm, u_imm, j_imm}
use Rattle.rv_isa.specs.Words.{encoding_of, word_of, FitsFormat}
use Rattle.rv_isa.specs.Encodings.{Pattern, by_opcode, by_funct3, by_funct7, by_word, matches, encodings, first_match, r_fields, i_fields, s_fields, b_fields, u_fields, j_fields, decoded}
use Rattle.rv_isa.specs.RoundTrip.{DecodedEncodes}
use Rattle.rv_isa.specs.declared.instruction.Instr.{Instr}
use Rattle.rv_isa.specs.declared.instruction.Instr.TheVariants.{Lui, Auipc, Jal, Jalr, Beq, Bne, Blt, Bge, Bltu, Bgeu, Lb, Lh, Lw, Lbu, Lhu, Sb, Sh, Sw, Addi, Slti, Sltiu, Xori, Ori, Andi, Slli, Srli, Srai, Add, Sub, Sll, Slt, Sltu, Xor, Srl, Sra, Or, And, Mul, Mulh, Mulhsu, Mulhu, Div, Divu, Rem, Remu, Fence, Ecall, Ebreak}

-- the instruction has this word and fits its format
abbrev Encodes : Instr → ℕ → Type 0
Encodes i w = (word_of i ≡ w) × FitsFormat i

-- an encoding gives an instruction of this word, wherever the word matches it
abbrev IsSound : Pattern × (ℕ → Instr) → Type 0
IsSound encoding = (w : ℕ) → w < 2 ^ 32 → matches encoding.0 w ≡ true → Encodes (encoding.1 w) w

abbrev AllSound : List (Pattern × (ℕ → Instr)) → Type 0
AllSound [] = Unit {0}
AllSound (encoding ∷ others) = IsSound encoding × AllSound others

-- an encoding that packs to the word and is in range is one of its instruction
from_encoding :
    (i : Instr) (e : Encoding) (w : ℕ) → encoding_of i ≡ e → packed e ≡ w → IsInRange e → Encodes i w
unfolding word_of FitsFormat
from_encoding i e w is packs fits = rw is (packs, fits)

r_sound :
    (made : ℕ → ℕ → ℕ → Instr) (op f3 f7 : ℕ)
    → ((rd rs1 rs2 : ℕ) → encoding_of (made rd rs1 rs2) ≡ r_type f7 rs2 rs1 f3 rd op)
    → IsSound (by_funct7 op f3 f7, r_fields made)
r_sound made op f3 f7 encoding w fits matched =
    let outer = and_parts (opcode_of w == op && funct3_of w == f3) (funct7_of w == f7) matched in
    let inner = and_parts (opcode_of w == op) (funct3_of w == f3) outer.0 in
    let at_op : opcode_of w ≡ op = eqb-true _ _ inner.0 in
    let at_f3 : funct3_of w ≡ f3 = eqb-true _ _ inner.1 in
    let at_f7 : funct7_of w ≡ f7 = eqb-true _ _ outer.1 in
    from_encoding _ _ w (encoding (rd_of w) (rs1_of w) (rs2_of w)) (omega arith)
    (omega arith, omega arith, omega arith)

i_sound :
    (made : ℕ → ℕ → ℕ → Instr) (op f3 : ℕ)
    → ((rd rs1 imm : ℕ) → encoding_of (made rd rs1 imm) ≡ i_type imm rs1 f3 rd op)
    → IsSound (by_funct3 op f3, i_fields made)
i_sound made op f3 encoding w fits matched =
    let parts = and_parts (opcode_of w == op) (funct3_of w == f3) matched in
    let at_op : opcode_of w ≡ op = eqb-true _ _ parts.0 in
    let at_f3 : funct3_of w ≡ f3 = eqb-true _ _ parts.1 in
    from_encoding _ _ w (encoding (rd_of w) (rs1_of w) (i_imm w)) (omega arith)
    ((omega arith, omega arith), omega arith, omega arith)

s_sound :
    (made : ℕ → ℕ → ℕ → Instr) (op f3 : ℕ)
    → ((rs1 rs2 imm : ℕ) → encoding_of (made rs1 rs2 imm) ≡ s_type imm rs2 rs1 f3 op)
    → IsSound (by_funct3 op f3, s_fields made)
s_sound made op f3 encoding w fits matched =
    let parts = and_parts (opcode_of w == op) (funct3_of w == f3) matched in
    let at_op : opcode_of w ≡ op = eqb-true _ _ parts.0 in
    let at_f3 : funct3_of w ≡ f3 = eqb-true _ _ parts.1 in
    from_encoding _ _ w (encoding (rs1_of w) (rs2_of w) (s_imm w)) (omega arith)
    ((omega arith, omega arith), omega arith, omega arith)

b_sound :
    (made : ℕ → ℕ → ℕ → Instr) (op f3 : ℕ)
    → ((rs1 rs2 offset : ℕ) → encoding_of (made rs1 rs2 offset) ≡ b_type offset rs2 rs1 f3 op)
    → IsSound (by_funct3 op f3, b_fields made)
b_sound made op f3 encoding w fits matched =
    let parts = and_parts (opcode_of w == op) (funct3_of w == f3) matched in
    let at_op : opcode_of w ≡ op = eqb-true _ _ parts.0 in
    let at_f3 : funct3_of w ≡ f3 = eqb-true _ _ parts.1 in
    from_encoding _ _ w (encoding (rs1_of w) (rs2_of w) (b_imm w)) (omega arith)
    ((omega arith, omega arith), omega arith, omega arith, omega arith)

u_sound :
    (made : ℕ → ℕ → Instr) (op : ℕ)
    → ((rd imm : ℕ) → encoding_of (made rd imm) ≡ u_type imm rd op)
    → IsSound (by_opcode op, u_fields made)
u_sound made op encoding w fits matched =
    let at_op : opcode_of w ≡ op = eqb-true _ _ matched in
    from_encoding _ _ w (encoding (rd_of w) (u_imm w)) (omega arith) (omega arith, omega arith)

j_sound :
    (made : ℕ → ℕ → Instr) (op : ℕ)
    → ((rd offset : ℕ) → encoding_of (made rd offset) ≡ j_type offset rd op)
    → IsSound (by_opcode op, j_fields made)
j_sound made op encoding w fits matched =
    let at_op : opcode_of w ≡ op = eqb-true _ _ matched in
    from_encoding _ _ w (encoding (rd_of w) (j_imm w)) (omega arith)
    ((omega arith, omega arith), omega arith, omega arith)

word_sound :
    (i : Instr) (v : ℕ) → encoding_of i ≡ fixed_word v → IsSound (by_word v, (λ _. i))
word_sound i v encoding w fits matched =
    let same : w ≡ v = eqb-true _ _ matched in
    from_encoding i (fixed_word v) w encoding (cc) tt

infixr 30 ◌&◌
abbrev ◌&◌ : {A B : Type 0} → A → B → A × B
◌&◌ a b = (a, b)

encodings_sound : AllSound encodings
encodings_sound =
    u_sound Lui 0x37 (λ _ _. refl)
    & u_sound Auipc 0x17 (λ _ _. refl)
    & j_sound Jal 0x6f (λ _ _. refl)
    & i_sound Jalr 0x67 0 (λ _ _ _. refl)
    & b_sound Beq 0x63 0 (λ _ _ _. refl)
    & b_sound Bne 0x63 1 (λ _ _ _. refl)
    & b_sound Blt 0x63 4 (λ _ _ _. refl)
    & b_sound Bge 0x63 5 (λ _ _ _. refl)
    & b_sound Bltu 0x63 6 (λ _ _ _. refl)
    & b_sound Bgeu 0x63 7 (λ _ _ _. refl)
    & i_sound Lb 0x03 0 (λ _ _ _. refl)
    & i_sound Lh 0x03 1 (λ _ _ _. refl)
    & i_sound Lw 0x03 2 (λ _ _ _. refl)
    & i_sound Lbu 0x03 4 (λ _ _ _. refl)
    & i_sound Lhu 0x03 5 (λ _ _ _. refl)
    & s_sound Sb 0x23 0 (λ _ _ _. refl)
    & s_sound Sh 0x23 1 (λ _ _ _. refl)
    & s_sound Sw 0x23 2 (λ _ _ _. refl)
    & i_sound Addi 0x13 0 (λ _ _ _. refl)
    & i_sound Slti 0x13 2 (λ _ _ _. refl)
    & i_sound Sltiu 0x13 3 (λ _ _ _. refl)
    & i_sound Xori 0x13 4 (λ _ _ _. refl)
    & i_sound Ori 0x13 6 (λ _ _ _. refl)
    & i_sound Andi 0x13 7 (λ _ _ _. refl)
    & r_sound Slli 0x13 1 0x00 (λ _ _ _. refl)
    & r_sound Srli 0x13 5 0x00 (λ _ _ _. refl)
    & r_sound Srai 0x13 5 0x20 (λ _ _ _. refl)
    & r_sound Add 0x33 0 0x00 (λ _ _ _. refl)
    & r_sound Sub 0x33 0 0x20 (λ _ _ _. refl)
    & r_sound Sll 0x33 1 0x00 (λ _ _ _. refl)
    & r_sound Slt 0x33 2 0x00 (λ _ _ _. refl)
    & r_sound Sltu 0x33 3 0x00 (λ _ _ _. refl)
    & r_sound Xor 0x33 4 0x00 (λ _ _ _. refl)
    & r_sound Srl 0x33 5 0x00 (λ _ _ _. refl)
    & r_sound Sra 0x33 5 0x20 (λ _ _ _. refl)
    & r_sound Or 0x33 6 0x00 (λ _ _ _. refl)
    & r_sound And 0x33 7 0x00 (λ _ _ _. refl)
    & r_sound Mul 0x33 0 0x01 (λ _ _ _. refl)
    & r_sound Mulh 0x33 1 0x01 (λ _ _ _. refl)
    & r_sound Mulhsu 0x33 2 0x01 (λ _ _ _. refl)
    & r_sound Mulhu 0x33 3 0x01 (λ _ _ _. refl)
    & r_sound Div 0x33 4 0x01 (λ _ _ _. refl)
    & r_sound Divu 0x33 5 0x01 (λ _ _ _. refl)
    & r_sound Rem 0x33 6 0x01 (λ _ _ _. refl)
    & r_sound Remu 0x33 7 0x01 (λ _ _ _. refl)
    & i_sound Fence 0x0f 0 (λ _ _ _. refl)
    & word_sound Ecall 0x00000073 refl
    & word_sound Ebreak 0x00100073 refl
    & tt

first_match_sound :
    (listed : List (Pattern × (ℕ → Instr))) → AllSound listed → (w : ℕ) (i : Instr) → w < 2 ^ 32
    → first_match listed w ≡ Some i → Encodes i w
first_match_sound [] sound w i fits e = cc
first_match_sound (encoding ∷ others) sound w i fits e =
    elim (cases_Bool (matches encoding.0 w)) [
      | inl matched ↦
          let here : Encodes (encoding.1 w) w = sound.0 w fits matched in
          let same : Some (encoding.1 w) ≡ Some i = rw matched at e in
          let is : encoding.1 w ≡ i = cc in
          rw (← is) here
      | inr unmatched ↦ first_match_sound others sound.1 w i fits (rw unmatched at e)
    ]

pub decoded_encodes : DecodedEncodes
unfolding decoded
decoded_encodes w i fits e = first_match_sound encodings encodings_sound w i fits e
