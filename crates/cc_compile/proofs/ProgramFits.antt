-- The instructions of the program of a constant fit their formats: all but those that load the constant by evaluation.
use Rattle.std.proofs.Common.{◌≡◌, ℕ, ◌+◌, ◌-◌, ◌%◌, ◌^◌, ◌<◌, ◌==◌, ◌&&◌, nat_lt, Bool, true, List, [], ◌∷◌, ◌++◌, refl, lit<, arith}
use Rattle.std.specs.List.{list_all}
use Rattle.std.proofs.lemmas.Bool.{and_parts, ltb-true, eqb-true}
use Rattle.rv_isa.specs.Formats.{Encoding, r_type, i_type, s_type, b_type, u_type, j_type, fixed_word, IsSigned, IsInRange}
use Rattle.rv_isa.specs.Words.{FitsFormat, encoding_of}
use Rattle.rv_isa.specs.declared.instruction.Instr.{Instr}
use Rattle.rv_isa.specs.declared.instruction.Instr.TheVariants.{Lui, Addi}
use Rattle.rv_machine.specs.Standing.{AllFit}
use Rattle.rv_machine.proofs.lemmas.Standing.{fits-append}
use Rattle.rv_layout.specs.Sequences.{start_code, put_stub, get_stub}
use Rattle.s_select.specs.Templates.{take_frame}
use Rattle.cc_compile.proofs.ConstantRun.{last_code, program}

-- ---- a test that decides it

is_signed : (size w : ℕ) → Bool
is_signed size w = nat_lt w (2 ^ 32) && nat_lt ((w + 2 ^ (size - 1)) % 2 ^ 32) (2 ^ size)

in_range : Encoding → Bool
in_range (r_type _ rs2 rs1 _ rd _) = nat_lt rs2 32 && nat_lt rs1 32 && nat_lt rd 32
in_range (i_type imm rs1 _ rd _) = is_signed 12 imm && nat_lt rs1 32 && nat_lt rd 32
in_range (s_type imm rs2 rs1 _ _) = is_signed 12 imm && nat_lt rs2 32 && nat_lt rs1 32
in_range (b_type imm rs2 rs1 _ _) = is_signed 13 imm && imm % 2 == 0 && nat_lt rs2 32 && nat_lt rs1 32
in_range (u_type imm rd _) = nat_lt imm (2 ^ 20) && nat_lt rd 32
in_range (j_type imm rd _) = is_signed 21 imm && imm % 2 == 0 && nat_lt rd 32
in_range (fixed_word _) = true

is_signed-true : (size w : ℕ) → is_signed size w ≡ true → IsSigned size w
unfolding is_signed
is_signed-true size w e = let both = and_parts _ _ e in (ltb-true _ _ both.0, ltb-true _ _ both.1)

in_range-true : (e : Encoding) → in_range e ≡ true → IsInRange e
unfolding in_range
in_range-true (r_type funct7 rs2 rs1 funct3 rd opcode) h =
    let last = and_parts _ _ h in
    let first = and_parts _ _ last.0 in
    (ltb-true _ _ first.0, ltb-true _ _ first.1, ltb-true _ _ last.1)
in_range-true (i_type imm rs1 funct3 rd opcode) h =
    let last = and_parts _ _ h in
    let first = and_parts _ _ last.0 in
    (is_signed-true 12 imm first.0, ltb-true _ _ first.1, ltb-true _ _ last.1)
in_range-true (s_type imm rs2 rs1 funct3 opcode) h =
    let last = and_parts _ _ h in
    let first = and_parts _ _ last.0 in
    (is_signed-true 12 imm first.0, ltb-true _ _ first.1, ltb-true _ _ last.1)
in_range-true (b_type imm rs2 rs1 funct3 opcode) h =
    let last = and_parts _ _ h in
    let third = and_parts _ _ last.0 in
    let first = and_parts _ _ third.0 in
    (is_signed-true 13 imm first.0, eqb-true _ _ first.1, ltb-true _ _ third.1, ltb-true _ _ last.1)
in_range-true (u_type imm rd opcode) h = let both = and_parts _ _ h in (ltb-true _ _ both.0, ltb-true _ _ both.1)
in_range-true (j_type imm rd opcode) h =
    let last = and_parts _ _ h in
    let first = and_parts _ _ last.0 in
    (is_signed-true 21 imm first.0, eqb-true _ _ first.1, ltb-true _ _ last.1)
in_range-true (fixed_word w) h = tt

all_fit : (code : List Instr) → list_all (λ i. in_range (encoding_of i)) code ≡ true → AllFit code
unfolding FitsFormat
all_fit [] e = tt
all_fit (i ∷ code) e = let both = and_parts _ _ e in (in_range-true (encoding_of i) both.0, all_fit code both.1)

-- ---- the program

-- the instructions before those that load the constant
abbrev front : List Instr
front = start_code 73728 65652 ++ put_stub 69632 ++ get_stub 69632 ++ take_frame 16 1

front_fits : AllFit front
unfolding in_range is_signed
front_fits = all_fit front refl

last_fits : AllFit last_code
unfolding in_range is_signed
last_fits = all_fit last_code refl

by_load : (load : List Instr) → AllFit load → AllFit (program load)
by_load load fits = fits-append (front ++ load) last_code (fits-append front load front_fits fits) last_fits

pub small_fits : (n : ℕ) → n < 2048 → AllFit (program (Addi 9 0 n ∷ []))
unfolding FitsFormat
small_fits n small = by_load (Addi 9 0 n ∷ []) (((omega arith, omega arith), lit< tt, lit< tt), tt)

pub large_fits : (u l : ℕ) → u < 2 ^ 20 → IsSigned 12 l → AllFit (program (Lui 9 u ∷ Addi 9 9 l ∷ []))
unfolding FitsFormat
large_fits u l upper low = by_load (Lui 9 u ∷ Addi 9 9 l ∷ []) ((upper, lit< tt), ((low, lit< tt, lit< tt), tt))
