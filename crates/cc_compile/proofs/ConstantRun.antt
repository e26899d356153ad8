-- The run of the image of a constant, step by step: where the machine is after each instruction.
use Rattle.std.proofs.Common.{◌≡◌, ℕ, suc, ◌+◌, ◌*◌, ◌%◌, ◌^◌, true, nat_lt, List, [], ◌∷◌, ◌++◌, slice_index_or, refl}
use Rattle.rv_isa.specs.declared.instruction.Instr.{Instr}
use Rattle.rv_isa.specs.declared.instruction.Instr.TheVariants.{Lui, Auipc, Jalr, Bgeu, Lw, Sw, Addi, Add, Sub, Ecall, Ebreak}
use Rattle.rv_machine.specs.Laws.{Reaches}
use Rattle.rv_machine.specs.Machine.{State, next, stop, exit, act, call, give, jump, after, set_register}
use Rattle.rv_machine.specs.Memory.{Bytes, allowed, load_bytes, store_bytes, put_at, to_read, to_write}
use Rattle.rv_machine.specs.Run.{run, running, standing, ended}
use Rattle.rv_machine.specs.Standing.{Text, StandsAt}
use Rattle.rv_machine.proofs.lemmas.RunLaws.{run-zero}
use Rattle.rv_machine.proofs.lemmas.Standing.{standing_reaches, standing_ends}
use Rattle.rv_layout.specs.Sequences.{start_code, put_stub, get_stub}
use Rattle.s_select.specs.Templates.{take_frame, give_frame}

-- the end of `main`, whose value is in s1
abbrev pub last_code : List Instr
last_code = Addi 10 9 0 ∷ give_frame 16 1

-- The text of a program whose `main` loads its constant by these instructions.
abbrev pub program : List Instr → List Instr
program li = start_code 73728 65652 ++ put_stub 69632 ++ get_stub 69632 ++ take_frame 16 1 ++ li ++ last_code

-- each of the first instructions of a text is at its address
abbrev pub TextStands : Text → (count : ℕ) → List Instr → Type 0
TextStands text count code = (k : ℕ) → nat_lt k count ≡ true → StandsAt text (65536 + 4 * k) (slice_index_or code k Ebreak)

-- the two words of the stack that `main` uses may be read and written
pub record StackAllows (flags : ℕ → ℕ) : Type 0 where
  pub w1 : allowed flags to_write 8462332 4 ≡ true
  pub w2 : allowed flags to_write 8462328 4 ≡ true
  pub r1 : allowed flags to_read 8462332 4 ≡ true
  pub r2 : allowed flags to_read 8462328 4 ≡ true

abbrev pub at : State → ℕ → State
at s pc = record { pc = pc; regs = s.regs; mem = s.mem }

abbrev pub jumped : State → (rd pc : ℕ) → State
jumped s rd pc = record { pc = pc; regs = set_register s.regs rd (after s.pc); mem = s.mem }

abbrev pub stored : State → (address n : ℕ) → State
stored s address n = record { pc = after s.pc; regs = s.regs; mem = store_bytes s.mem address n 4 }

abbrev pub s0 : Bytes → State
s0 m = record { pc = 65536; regs = λ _. 0; mem = m }

abbrev pub s1 : Bytes → State
s1 m = give (s0 m) 8 73728

abbrev pub s2 : Bytes → State
s2 m = give (s1 m) 8 73728

abbrev pub s3 : Bytes → State
s3 m = give (s2 m) 5 8388608

abbrev pub s4 : Bytes → State
s4 m = give (s3 m) 2 8462336

abbrev pub s5 : Bytes → State
s5 m = give (s4 m) 1 65552

abbrev pub s6 : Bytes → State
s6 m = jumped (s5 m) 1 65652

abbrev pub s7 : Bytes → State
s7 m = give (s6 m) 5 16

abbrev pub s8 : Bytes → State
s8 m = give (s7 m) 6 8388608

abbrev pub s9 : Bytes → State
s9 m = at (s8 m) 65668

abbrev pub s10 : Bytes → State
s10 m = give (s9 m) 2 8462320

abbrev pub s11 : Bytes → State
s11 m = give (s10 m) 6 8462336

abbrev pub s12 : Bytes → State
s12 m = stored (s11 m) 8462332 65560

abbrev pub s13 : Bytes → State
s13 m = stored (s12 m) 8462328 0

does-s1 : (text : Text) → StackAllows text.flags → act text.flags (Lui 8 18) (s0 text.bytes) ≡ next (s1 text.bytes)
unfolding act give jump load_bytes store_bytes
does-s1 text allows = refl

does-s2 : (text : Text) → StackAllows text.flags → act text.flags (Addi 8 8 0) (s1 text.bytes) ≡ next (s2 text.bytes)
unfolding act give jump load_bytes store_bytes
does-s2 text allows = refl

does-s3 : (text : Text) → StackAllows text.flags → act text.flags (Lui 5 2048) (s2 text.bytes) ≡ next (s3 text.bytes)
unfolding act give jump load_bytes store_bytes
does-s3 text allows = refl

does-s4 : (text : Text) → StackAllows text.flags → act text.flags (Add 2 8 5) (s3 text.bytes) ≡ next (s4 text.bytes)
unfolding act give jump load_bytes store_bytes
does-s4 text allows = refl

does-s5 : (text : Text) → StackAllows text.flags → act text.flags (Auipc 1 0) (s4 text.bytes) ≡ next (s5 text.bytes)
unfolding act give jump load_bytes store_bytes
does-s5 text allows = refl

does-s6 : (text : Text) → StackAllows text.flags → act text.flags (Jalr 1 1 100) (s5 text.bytes) ≡ next (s6 text.bytes)
unfolding act give jump load_bytes store_bytes
does-s6 text allows = refl

does-s7 : (text : Text) → StackAllows text.flags → act text.flags (Addi 5 0 16) (s6 text.bytes) ≡ next (s7 text.bytes)
unfolding act give jump load_bytes store_bytes
does-s7 text allows = refl

does-s8 : (text : Text) → StackAllows text.flags → act text.flags (Sub 6 2 8) (s7 text.bytes) ≡ next (s8 text.bytes)
unfolding act give jump load_bytes store_bytes
does-s8 text allows = refl

does-s9 : (text : Text) → StackAllows text.flags → act text.flags (Bgeu 6 5 8) (s8 text.bytes) ≡ next (s9 text.bytes)
unfolding act give jump load_bytes store_bytes
does-s9 text allows = refl

does-s10 : (text : Text) → StackAllows text.flags → act text.flags (Sub 2 2 5) (s9 text.bytes) ≡ next (s10 text.bytes)
unfolding act give jump load_bytes store_bytes
does-s10 text allows = refl

does-s11 : (text : Text) → StackAllows text.flags → act text.flags (Add 6 2 5) (s10 text.bytes) ≡ next (s11 text.bytes)
unfolding act give jump load_bytes store_bytes
does-s11 text allows = refl

does-s12 : (text : Text) → StackAllows text.flags → act text.flags (Sw 6 1 4294967292) (s11 text.bytes) ≡ next (s12 text.bytes)
unfolding act give jump load_bytes store_bytes
does-s12 text allows = rw allows.w1 refl

does-s13 : (text : Text) → StackAllows text.flags → act text.flags (Sw 6 9 4294967288) (s12 text.bytes) ≡ next (s13 text.bytes)
unfolding act give jump load_bytes store_bytes
does-s13 text allows = rw allows.w2 refl

pub front-reaches : (text : Text) (li : List Instr) (input : List ℕ) → TextStands text 37 (program li) → StackAllows text.flags
    → Reaches text.flags 13 (s0 text.bytes) input [] (s13 text.bytes) input
unfolding give
front-reaches text li input code allows =
    let m = text.bytes in
    let l0 : Reaches text.flags 0 (s0 m) input [] (s0 m) input = record { to = run-zero text.flags (running (s0 m)) input } in
    let l1 : Reaches text.flags 1 (s0 m) input [] (s1 m) input =
    standing_reaches text 0 (s0 m) (s0 m) (s1 m) (Lui 8 18) input [] input (λ a fixed. refl) l0 (code 0 refl) (does-s1 text allows) in
    let l2 : Reaches text.flags 2 (s0 m) input [] (s2 m) input =
    standing_reaches text 1 (s0 m) (s1 m) (s2 m) (Addi 8 8 0) input [] input (λ a fixed. refl) l1 (code 1 refl) (does-s2 text allows) in
    let l3 : Reaches text.flags 3 (s0 m) input [] (s3 m) input =
    standing_reaches text 2 (s0 m) (s2 m) (s3 m) (Lui 5 2048) input [] input (λ a fixed. refl) l2 (code 2 refl) (does-s3 text allows) in
    let l4 : Reaches text.flags 4 (s0 m) input [] (s4 m) input =
    standing_reaches text 3 (s0 m) (s3 m) (s4 m) (Add 2 8 5) input [] input (λ a fixed. refl) l3 (code 3 refl) (does-s4 text allows) in
    let l5 : Reaches text.flags 5 (s0 m) input [] (s5 m) input =
    standing_reaches text 4 (s0 m) (s4 m) (s5 m) (Auipc 1 0) input [] input (λ a fixed. refl) l4 (code 4 refl) (does-s5 text allows) in
    let l6 : Reaches text.flags 6 (s0 m) input [] (s6 m) input =
    standing_reaches text 5 (s0 m) (s5 m) (s6 m) (Jalr 1 1 100) input [] input (λ a fixed. refl) l5 (code 5 refl) (does-s6 text allows) in
    let l7 : Reaches text.flags 7 (s0 m) input [] (s7 m) input =
    standing_reaches text 6 (s0 m) (s6 m) (s7 m) (Addi 5 0 16) input [] input (λ a fixed. refl) l6 (code 29 refl) (does-s7 text allows) in
    let l8 : Reaches text.flags 8 (s0 m) input [] (s8 m) input =
    standing_reaches text 7 (s0 m) (s7 m) (s8 m) (Sub 6 2 8) input [] input (λ a fixed. refl) l7 (code 30 refl) (does-s8 text allows) in
    let l9 : Reaches text.flags 9 (s0 m) input [] (s9 m) input =
    standing_reaches text 8 (s0 m) (s8 m) (s9 m) (Bgeu 6 5 8) input [] input (λ a fixed. refl) l8 (code 31 refl) (does-s9 text allows) in
    let l10 : Reaches text.flags 10 (s0 m) input [] (s10 m) input =
    standing_reaches text 9 (s0 m) (s9 m) (s10 m) (Sub 2 2 5) input [] input (λ a fixed. refl) l9 (code 33 refl) (does-s10 text allows) in
    let l11 : Reaches text.flags 11 (s0 m) input [] (s11 m) input =
    standing_reaches text 10 (s0 m) (s10 m) (s11 m) (Add 6 2 5) input [] input (λ a fixed. refl) l10 (code 34 refl) (does-s11 text allows) in
    let l12 : Reaches text.flags 12 (s0 m) input [] (s12 m) input =
    standing_reaches text 11 (s0 m) (s11 m) (s12 m) (Sw 6 1 4294967292) input [] input (λ a fixed. refl) l11 (code 35 refl) (does-s12 text allows) in
    let l13 : Reaches text.flags 13 (s0 m) input [] (s13 m) input =
    standing_reaches text 12 (s0 m) (s12 m) (s13 m) (Sw 6 9 4294967288) input [] input (λ a fixed. refl) l12 (code 36 refl) (does-s13 text allows) in
    l13

-- the constant is in its register
abbrev pub held : Bytes → (pc v : ℕ) → State
held m pc v = record { pc = pc; regs = put_at (s13 m).regs 9 v; mem = (s13 m).mem }

abbrev pub a0 : Bytes → ℕ → State
a0 m v = held m 65688 v

abbrev pub a1 : Bytes → ℕ → State
a1 m v = give (a0 m v) 10 ((v + 0) % 2 ^ 32)

abbrev pub a2 : Bytes → ℕ → State
a2 m v = give (a1 m v) 5 16

abbrev pub a3 : Bytes → ℕ → State
a3 m v = give (a2 m v) 6 8462336

abbrev pub a4 : Bytes → ℕ → State
a4 m v = give (a3 m v) 9 0

abbrev pub a5 : Bytes → ℕ → State
a5 m v = give (a4 m v) 1 65560

abbrev pub a6 : Bytes → ℕ → State
a6 m v = give (a5 m v) 2 8462336

abbrev pub a7 : Bytes → ℕ → State
a7 m v = at (a6 m v) 65560

abbrev pub a8 : Bytes → ℕ → State
a8 m v = give (a7 m v) 17 93

does-a1 : (text : Text) (v : ℕ) → StackAllows text.flags → act text.flags (Addi 10 9 0) (a0 text.bytes v) ≡ next (a1 text.bytes v)
unfolding act give jump load_bytes store_bytes
does-a1 text v allows = refl

does-a2 : (text : Text) (v : ℕ) → StackAllows text.flags → act text.flags (Addi 5 0 16) (a1 text.bytes v) ≡ next (a2 text.bytes v)
unfolding act give jump load_bytes store_bytes
does-a2 text v allows = refl

does-a3 : (text : Text) (v : ℕ) → StackAllows text.flags → act text.flags (Add 6 2 5) (a2 text.bytes v) ≡ next (a3 text.bytes v)
unfolding act give jump load_bytes store_bytes
does-a3 text v allows = refl

does-a4 : (text : Text) (v : ℕ) → StackAllows text.flags → act text.flags (Lw 9 6 4294967288) (a3 text.bytes v) ≡ next (a4 text.bytes v)
unfolding act give jump load_bytes store_bytes
does-a4 text v allows = rw allows.r2 refl

does-a5 : (text : Text) (v : ℕ) → StackAllows text.flags → act text.flags (Lw 1 6 4294967292) (a4 text.bytes v) ≡ next (a5 text.bytes v)
unfolding act give jump load_bytes store_bytes
does-a5 text v allows = rw allows.r1 refl

does-a6 : (text : Text) (v : ℕ) → StackAllows text.flags → act text.flags (Addi 2 6 0) (a5 text.bytes v) ≡ next (a6 text.bytes v)
unfolding act give jump load_bytes store_bytes
does-a6 text v allows = refl

does-a7 : (text : Text) (v : ℕ) → StackAllows text.flags → act text.flags (Jalr 0 1 0) (a6 text.bytes v) ≡ next (a7 text.bytes v)
unfolding act give jump load_bytes store_bytes
does-a7 text v allows = refl

does-a8 : (text : Text) (v : ℕ) → StackAllows text.flags → act text.flags (Addi 17 0 93) (a7 text.bytes v) ≡ next (a8 text.bytes v)
unfolding act give jump load_bytes store_bytes
does-a8 text v allows = refl

stops-a : (text : Text) (v : ℕ) → act text.flags Ecall (a8 text.bytes v) ≡ stop (exit ((v + 0) % 2 ^ 32 % 256))
unfolding act call give jump load_bytes store_bytes
stops-a text v = refl

pub a-ends : (text : Text) (v : ℕ) (n : ℕ) (input : List ℕ) → TextStands text 45 (program (Addi 9 0 n ∷ [])) → StackAllows text.flags
    → Reaches text.flags 14 (s0 text.bytes) input [] (a0 text.bytes v) input
    → (n' : ℕ) → run text.flags (22 + suc n') (running (s0 text.bytes)) input ≡ standing (ended (exit ((v + 0) % 2 ^ 32 % 256))) input
unfolding give
a-ends text v n input code allows l0 n' =
    let m = text.bytes in
    let l1 : Reaches text.flags 15 (s0 m) input [] (a1 m v) input =
    standing_reaches text 14 (s0 m) (a0 m v) (a1 m v) (Addi 10 9 0) input [] input (λ a fixed. refl) l0 (code 38 refl) (does-a1 text v allows) in
    let l2 : Reaches text.flags 16 (s0 m) input [] (a2 m v) input =
    standing_reaches text 15 (s0 m) (a1 m v) (a2 m v) (Addi 5 0 16) input [] input (λ a fixed. refl) l1 (code 39 refl) (does-a2 text v allows) in
    let l3 : Reaches text.flags 17 (s0 m) input [] (a3 m v) input =
    standing_reaches text 16 (s0 m) (a2 m v) (a3 m v) (Add 6 2 5) input [] input (λ a fixed. refl) l2 (code 40 refl) (does-a3 text v allows) in
    let l4 : Reaches text.flags 18 (s0 m) input [] (a4 m v) input =
    standing_reaches text 17 (s0 m) (a3 m v) (a4 m v) (Lw 9 6 4294967288) input [] input (λ a fixed. refl) l3 (code 41 refl) (does-a4 text v allows) in
    let l5 : Reaches text.flags 19 (s0 m) input [] (a5 m v) input =
    standing_reaches text 18 (s0 m) (a4 m v) (a5 m v) (Lw 1 6 4294967292) input [] input (λ a fixed. refl) l4 (code 42 refl) (does-a5 text v allows) in
    let l6 : Reaches text.flags 20 (s0 m) input [] (a6 m v) input =
    standing_reaches text 19 (s0 m) (a5 m v) (a6 m v) (Addi 2 6 0) input [] input (λ a fixed. refl) l5 (code 43 refl) (does-a6 text v allows) in
    let l7 : Reaches text.flags 21 (s0 m) input [] (a7 m v) input =
    standing_reaches text 20 (s0 m) (a6 m v) (a7 m v) (Jalr 0 1 0) input [] input (λ a fixed. refl) l6 (code 44 refl) (does-a7 text v allows) in
    let l8 : Reaches text.flags 22 (s0 m) input [] (a8 m v) input =
    standing_reaches text 21 (s0 m) (a7 m v) (a8 m v) (Addi 17 0 93) input [] input (λ a fixed. refl) l7 (code 6 refl) (does-a8 text v allows) in
    standing_ends text 22 n' (s0 m) (a8 m v) Ecall (exit ((v + 0) % 2 ^ 32 % 256)) input [] input (λ a fixed. refl) l8 (code 7 refl) (stops-a text v)

abbrev pub b0 : Bytes → ℕ → State
b0 m v = held m 65692 v

abbrev pub b1 : Bytes → ℕ → State
b1 m v = give (b0 m v) 10 ((v + 0) % 2 ^ 32)

abbrev pub b2 : Bytes → ℕ → State
b2 m v = give (b1 m v) 5 16

abbrev pub b3 : Bytes → ℕ → State
b3 m v = give (b2 m v) 6 8462336

abbrev pub b4 : Bytes → ℕ → State
b4 m v = give (b3 m v) 9 0

abbrev pub b5 : Bytes → ℕ → State
b5 m v = give (b4 m v) 1 65560

abbrev pub b6 : Bytes → ℕ → State
b6 m v = give (b5 m v) 2 8462336

abbrev pub b7 : Bytes → ℕ → State
b7 m v = at (b6 m v) 65560

abbrev pub b8 : Bytes → ℕ → State
b8 m v = give (b7 m v) 17 93

does-b1 : (text : Text) (v : ℕ) → StackAllows text.flags → act text.flags (Addi 10 9 0) (b0 text.bytes v) ≡ next (b1 text.bytes v)
unfolding act give jump load_bytes store_bytes
does-b1 text v allows = refl

does-b2 : (text : Text) (v : ℕ) → StackAllows text.flags → act text.flags (Addi 5 0 16) (b1 text.bytes v) ≡ next (b2 text.bytes v)
unfolding act give jump load_bytes store_bytes
does-b2 text v allows = refl

does-b3 : (text : Text) (v : ℕ) → StackAllows text.flags → act text.flags (Add 6 2 5) (b2 text.bytes v) ≡ next (b3 text.bytes v)
unfolding act give jump load_bytes store_bytes
does-b3 text v allows = refl

does-b4 : (text : Text) (v : ℕ) → StackAllows text.flags → act text.flags (Lw 9 6 4294967288) (b3 text.bytes v) ≡ next (b4 text.bytes v)
unfolding act give jump load_bytes store_bytes
does-b4 text v allows = rw allows.r2 refl

does-b5 : (text : Text) (v : ℕ) → StackAllows text.flags → act text.flags (Lw 1 6 4294967292) (b4 text.bytes v) ≡ next (b5 text.bytes v)
unfolding act give jump load_bytes store_bytes
does-b5 text v allows = rw allows.r1 refl

does-b6 : (text : Text) (v : ℕ) → StackAllows text.flags → act text.flags (Addi 2 6 0) (b5 text.bytes v) ≡ next (b6 text.bytes v)
unfolding act give jump load_bytes store_bytes
does-b6 text v allows = refl

does-b7 : (text : Text) (v : ℕ) → StackAllows text.flags → act text.flags (Jalr 0 1 0) (b6 text.bytes v) ≡ next (b7 text.bytes v)
unfolding act give jump load_bytes store_bytes
does-b7 text v allows = refl

does-b8 : (text : Text) (v : ℕ) → StackAllows text.flags → act text.flags (Addi 17 0 93) (b7 text.bytes v) ≡ next (b8 text.bytes v)
unfolding act give jump load_bytes store_bytes
does-b8 text v allows = refl

stops-b : (text : Text) (v : ℕ) → act text.flags Ecall (b8 text.bytes v) ≡ stop (exit ((v + 0) % 2 ^ 32 % 256))
unfolding act call give jump load_bytes store_bytes
stops-b text v = refl

pub b-ends : (text : Text) (v : ℕ) (u l : ℕ) (input : List ℕ) → TextStands text 46 (program (Lui 9 u ∷ Addi 9 9 l ∷ [])) → StackAllows text.flags
    → Reaches text.flags 15 (s0 text.bytes) input [] (b0 text.bytes v) input
    → (n' : ℕ) → run text.flags (23 + suc n') (running (s0 text.bytes)) input ≡ standing (ended (exit ((v + 0) % 2 ^ 32 % 256))) input
unfolding give
b-ends text v u l input code allows l0 n' =
    let m = text.bytes in
    let l1 : Reaches text.flags 16 (s0 m) input [] (b1 m v) input =
    standing_reaches text 15 (s0 m) (b0 m v) (b1 m v) (Addi 10 9 0) input [] input (λ a fixed. refl) l0 (code 39 refl) (does-b1 text v allows) in
    let l2 : Reaches text.flags 17 (s0 m) input [] (b2 m v) input =
    standing_reaches text 16 (s0 m) (b1 m v) (b2 m v) (Addi 5 0 16) input [] input (λ a fixed. refl) l1 (code 40 refl) (does-b2 text v allows) in
    let l3 : Reaches text.flags 18 (s0 m) input [] (b3 m v) input =
    standing_reaches text 17 (s0 m) (b2 m v) (b3 m v) (Add 6 2 5) input [] input (λ a fixed. refl) l2 (code 41 refl) (does-b3 text v allows) in
    let l4 : Reaches text.flags 19 (s0 m) input [] (b4 m v) input =
    standing_reaches text 18 (s0 m) (b3 m v) (b4 m v) (Lw 9 6 4294967288) input [] input (λ a fixed. refl) l3 (code 42 refl) (does-b4 text v allows) in
    let l5 : Reaches text.flags 20 (s0 m) input [] (b5 m v) input =
    standing_reaches text 19 (s0 m) (b4 m v) (b5 m v) (Lw 1 6 4294967292) input [] input (λ a fixed. refl) l4 (code 43 refl) (does-b5 text v allows) in
    let l6 : Reaches text.flags 21 (s0 m) input [] (b6 m v) input =
    standing_reaches text 20 (s0 m) (b5 m v) (b6 m v) (Addi 2 6 0) input [] input (λ a fixed. refl) l5 (code 44 refl) (does-b6 text v allows) in
    let l7 : Reaches text.flags 22 (s0 m) input [] (b7 m v) input =
    standing_reaches text 21 (s0 m) (b6 m v) (b7 m v) (Jalr 0 1 0) input [] input (λ a fixed. refl) l6 (code 45 refl) (does-b7 text v allows) in
    let l8 : Reaches text.flags 23 (s0 m) input [] (b8 m v) input =
    standing_reaches text 22 (s0 m) (b7 m v) (b8 m v) (Addi 17 0 93) input [] input (λ a fixed. refl) l7 (code 6 refl) (does-b8 text v allows) in
    standing_ends text 23 n' (s0 m) (b8 m v) Ecall (exit ((v + 0) % 2 ^ 32 % 256)) input [] input (λ a fixed. refl) l8 (code 7 refl) (stops-b text v)
