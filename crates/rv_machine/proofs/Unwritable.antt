-- Memory that may not be written.
use Rattle.std.proofs.Common.{◌≡◌, ℕ, zero, suc, ◌+◌, ◌-◌, ◌%◌, ◌≤◌, ◌⊎◌, ◌==◌, Bool, true, false, cond, not, ◌&&◌, List, [], ◌∷◌, Option, Some, None, refl, ap, ◌∙◌, subst, arith, inl, inr}
use Rattle.std.proofs.lemmas.Bool.{both_ways, cases_lt, ne_eqb, not-false}
use Rattle.rv_isa.specs.Formats.{sign_extended}
use Rattle.rv_isa.specs.Encodings.{decoded}
use Rattle.rv_isa.specs.declared.instruction.Instr.{Instr}
use Rattle.rv_isa.specs.declared.instruction.Instr.TheVariants.{Lui, Auipc, Jal, Jalr, Beq, Bne, Blt, Bge, Bltu, Bgeu, Lb, Lh, Lw, Lbu, Lhu, Sb, Sh, Sw, Addi, Slti, Sltiu, Xori, Ori, Andi, Slli, Srli, Srai, Add, Sub, Sll, Slt, Sltu, Xor, Srl, Sra, Or, And, Mul, Mulh, Mulhsu, Mulhu, Div, Divu, Rem, Remu, Fence, Ecall, Ebreak}
use Rattle.rv_isa.specs.Calls.{exit_call, read_call, write_call}
use Rattle.rv_isa.specs.Registers.{a0, a1, a2, a7}
use Rattle.rv_machine.specs.Machine.{State, Effect, next, stop, put, get, act, give, jump, call, access, load, store, offset, after, look, answer, received, exit, stuck, no_call, fetched, act_fetched, act_decoded, next_effect}
use Rattle.rv_machine.specs.Memory.{load_bytes, store_bytes, allowed, has_flag, to_read, to_write}
use Rattle.rv_machine.specs.Run.{Hart, running, ended, Onward, follow, run_state, run}
use Rattle.rv_machine.specs.Laws.{Reaches}
use Rattle.rv_machine.specs.MemoryLaws.{UnwritableStays, UnwritableLoadStays, FetchStays}
use Rattle.rv_machine.proofs.Access.{allowed_at}
use Rattle.rv_machine.proofs.lemmas.Stores.{store_leaves_others, load-agrees}

module _ (flags : ℕ → ℕ) (x : ℕ) (unwritable : has_flag (flags x) to_write ≡ false) where
  -- an instruction leaves the byte
  abbrev OnlyStateChanges : ℕ → Effect → Type 0
  OnlyStateChanges byte (next t) = t.mem x ≡ byte
  OnlyStateChanges byte (stop e) = Unit {0}
  OnlyStateChanges byte (put b t) = t.mem x ≡ byte
  OnlyStateChanges byte (get f) = (o : Option ℕ) → (f o).mem x ≡ byte

  keeps-cond : (byte : ℕ) (b : Bool) (m m' : Effect) → OnlyStateChanges byte m → (b ≡ false → OnlyStateChanges byte m') → OnlyStateChanges byte (cond b m m')
  keeps-cond byte true m m' h h' = h
  keeps-cond byte false m m' h h' = h' refl

  keeps-access : (byte flag width address : ℕ) (s : State) (m : Effect) → (allowed flags flag address width ≡ true → OnlyStateChanges byte m)
      → OnlyStateChanges byte (access flags flag width address s m)
  keeps-access byte flag width address s m h =
      keeps-cond byte (not (address % width == 0)) _ _ tt (λ _.
      keeps-cond byte (not (allowed flags flag address width)) _ _ tt (λ e. h (not-false (allowed flags flag address width) e)))

  pub outside : (a k : ℕ) → allowed flags to_write a k ≡ true → (x + 1 ≤ a) ⊎ (a + k ≤ x)
  outside a k good = elim (cases_lt x a) [
    | inl before ↦ inl (omega arith)
    | inr from ↦ elim (cases_lt x (a + k)) [
      | inl inside ↦
          let here : has_flag (flags (a + (x - a))) to_write ≡ true = allowed_at flags to_write a k (x - a) (omega arith) good in
          absurd (both_ways (has_flag (flags x) to_write) unwritable (ap (λ y. has_flag (flags y) to_write) (omega arith) ∙ here))
      | inr past ↦ inr past
    ]
  ]

  keeps-store : (s : State) (width address n : ℕ) → allowed flags to_write address width ≡ true → store_bytes s.mem address n width x ≡ s.mem x
  keeps-store s width address n good = store_leaves_others s.mem address n width x (outside address width good)

  keeps-load : (width : ℕ) (extended : ℕ → ℕ) (rd rs1 d : ℕ) (s : State) → OnlyStateChanges (s.mem x) (load flags width extended rd rs1 d s)
  unfolding give
  keeps-load width extended rd rs1 d s =
      let address : ℕ = offset (look s.regs rs1) d in
      keeps-access (s.mem x) to_read width address s (next (give s rd (extended (load_bytes s.mem address width)))) (λ _. refl)

  keeps-stored : (width rs1 rs2 d : ℕ) (s : State) → OnlyStateChanges (s.mem x) (store flags width rs1 rs2 d s)
  keeps-stored width rs1 rs2 d s =
      let address : ℕ = offset (look s.regs rs1) d in
      let n : ℕ = look s.regs rs2 in
      let t : State = record { pc = after s.pc; regs = s.regs; mem = store_bytes s.mem address n width } in
      keeps-access (s.mem x) to_write width address s (next t) (λ good. keeps-store s width address n good)

  keeps-received : (s : State) → allowed flags to_write (s.regs a1) 1 ≡ true → (o : Option ℕ) → (received s o).mem x ≡ s.mem x
  unfolding give
  keeps-received s good None = refl
  keeps-received s good (Some byte) =
      let here : has_flag (flags (s.regs a1 + 0)) to_write ≡ true = allowed_at flags to_write (s.regs a1) 1 0 (omega arith) good in
      rw (ne_eqb x (s.regs a1) (λ e. both_ways (has_flag (flags x) to_write) unwritable
      (ap (λ y. has_flag (flags y) to_write) (e ∙ omega arith) ∙ here))) refl

  keeps-call : (s : State) → OnlyStateChanges (s.mem x) (call flags s)
  unfolding call give
  keeps-call s =
      let byte : ℕ = s.mem x in
      let writes : Effect = access flags to_read 1 (s.regs a1) s (put (s.mem (s.regs a1)) (answer s 1)) in
      let reads : Effect = access flags to_write 1 (s.regs a1) s (get (received s)) in
      let none : Effect = stop (stuck s.pc no_call) in
      let is_write : Bool = s.regs a7 == write_call && s.regs a0 == 1 && s.regs a2 == 1 in
      let is_read : Bool = s.regs a7 == read_call && s.regs a0 == 0 && s.regs a2 == 1 in
      let written : OnlyStateChanges byte writes = keeps-access byte to_read 1 (s.regs a1) s (put (s.mem (s.regs a1)) (answer s 1)) (λ _. refl) in
      let read : OnlyStateChanges byte reads = keeps-access byte to_write 1 (s.regs a1) s (get (received s)) (λ good. keeps-received s good) in
      keeps-cond byte (s.regs a7 == exit_call) (stop (exit (s.regs a0 % 256))) (cond is_write writes (cond is_read reads none)) tt (λ _.
      keeps-cond byte is_write writes (cond is_read reads none) written (λ _.
      keeps-cond byte is_read reads none read (λ _. tt)))

  keeps-act : (i : Instr) (s : State) → OnlyStateChanges (s.mem x) (act flags i s)
  unfolding act give jump
  keeps-act (Lui rd imm) s = refl
  keeps-act (Auipc rd imm) s = refl
  keeps-act (Jal rd d) s = refl
  keeps-act (Jalr rd rs1 d) s = refl
  keeps-act (Beq rs1 rs2 d) s = refl
  keeps-act (Bne rs1 rs2 d) s = refl
  keeps-act (Blt rs1 rs2 d) s = refl
  keeps-act (Bge rs1 rs2 d) s = refl
  keeps-act (Bltu rs1 rs2 d) s = refl
  keeps-act (Bgeu rs1 rs2 d) s = refl
  keeps-act (Lb rd rs1 d) s = keeps-load 1 (sign_extended 8) rd rs1 d s
  keeps-act (Lh rd rs1 d) s = keeps-load 2 (sign_extended 16) rd rs1 d s
  keeps-act (Lw rd rs1 d) s = keeps-load 4 (λ n. n) rd rs1 d s
  keeps-act (Lbu rd rs1 d) s = keeps-load 1 (λ n. n) rd rs1 d s
  keeps-act (Lhu rd rs1 d) s = keeps-load 2 (λ n. n) rd rs1 d s
  keeps-act (Sb rs1 rs2 d) s = keeps-stored 1 rs1 rs2 d s
  keeps-act (Sh rs1 rs2 d) s = keeps-stored 2 rs1 rs2 d s
  keeps-act (Sw rs1 rs2 d) s = keeps-stored 4 rs1 rs2 d s
  keeps-act (Addi a b c) s = refl
  keeps-act (Slti a b c) s = refl
  keeps-act (Sltiu a b c) s = refl
  keeps-act (Xori a b c) s = refl
  keeps-act (Ori a b c) s = refl
  keeps-act (Andi a b c) s = refl
  keeps-act (Slli a b c) s = refl
  keeps-act (Srli a b c) s = refl
  keeps-act (Srai a b c) s = refl
  keeps-act (Add a b c) s = refl
  keeps-act (Sub a b c) s = refl
  keeps-act (Sll a b c) s = refl
  keeps-act (Slt a b c) s = refl
  keeps-act (Sltu a b c) s = refl
  keeps-act (Xor a b c) s = refl
  keeps-act (Srl a b c) s = refl
  keeps-act (Sra a b c) s = refl
  keeps-act (Or a b c) s = refl
  keeps-act (And a b c) s = refl
  keeps-act (Mul a b c) s = refl
  keeps-act (Mulh a b c) s = refl
  keeps-act (Mulhsu a b c) s = refl
  keeps-act (Mulhu a b c) s = refl
  keeps-act (Div a b c) s = refl
  keeps-act (Divu a b c) s = refl
  keeps-act (Rem a b c) s = refl
  keeps-act (Remu a b c) s = refl
  keeps-act (Fence a b c) s = refl
  keeps-act Ecall s = keeps-call s
  keeps-act Ebreak s = tt

  keeps-decoded : (i : Option Instr) (s : State) → OnlyStateChanges (s.mem x) (act_decoded flags i s)
  keeps-decoded None s = tt
  keeps-decoded (Some i) s = keeps-act i s

  keeps-fetched : (w : Option ℕ) (s : State) → OnlyStateChanges (s.mem x) (act_fetched flags w s)
  keeps-fetched None s = tt
  keeps-fetched (Some w) s = keeps-decoded (decoded w) s

  keeps-effect : (s : State) → OnlyStateChanges (s.mem x) (next_effect flags s)
  unfolding next_effect
  keeps-effect s = keeps-fetched (fetched flags s) s

  -- so does a run that goes on
  abbrev HartKeeps : ℕ → Hart → Type 0
  HartKeeps byte (running t) = t.mem x ≡ byte
  HartKeeps byte (ended e) = Unit {0}

  keeps-follow : (effect : Effect) (onward : Onward) (input : List ℕ) (byte : ℕ) → OnlyStateChanges byte effect
      → ((t : State) (i : List ℕ) → HartKeeps (t.mem x) (onward t i).hart) → HartKeeps byte (follow effect onward input).hart
  keeps-follow (next t) onward input byte k h = let P : ℕ → Type 0 = λ b. HartKeeps b (onward t input).hart in subst P k (h t input)
  keeps-follow (stop e) onward input byte k h = tt
  keeps-follow (put b t) onward input byte k h = let P : ℕ → Type 0 = λ b. HartKeeps b (onward t input).hart in subst P k (h t input)
  keeps-follow (get f) onward [] byte k h =
      let P : ℕ → Type 0 = λ b. HartKeeps b (onward (f None) []).hart in subst P (k None) (h (f None) [])
  keeps-follow (get f) onward (b ∷ input) byte k h =
      let P : ℕ → Type 0 = λ n. HartKeeps n (onward (f (Some b)) input).hart in subst P (k (Some b)) (h (f (Some b)) input)

  keeps-run : (n : ℕ) (s : State) (input : List ℕ) → HartKeeps (s.mem x) (run_state flags n s input).hart
  unfolding run_state
  keeps-run zero s input = refl
  keeps-run (suc n) s input = keeps-follow (next_effect flags s) (run_state flags n) input (s.mem x) (keeps-effect s) (λ t i. keeps-run n t i)

  keeps-reached : (n : ℕ) (s t : State) (input written rest : List ℕ) → Reaches flags n s input written t rest → t.mem x ≡ s.mem x
  unfolding run
  keeps-reached n s t input written rest reaches =
      let P : Hart → Type 0 = λ h. HartKeeps (s.mem x) h in subst P (ap (λ o. o.hart) reaches.to) (keeps-run n s input)

pub unwritable_stays : UnwritableStays
unwritable_stays flags n s t input written rest reaches x unwritable = keeps-reached flags x unwritable n s t input written rest reaches

pub unwritable_load_stays : UnwritableLoadStays
unwritable_load_stays flags n s t input written rest reaches a k unwritable =
    load-agrees s.mem t.mem a k (λ j below. unwritable_stays flags n s t input written rest reaches (a + j) (unwritable j below))

pub fetch_stays : FetchStays
unfolding fetched
fetch_stays flags n s t input written rest reaches unwritable =
    ap (λ w. cond (t.pc % 4 == 0 && allowed flags 1 t.pc 4) (Some w) None) (unwritable_load_stays flags n s t input written rest reaches t.pc 4 unwritable)
