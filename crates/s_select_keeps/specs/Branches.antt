-- What the templates of branches, jumps and exits do, over places.
use Rattle.std.specs.Prelude.{◌≡◌, ℕ, ◌+◌, ◌-◌, ◌%◌, ◌^◌, ◌<◌, ◌==◌, if◌then◌else◌, [], ◌∷◌, ◌++◌}
use Rattle.val_core.specs.declared.values.Value.TheVariants.{Num}
use Rattle.rv_isa.specs.Calls.{exit_call}
use Rattle.rv_isa.specs.Registers.{x0, t0, t1, a0, a7}
use Rattle.rv_isa.specs.declared.instruction.Instr.TheVariants.{Beq, Bne, Jal, Addi, Ecall}
use Rattle.rv_layout.specs.Layout.{offset_to}
use Rattle.s_select.specs.Operands.{location_of, load_immediate, get, in_of, load_in}
use Rattle.rv_machine.specs.Standing.{CodeStands}
use Rattle.s_select_keeps.specs.Relation.{IsPlaceOf}
use Rattle.s_select_keeps.specs.Steps.{Arrives, Exits}
use Rattle.s_select_keeps.specs.Rows.{InBody}

-- The offset of a jump leads to its target.
abbrev pub OffsetLeads : Type 0
OffsetLeads = (from to : ℕ) → from < 2 ^ 32 → to < 2 ^ 32 → (from + offset_to from to) % 2 ^ 32 ≡ to

abbrev pub JumpIsDone : Type 0
JumpIsDone = InBody (λ text f q s. (distance target b : ℕ) → CodeStands text s.pc (Jal x0 distance ∷ []) b → (s.pc + distance) % 2 ^ 32 ≡ target
    → Arrives text f target q s)

-- The jump stands last. Each branch over it reads a predicate, which is a word.
abbrev pub BranchNotZeroIsDone : Type 0
BranchNotZeroIsDone =
    InBody (λ text f q s. (p w distance target b : ℕ) → IsPlaceOf f p → q.names p ≡ Num w
    → CodeStands text s.pc (load_in t0 (location_of f.temporaries p) ++ Beq (in_of (location_of f.temporaries p) t0) x0 8 ∷ Jal x0 distance ∷ []) b → b < 2 ^ 32
    → (b - 4 + distance) % 2 ^ 32 ≡ target
    → Arrives text f (if w == 0 then b else target) q s)

abbrev pub BranchZeroIsDone : Type 0
BranchZeroIsDone =
    InBody (λ text f q s. (p w distance target b : ℕ) → IsPlaceOf f p → q.names p ≡ Num w
    → CodeStands text s.pc (load_in t0 (location_of f.temporaries p) ++ Bne (in_of (location_of f.temporaries p) t0) x0 8 ∷ Jal x0 distance ∷ []) b → b < 2 ^ 32
    → (b - 4 + distance) % 2 ^ 32 ≡ target
    → Arrives text f (if w == 0 then target else b) q s)

abbrev pub BranchEqualIsDone : Type 0
BranchEqualIsDone =
    InBody (λ text f q s. (p w number distance target b : ℕ) → IsPlaceOf f p → q.names p ≡ Num w → number < 2 ^ 32
    → CodeStands text s.pc (load_in t0 (location_of f.temporaries p) ++ load_immediate t1 number ++ Bne (in_of (location_of f.temporaries p) t0) t1 8 ∷ Jal x0 distance ∷ []) b → b < 2 ^ 32
    → (b - 4 + distance) % 2 ^ 32 ≡ target → Arrives text f (if w == number then target else b) q s)

-- An exit ends the run with the low byte of its status.
abbrev pub ExitIsDone : Type 0
ExitIsDone =
    InBody (λ text f q s. (a w b : ℕ) → IsPlaceOf f a → q.names a ≡ Num w → CodeStands text s.pc (get a0 (location_of f.temporaries a) ++ Addi a7 x0 exit_call ∷ Ecall ∷ []) b
    → b < 2 ^ 32
    → Exits text.flags s (w % 256))
