-- The templates of branches and jumps lead where they say, and change nothing.
use Rattle.std.proofs.Common.{◌≡◌, ◌≢◌, ℕ, ◌+◌, ◌-◌, ◌%◌, ◌^◌, ◌<◌, ◌==◌, not, Bool, true, false, cond, [], ◌∷◌, ◌++◌, refl, sym, ap, ap₂, subst, ◌∙◌, append_assoc, arith}
use Rattle.val_core.specs.declared.values.Value.TheVariants.{Num}
use Rattle.rv_isa.specs.Registers.{x0, t0, t1}
use Rattle.rv_isa.specs.declared.instruction.Instr.{Instr}
use Rattle.rv_isa.specs.declared.instruction.Instr.TheVariants.{Beq, Bne, Jal}
use Rattle.rv_machine.specs.Machine.{State, next, act, jump, offset, after}
use Rattle.s_linear.specs.Meaning as linear
use Rattle.s_select.specs.Operands.{location_of, load_immediate, in_of, load_in}
use Rattle.rv_machine.specs.Standing.{Text, HasText, CodeStands}
use Rattle.s_select_keeps.specs.Relation.{IsKept, Shows, Frame, IsPlaceOf, HasWords, Represents}
use Rattle.s_select_keeps.specs.Steps.{Steps, Arrives}
use Rattle.s_select_keeps.specs.Branches.{OffsetLeads, JumpIsDone, BranchNotZeroIsDone, BranchZeroIsDone, BranchEqualIsDone}
use Rattle.rv_machine.proofs.lemmas.Standing.{code_is_cut}
use Rattle.s_select_keeps.proofs.Registers.{steps-then, step-to, look-at, code-le, immediate-loads}
use Rattle.s_select_keeps.proofs.Locations.{kept-apart, location-fits}
use Rattle.s_select_keeps.proofs.Represented.{kept-represents}
use Rattle.s_select_keeps.proofs.Templates.{in-apart, loads}

pub offset_leads : OffsetLeads
offset_leads from to low high = omega (arith, low, high)

-- the machine at another address
abbrev at : State → ℕ → State
at s a = record { pc = a; regs = s.regs; mem = s.mem }

module _ (text : Text) where
  jumps : (s : State) (d target b : ℕ) → HasText text s.mem → CodeStands text s.pc (Jal x0 d ∷ []) b → (s.pc + d) % 2 ^ 32 ≡ target → Steps text.flags s (at s target)
  unfolding act jump
  jumps s d target b has there lands = step-to text s (at s target) (Jal x0 d) has there.0 (ap (λ a. next (at s a)) lands)

  -- a branch over a jump
  branches : (s : State) (i : Instr) (d target b : ℕ) (test : Bool) → HasText text s.mem → CodeStands text s.pc (i ∷ Jal x0 d ∷ []) b → b < 2 ^ 32
      → (b - 4 + d) % 2 ^ 32 ≡ target
      → act text.flags i s ≡ next (at s (cond test (offset s.pc 8) (after s.pc))) → Steps text.flags s (at s (cond test b target))
  branches s i d target b true has there low lands acts =
      let end : s.pc + 4 + 4 ≡ b = there.1.1 in
      step-to text s (at s b) i has there.0 (acts ∙ ap (λ a. next (at s a)) (let e : (s.pc + 8) % 2 ^ 32 ≡ b = omega (arith, end, low) in e))
  branches s i d target b false has there low lands acts =
      let end : s.pc + 4 + 4 ≡ b = there.1.1 in
      let first = step-to text s (at s (s.pc + 4)) i has there.0
      (acts ∙ ap (λ a. next (at s a)) (let e : (s.pc + 4) % 2 ^ 32 ≡ s.pc + 4 = omega (arith, end, low) in e)) in
      let place : (s.pc + 4 + d) % 2 ^ 32 ≡ target = (let e : (s.pc + 4 + d) % 2 ^ 32 ≡ (b - 4 + d) % 2 ^ 32 = omega (arith, end) in e) ∙ lands in
      steps-then text.flags s (at s (s.pc + 4)) (at s target) first (jumps (at s (s.pc + 4)) d target b has there.1 place)

  module _ (f : Frame) (words : HasWords text f) where
    -- registers that are kept, and memory, are as they were
    arrived : (q : linear.State) (s u : State) (a : ℕ) → Represents text f q s → Steps text.flags s (at u a) → ((r : ℕ) → IsKept r → u.regs r ≡ s.regs r) → u.mem ≡ s.mem
        → Arrives text f a q s
    arrived q s u a rep steps regs mem = record {
      state = at u a;
      steps = steps;
      pc = refl;
      shows = kept-represents text f words q s (at u a) rep regs mem;
    }

    -- what the register of a predicate holds
    word-is : (q : linear.State) (p w x : ℕ) → q.names p ≡ Num w → Shows f.bases (q.names p) x → x ≡ w
    word-is q p w x e shows = let h = subst (λ v. Shows f.bases v x) e shows in h.0

    -- a predicate is loaded, and a branch reads it
    tests : (q : linear.State) (s : State) (p w d target b : ℕ) (branch : ℕ → Instr) (test : Bool) → Represents text f q s → IsPlaceOf f p → q.names p ≡ Num w
        → CodeStands text s.pc (load_in t0 (location_of f.temporaries p) ++ branch (in_of (location_of f.temporaries p) t0) ∷ Jal x0 d ∷ []) b → b < 2 ^ 32 → (b - 4 + d) % 2 ^ 32 ≡ target
        → ((u : State) (r : ℕ) → r ≢ 0 → u.regs r ≡ w → act text.flags (branch r) u ≡ next (at u (cond test (offset u.pc 8) (after u.pc))))
        → Arrives text f (cond test b target) q s
    tests q s p w d target b branch test rep within word there low lands acts =
        let l = location_of f.temporaries p in
        let fits = location-fits f p within in
        let r = in_of l t0 in
        let one = loads text f words s b 5 l (q.names p) (branch r ∷ Jal x0 d ∷ []) rep.has_text rep.stack fits there low (omega arith) (omega arith)
        (rep.places p within) in
        let u = one.operand.state in
        let is = one.operand.is ∙ word-is q p w one.word word one.shows in
        arrived q s u (cond test b target) rep
        (steps-then text.flags s u (at u (cond test b target)) one.operand.steps
        (branches u (branch r) d target b test one.has one.code low lands (acts u r (in-apart f l 5 0 fits (omega arith) (omega arith)) is)))
        (λ n kept. one.operand.others n (kept-apart n 5 kept (omega arith) (omega arith)) (kept-apart n 7 kept (omega arith) (omega arith))) one.operand.mem

pub jump_is_done : JumpIsDone
jump_is_done text f q s words rep d target b there lands =
    arrived text f words q s s target rep (jumps text s d target b rep.has_text there lands) (λ r kept. refl) refl

pub branch_not_zero_is_done : BranchNotZeroIsDone
unfolding act
branch_not_zero_is_done text f q s words rep p w d target b within word there low lands =
    tests text f words q s p w d target b (λ r. Beq r x0 8) (w == 0) rep within word there low lands
    (λ u r ne is. ap (λ n. next (at u (cond (n == 0) (offset u.pc 8) (after u.pc)))) (look-at u.regs r ne ∙ is))

-- where a branch is taken unless two numbers are equal
turned : (test : Bool) (a b : ℕ) → cond (not test) a b ≡ cond test b a
turned true a b = refl
turned false a b = refl

pub branch_zero_is_done : BranchZeroIsDone
unfolding act
branch_zero_is_done text f q s words rep p w d target b within word there low lands =
    subst (λ a. Arrives text f a q s) (turned (w == 0) b target)
    (tests text f words q s p w d target b (λ r. Bne r x0 8) (not (w == 0)) rep within word there low lands
    (λ u r ne is. ap (λ n. next (at u (cond (not (n == 0)) (offset u.pc 8) (after u.pc)))) (look-at u.regs r ne ∙ is)))

pub branch_equal_is_done : BranchEqualIsDone
unfolding act
branch_equal_is_done text f q s words rep p w n d target b within word fits there low lands =
    let l = location_of f.temporaries p in
    let place = location-fits f p within in
    let r = in_of l t0 in
    let whole = subst (λ c. CodeStands text s.pc c b) (append_assoc (load_in t0 l) (load_immediate t1 n) (Bne r t1 8 ∷ Jal x0 d ∷ [])) there in
    let one = loads text f words s b 5 l (q.names p) (load_immediate t1 n ++ Bne r t1 8 ∷ Jal x0 d ∷ []) rep.has_text rep.stack place whole low (omega arith)
    (omega arith) (rep.places p within) in
    let u = one.operand.state in
    let cut = code_is_cut text u.pc b (load_immediate t1 n) (Bne r t1 8 ∷ Jal x0 d ∷ []) one.code in
    let le = code-le text cut.0 (Bne r t1 8 ∷ Jal x0 d ∷ []) b cut.2 in
    let two = immediate-loads text u cut.0 6 n one.has cut.1 (omega (arith, le, low)) (omega arith) fits in
    let v = two.state in
    let is : v.regs r ≡ w =
    two.others r (in-apart f l 5 6 place (omega arith) (omega arith)) (in-apart f l 5 7 place (omega arith) (omega arith)) ∙ one.operand.is
    ∙ word-is text f words q p w one.word word one.shows in
    let has = subst (HasText text) (sym two.mem) one.has in
    let code = subst (λ a. CodeStands text a (Bne r t1 8 ∷ Jal x0 d ∷ []) b) (sym two.pc) cut.2 in
    let ne = in-apart f l 5 0 place (omega arith) (omega arith) in
    let test = not (w == n) in
    subst (λ a. Arrives text f a q s) (turned (w == n) b target)
    (arrived text f words q s v (cond test b target) rep
    (steps-then text.flags s u (at v (cond test b target)) one.operand.steps
    (steps-then text.flags u v (at v (cond test b target)) two.steps
    (branches text v (Bne r t1 8) d target b test has code low lands
    (ap₂ (λ x y. next (at v (cond (not (x == y)) (offset v.pc 8) (after v.pc)))) (look-at v.regs r ne ∙ is) two.holds))))
    (λ k kept.
    two.others k (kept-apart k 6 kept (omega arith) (omega arith)) (kept-apart k 7 kept (omega arith) (omega arith))
    ∙ one.operand.others k (kept-apart k 5 kept (omega arith) (omega arith)) (kept-apart k 7 kept (omega arith) (omega arith))) (two.mem ∙ one.operand.mem))
