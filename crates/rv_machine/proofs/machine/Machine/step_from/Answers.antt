use Rattle.std.proofs.Common.{◌≡◌, ℕ, true}
use Rattle.rv_isa.specs.Registers.{a1}
use Rattle.rv_machine.specs.Machine.{State}
use Rattle.rv_machine.specs.Memory.{allowed, to_write}
use Rattle.rv_machine.specs.View.{state_of, flags_in}
use Rattle.rv_machine.proofs.machine.Machine.step_from.Goals as goal

-- the flags and the state are as they were
still_allowed : (flags flags' : ℕ → ℕ) (s t : State) → flags' ≡ flags → t ≡ s
    → allowed flags to_write (s.regs a1) 1 ≡ true → allowed flags' to_write (t.regs a1) 1 ≡ true
still_allowed flags flags' s t e f h = rw e rw f h

pub get-requires-clause-allowed : goal.get-requires-clause-allowed
get-requires-clause-allowed g c =
    let done = rw c.in-Ok-Get.field-0-is at c.in-Ok-Get.ensures.done in
    still_allowed (flags_in c.args.self.now) (flags_in c.advance.new.self) (state_of c.args.self.now) (state_of c.advance.new.self)
    c.in-Ok-Get.ensures.keeps.flags done.1 done.2
