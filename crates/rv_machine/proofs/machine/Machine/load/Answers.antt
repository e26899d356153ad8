use Rattle.std.proofs.Common.{◌≡◌, ℕ, refl}
use mathlib.Core.Path.{fun_ext}
use Rattle.rv_machine.specs.Run.{running}
use Rattle.rv_machine.proofs.Loads.{zeros}
use Rattle.rv_machine.proofs.machine.Machine.load.Goals as goal

same_hart : (pc pc' : ℕ) (regs regs' mem mem' : ℕ → ℕ) → pc ≡ pc' → regs ≡ regs' → mem ≡ mem'
    → running (record { pc = pc; regs = regs; mem = mem }) ≡ running (record { pc = pc'; regs = regs'; mem = mem' })
same_hart pc pc' regs regs' mem mem' e f g = rw e rw f rw g refl

pub returns-clause-hart : goal.returns-clause-hart
returns-clause-hart c = same_hart _ _ _ _ _ _ c.entry.ensures (fun_ext (λ r. zeros 32 r)) c.in_ok-new.ensures.bytes
