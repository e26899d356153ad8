-- What a machine shows.
use Rattle.std.specs.Prelude.{◌≡◌, ℕ, slice_index, Option, Some, None, Result, Ok, Err, true}
use Rattle.rv_machine.specs.Blocks.{bytes_of, allowance_of}
use Rattle.rv_machine.specs.Endings.{ending_of}
use Rattle.rv_isa.specs.Registers.{a1}
use Rattle.rv_machine.specs.Machine.{State, Effect, next, stop, put, get, answer, received}
use Rattle.rv_machine.specs.Memory.{allowed, to_write}
use Rattle.rv_machine.specs.Run.{Hart, running, ended}
use Rattle.rv_machine.specs.declared.stop.Ending as rust
use Rattle.rv_machine.specs.declared.machine.Machine.{Machine}
use Rattle.rv_machine.specs.declared.machine.Progress.{Progress}
use Rattle.rv_machine.specs.declared.machine.Progress.TheVariants.{Done, Put, Get}

abbrev pub state_of : Machine → State
state_of m = record { pc = m.pc; regs = λ r. slice_index m.registers r; mem = bytes_of m.memory }

abbrev pub flags_in : Machine → (ℕ → ℕ)
flags_in m = allowance_of m.memory

abbrev pub hart_from : Option rust.Ending → State → Hart
hart_from None s = running s
hart_from (Some e) s = ended (ending_of e)

abbrev pub hart_of : Machine → Hart
hart_of m = hart_from m.ending (state_of m)

-- only the state changes: the flags and the ending stay
pub record OnlyStateChanges (old new : Machine) : Type 0 where
  pub flags : flags_in new ≡ flags_in old
  pub ending : new.ending ≡ old.ending

-- the machine did what an instruction says, or says what is left to do
abbrev pub HasDone : (flags : ℕ → ℕ) → Effect → (old new : State) → Result Progress rust.Ending → Type 0
HasDone flags effect s t (Ok Done) = effect ≡ next t
HasDone flags effect s t (Ok (Put byte)) = (effect ≡ put byte (answer s 1)) × (t ≡ s)
HasDone flags effect s t (Ok Get) =
    (effect ≡ get (received s)) × (t ≡ s) × (allowed flags to_write (s.regs a1) 1 ≡ true)
HasDone flags effect s t (Err e) = (effect ≡ stop (ending_of e)) × (t ≡ s)

-- an access gives what the code found, or ends the run
abbrev pub Allows : ((Effect → Effect)) → Type 0
Allows access = (effect : Effect) → access effect ≡ effect

abbrev pub Refuses : ((Effect → Effect)) → rust.Ending → Type 0
Refuses access e = (effect : Effect) → access effect ≡ stop (ending_of e)
