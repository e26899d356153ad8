-- When a machine keeps the behaviour of a family of bounded runs: those of a source, of its graph, or of a list of lambdas.
use Rattle.std.specs.Prelude.{◌≡◌, ℕ, ◌<◌, ◌⊎◌, List, Ok}
use Rattle.val_core.specs.Events.{output, IsPrefixOf}
use Rattle.val_core.specs.Answers.{Answer, events}
use Rattle.val_core.specs.Within.{Behaviour, Running, Terminates, Fails, behaviour, Within}
use Rattle.elf_file.specs.Image.{stack_size}
use Rattle.elf_file.specs.Loading.{Executable, loaded}
use Rattle.rv_machine.specs.Machine.{exit, stack, stuck}
use Rattle.rv_machine.specs.Run.{Hart, running, ended, RunResult, executed}

-- What a run of the machine shows. No run of it gives a result back.
abbrev pub shown : RunResult → Behaviour ⊥
shown o = by o.hart
  where
    by : Hart → Behaviour ⊥
    by (running s) = Running o.output
    by (ended (exit status)) = Terminates o.output status
    by (ended stack) = Fails
    by (ended (stuck pc why)) = Fails

-- one bounded run within another, neither of which gives a result
abbrev pub IsWithin : {A B : Type 0} → Behaviour A → Behaviour B → Type 0
IsWithin x y = Within (λ a b. ⊥) x y

-- it ran out of stack, after a beginning of the output of some run
abbrev pub StopsWithin : {A : Type 0} → (near : ℕ → Answer A) → RunResult → Type 0
StopsWithin near o = (o.hart ≡ ended stack) × ((k : ℕ) × IsPrefixOf o.output (output (events (near k))))

-- The runs of a machine, by their number of instructions, keep the behaviour of a family of bounded runs, with `deep` the
-- deepest sum of frames that each of these meets:
pub record IsKept (A : Type 0) (near : ℕ → Answer A) (deep : ℕ → ℕ) (machine : ℕ → RunResult) : Type 0 where
  -- each bounded run is within a run of the machine, or one runs out of stack,
  pub forward : (n : ℕ) → ((m : ℕ) × IsWithin (behaviour (near n)) (shown (machine m))) ⊎ ((m : ℕ) × StopsWithin near (machine m))
  -- each run of the machine is within a bounded run, or runs out of stack,
  pub back : (n : ℕ) → ((m : ℕ) × IsWithin (shown (machine n)) (behaviour (near m))) ⊎ StopsWithin near (machine n)
  -- none is stuck,
  pub goes_on : (n pc why : ℕ) → (machine n).hart ≡ ended (stuck pc why) → ⊥
  -- and where one runs out of stack, the frames of some stack of calls have more bytes than the stack.
  pub exceeds : (n : ℕ) → (machine n).hart ≡ ended stack → (m : ℕ) × (stack_size < deep m)

-- The bytes are a file that loads, and as the machine runs it on the input the behaviour is kept.
pub record FileKeeps (A : Type 0) (near : ℕ → Answer A) (deep : ℕ → ℕ) (bytes input : List ℕ) : Type 0 where
  pub executable : Executable
  pub loads : loaded bytes ≡ Ok executable
  pub runs : IsKept A near deep (λ n. executed n executable input)
