-- What a run of the code answers, and what it leaves.
use Rattle.std.specs.Prelude.{◌≡◌, ℕ, ◌<◌, List, Option, IfSome}
use Rattle.cc_io.specs.Sink.{append}
use Rattle.rv_machine.specs.Run.{Hart, RunResult, run}
use Rattle.rv_machine.specs.Steps.{Streams, hart_effect, IsGet, IsPut, stop_of}
use Rattle.rv_machine.specs.declared.stop.Stop.{Stop}
use Rattle.rv_machine.specs.declared.stop.Stop.TheVariants.{Exit, Stack, Budget, Stuck, ReadFault, WriteFault}

-- where what is left is known, it is these bytes
abbrev pub IsLeft : Option (List ℕ) → List ℕ → Type 0
IsLeft left bytes = IfSome left (λ known. known ≡ bytes)

-- the hart and the streams are those of the result
pub record HasCome (o : RunResult) (h : Hart) (before after : Streams) : Type 0 where
  pub hart : h ≡ o.hart
  pub output : after.held ≡ append before.held o.output
  pub rest : IsLeft after.left o.rest

-- a fault stopped the run after fewer instructions, at one that asks for what failed
abbrev pub IsCutOff : (IsAsked : Hart → Type 0) (flags : ℕ → ℕ) (steps : ℕ) (input : List ℕ) (old new : Hart) (before after : Streams) → Type 0
IsCutOff IsAsked flags steps input old new before after =
    (m : ℕ) × (m < steps) × HasCome (run flags m old input) new before after × IsAsked new

-- all the instructions were done, or the run ended within them
abbrev pub IsWhole : (flags : ℕ → ℕ) (steps : ℕ) (input : List ℕ) (old new : Hart) (before after : Streams) → Stop → Type 0
IsWhole flags steps input old new before after stop =
    HasCome (run flags steps old input) new before after × (stop ≡ stop_of new)

-- what this many instructions come to, with this input
abbrev pub IsRun : (flags : ℕ → ℕ) (steps : ℕ) (input : List ℕ) (old new : Hart) (before after : Streams) → Stop → Type 0
IsRun flags steps input old new before after ReadFault = IsCutOff (λ h. IsGet (hart_effect flags h)) flags steps input old new before after
IsRun flags steps input old new before after WriteFault = IsCutOff (λ h. IsPut (hart_effect flags h)) flags steps input old new before after
IsRun flags steps input old new before after (Exit status) = IsWhole flags steps input old new before after (Exit status)
IsRun flags steps input old new before after Stack = IsWhole flags steps input old new before after Stack
IsRun flags steps input old new before after Budget = IsWhole flags steps input old new before after Budget
IsRun flags steps input old new before after (Stuck pc why) = IsWhole flags steps input old new before after (Stuck pc why)

-- the same with some input, the one that is left where it is known
abbrev pub IsSomeRun : (flags : ℕ → ℕ) (steps : ℕ) (old new : Hart) (before after : Streams) → Stop → Type 0
IsSomeRun flags steps old new before after stop =
    (input : List ℕ) × IsLeft before.left input × IsRun flags steps input old new before after stop
