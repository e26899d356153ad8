-- Laws of logs whose steps are replayed.
use Rattle.std.specs.Prelude.{◌≡◌, ◌≢◌, ◌⊎◌, List, [], Some}
use Rattle.r_rule.specs.declared.steps.Rule.{Rule}
use Rattle.g_graph.specs.Plain.{PlainLambda}
use Rattle.g_pass_def.specs.Sweep.{Swept, sweep, replayed}
use Rattle.g_pass.specs.Sweep.{rules}
use Rattle.log_check.specs.Log.{PlainPart}
use Rattle.log_check.specs.Right.{AreRight}
use Rattle.log_check.specs.Fault.{IsReplayFault}
use Rattle.log_check.specs.declared.replay_fault.ReplayFault.{ReplayFault}
use Rattle.log_check.specs.declared.replay_fault.ReplayFault.TheVariants.{NoMemory}

-- A log has one fault at most,
abbrev pub OneReplayFault : Type 0
OneReplayFault =
    (ls : List PlainLambda) (log : List PlainPart) (e f : ReplayFault) → e ≢ NoMemory → f ≢ NoMemory → IsReplayFault ls log e → IsReplayFault ls log f → e ≡ f

-- none where it is right,
abbrev pub RightHaveNoFault : Type 0
RightHaveNoFault = (ls : List PlainLambda) (log : List PlainPart) (ks : List PlainLambda) (e : ReplayFault) → e ≢ NoMemory → AreRight ls log ks → IsReplayFault ls log e → ⊥

-- and makes one list at most.
abbrev pub RightAreUnique : Type 0
RightAreUnique = (ls : List PlainLambda) (log : List PlainPart) (ks js : List PlainLambda) → AreRight ls log ks → AreRight ls log js → ks ≡ js

-- It is right, or it has a fault.
abbrev pub RightOrFaulty : Type 0
RightOrFaulty =
    (ls : List PlainLambda) (log : List PlainPart) → ((ks : List PlainLambda) × AreRight ls log ks) ⊎ ((e : ReplayFault) × (e ≢ NoMemory) × IsReplayFault ls log e)

-- ---- sweeps

abbrev pub swept_once : (callees : List PlainLambda) → Rule → PlainLambda → Swept
swept_once callees r l = sweep rules callees (record { lambda = l; steps = [] }) r

-- A sweep makes of a lambda what its steps make of it.
abbrev pub SweepsReplay : Type 0
SweepsReplay = (callees : List PlainLambda) (r : Rule) (l : PlainLambda) → replayed rules callees (swept_once callees r l).steps l ≡ Some (swept_once callees r l).lambda
