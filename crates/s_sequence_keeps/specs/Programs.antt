-- What the linear code of a whole program does at a bound.
use Rattle.std.specs.Prelude.{ℕ, suc, List, [], Option, None, Some}
use Rattle.val_core.specs.declared.values.Value.{Value}
use Rattle.val_core.specs.Answers.{Answer, Undefined, then_on}
use Rattle.val_core.specs.Within.{Given}
use Rattle.g_graph.specs.Plain.{PlainOmega}
use Rattle.g_graph.specs.Program.{name_index, main_name}
use Rattle.g_mean.specs.Calls.{global_of, first_memory}
use Rattle.s_linear.specs.Linear.{LinearFunction}
use Rattle.s_linear.specs.Meaning.{Call, calls, finished}

-- the linear code of a function at a bound
abbrev pub linear_at : ℕ → List LinearFunction → (global : ℕ → Value) → ℕ → Call
linear_at n fs global f vs m i = calls fs global (suc n) f vs m i

abbrev pub started : ℕ → PlainOmega → List LinearFunction → Option ℕ → List ℕ → Answer (Given Value)
started n omega fs None i = Undefined []
started n omega fs (Some f) i = then_on (linear_at n fs (global_of omega.deltas) f [] (first_memory omega.deltas) i) finished

-- the program at a bound, on this input
abbrev pub linear_program_at : ℕ → PlainOmega → List LinearFunction → List ℕ → Answer (Given Value)
linear_program_at n omega fs i = started n omega fs (name_index main_name omega.names) i
