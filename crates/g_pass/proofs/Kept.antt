-- A step leaves a well-formed lambda.
use Rattle.std.proofs.Common.{◌≡◌, List, [], Result, Ok, Err, OnOk, OnErr, sym, subst}
use Rattle.g_graph.specs.Plain.{PlainLambda}
use Rattle.g_graph.specs.WellFormed.{IsWellFormed}
use Rattle.r_edit.specs.Steps.{MayStandFor}

-- a call of a rule that looks at its lambda alone makes a step, or leaves the lambda as it was
pub step_keeps : {A B : Type 0} (x : Result A B) (l k : PlainLambda) → IsWellFormed l → OnOk x ((held : List PlainLambda) → MayStandFor held l k) → OnErr x (k ≡ l) → IsWellFormed k
step_keeps (Ok done) l k well step same = (step []).well_formed
step_keeps (Err fault) l k well step same = subst IsWellFormed (sym same) well

pub held_keeps : (held : List PlainLambda) (l k : PlainLambda) → MayStandFor held l k → IsWellFormed k
held_keeps held l k step = step.well_formed
