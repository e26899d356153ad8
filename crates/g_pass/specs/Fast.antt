-- Which rules are swept over an arena, and a sweep of a rule as the fold of its test and its change.
use Rattle.std.specs.Prelude.{◌≡◌, ℕ, Bool, true, false, List, IsTrue}
use Rattle.std.specs.List.{fold, AllByRecursion}
use Rattle.r_rule.specs.declared.steps.Rule.{Rule}
use Rattle.r_rule.specs.declared.steps.Rule.TheVariants.{Cne, Dne, Inv, Inline}
use Rattle.r_rule.specs.declared.steps.Step.{Step}
use Rattle.g_graph.specs.Plain.{PlainLambda}
use Rattle.g_graph.specs.Ids.{region_ids}
use Rattle.g_graph.specs.WellFormed.{IsWellFormed}
use Rattle.g_arena_def.specs.Flat.{Flat, StandsFor}
use Rattle.r_sweep_def.specs.Swept.{Logged, Change, swept_by}
use Rattle.g_pass_def.specs.Sweep.{sweep, in_order}
use Rattle.g_pass.specs.Sweep.{applies, applied, rules}

abbrev pub is_in_arena : Rule → Bool
is_in_arena Cne = true
is_in_arena Dne = true
is_in_arena Inv = true
is_in_arena _ = false

-- what a rule that looks at its lambda alone makes of a well-formed lambda is well formed
abbrev pub RulesKeep : Type 0
RulesKeep = (r : Rule) (n : ℕ) (l : PlainLambda) → IsWellFormed l → IsWellFormed (applied r n l)

-- the test and the change of a rule that looks at its lambda alone
abbrev pub change_of : Rule → Change
change_of r = record { rule = r; applies = applies r; changed = applied r }

-- a sweep of a rule that looks at its lambda alone, and sweeps of such rules one after the other
abbrev pub swept_with : Logged → Rule → Logged
swept_with s r = swept_by (change_of r) (in_order rules r (region_ids s.lambda.body)) s

abbrev pub swept_each : List Rule → Logged → Logged
swept_each rs s = fold swept_with s rs

-- each of these rules is swept over an arena
abbrev pub AreInArena : List Rule → Type 0
AreInArena = AllByRecursion (λ r. IsTrue (is_in_arena r))

-- A list of nodes and a log are those after sweeps of these rules, one after the other, of a lambda, of which the log had
-- these steps.
abbrev pub AreSwept : List Rule → PlainLambda → (steps : List Step) → Flat → (log : List Step) → Type 0
AreSwept rs l steps a log = let s = swept_each rs (record { lambda = l; steps = steps }) in StandsFor a s.lambda × (log ≡ s.steps)

-- A sweep of a rule that looks at its lambda alone is a fold.
abbrev pub SweepsAreFolds : Type 0
SweepsAreFolds =
    (r : Rule) → (r ≡ Inline → ⊥) → (callees : List PlainLambda) (l : PlainLambda) (steps : List Step) →
    let s = swept_by (change_of r) (in_order rules r (region_ids l.body)) (record { lambda = l; steps = steps }) in
    sweep rules callees (record { lambda = l; steps = steps }) r ≡ record { lambda = s.lambda; steps = s.steps }
