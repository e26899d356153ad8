-- The laws of the rule on lists of nodes.
use Rattle.std.specs.Prelude.{◌≡◌, ℕ, if◌then◌else◌, List, option_map}
use Rattle.std.specs.declared.option.Option.TheVariants.{Some, None}
use Rattle.r_rule.specs.declared.steps.Rule.TheVariants.{Dne}
use Rattle.r_rule.specs.declared.steps.Step.{Step}
use Rattle.g_graph.specs.Plain.{PlainLambda}
use Rattle.g_graph.specs.WellFormed.{IsWellFormed}
use Rattle.g_arena_def.specs.Flat.{flat_of}
use Rattle.r_dne.specs.Rule.{applies, dne}
use Rattle.r_sweep_def.specs.Swept.{Change, swept_by}
use Rattle.r_sweep_def.specs.Listed.{swept_in}
use Rattle.r_dne.specs.Listed.{dne_in}

-- At a node of the list of a well-formed lambda the rule does what it does in the lambda.
abbrev pub DneIsListed : Type 0
DneIsListed = (l : PlainLambda) (n : ℕ) → IsWellFormed l → dne_in n (flat_of l) ≡ option_map flat_of (if applies l n then Some (dne n l) else None)

abbrev pub dne_change : Change
dne_change = record { rule = Dne; applies = applies; changed = dne }

-- A sweep over the list is a sweep over the lambda, with the same steps.
abbrev pub DneSweepsAreListed : Type 0
DneSweepsAreListed =
    (l : PlainLambda) (ns : List ℕ) (steps : List Step) → IsWellFormed l →
    let s = swept_by dne_change ns (record { lambda = l; steps = steps }) in
    swept_in dne_change dne_in ns (record { nodes = flat_of l; steps = steps }) ≡ record { nodes = flat_of s.lambda; steps = s.steps }
