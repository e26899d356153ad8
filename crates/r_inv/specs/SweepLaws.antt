-- The laws of the rule on lists of nodes.
use Rattle.std.specs.Prelude.{◌≡◌, ℕ, if◌then◌else◌, List, option_map}
use Rattle.std.specs.declared.option.Option.TheVariants.{Some, None}
use Rattle.r_rule.specs.declared.steps.Rule.TheVariants.{Inv}
use Rattle.r_rule.specs.declared.steps.Step.{Step}
use Rattle.g_graph.specs.Plain.{PlainLambda}
use Rattle.g_graph.specs.WellFormed.{IsWellFormed}
use Rattle.g_arena_def.specs.Flat.{flat_of}
use Rattle.r_inv.specs.Rule.{applies, inv}
use Rattle.r_sweep_def.specs.Swept.{Change, swept_by}
use Rattle.r_sweep_def.specs.Listed.{swept_in}
use Rattle.r_inv.specs.Listed.{inv_in}

-- At a node of the list of a well-formed lambda the rule does what it does in the lambda.
abbrev pub InvIsListed : Type 0
InvIsListed = (l : PlainLambda) (n : ℕ) → IsWellFormed l → inv_in n (flat_of l) ≡ option_map flat_of (if applies l n then Some (inv n l) else None)

abbrev pub inv_change : Change
inv_change = record { rule = Inv; applies = applies; changed = inv }

-- A sweep over the list is a sweep over the lambda, with the same steps.
abbrev pub InvSweepsAreListed : Type 0
InvSweepsAreListed =
    (l : PlainLambda) (ns : List ℕ) (steps : List Step) → IsWellFormed l →
    let s = swept_by inv_change ns (record { lambda = l; steps = steps }) in
    swept_in inv_change inv_in ns (record { nodes = flat_of l; steps = steps }) ≡ record { nodes = flat_of s.lambda; steps = s.steps }
