-- The laws of the rule on lists of nodes.
use Rattle.std.specs.Prelude.{◌≡◌, ℕ, if◌then◌else◌, List, option_map}
use Rattle.std.specs.declared.option.Option.TheVariants.{Some, None}
use Rattle.r_rule.specs.declared.steps.Rule.TheVariants.{Cne}
use Rattle.r_rule.specs.declared.steps.Step.{Step}
use Rattle.g_graph.specs.Plain.{PlainLambda}
use Rattle.g_graph.specs.WellFormed.{IsWellFormed}
use Rattle.g_arena_def.specs.Flat.{flat_of}
use Rattle.r_cne.specs.Rule.{applies, cne}
use Rattle.r_sweep_def.specs.Swept.{Change, swept_by}
use Rattle.r_sweep_def.specs.Listed.{swept_in}
use Rattle.r_cne.specs.Listed.{cne_in}

-- At a node of the list of a well-formed lambda the rule does what it does in the lambda.
abbrev pub CneIsListed : Type 0
CneIsListed = (l : PlainLambda) (n : ℕ) → IsWellFormed l → cne_in n (flat_of l) ≡ option_map flat_of (if applies l n then Some (cne n l) else None)

abbrev pub cne_change : Change
cne_change = record { rule = Cne; applies = applies; changed = cne }

-- A sweep over the list is a sweep over the lambda, with the same steps.
abbrev pub CneSweepsAreListed : Type 0
CneSweepsAreListed =
    (l : PlainLambda) (ns : List ℕ) (steps : List Step) → IsWellFormed l →
    let s = swept_by cne_change ns (record { lambda = l; steps = steps }) in
    swept_in cne_change cne_in ns (record { nodes = flat_of l; steps = steps }) ≡ record { nodes = flat_of s.lambda; steps = s.steps }
