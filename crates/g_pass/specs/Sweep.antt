-- The rules: where each applies, what it makes of a lambda there, and in which direction it is swept.
use Rattle.std.specs.Prelude.{ℕ, Bool, true, false, List, Option, None, Some, option_map, if◌then◌else◌}
use Rattle.r_rule.specs.declared.steps.Rule.{Rule}
use Rattle.r_rule.specs.declared.steps.Rule.TheVariants.{Fold, Cne, Dne, Inv, Push, Pull, Invert, Unroll, Inline}
use Rattle.g_graph.specs.Plain.{PlainLambda}
use Rattle.g_pass_def.specs.Sweep.{RuleTable}
use Rattle.r_fold.specs.Rule as fold_rule
use Rattle.r_cne.specs.Rule as cne_rule
use Rattle.r_dne.specs.Rule as dne_rule
use Rattle.r_inv.specs.Rule as inv_rule
use Rattle.r_push.specs.Rule as push_rule
use Rattle.r_pull.specs.Rule as pull_rule
use Rattle.r_unroll.specs.Rule as unroll_rule
use Rattle.r_invert.specs.Rule as invert_rule
use Rattle.r_inline.specs.Rule as inline_rule
use Rattle.r_inline.specs.Callees.{inlined_at}

-- Whether a rule that looks at its lambda alone applies at a node, and what it makes of the lambda there. Inlining looks
-- at callees too.
abbrev pub applies : Rule → PlainLambda → (node : ℕ) → Bool
applies Fold l n = fold_rule.applies l n
applies Cne l n = cne_rule.applies l n
applies Dne l n = dne_rule.applies l n
applies Inv l n = inv_rule.applies l n
applies Push l n = push_rule.applies l n
applies Pull l n = pull_rule.applies l n
applies Invert l n = invert_rule.applies l n
applies Unroll l n = unroll_rule.applies l n
applies Inline l n = false

abbrev pub applied : Rule → (node : ℕ) → PlainLambda → PlainLambda
applied Fold n l = fold_rule.fold n l
applied Cne n l = cne_rule.cne n l
applied Dne n l = dne_rule.dne n l
applied Inv n l = inv_rule.inv n l
applied Push n l = push_rule.lambda_pushed n l
applied Pull n l = pull_rule.lambda_pulled n l
applied Invert n l = invert_rule.lambda_inverted n l
applied Unroll n l = unroll_rule.lambda_unrolled n l
applied Inline n l = l

-- whether a sweep goes from the last node to the first
abbrev pub is_backward : Rule → Bool
is_backward Fold = false
is_backward Cne = false
is_backward Dne = true
is_backward Inv = false
is_backward Push = false
is_backward Pull = true
is_backward Invert = false
is_backward Unroll = false
is_backward Inline = false

-- what a rule makes of a lambda at a node where it applies
abbrev pub step : Rule → (callees : List PlainLambda) → (node : ℕ) → PlainLambda → Option PlainLambda
step Inline callees n l = option_map (λ c. inline_rule.lambda_inlined n c l) (inlined_at callees n l)
step r callees n l = if applies r l n then Some (applied r n l) else None

-- the rules as a table, for sweeps and recipes
abbrev pub rules : RuleTable
rules = record { is_backward = is_backward; step = step }
