use Rattle.std.proofs.Common.{◌≢◌, ◌++◌, ◌<◌, ℕ, List}
use Rattle.r_rule.specs.declared.steps.Rule.{Rule}
use Rattle.r_rule.specs.Names.{rule_name, rule_place}
use Rattle.g_pass.proofs.names.first_rule.Given as goal

-- the text begins with none of the names so far
abbrev pub invariant-loop-rule : goal.invariant-loop-rule
invariant-loop-rule l = (k : Rule) → rule_place k < l.rule-index → (rest : List ℕ) → l.text ≢ rule_name k ++ rest
