use Rattle.std.proofs.Common.{◌≢◌, ◌<◌}
use Rattle.r_rule.specs.declared.steps.Rule.{Rule}
use Rattle.r_rule.specs.Names.{rule_name, rule_place}
use Rattle.log_check.proofs.row.rule_named.Given as goal

-- the name is none of those so far
abbrev pub invariant-loop-rule : goal.invariant-loop-rule
invariant-loop-rule l = (k : Rule) → rule_place k < l.rule-index → l.name ≢ rule_name k
