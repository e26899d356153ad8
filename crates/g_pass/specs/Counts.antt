-- What the sweeps of a recipe do to a lambda, in numbers.
use Rattle.std.specs.Prelude.{◌-◌, List, [], ◌∷◌, length}
use Rattle.r_rule.specs.declared.steps.Rule.{Rule}
use Rattle.g_graph.specs.Plain.{PlainLambda}
use Rattle.g_graph.specs.Count.{saturated}
use Rattle.g_graph.specs.Ids.{region_ids}
use Rattle.g_graph.specs.Program.{lambda_values}
use Rattle.g_pass_def.specs.Sweep.{RuleTable, Swept, sweep}
use Rattle.g_pass.specs.declared.replayed_sweeps.SweepCount.{SweepCount}

-- a sweep of a rule that led from here to there
abbrev pub count_of : Rule → (before after : Swept) → SweepCount
count_of r s t = record {
  rule = r;
  visited = length (region_ids s.lambda.body);
  steps = length t.steps - length s.steps;
  before = saturated (lambda_values s.lambda);
  after = saturated (lambda_values t.lambda);
}

-- each sweep of a recipe, of which the next begins where it ends
abbrev pub counts_of : RuleTable → (callees : List PlainLambda) → Swept → List Rule → List SweepCount
counts_of t callees s [] = []
counts_of t callees s (r ∷ rs) = count_of r s (sweep t callees s r) ∷ counts_of t callees (sweep t callees s r) rs
