use Rattle.std.proofs.Common.{◌∙◌}
use Rattle.c_ast.specs.PredictSets.{head, group_label, begins_repeated}
use Rattle.c_parse_tokens.specs.Ahead.{case_production}
use Rattle.c_parse_tokens.proofs.Begins.{begins_by}
use Rattle.c_parse_tokens.proofs.tokens.Tokens.sees_label.Goals as goal

pub returns-clause-groups : goal.returns-clause-groups
unfolding begins_repeated
returns-clause-groups c =
    c.is_some.ensures ∙ begins_by case_production group_label c.label_start.result (head c.args.self.now) c.label_start.ensures

pub returns-clause-labels : goal.returns-clause-labels
unfolding begins_repeated
returns-clause-labels c =
    c.is_some.ensures ∙ begins_by case_production group_label c.label_start.result (head c.args.self.now) c.label_start.ensures
