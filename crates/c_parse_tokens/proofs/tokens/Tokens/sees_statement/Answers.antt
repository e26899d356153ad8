use Rattle.std.proofs.Common.{◌∙◌}
use Rattle.c_ast.specs.PredictSets.{head, stmt, begins_repeated}
use Rattle.c_parse_tokens.specs.Ahead.{stmt_production}
use Rattle.c_parse_tokens.proofs.Begins.{begins_by}
use Rattle.c_parse_tokens.proofs.tokens.Tokens.sees_statement.Goals as goal

pub returns : goal.returns
unfolding begins_repeated
returns c =
    c.is_some.ensures ∙ begins_by stmt_production stmt c.stmt_start.result (head c.args.self.now) c.stmt_start.ensures
