use Rattle.g_build_def.proofs.lemmas.LaterExpressions.{expr_later}
use Rattle.g_build_def.proofs.lemmas.LaterStatements.{declared_later, stmt_later, items_later}
use Rattle.g_build_def.proofs.laws.shape_is_kept.Goals as goal

pub returns-clause-expressions : goal.returns-clause-expressions
returns-clause-expressions c = expr_later

pub returns-clause-declarations : goal.returns-clause-declarations
returns-clause-declarations c = declared_later

pub returns-clause-statements : goal.returns-clause-statements
returns-clause-statements c = stmt_later

pub returns-clause-items : goal.returns-clause-items
returns-clause-items c = items_later
