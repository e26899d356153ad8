use Rattle.c_ast.specs.PredictSets.{head}
use Rattle.c_parse.proofs.DeclarationLemmas.{more-some}
use Rattle.c_parse.proofs.declaration.sees_more.Goals as goal

pub returns-in-Some : goal.returns-in-Some
returns-in-Some c = rw c.sees_init.ensures (more-some c.args.inits.now _ (head c.args.tokens.now) c.in-Some.is)
