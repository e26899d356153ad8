use Rattle.std.proofs.Common.{[], ◌∷◌, append_assoc, rules}
use Rattle.std.proofs.lemmas.List.{append-nil}
use Rattle.c_ast.specs.Productions as l
use Rattle.c_ast.specs.Expressions.{literal}
use Rattle.c_ast.specs.declared.expression.Literal.{Literal}
use Rattle.c_ast.proofs.lemmas.Lists.{many-none}
use Rattle.c_check_expression.proofs.lemmas.Lists.{many_next}
use Rattle.c_check_expression.proofs.literals.characters.Goals as goal

pub loop-literal-init : goal.loop-literal-init
loop-literal-init c = rw (many-none l.MoreLiterals (λ (y : Literal). literal y ∷ [])) (rw (append-nil c.args.first.now.bytes) (search rules))

pub loop-literal-preserved : goal.loop-literal-preserved
loop-literal-preserved c =
    let x = c.literal-item.result in
    let next = many_next l.MoreLiterals (λ (y : Literal). literal y ∷ []) c.args.more.now c.loop-literal.literal-index x c.loop-literal-test.true c.literal-item.is in
    rw next (search (rules, append_assoc))
