use Rattle.std.proofs.Common.{sym, ◌∙◌}
use Rattle.c_ast.specs.Declarations.{init_tree}
use Rattle.c_check_declaration.proofs.InitLemmas.{zero-empty, zero-many}
use Rattle.c_check_declaration.proofs.shapes.is_zero_list.Goals as goal

pub returns-then-is_empty : goal.returns-then-is_empty
returns-then-is_empty c =
    c.is_zero.ensures ∙ sym (zero-empty init_tree c.args.first.now c.args.more.now (sym c.is_empty.ensures ∙ c.if-is_empty.true))

pub returns-else-is_empty : goal.returns-else-is_empty
returns-else-is_empty c =
    c.if-is_empty.false ∙ sym (zero-many init_tree c.args.first.now c.args.more.now (sym c.is_empty.ensures ∙ c.if-is_empty.false))
