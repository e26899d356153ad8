use Rattle.std.proofs.Common.{◌≡◌, ◌++◌, take}
use Rattle.c_ast.specs.Expressions.{texts}
use Rattle.c_check_def.specs.Expressions.{more_characters}
use Rattle.c_check_expression.proofs.literals.characters.Given as goal

abbrev pub invariant-loop-literal : goal.invariant-loop-literal
invariant-loop-literal l = l.bytes.items ≡ l.first.bytes ++ more_characters (texts (take l.literal-index l.more))
