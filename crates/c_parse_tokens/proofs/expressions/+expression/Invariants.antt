use Rattle.std.proofs.Common.{◌≡◌, ◌-◌, ◌+◌, ◌*◌}
use Rattle.c_ast.specs.Nonterminals.{Many}
use Rattle.c_ast.specs.Expressions.{expr_tree, dimensions, next}
use Rattle.c_ast.specs.Productions as production
use Rattle.c_ast.specs.Nodes.{many}
use Rattle.c_ast.specs.Reader.{read, turns}
use Rattle.c_parse_tokens.specs.Operands.{nonterminal_of}
use Rattle.c_parse_tokens.proofs.expressions.+expression.Given as goal

abbrev pub decreases-arguments : goal.decreases-arguments
decreases-arguments l = 8 * l.fuel

abbrev pub decreases-assign : goal.decreases-assign
decreases-assign l = 8 * l.fuel + 2

abbrev pub decreases-binary : goal.decreases-binary
decreases-binary l = 8 * l.fuel + 2

abbrev pub decreases-boxed_operand : goal.decreases-boxed_operand
decreases-boxed_operand l = 8 * l.fuel + 1

abbrev pub decreases-call : goal.decreases-call
decreases-call l = 8 * l.fuel + 2

abbrev pub decreases-cast : goal.decreases-cast
decreases-cast l = 8 * l.fuel + 2

abbrev pub decreases-conditional : goal.decreases-conditional
decreases-conditional l = 8 * l.fuel + 2

abbrev pub decreases-dimensions : goal.decreases-dimensions
decreases-dimensions l = 8 * l.fuel

abbrev pub decreases-expression : goal.decreases-expression
decreases-expression l = 8 * l.fuel

abbrev pub decreases-increment : goal.decreases-increment
decreases-increment l = 8 * l.fuel + 2

abbrev pub decreases-index : goal.decreases-index
decreases-index l = 8 * l.fuel + 2

abbrev pub decreases-longer : goal.decreases-longer
decreases-longer l = 8 * l.fuel + 3

abbrev pub decreases-more_expressions : goal.decreases-more_expressions
decreases-more_expressions l = 8 * l.fuel

abbrev pub decreases-operand : goal.decreases-operand
decreases-operand l = 8 * l.fuel

abbrev pub decreases-operations : goal.decreases-operations
decreases-operations l = 8 * l.fuel - 1

abbrev pub decreases-parenthesised : goal.decreases-parenthesised
decreases-parenthesised l = 8 * l.fuel + 2

abbrev pub decreases-prefix : goal.decreases-prefix
decreases-prefix l = 8 * l.fuel + 3

abbrev pub decreases-size_of : goal.decreases-size_of
decreases-size_of l = 8 * l.fuel + 2

abbrev pub decreases-type_name : goal.decreases-type_name
decreases-type_name l = 8 * l.fuel

abbrev pub decreases-unary : goal.decreases-unary
decreases-unary l = 8 * l.fuel + 2

abbrev pub invariant-dimensions-loop-turn : goal.invariant-dimensions-loop-turn
invariant-dimensions-loop-turn l =
    read l.fn.fuel (Many production.Dimensions) l.fn.tokens
    ≡ turns (read (l.fn.fuel - 1)) (l.fn.fuel - l._turn) (Many production.Dimensions) (dimensions l.found) l.tokens

abbrev pub invariant-more_expressions-loop-turn : goal.invariant-more_expressions-loop-turn
invariant-more_expressions-loop-turn l =
    read l.fn.fuel (Many production.MoreAssigns) l.fn.tokens
    ≡ turns (read (l.fn.fuel - 1)) (l.fn.fuel - l._turn) (Many production.MoreAssigns) (many production.MoreAssigns (next expr_tree) l.more) l.tokens

abbrev pub invariant-operations-loop-turn : goal.invariant-operations-loop-turn
invariant-operations-loop-turn l =
    turns (read (l.fn.fuel - 1)) l.fn.fuel (nonterminal_of l.fn.precedence) (expr_tree l.fn.left) l.fn.tokens
    ≡ turns (read (l.fn.fuel - 1)) (l.fn.fuel - l._turn) (nonterminal_of l.fn.precedence) (expr_tree l.left) l.tokens
