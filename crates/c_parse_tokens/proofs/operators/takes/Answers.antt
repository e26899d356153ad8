use Rattle.std.proofs.Common.{sym}
use Rattle.c_ast.specs.Expressions.{expr_tree}
use Rattle.c_ast.specs.Grammar.{allowed, rule}
use Rattle.c_ast.specs.Reader.{production_of}
use Rattle.c_ast.specs.PredictSets as predict
use Rattle.c_parse_tokens.specs.Operands.{suffix_production}
use Rattle.c_parse_tokens.proofs.OperandLemmas.{includes-operand, left_low}
use Rattle.c_parse_tokens.proofs.operators.takes.Goals as goal

pub returns : goal.returns
unfolding allowed
returns c =
    let s = c.args.suffix in
    rw (c.is_within.ensures, c.precedence_of.ensures, c.left_precedence.ensures)
    (sym (includes-operand (predict.left (suffix_production s)) (left_low s) (rule (production_of (expr_tree c.args.left.now))).of))
