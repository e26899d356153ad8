use Rattle.std.proofs.Common.{◌≡◌, ◌-◌}
use Rattle.c_ast.specs.Externals.{param}
use Rattle.c_ast.specs.Expressions.{next}
use Rattle.c_ast.specs.Nodes.{many}
use Rattle.c_ast.specs.Nonterminals.{Many}
use Rattle.c_ast.specs.Productions as production
use Rattle.c_ast.specs.Reader.{read, turns}
use Rattle.c_parse.proofs.external.more_params.Given as goal

abbrev pub invariant-loop-of-read_list : goal.invariant-loop-of-read_list
invariant-loop-of-read_list l =
    read l.fn.fuel (Many production.MoreParams) l.fn.tokens
    ≡ turns (read (l.fn.fuel - 1)) (l.fn.fuel - l._turn) (Many production.MoreParams) (many production.MoreParams (next param) l.more) l.tokens
