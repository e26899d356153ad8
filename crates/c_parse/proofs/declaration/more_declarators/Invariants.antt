use Rattle.std.proofs.Common.{◌≡◌, ◌-◌}
use Rattle.c_ast.specs.Declarations.{more_declarators}
use Rattle.c_ast.specs.Nonterminals.{Many}
use Rattle.c_ast.specs.Productions as production
use Rattle.c_ast.specs.Reader.{read, turns}
use Rattle.c_parse.proofs.declaration.more_declarators.Given as goal

abbrev pub invariant-loop-of-read_list : goal.invariant-loop-of-read_list
invariant-loop-of-read_list l =
    read l.fn.fuel (Many production.MoreDecls) l.fn.tokens
    ≡ turns (read (l.fn.fuel - 1)) (l.fn.fuel - l._turn) (Many production.MoreDecls) (more_declarators l.more) l.tokens
