use Rattle.std.proofs.Common.{◌≡◌, ◌-◌, ◌+◌, ◌*◌}
use Rattle.c_ast.specs.Nonterminals.{Many}
use Rattle.c_ast.specs.Productions as production
use Rattle.c_ast.specs.Statements.{items_tree, groups_tree, stmts_tree}
use Rattle.c_ast.specs.Reader.{read, turns}
use Rattle.c_parse.proofs.statement.+statement.Given as goal

abbrev pub decreases-block : goal.decreases-block
decreases-block l = 8 * l.fuel - 1

abbrev pub decreases-boxed_statement : goal.decreases-boxed_statement
decreases-boxed_statement l = 8 * l.fuel + 1

abbrev pub decreases-do_statement : goal.decreases-do_statement
decreases-do_statement l = 8 * l.fuel + 2

abbrev pub decreases-for_statement : goal.decreases-for_statement
decreases-for_statement l = 8 * l.fuel + 2

abbrev pub decreases-group : goal.decreases-group
decreases-group l = 8 * l.fuel

abbrev pub decreases-groups : goal.decreases-groups
decreases-groups l = 8 * l.fuel

abbrev pub decreases-if_rest : goal.decreases-if_rest
decreases-if_rest l = 8 * l.fuel - 2

abbrev pub decreases-if_statement : goal.decreases-if_statement
decreases-if_statement l = 8 * l.fuel - 1

abbrev pub decreases-item : goal.decreases-item
decreases-item l = 8 * l.fuel + 1

abbrev pub decreases-items : goal.decreases-items
decreases-items l = 8 * l.fuel

abbrev pub decreases-labelled : goal.decreases-labelled
decreases-labelled l = 8 * l.fuel + 2

abbrev pub decreases-more_statements : goal.decreases-more_statements
decreases-more_statements l = 8 * l.fuel

abbrev pub decreases-statement : goal.decreases-statement
decreases-statement l = 8 * l.fuel

abbrev pub decreases-switch_statement : goal.decreases-switch_statement
decreases-switch_statement l = 8 * l.fuel + 2

abbrev pub decreases-while_statement : goal.decreases-while_statement
decreases-while_statement l = 8 * l.fuel + 2

abbrev pub invariant-items-loop-of-read_list : goal.invariant-items-loop-of-read_list
invariant-items-loop-of-read_list l =
    read l.fn.fuel (Many production.Items) l.fn.tokens
    ≡ turns (read (l.fn.fuel - 1)) (l.fn.fuel - l._turn) (Many production.Items) (items_tree l.items) l.tokens

abbrev pub invariant-groups-loop-of-read_list : goal.invariant-groups-loop-of-read_list
invariant-groups-loop-of-read_list l =
    read l.fn.fuel (Many production.Groups) l.fn.tokens
    ≡ turns (read (l.fn.fuel - 1)) (l.fn.fuel - l._turn) (Many production.Groups) (groups_tree l.groups) l.tokens

abbrev pub invariant-more_statements-loop-of-read_list : goal.invariant-more_statements-loop-of-read_list
invariant-more_statements-loop-of-read_list l =
    read l.fn.fuel (Many production.MoreStmts) l.fn.tokens
    ≡ turns (read (l.fn.fuel - 1)) (l.fn.fuel - l._turn) (Many production.MoreStmts) (stmts_tree l.more) l.tokens
