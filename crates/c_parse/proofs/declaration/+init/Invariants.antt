use Rattle.std.proofs.Common.{◌≡◌, ◌-◌, ◌+◌, ◌*◌}
use Rattle.c_ast.specs.Nonterminals.{InitItems}
use Rattle.c_ast.specs.Reader.{read, turns}
use Rattle.c_parse.specs.Made.{inits_tree}
use Rattle.c_parse.proofs.declaration.+init.Given as goal

abbrev pub decreases-init : goal.decreases-init
decreases-init l = 2 * l.fuel

abbrev pub decreases-init_list : goal.decreases-init_list
decreases-init_list l = 2 * l.fuel + 1

abbrev pub decreases-init_items : goal.decreases-init_items
decreases-init_items l = 2 * l.fuel

abbrev pub decreases-more_inits : goal.decreases-more_inits
decreases-more_inits l = 2 * l.fuel + 1

abbrev pub invariant-init_items-loop-turn : goal.invariant-init_items-loop-turn
invariant-init_items-loop-turn l =
    read l.fn.fuel InitItems l.fn.tokens
    ≡ turns (read (l.fn.fuel - 1)) (l.fn.fuel - l._turn) InitItems (inits_tree l.inits) l.tokens
