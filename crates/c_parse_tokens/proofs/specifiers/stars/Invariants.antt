use Rattle.std.proofs.Common.{◌≡◌, ◌-◌}
use Rattle.c_ast.specs.Nonterminals.{Many}
use Rattle.c_ast.specs.Productions as production
use Rattle.c_ast.specs.Specifiers.{stars}
use Rattle.c_ast.specs.Reader.{read, turns}
use Rattle.c_parse_tokens.proofs.specifiers.stars.Given as goal

abbrev pub invariant-loop-turn : goal.invariant-loop-turn
invariant-loop-turn l =
    read l.fn.fuel (Many production.Stars) l.fn.tokens ≡ turns (read (l.fn.fuel - 1)) (l.fn.fuel - l._turn) (Many production.Stars) (stars l.spans) l.tokens
