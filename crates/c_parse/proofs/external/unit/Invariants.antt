use Rattle.std.proofs.Common.{◌≡◌, ◌-◌, [], ◌∷◌}
use Rattle.c_ast.specs.Externals.{external_tree}
use Rattle.c_ast.specs.Nodes.{many}
use Rattle.c_ast.specs.Nonterminals.{Many}
use Rattle.c_ast.specs.Productions as production
use Rattle.c_ast.specs.Reader.{read, turns}
use Rattle.c_parse.proofs.external.unit.Given as goal

abbrev pub invariant-loop-turn : goal.invariant-loop-turn
invariant-loop-turn l =
    read l.fn.fuel (Many production.Externals) l.fn.tokens
    ≡ turns (read (l.fn.fuel - 1)) (l.fn.fuel - l._turn) (Many production.Externals) (many production.Externals (λ x. external_tree x ∷ []) l.externals) l.tokens
