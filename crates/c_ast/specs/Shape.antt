-- Shaped trees: those of the programs of the language.
use Rattle.std.specs.Prelude.{◌≤◌}
use Rattle.base.specs.Limits.{most_nesting}
use Rattle.c_ast.specs.Nonterminals.{Many}
use Rattle.c_ast.specs.Grammar.{Fits, One}
use Rattle.c_ast.specs.Productions.{Externals}
use Rattle.c_ast.specs.Nesting.{depth}
use Rattle.c_ast.specs.Spelling.{spell}
use Rattle.c_ast.specs.Tree.{Tree}

-- a unit, `{ structdef | function | globals }`, its nesting apart
abbrev pub FollowsGrammar : Tree → Type 0
FollowsGrammar t = Fits (One (Many Externals)) t

-- It follows the grammar, and its spelling is nested at most as deep as the language allows.
abbrev pub Shaped : Tree → Type 0
Shaped t = FollowsGrammar t × (depth (spell t) ≤ most_nesting)
