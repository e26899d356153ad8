-- A declaration at file scope where no rule is broken, and one of a function from its parameters on.
use Rattle.std.specs.Prelude.{ℕ, false, List, [], map, is_some, if◌then◌else◌}
use Rattle.c_ast.specs.Tree.{Tree}
use Rattle.c_typed.specs.Typed.{ItemTrees}
use Rattle.c_check_scope.specs.Scopes.{Name}
use Rattle.c_check_def.specs.State.{MaybeType, Elaborated, ◌>>=◌, ◌>>◌, pure, state, change}
use Rattle.c_check_def.specs.Externals.{Param, declare_function, bind_params, is_block, function_body, external}
use Rattle.c_check_def.specs.Statements.{items}

-- after it is declared
abbrev pub function_ended : Name → (offset starts : ℕ) → MaybeType → List Param → (body : Tree) → Elaborated (Unit {0})
function_ended name offset starts t ps body = do
  function_body name offset starts t ps body
  change (λ s. record s { variables = [] })

abbrev pub function_declared : Name → (offset starts : ℕ) → MaybeType → List Param → (body : Tree) → Elaborated (Unit {0})
function_declared name offset starts t ps body = do
  declare_function name offset (record { result = t; params = map (λ (p : Param). p.type) ps; is_defined = is_block body })
  function_ended name offset starts t ps body

-- what a body stands for, with the parameters in scope
abbrev pub body_items : MaybeType → List Param → (items : Tree) → Elaborated ItemTrees
body_items t ps xs = do
  bind_params 0 ps
  items (record { may_break = false; may_continue = false; result = t }) xs

-- a declaration, unless a rule is broken before
abbrev pub unless_broken : Tree → Elaborated (Unit {0})
unless_broken t = do
  s ← state
  if is_some s.broken then pure tt else external t
