-- What stands before the arguments of a call.
use Rattle.std.specs.Prelude.{Bool, true, false}
use Rattle.c_ast.specs.Productions as l
use Rattle.c_ast.specs.Tree.{Tree, Node, Cons}
use Rattle.c_check_def.specs.declared.call.Called.{Called}
use Rattle.c_check_def.specs.State.{Elaborated, ◌>>=◌, pure}
use Rattle.c_check_def.specs.Leaves.{offset_of, name_of}
use Rattle.c_check_def.specs.Calls.{called_name, called_term}
use Rattle.c_check_def.specs.Expressions.{expression}

abbrev pub is_name : Tree → Bool
is_name (Node l.Name (Cons x none)) = true
is_name t = false

-- what is called: a function by its name, or another expression
abbrev pub called_of : Tree → Elaborated Called
called_of (Node l.Name (Cons x none)) = called_name (name_of x) (offset_of x)
called_of t = do
  a ← expression t
  pure (called_term a)
