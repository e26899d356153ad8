-- The bound of a dimension, and what a variable begins with.
use Rattle.std.specs.Prelude.{ℕ, Bool, false, List, option_and_then}
use Rattle.c_ast.specs.Tree.{Tree}
use Rattle.c_typed.specs.Typed.{InitialTree, DeclarationTree}
use Rattle.c_check_def.specs.declared.dimension.Dimension.{Dimension}
use Rattle.c_check_def.specs.declared.dimension.Dimension.TheVariants as dimension
use Rattle.c_check_def.specs.State.{MaybeType, Elaborated, ◌>>=◌, ◌>>◌, pure, change_variable, add_variable, declare}
use Rattle.c_check_def.specs.Leaves.{begin_of, is_present}
use Rattle.c_check_def.specs.Expressions.{expression, size}
use Rattle.c_check_def.specs.Initialisers.{initialiser, completed, initial}
use Rattle.c_check_def.specs.Declarators.{completed_type, initialise_variable, variable_declared}
use Rattle.c_check_def.specs.DeclaredTypes.{object_type}
use Rattle.c_check_def.specs.Specifiers.{Specified}
use Rattle.c_check_def.specs.declared.meaning.Meaning.TheVariants as means
use Rattle.c_check_scope.specs.Scopes.{Name}

-- a dimension with this bound
abbrev pub bound_dimension : Tree → Elaborated Dimension
bound_dimension bound = do
  a ← expression bound
  n ← size (begin_of bound) a
  pure (dimension.Sized n)

-- what a variable begins with, where it has an initialiser
abbrev pub begun_variable : (slot offset : ℕ) → MaybeType → Tree → Elaborated InitialTree
begun_variable slot offset t x = do
  es ← initialiser false (option_and_then (completed x) t) 0 x
  u ← completed_type offset x t
  change_variable slot (λ v. record v { type = u })
  pure (initial es u)

-- ---- a declarator of a variable, from its initialiser, its name, and its type on

abbrev pub variable_begun : (slot offset : ℕ) → MaybeType → (initial : Tree) → Elaborated DeclarationTree
variable_begun slot offset t begun = do
  i ← initialise_variable slot offset t begun
  variable_declared slot i

abbrev pub variable_named : (fixed : Bool) → Name → (offset : ℕ) → MaybeType → (initial : Tree) → Elaborated DeclarationTree
variable_named fixed name offset t begun = do
  slot ← add_variable t
  declare name offset (means.Variable slot fixed)
  variable_begun slot offset t begun

unfoldable pub variable_typed : Specified → (fixed : Bool) → (stars : ℕ) → Name → (offset : ℕ) → List Dimension → (initial : Tree) → Elaborated DeclarationTree
variable_typed x fixed stars name offset ds begun = do
  t ← object_type (is_present begun) offset x stars ds
  variable_named fixed name offset t begun
