-- A parameter, from its dimensions, its type and its name on.
use Rattle.std.specs.Prelude.{ℕ, Bool, List, Option}
use Rattle.c_ast.specs.Tree.{Tree}
use Rattle.c_check_scope.specs.Scopes.{Name}
use Rattle.c_check_def.specs.declared.dimension.Dimension.{Dimension}
use Rattle.c_check_def.specs.declared.meaning.Meaning.TheVariants as means
use Rattle.c_check_def.specs.State.{MaybeType, Elaborated, ◌>>=◌, ◌>>◌, pure, add_variable}
use Rattle.c_check_def.specs.Specifiers.{Specified}
use Rattle.c_check_def.specs.DeclaredTypes.{param_type}
use Rattle.c_check_def.specs.Declarators.{open_dimensions, is_fixed}
use Rattle.c_check_def.specs.Externals.{Param, declare_if}

abbrev pub param_named : Option Name → (offset : ℕ) → (fixed : Bool) → MaybeType → Elaborated Param
param_named name offset fixed t = do
  slot ← add_variable t
  declare_if name offset (means.Variable slot fixed)
  pure (record { name = name; offset = offset; type = t; is_const = fixed })

unfoldable pub param_typed : (offset : ℕ) → Specified → (fixed : Bool) → (stars : ℕ) → Option Name → List Dimension → Elaborated Param
param_typed offset x fixed stars name ds = do
  t ← param_type offset x stars ds
  param_named name offset fixed t

unfoldable pub param_specified : (offset : ℕ) → Specified → (is_const : Bool) → (stars : ℕ) → Option Name → (bounds : Tree) → Elaborated Param
param_specified offset x is_const stars name bounds = do
  ds ← open_dimensions bounds
  param_typed offset x (is_fixed is_const stars) stars name ds
