-- A declarator of a variable at file scope, from its dimensions, its type and its initialiser on.
use Rattle.std.specs.Prelude.{ℕ, Bool, true, List, [], None, option_and_then}
use Rattle.c_ast.specs.Tree.{Tree}
use Rattle.c_check_scope.specs.Scopes.{Name}
use Rattle.c_check_def.specs.declared.dimension.Dimension.{Dimension}
use Rattle.c_check_def.specs.declared.meaning.Meaning.TheVariants as means
use Rattle.c_check_def.specs.State.{MaybeType, Elaborated, ◌>>=◌, ◌>>◌, declare, add_global, change_global}
use Rattle.c_check_def.specs.Leaves.{is_present}
use Rattle.c_check_def.specs.Specifiers.{Specified}
use Rattle.c_check_def.specs.DeclaredTypes.{object_type}
use Rattle.c_check_def.specs.Initialisers.{initialiser, completed}
use Rattle.c_check_def.specs.Declarators.{open_dimensions, completed_type, written_in, initialise_global}

abbrev pub new_global : (offset : ℕ) → (fixed : Bool) → Elaborated ℕ
new_global offset fixed = add_global (record { offset = offset; type = None; is_variable = true; fixed = fixed; written = [] })

abbrev pub begun_global : (number offset : ℕ) → MaybeType → Tree → Elaborated (Unit {0})
begun_global k offset t x = do
  es ← initialiser true (option_and_then (completed x) t) 0 x
  u ← completed_type offset x t
  change_global k (λ g. record g { type = u; written = written_in u es })

abbrev pub global_typed : (fixed : Bool) → (number : ℕ) → Name → (offset : ℕ) → MaybeType → (initial : Tree) → Elaborated (Unit {0})
global_typed fixed k name offset t begun = do
  change_global k (λ g. record g { type = t })
  declare name offset (means.Global k fixed)
  initialise_global k offset t begun

unfoldable pub global_sized : Specified → (fixed : Bool) → (stars number : ℕ) → Name → (offset : ℕ) → List Dimension → (initial : Tree) → Elaborated (Unit {0})
global_sized x fixed stars k name offset ds begun = do
  t ← object_type (is_present begun) offset x stars ds
  global_typed fixed k name offset t begun

unfoldable pub global_begun : Specified → (fixed : Bool) → (stars number : ℕ) → Name → (offset : ℕ) → (bounds initial : Tree) → Elaborated (Unit {0})
global_begun x fixed stars k name offset bounds begun = do
  ds ← open_dimensions bounds
  global_sized x fixed stars k name offset ds begun
