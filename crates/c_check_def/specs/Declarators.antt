-- Declarations of variables (ISO/IEC 9899:2011, 6.7). A variable is in scope after its declarator, so also in its own
-- initialiser.
use Rattle.std.specs.Prelude.{ℕ, ◌==◌, ◌&&◌, Bool, true, false, List, [], ◌∷◌, ◌++◌, Option, None, Some, option_and_then, slice_get}
use Rattle.c_ast.specs.Productions as l
use Rattle.c_ast.specs.Tree.{Tree, Node, Cons}
use Rattle.c_typed.specs.Typed.{WrittenTree, DeclarationTree, InitialTree, no_initial, ItemTrees, no_items, stmt_then, declare_then}
use Rattle.c_check_scope.specs.Scopes.{Name}
use Rattle.c_check_def.specs.declared.meaning.Meaning.TheVariants as means
use Rattle.c_check_def.specs.State.{MaybeType, Variable, Elaborated, ◌>>=◌, ◌>>◌, pure, state, if_some, declare, variable_in, change_variable, add_variable, add_global, change_global}
use Rattle.c_check_def.specs.Leaves.{offset_of, begin_of, name_of, count_of, is_present}
use Rattle.c_check_def.specs.Specifiers.{Specified, specified_type}
use Rattle.c_check_def.specs.declared.dimension.Dimension.{Dimension}
use Rattle.c_check_def.specs.declared.dimension.Dimension.TheVariants as dimension
use Rattle.c_check_def.specs.DeclaredTypes.{object_type, small_type}
use Rattle.c_check_def.specs.Expressions.{expression, size}
use Rattle.c_check_def.specs.Initialisers.{Elements, initialiser, completed, initial, written}

-- ---- dimensions, of which the first may be left empty

abbrev pub open_dimension : Tree → Elaborated Dimension
open_dimension (Node (l.Present k) (Cons bound none)) = do
  a ← expression bound
  n ← size (begin_of bound) a
  pure (dimension.Sized n)
open_dimension t = pure dimension.Empty

abbrev pub open_dimensions : Tree → Elaborated (List Dimension)
open_dimensions (Node (l.More k) (Cons before (Cons opening (Cons bound none)))) = do
  ds ← open_dimensions before
  d ← open_dimension bound
  pure (ds ++ d ∷ [])
open_dimensions t = pure []

-- ---- variables

-- `const` in front and no `*`: the variable itself does not change
abbrev pub is_fixed : (is_const : Bool) → (stars : ℕ) → Bool
is_fixed is_const stars = is_const && stars == 0

-- the type after the initialiser
abbrev pub completed_type : (offset : ℕ) → Tree → MaybeType → Elaborated MaybeType
completed_type offset x t = if_some (option_and_then (completed x) t) (small_type offset)

-- ---- at file scope: a global has its number from its name on

-- what is written in a variable, where it has a type
abbrev pub written_in : MaybeType → Elements → List WrittenTree
written_in None es = []
written_in (Some t) es = written es

abbrev pub initialise_global : (number offset : ℕ) → MaybeType → Tree → Elaborated (Unit {0})
initialise_global k offset t (Node (l.Present o) (Cons equal (Cons x none))) = do
  es ← initialiser true (option_and_then (completed x) t) 0 x
  u ← completed_type offset x t
  change_global k (λ g. record g { type = u; written = written_in u es })
initialise_global k offset t x = pure tt

abbrev pub global_declarator : Specified → (is_const : Bool) → (stars : ℕ) → Name → (offset : ℕ) → (bounds initial : Tree) → Elaborated (Unit {0})
global_declarator x is_const stars name offset bounds begun = do
  k ← add_global (record { offset = offset; type = None; is_variable = true; fixed = is_fixed is_const stars; written = [] })
  ds ← open_dimensions bounds
  t ← object_type (is_present begun) offset x stars ds
  change_global k (λ g. record g { type = t })
  declare name offset (means.Global k (is_fixed is_const stars))
  initialise_global k offset t begun

abbrev pub global_declared : Specified → (is_const : Bool) → Tree → Elaborated (Unit {0})
global_declared x is_const (Node l.Decl (Cons stars (Cons name (Cons bounds (Cons begun none))))) =
    global_declarator x is_const (count_of stars) (name_of name) (offset_of name) bounds begun
global_declared x is_const t = pure tt

abbrev pub more_globals : Specified → (is_const : Bool) → Tree → Elaborated (Unit {0})
more_globals x is_const (Node (l.More k) (Cons before (Cons comma (Cons t none)))) = do
  more_globals x is_const before
  global_declared x is_const t
more_globals x is_const t = pure tt

-- ---- in a block

abbrev pub is_named : Option Variable → Bool
is_named None = false
is_named (Some v) = v.is_named

abbrev pub variable_declared : (slot : ℕ) → InitialTree → Elaborated DeclarationTree
variable_declared slot i = do
  s ← state
  let k = variable_in s.slots slot
  pure (record { variable = k; names_itself = is_named (slice_get s.variables k); initial = i })

abbrev pub initialise_variable : (slot offset : ℕ) → MaybeType → Tree → Elaborated InitialTree
initialise_variable slot offset t (Node (l.Present o) (Cons equal (Cons x none))) = do
  es ← initialiser false (option_and_then (completed x) t) 0 x
  u ← completed_type offset x t
  change_variable slot (λ v. record v { type = u })
  pure (initial es u)
initialise_variable slot offset t x = pure no_initial

abbrev pub variable_declarator : Specified → (is_const : Bool) → (stars : ℕ) → Name → (offset : ℕ) → (bounds initial : Tree) → Elaborated DeclarationTree
variable_declarator x is_const stars name offset bounds begun = do
  ds ← open_dimensions bounds
  t ← object_type (is_present begun) offset x stars ds
  slot ← add_variable t
  declare name offset (means.Variable slot (is_fixed is_const stars))
  i ← initialise_variable slot offset t begun
  variable_declared slot i

-- the items of a block, before others
abbrev pub items_joined : ItemTrees → ItemTrees → ItemTrees
items_joined no_items ys = ys
items_joined (stmt_then s xs) ys = stmt_then s (items_joined xs ys)
items_joined (declare_then d xs) ys = declare_then d (items_joined xs ys)

abbrev pub declarator : Specified → (is_const : Bool) → Tree → Elaborated ItemTrees
declarator x is_const (Node l.Decl (Cons stars (Cons name (Cons bounds (Cons begun none))))) = do
  d ← variable_declarator x is_const (count_of stars) (name_of name) (offset_of name) bounds begun
  pure (declare_then d no_items)
declarator x is_const t = pure no_items

abbrev pub more_declarators : Specified → (is_const : Bool) → Tree → Elaborated ItemTrees
more_declarators x is_const (Node (l.More k) (Cons before (Cons comma (Cons t none)))) = do
  ds ← more_declarators x is_const before
  d ← declarator x is_const t
  pure (items_joined ds d)
more_declarators x is_const t = pure no_items

abbrev pub locals : Tree → Elaborated ItemTrees
locals (Node l.Locals (Cons qualifier (Cons specifier (Cons first (Cons more none))))) = do
  x ← specified_type specifier
  d ← declarator x (is_present qualifier) first
  ds ← more_declarators x (is_present qualifier) more
  pure (items_joined d ds)
locals t = pure no_items
