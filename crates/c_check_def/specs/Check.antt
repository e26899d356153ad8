-- What the checker says of a tree: the typed program, or why it is refused.
use Rattle.std.specs.Prelude.{ℕ, ◌==◌, ◌&&◌, Bool, false, if◌then◌else◌, List, [], ◌∷◌, map, codes, Option, None, Some, option_and_then, is_some, slice_get, unwrap_or, Result, Ok, Err}
use Rattle.c_ast.specs.Productions as l
use Rattle.c_ast.specs.Tree.{Tree, Node, Cons}
use Rattle.c_type.specs.Trees.{void_type}
use Rattle.c_typed.specs.Typed.{FunctionTree, GlobalTree, ProgramTree}
use Rattle.c_typed.specs.WellTyped.{int}
use Rattle.c_check_def.specs.Types.{same_type}
use Rattle.c_check_scope.specs.Scopes.{Name, Scope}
use Rattle.c_check_scope.specs.Names.{number_of, with_name}
use Rattle.c_check_def.specs.declared.refusal_kind.Broken.{Broken}
use Rattle.c_check_def.specs.Refusals.{Refusal, rule_broken, no_main}
use Rattle.c_check_def.specs.declared.meaning.Meaning.{Meaning}
use Rattle.c_check_def.specs.declared.meaning.Meaning.TheVariants as means
use Rattle.c_check_def.specs.State.{Global, State, Elaborated, ◌>>=◌, ◌>>◌, pure, state}
use Rattle.c_check_def.specs.Leaves.{name_of}
use Rattle.c_check_def.specs.Calls.{predeclared}
use Rattle.c_check_def.specs.Externals.{external}
use Rattle.c_check_def.specs.Limits.{above_limits}

-- ---- the functions that a file defines

abbrev pub defined_after_type : Tree → Option Name
defined_after_type (Node l.Declared (Cons stars (Cons name (Cons (Node l.Function (Cons opening (Cons params (Cons closing (Cons (Node l.Block children) none))))) more)))) = Some (name_of name)
defined_after_type t = None

abbrev pub defined_by : Tree → Option Name
defined_by (Node l.Static (Cons word (Cons qualifier (Cons specifier (Cons rest none))))) = defined_after_type rest
defined_by (Node l.Const (Cons word (Cons specifier (Cons rest none)))) = defined_after_type rest
defined_by (Node l.Plain (Cons specifier (Cons rest none))) = defined_after_type rest
defined_by (Node l.Struct (Cons word (Cons tag (Cons rest none)))) = defined_after_type rest
defined_by t = None

abbrev pub with_defined : List Name → Option Name → List Name
with_defined names None = names
with_defined names (Some name) = with_name names name

-- their names, in the order of the definitions
abbrev pub defined_in : Tree → List Name
defined_in (Node (l.More k) (Cons before (Cons t none))) = with_defined (defined_in before) (defined_by t)
defined_in t = []

-- ---- the declarations in order

abbrev pub predeclared_names : Scope Meaning
predeclared_names = (codes "exit", means.Function 2) ∷ (codes "getchar", means.Function 1) ∷ (codes "putchar", means.Function 0) ∷ []

abbrev pub initial_state : List Name → State
initial_state names = record {
  broken = None;
  scopes = predeclared_names ∷ [];
  tags = [];
  structs = [];
  members = [];
  defined = names;
  declared = predeclared;
  globals = [];
  variables = [];
  slots = [];
  functions = [];
}

-- A rule is reported at an offset of the declaration that breaks it: the first one that breaks a rule decides.
abbrev pub externals : Tree → Elaborated (Unit {0})
externals (Node (l.More k) (Cons before (Cons t none))) = do
  externals before
  s ← state
  if is_some s.broken then pure tt else external t
externals t = pure tt

-- ---- the program

abbrev pub global_tree : Global → GlobalTree
global_tree g = record { at = g.offset; type = unwrap_or g.type void_type; fixed = g.fixed; written = g.written }

abbrev pub main_number : State → ℕ
main_number s = unwrap_or (number_of s.defined (codes "main")) 0

abbrev pub program_of : State → ProgramTree
program_of s = record { structs = s.structs; functions = s.functions; globals = map global_tree s.globals; main = main_number s }

-- `main` is `int main(void)` (5.1.2.2.1).
abbrev pub is_main : Option FunctionTree → Bool
is_main None = false
is_main (Some f) = same_type f.result int && f.params == 0

abbrev pub has_main : State → Bool
has_main s = is_main (option_and_then (slice_get s.functions) (number_of s.defined (codes "main")))

abbrev pub or_refused : ProgramTree → Option Refusal → Result ProgramTree Refusal
or_refused p None = Ok p
or_refused p (Some r) = Err r

abbrev pub judged : (length : ℕ) → State → Option Broken → Result ProgramTree Refusal
judged length s (Some b) = Err (rule_broken b)
judged length s None = if has_main s then or_refused (program_of s) (above_limits (program_of s)) else Err (no_main length)

-- what the checker answers on the tree of a source of this length
abbrev pub check : Tree → (length : ℕ) → Result ProgramTree Refusal
check unit length = let s = (externals unit (initial_state (defined_in unit))).1 in judged length s s.broken
