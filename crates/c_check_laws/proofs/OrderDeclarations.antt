-- Declarations of variables, and initialisers, add globals in the order of the tokens.
use Rattle.std.proofs.Common.{ℕ, ◌+◌, Bool, true, false, List, [], ◌++◌, refl, ap, ◌∙◌}
use Rattle.std.specs.Prelude.{Option, None, Some, option_and_then, if◌then◌else◌}
use Rattle.c_lex.specs.declared.token.Token.{Token}
use Rattle.c_ast.specs.Productions as l
use Rattle.c_ast.specs.Tree.{Tree, Leaf, Node, Cons}
use Rattle.c_typed.specs.Typed as typed
use Rattle.c_check_scope.specs.Scopes.{Name}
use Rattle.c_check_def.specs.declared.meaning.Meaning.TheVariants as means
use Rattle.c_check_def.specs.State.{MaybeType, Global, State, pure, if_some, declare, add_variable, add_global, change_global}
use Rattle.c_check_def.specs.Leaves.{offset_of, begin_of, name_of, characters_of, count_of, is_present}
use Rattle.c_check_def.specs.Specifiers.{Specified, specified_type}
use Rattle.c_check_def.specs.DeclaredTypes.{object_type}
use Rattle.c_check_def.specs.Expressions.{more_characters, expression}
use Rattle.c_check_def.specs.Initialisers.{value, character_array, string_for, sets_to_zero, count_in, part_of, part_at, list_for, initialiser, elements, completed}
use Rattle.c_check_def.specs.Declarators.{open_dimension, open_dimensions, is_fixed, completed_type, written_in, initialise_global, global_declarator, global_declared, more_globals, initialise_variable, variable_declarator, declarator, more_declarators, locals}
use Rattle.c_check_laws.proofs.lemmas.Quiet.{if_some_quiet, specified_type_quiet, size_quiet, object_type_quiet, value_read_quiet, characters_quiet, list_for_quiet, completed_type_quiet, declare_quiet}
use Rattle.c_check_laws.proofs.Order.{places, KeepsOrder, over, same, then_same, then_quiet, in_turn, past, node, ended, added, changed_places, Named}
use Rattle.c_check_laws.proofs.OrderExpressions.{expression_order}

-- ---- initialisers

value_order : (is_static : Bool) (t : MaybeType) (n : ℕ) (x : Tree) (s : State) → Named x → KeepsOrder x s (value is_static t n x s).1
value_order is_static t n x s r = let a = expression x s in then_quiet (expression_order x s r) (value_read_quiet is_static t n (begin_of x) a.0 a.1)

string_for_order : (is_static : Bool) (t : MaybeType) (n : ℕ) (x : Tree) (cs : List ℕ) (m : Option ℕ) (s : State) → Named x → KeepsOrder x s (string_for is_static t n x cs m s).1
string_for_order is_static t n x cs None s r = value_order is_static t n x s r
string_for_order is_static t n x cs (Some m) s r = same (characters_quiet n (begin_of x) cs m s)

mutual
  initialiser_order : (is_static : Bool) (t : MaybeType) (n : ℕ) (x : Tree) (s : State) → Named x → KeepsOrder x s (initialiser is_static t n x s).1
  initialiser_order is_static t n (Node l.InitList (Cons opening (Cons items closing))) s r =
      node (past (by_test (sets_to_zero t items) (elements_order is_static t n items s r.1.0)))
    where
      by_test : (b : Bool) → KeepsOrder items s (elements is_static t n items s).1 →
          KeepsOrder (Cons items closing) s ((if b then pure (Some typed.no_elements) else (λ s. (if_some (elements is_static t n items s).0 (list_for t (offset_of opening) (count_in items))
          (elements is_static t n items s).1))) s).1
      by_test true h = over
      by_test false h =
          let q = elements is_static t n items s in
          in_turn h (same (if_some_quiet q.0 (list_for t (offset_of opening) (count_in items)) (list_for_quiet t (offset_of opening) (count_in items)) q.1))
  initialiser_order is_static t n (Node l.Text (Cons x (Cons xs none))) s r =
      string_for_order is_static t n (Node l.Text (Cons x (Cons xs none))) (characters_of x ++ more_characters xs) (option_and_then character_array t) s r
  initialiser_order is_static t n x s r = value_order is_static t n x s r

  elements_order : (is_static : Bool) (t : MaybeType) (n : ℕ) (x : Tree) (s : State) → Named x → KeepsOrder x s (elements is_static t n x s).1
  elements_order is_static t n (Node l.InitFirst (Cons x none)) s r = node (in_turn (initialiser_order is_static (part_of s.structs t 0) (n + part_at s.structs t 0) x s r.0) over)
  elements_order is_static t n (Node l.InitComma (Cons before more)) s r = node (in_turn (elements_order is_static t n before s r.0) over)
  elements_order is_static t n (Node l.InitNext (Cons before (Cons x none))) s r =
      let xs = elements is_static t n before s in
      node (in_turn (elements_order is_static t n before s r.0)
      (in_turn (initialiser_order is_static (part_of xs.1.structs t (count_in before)) (n + part_at xs.1.structs t (count_in before)) x xs.1 r.1.0) over))
  elements_order is_static t n x s r = over

-- ---- dimensions

open_dimension_order : (t : Tree) (s : State) → Named t → KeepsOrder t s (open_dimension t s).1
open_dimension_order (Node (l.Present k) (Cons bound none)) s r =
    let a = expression bound s in node (in_turn (expression_order bound s r.0) (same (size_quiet (begin_of bound) a.0 a.1)))
open_dimension_order t s r = over

pub open_dimensions_order : (t : Tree) (s : State) → Named t → KeepsOrder t s (open_dimensions t s).1
open_dimensions_order (Node (l.More k) (Cons before (Cons opening (Cons bound none)))) s r =
    let ds = open_dimensions before s in node (in_turn (open_dimensions_order before s r.0) (past (in_turn (open_dimension_order bound ds.1 r.1.1.0) over)))
open_dimensions_order t s r = over

-- ---- at file scope

initialise_global_order : (k offset : ℕ) (t : MaybeType) (x : Tree) (s : State) → Named x → KeepsOrder x s (initialise_global k offset t x s).1
initialise_global_order k offset t (Node (l.Present o) (Cons equal (Cons x none))) s r =
    let es = initialiser true (option_and_then (completed x) t) 0 x s in
    let u = completed_type offset x t es.1 in
    node (past (in_turn
    (then_same (initialiser_order true (option_and_then (completed x) t) 0 x s r.1.0)
    (changed_places (λ g. record g { type = u.0; written = written_in u.0 es.0 }) (λ g. refl) k u.1.globals ∙ ap places (completed_type_quiet offset x t es.1))) over))
initialise_global_order k offset t x s r = over

-- a variable stands at its name
pub global_declarator_order : (x : Specified) (is_const : Bool) (stars : ℕ) (name : Name) (token : Token) (bounds begun : Tree) (s : State) → Named bounds → Named begun →
    KeepsOrder (Cons (Leaf token) (Cons bounds begun)) s (global_declarator x is_const stars name token.at bounds begun s).1
global_declarator_order x is_const stars name token bounds begun s b i =
    let new : Global = record { offset = token.at; type = None; is_variable = true; fixed = is_fixed is_const stars; written = [] } in
    let k = add_global new s in
    let ds = open_dimensions bounds k.1 in
    let t = object_type (is_present begun) token.at x stars ds.0 ds.1 in
    let g = change_global k.0 (λ g. record g { type = t.0 }) t.1 in
    let d = declare name token.at (means.Global k.0 (is_fixed is_const stars)) g.1 in
    in_turn (added token new s refl) (in_turn
    (then_same (open_dimensions_order bounds k.1 b)
    (ap places (declare_quiet name token.at (means.Global k.0 (is_fixed is_const stars)) g.1)
    ∙ changed_places (λ g. record g { type = t.0 }) (λ g. refl) k.0 t.1.globals
    ∙ ap places (object_type_quiet (is_present begun) token.at x stars ds.0 ds.1)))
    (initialise_global_order k.0 token.at t.0 begun d.1 i))

global_declared_order : (x : Specified) (is_const : Bool) (t : Tree) (s : State) → Named t → KeepsOrder t s (global_declared x is_const t s).1
global_declared_order x is_const (Node l.Decl (Cons stars (Cons (Leaf token) (Cons bounds (Cons begun none))))) s r =
    node (past (ended (global_declarator_order x is_const (count_of stars) (name_of (Leaf token)) token bounds begun s r.1.0 r.1.1.0)))
global_declared_order x is_const (Node l.Decl (Cons stars (Cons name (Cons bounds (Cons begun none))))) s r = absurd r.0
global_declared_order x is_const t s r = over

pub more_globals_order : (x : Specified) (is_const : Bool) (t : Tree) (s : State) → Named t → KeepsOrder t s (more_globals x is_const t s).1
more_globals_order x is_const (Node (l.More k) (Cons before (Cons comma (Cons t none)))) s r =
    let b = more_globals x is_const before s in node (in_turn (more_globals_order x is_const before s r.0) (past (in_turn (global_declared_order x is_const t b.1 r.1.1.0) over)))
more_globals_order x is_const t s r = over

-- ---- in a block

initialise_variable_order : (slot offset : ℕ) (t : MaybeType) (x : Tree) (s : State) → Named x → KeepsOrder x s (initialise_variable slot offset t x s).1
initialise_variable_order slot offset t (Node (l.Present o) (Cons equal (Cons x none))) s r =
    let es = initialiser false (option_and_then (completed x) t) 0 x s in
    node (past (in_turn (then_quiet (initialiser_order false (option_and_then (completed x) t) 0 x s r.1.0) (completed_type_quiet offset x t es.1)) over))
initialise_variable_order slot offset t x s r = over

variable_declarator_order : (x : Specified) (is_const : Bool) (stars : ℕ) (name : Name) (offset : ℕ) (bounds begun : Tree) (s : State) → Named bounds → Named begun →
    KeepsOrder (Cons bounds begun) s (variable_declarator x is_const stars name offset bounds begun s).1
variable_declarator_order x is_const stars name offset bounds begun s b i =
    let ds = open_dimensions bounds s in
    let t = object_type (is_present begun) offset x stars ds.0 ds.1 in
    let slot = add_variable t.0 t.1 in
    let m = means.Variable slot.0 (is_fixed is_const stars) in
    let d = declare name offset m slot.1 in
    in_turn (then_quiet (open_dimensions_order bounds s b) (declare_quiet name offset m slot.1 ∙ object_type_quiet (is_present begun) offset x stars ds.0 ds.1))
    (initialise_variable_order slot.0 offset t.0 begun d.1 i)

declarator_order : (x : Specified) (is_const : Bool) (t : Tree) (s : State) → Named t → KeepsOrder t s (declarator x is_const t s).1
declarator_order x is_const (Node l.Decl (Cons stars (Cons name (Cons bounds (Cons begun none))))) s r =
    node (past (ended (past (variable_declarator_order x is_const (count_of stars) (name_of name) (offset_of name) bounds begun s r.1.0 r.1.1.0))))
declarator_order x is_const t s r = over

more_declarators_order : (x : Specified) (is_const : Bool) (t : Tree) (s : State) → Named t → KeepsOrder t s (more_declarators x is_const t s).1
more_declarators_order x is_const (Node (l.More k) (Cons before (Cons comma (Cons t none)))) s r =
    let b = more_declarators x is_const before s in node (in_turn (more_declarators_order x is_const before s r.0) (past (in_turn (declarator_order x is_const t b.1 r.1.1.0) over)))
more_declarators_order x is_const t s r = over

pub locals_order : (t : Tree) (s : State) → Named t → KeepsOrder t s (locals t s).1
locals_order (Node l.Locals (Cons qualifier (Cons specifier (Cons first (Cons more none))))) s r =
    let x = specified_type specifier s in
    let d = declarator x.0 (is_present qualifier) first x.1 in
    node (past (in_turn (same (specified_type_quiet specifier s)) (in_turn (declarator_order x.0 (is_present qualifier) first x.1 r.1.1.0)
    (in_turn (more_declarators_order x.0 (is_present qualifier) more d.1 r.1.1.1.0) over))))
locals_order t s r = over
