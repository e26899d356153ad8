-- Statements and declarations lead to later states.
use Rattle.std.proofs.Common.{◌≡◌, ◌≤◌, ℕ, ◌+◌, zero, suc, Bool, true, false, List, [], ◌∷◌, ◌++◌, length, refl, ap, ◌∙◌, arith}
use Rattle.std.specs.Prelude.{slice_get, slice_set, Option, None, Some, option_and_then, unwrap_or, if◌then◌else◌, nat_le, not, ◌||◌, ◌&&◌}
use Rattle.c_ast.specs.Productions as l
use Rattle.c_ast.specs.Tree.{Tree, Node, Cons}
use Rattle.c_type.specs.Trees.{TypeTree}
use Rattle.c_typed.specs.Typed as typed
use Rattle.c_typed.specs.Typed.{ElementTrees, StmtTree}
use Rattle.c_check_def.specs.declared.operand.Operand.{Operand}
use Rattle.c_check_scope.specs.Scopes.{Name}
use Rattle.c_check_def.specs.declared.dimension.Dimension.{Dimension}
use Rattle.c_check_def.specs.declared.meaning.Meaning.{Meaning}
use Rattle.c_check_def.specs.declared.meaning.Meaning.TheVariants as means
use Rattle.c_check_def.specs.declared.refusal_kind.RefusalKind.TheVariants.{Redeclared, BadInitialiser, BadType, BadReturn, BadJump, NotConstant, BadLabel}
use Rattle.c_check_def.specs.State.{MaybeType, Variable, State, pure, breaks_if, broken_at, or_broken, if_some, changed_by, variable_in, change_variable, add_variable, declare}
use Rattle.c_check_def.specs.Leaves.{offset_of, begin_of, name_of, characters_of, count_of, is_present}
use Rattle.c_check_def.specs.Specifiers.{Specified, specified_type}
use Rattle.c_check_def.specs.DeclaredTypes.{is_object_of, arrays_of, sizes_of, type_if, small_type, unless_empty, starred, object_type, other_is_empty, first_is_empty}
use Rattle.c_check_def.specs.Operands.{Term, term_constant}
use Rattle.c_check_def.specs.Expressions.{more_characters, expression, expressions}
use Rattle.c_check_def.specs.Initialisers.{converted, value_read, value, character_array, characters, string_for, sets_to_zero, count_in, part_of, part_at, parts_of, takes, list_for, initialiser, elements, completed}
use Rattle.c_check_def.specs.Declarators.{open_dimension, open_dimensions, completed_type, initialise_variable, variable_declarator, declarator, more_declarators, locals, is_fixed}
use Rattle.c_check_def.specs.Statements.{Jumps, in_loop, in_switch, whole, condition, subject, condition_clause, value_clause, jump, gives_none, returned, Labels, next_group, case_label, label, more_labels, Groups, for_start, statement, items, groups, group}
use Rattle.c_check_laws.proofs.lemmas.ExpressionShapes.{IsExpression}
use Rattle.c_check_laws.proofs.lemmas.States.{Step, stay, step_then}
use Rattle.c_check_laws.proofs.lemmas.Steps.{Steps, breaks_if_steps, or_broken_steps, if_some_steps, type_if_steps, small_type_steps, starred_steps, size_steps, expression_steps, expressions_steps, specified_type_steps}
use Rattle.c_check_laws.proofs.lemmas.Terms.{get_end}
use Rattle.c_check_laws.proofs.lemmas.Later.{AreMore, Later, Still, later_then, still_then, step_still, stay_still, HasScope, still_has_scope, entered, within_still, add_variable_later, declare_after}

-- ---- initialisers only take steps

converted_steps : (t : MaybeType) (n offset : ℕ) (a : Operand) → Steps (converted t n offset a)
converted_steps None n offset a s = stay s
converted_steps (Some t) n offset a s = or_broken_steps _ offset _ s

pub value_read_steps : (is_static : Bool) (t : MaybeType) (n offset : ℕ) (a : Term) → Steps (value_read is_static t n offset a)
value_read_steps is_static t n offset a s =
    let r = breaks_if _ NotConstant offset s in step_then s r.1 _ (breaks_if_steps _ NotConstant offset s) (if_some_steps a (converted t n offset) (converted_steps t n offset) r.1)

value_steps : (is_static : Bool) (t : MaybeType) (n : ℕ) (x : Tree) → Steps (value is_static t n x)
value_steps is_static t n x s = let a = expression x s in step_then s a.1 _ (expression_steps x s) (value_read_steps is_static t n (begin_of x) a.0 a.1)

characters_steps : (n offset : ℕ) (cs : List ℕ) (length : ℕ) → Steps (characters n offset cs length)
characters_steps n offset cs m s = by_test (nat_le (length cs) m)
  where
    by_test : (t : Bool) → Step s ((if t then pure (Some (typed.characters_then n cs typed.no_elements)) else broken_at BadInitialiser offset) s).1
    by_test true = stay s
    by_test false = or_broken_steps {A = ElementTrees} BadInitialiser offset None s

string_for_steps : (is_static : Bool) (t : MaybeType) (n : ℕ) (x : Tree) (cs : List ℕ) (m : Option ℕ) → Steps (string_for is_static t n x cs m)
string_for_steps is_static t n x cs None s = value_steps is_static t n x s
string_for_steps is_static t n x cs (Some m) s = characters_steps n (begin_of x) cs m s

pub list_for_steps : (t : MaybeType) (offset count : ℕ) (es : ElementTrees) → Steps (list_for t offset count es)
list_for_steps None offset count es s = stay s
list_for_steps (Some t) offset count es s = by_test (takes (parts_of s.structs t) count)
  where
    by_test : (t : Bool) → Step s ((if t then pure (Some es) else broken_at BadInitialiser offset) s).1
    by_test true = stay s
    by_test false = or_broken_steps {A = ElementTrees} BadInitialiser offset None s

mutual
  pub initialiser_steps : (is_static : Bool) (t : MaybeType) (n : ℕ) (x : Tree) → Steps (initialiser is_static t n x)
  initialiser_steps is_static t n (Node l.InitList (Cons opening (Cons items closing))) s =
      by_test (sets_to_zero t items) (elements_steps is_static t n items s)
    where
      by_test : (b : Bool) → Step s (elements is_static t n items s).1 →
          Step s ((if b then pure (Some typed.no_elements) else (λ s. (if_some (elements is_static t n items s).0 (list_for t (offset_of opening) (count_in items))
          (elements is_static t n items s).1))) s).1
      by_test true h = stay s
      by_test false h = let r = elements is_static t n items s in step_then s r.1 _ h (if_some_steps r.0 (list_for t (offset_of opening) (count_in items)) (list_for_steps t (offset_of opening)
          (count_in items)) r.1)
  initialiser_steps is_static t n (Node l.Text (Cons x (Cons xs none))) s =
      string_for_steps is_static t n (Node l.Text (Cons x (Cons xs none))) (characters_of x ++ more_characters xs) (option_and_then character_array t) s
  initialiser_steps is_static t n x s = value_steps is_static t n x s

  pub elements_steps : (is_static : Bool) (t : MaybeType) (n : ℕ) (x : Tree) → Steps (elements is_static t n x)
  elements_steps is_static t n (Node l.InitFirst (Cons x none)) s = initialiser_steps is_static (part_of s.structs t 0) (n + part_at s.structs t 0) x s
  elements_steps is_static t n (Node l.InitComma (Cons before more)) s = elements_steps is_static t n before s
  elements_steps is_static t n (Node l.InitNext (Cons before (Cons x none))) s =
      let xs = elements is_static t n before s in
      step_then s xs.1 _ (elements_steps is_static t n before s) (initialiser_steps is_static (part_of xs.1.structs t (count_in before)) (n + part_at xs.1.structs t (count_in before)) x xs.1)
  elements_steps is_static t n x s = stay s

-- ---- declarators

pub open_dimension_steps : (t : Tree) → Steps (open_dimension t)
open_dimension_steps (Node (l.Present k) (Cons bound none)) s = let a = expression bound s in step_then s a.1 _ (expression_steps bound s) (size_steps (begin_of bound) a.0 a.1)
open_dimension_steps t s = stay s

pub open_dimensions_steps : (t : Tree) → Steps (open_dimensions t)
open_dimensions_steps (Node (l.More k) (Cons before (Cons opening (Cons bound none)))) s =
    let ds = open_dimensions before s in step_then s ds.1 _ (open_dimensions_steps before s) (open_dimension_steps bound ds.1)
open_dimensions_steps t s = stay s

pub unless_empty_steps : (wrong : Bool) (offset : ℕ) (t : MaybeType) → Steps (unless_empty wrong offset t)
unless_empty_steps true offset t s = or_broken_steps {A = TypeTree} BadType offset None s
unless_empty_steps false offset t s = stay s

pub object_type_steps : (may_be_empty : Bool) (offset : ℕ) (x : Specified) (stars : ℕ) (ds : List Dimension) → Steps (object_type may_be_empty offset x stars ds)
object_type_steps may_be_empty offset x stars ds s =
    let u = starred x stars offset s in
    let t = if_some u.0 (λ t. type_if (not (is_object_of s.structs t)) offset t) u.1 in
    let v = if_some (arrays_of t.0 (sizes_of ds)) (small_type offset) t.1 in
    step_then s u.1 _ (starred_steps x stars offset s)
    (step_then u.1 t.1 _ (if_some_steps u.0 _ (λ t. type_if_steps (not (is_object_of s.structs t)) offset t) u.1)
    (step_then t.1 v.1 _ (if_some_steps (arrays_of t.0 (sizes_of ds)) (small_type offset) (small_type_steps offset) t.1)
    (unless_empty_steps (other_is_empty ds || (first_is_empty ds && not may_be_empty)) offset v.0 v.1)))

pub completed_type_steps : (offset : ℕ) (x : Tree) (t : MaybeType) → Steps (completed_type offset x t)
completed_type_steps offset x t s = if_some_steps (option_and_then (completed x) t) (small_type offset) (small_type_steps offset) s

-- a later state, with one more variable in one more slot
pub record Begun (s t : State) : Type 0 where
  pub later : Later s t
  pub slots : t.slots ≡ s.slots ++ length s.variables ∷ []

pub begun_step : (s t u : State) → Begun s t → Step t u → Begun s u
begun_step s t u h a = record { later = later_then s t u h.later (step_still t u a).later; slots = a.slots ∙ h.slots }

pub declare_later : (name : Name) (offset : ℕ) (m : Meaning) (s : State) → Later s (declare name offset m s).1
declare_later name offset m s =
    let r = breaks_if _ Redeclared offset s in
    later_then s r.1 _ (step_still s r.1 (breaks_if_steps _ Redeclared offset s)).later (declare_after name m r.1)

pub declare_slots : (name : Name) (offset : ℕ) (m : Meaning) (s : State) → (declare name offset m s).1.slots ≡ s.slots
declare_slots name offset m s = (breaks_if_steps _ Redeclared offset s).slots

set_beyond : (us vs : List Variable) (k : ℕ) (v : Variable) → AreMore us vs → length us ≤ k → AreMore us (slice_set vs k v)
set_beyond [] vs k v a h = tt
set_beyond (u ∷ us) [] k v a h = absurd a
set_beyond (u ∷ us) (w ∷ vs) zero v a h = absurd (omega (arith, h))
set_beyond (u ∷ us) (w ∷ vs) (suc k) v a h = (a.0, a.1, set_beyond us vs k v a.2 (omega (arith, h)))

-- the new variable changes
pub change_new : (s t : State) (f : Variable → Variable) → Begun s t → Later s (change_variable (length s.slots) f t).1
change_new s t f h =
    let l = h.later in
    let new : variable_in t.slots (length s.slots) ≡ length s.variables = ap (λ ks. variable_in ks (length s.slots)) h.slots ∙ ap (λ o. unwrap_or o 0) (get_end s.slots (length s.variables)) in
    record {
      broken = l.broken;
      outer = l.outer;
      scope = l.scope;
      slots = l.slots;
      structs = l.structs;
      members = l.members;
      declared = l.declared;
      defined = l.defined;
      functions = l.functions;
      globals = l.globals;
      variables = by_variable (variable_in t.slots (length s.slots)) (slice_get t.variables (variable_in t.slots (length s.slots))) (omega (arith, new)) l.variables;
    }
  where
    by_variable : (k : ℕ) (x : Option Variable) → length s.variables ≤ k → AreMore s.variables t.variables → AreMore s.variables (changed_by f x k t.variables)
    by_variable k None h a = a
    by_variable k (Some v) h a = set_beyond s.variables t.variables k (f v) a h

pub initialise_later : (s t : State) (offset : ℕ) (u : MaybeType) (x : Tree) → Begun s t → Later s (initialise_variable (length s.slots) offset u x t).1
initialise_later s t offset u (Node (l.Present o) (Cons equal (Cons x none))) h =
    let es = initialiser false (option_and_then (completed x) u) 0 x t in
    let w = completed_type offset x u es.1 in
    let a = begun_step s t es.1 h (initialiser_steps false (option_and_then (completed x) u) 0 x t) in
    change_new s w.1 _ (begun_step s es.1 w.1 a (completed_type_steps offset x u es.1))
initialise_later s t offset u x h = h.later

variable_declarator_later : (x : Specified) (is_const : Bool) (stars : ℕ) (name : Name) (offset : ℕ) (bounds begun : Tree) (s : State) →
    Later s (variable_declarator x is_const stars name offset bounds begun s).1
variable_declarator_later x is_const stars name offset bounds begun s =
    let ds = open_dimensions bounds s in
    let t = object_type (is_present begun) offset x stars ds.0 ds.1 in
    let k = add_variable t.0 t.1 in
    let m = means.Variable k.0 (is_fixed is_const stars) in
    let d = declare name offset m k.1 in
    let to_type = later_then s ds.1 t.1 (step_still s ds.1 (open_dimensions_steps bounds s)).later (step_still ds.1 t.1 (object_type_steps (is_present begun) offset x stars ds.0 ds.1)).later in
    let declared = later_then t.1 k.1 d.1 (add_variable_later t.0 t.1) (declare_later name offset m k.1) in
    later_then s t.1 _ to_type (initialise_later t.1 d.1 offset t.0 begun (record { later = declared; slots = declare_slots name offset m k.1 }))

pub declarator_later : (x : Specified) (is_const : Bool) (t : Tree) (s : State) → Later s (declarator x is_const t s).1
declarator_later x is_const (Node l.Decl (Cons stars (Cons name (Cons bounds (Cons begun none))))) s =
    variable_declarator_later x is_const (count_of stars) (name_of name) (offset_of name) bounds begun s
declarator_later x is_const t s = (stay_still s).later

pub more_declarators_later : (x : Specified) (is_const : Bool) (t : Tree) (s : State) → Later s (more_declarators x is_const t s).1
more_declarators_later x is_const (Node (l.More k) (Cons before (Cons comma (Cons t none)))) s =
    let ds = more_declarators x is_const before s in later_then s ds.1 _ (more_declarators_later x is_const before s) (declarator_later x is_const t ds.1)
more_declarators_later x is_const t s = (stay_still s).later

pub locals_later : (t : Tree) (s : State) → Later s (locals t s).1
locals_later (Node l.Locals (Cons qualifier (Cons specifier (Cons first (Cons more none))))) s =
    let x = specified_type specifier s in
    let d = declarator x.0 (is_present qualifier) first x.1 in
    later_then s x.1 _ (step_still s x.1 (specified_type_steps specifier s)).later
    (later_then x.1 d.1 _ (declarator_later x.0 (is_present qualifier) first x.1) (more_declarators_later x.0 (is_present qualifier) more d.1))
locals_later t s = (stay_still s).later

-- ---- parts of statements

pub whole_steps : (offset : ℕ) (a : Term) → Steps (whole offset a)
whole_steps offset a s = if_some_steps a _ (λ x. or_broken_steps _ offset _) s

pub condition_steps : (offset : ℕ) (a : Term) → Steps (condition offset a)
condition_steps offset a s = if_some_steps a _ (λ x. or_broken_steps _ offset _) s

pub subject_steps : (offset : ℕ) (a : Term) → Steps (subject offset a)
subject_steps offset a s = if_some_steps a _ (λ x. or_broken_steps _ offset _) s

pub condition_clause_steps : (offset : ℕ) (t : Tree) → Steps (condition_clause offset t)
condition_clause_steps offset (Node (l.Present k) (Cons x none)) s = let a = expressions x s in step_then s a.1 _ (expressions_steps x s) (condition_steps offset a.0 a.1)
condition_clause_steps offset t s = stay s

pub value_clause_steps : (t : Tree) → Steps (value_clause t)
value_clause_steps (Node (l.Present k) (Cons x none)) s = let a = expressions x s in step_then s a.1 _ (expressions_steps x s) (whole_steps (begin_of x) a.0 a.1)
value_clause_steps t s = stay s

pub jump_steps : (allowed : Bool) (offset : ℕ) (a : StmtTree) → Steps (jump allowed offset a)
jump_steps allowed offset a s = breaks_if_steps _ BadJump offset s

pub returned_steps : (t : MaybeType) (offset : ℕ) (x : Tree) → Steps (returned t offset x)
returned_steps t offset (Node (l.Present k) (Cons x none)) s =
    let a = expressions x s in step_then s a.1 _ (expressions_steps x s) (if_some_steps t _ (λ u. if_some_steps a.0 _ (λ y. or_broken_steps _ offset _)) a.1)
returned_steps t offset x s = breaks_if_steps (if gives_none t then false else true) BadReturn offset s

pub case_label_steps : (x : Labels) (offset : ℕ) (w : Option ℕ) → Steps (case_label x offset w)
case_label_steps x offset None s = stay s
case_label_steps x offset (Some w) s = breaks_if_steps _ BadLabel offset s

pub label_steps : (x : Labels) (t : Tree) → Steps (label x t)
label_steps x (Node l.Case (Cons word (Cons value (Cons colon none)))) s =
    let a = expression value s in
    let w = or_broken NotConstant (begin_of value) (term_constant a.0) a.1 in
    step_then s a.1 _ (expression_steps value s) (step_then a.1 w.1 _ (or_broken_steps NotConstant (begin_of value) (term_constant a.0) a.1) (case_label_steps x (offset_of word) w.0 w.1))
label_steps x (Node l.Default (Cons word (Cons colon none))) s = breaks_if_steps _ BadLabel (offset_of word) s
label_steps x t s = stay s

pub more_labels_steps : (x : Labels) (t : Tree) → Steps (more_labels x t)
more_labels_steps x (Node (l.More k) (Cons before (Cons t none))) s = let y = more_labels x before s in step_then s y.1 _ (more_labels_steps x before s) (label_steps y.0 t y.1)
more_labels_steps x t s = stay s

pub for_start_later : (t : Tree) (s : State) → Later s (for_start t s).1
for_start_later (Node l.ForClause (Cons x (Cons semicolon none))) s = (step_still s _ (value_clause_steps x s)).later
for_start_later t s = locals_later t s

-- ---- statements

-- no declaration stands directly among these items
abbrev pub StatementsOnly : Tree → Type 0
StatementsOnly (Node (l.More k) (Cons before (Cons (Node l.Locals children) none))) = ⊥
StatementsOnly (Node (l.More k) (Cons before (Cons t none))) = StatementsOnly before
StatementsOnly t = Unit {0}

-- what a variable begins with is a list that has an element, or an expression
abbrev pub IsInitialiser : Tree → Type 0
IsInitialiser (Node l.InitList (Cons opening (Cons items closing))) = 1 ≤ count_in items
IsInitialiser x = IsExpression x

abbrev pub MayBegin : Tree → Type 0
MayBegin (Node (l.Present k) (Cons equal (Cons x none))) = IsInitialiser x
MayBegin (Node (l.Present k) children) = ⊥
MayBegin t = Unit {0}

-- The groups of a `switch` have statements, and variables begin with initialisers.
abbrev pub WellShaped : Tree → Type 0
WellShaped (Node l.Group (Cons first (Cons more (Cons t (Cons ts none))))) = StatementsOnly ts × WellShaped t × WellShaped ts
WellShaped (Node l.Decl (Cons stars (Cons name (Cons bounds (Cons begun none))))) = MayBegin begun
WellShaped (Node l.Globals (Cons bounds (Cons begun (Cons more none)))) = MayBegin begun × WellShaped more
WellShaped (Node p children) = WellShaped children
WellShaped (Cons t ts) = WellShaped t × WellShaped ts
WellShaped t = Unit {0}

mutual
  pub statement_still : (j : Jumps) (t : Tree) (s : State) → WellShaped t → HasScope s → Still s (statement j t s).1
  statement_still j (Node l.Null children) s w h = stay_still s
  statement_still j (Node l.Expression (Cons x (Cons semicolon none))) s w h =
      let a = expressions x s in step_still s _ (step_then s a.1 _ (expressions_steps x s) (whole_steps (begin_of x) a.0 a.1))
  statement_still j (Node l.Block (Cons opening (Cons xs (Cons closing none)))) s w h = within_still s (items j xs (entered s)).1 h (items_later j xs (entered s) w.1.0 refl)
  statement_still j (Node l.If (Cons word (Cons opening (Cons x (Cons closing (Cons t none)))))) s w h =
      let a = expressions x s in
      let c = condition (offset_of word) a.0 a.1 in
      let step = step_still s c.1 (step_then s a.1 c.1 (expressions_steps x s) (condition_steps (offset_of word) a.0 a.1)) in
      still_then s c.1 _ step (statement_still j t c.1 w.1.1.1.1.0 (still_has_scope s c.1 step.scopes h))
  statement_still j (Node l.IfElse (Cons before (Cons word (Cons t none)))) s w h =
      let a = statement j before s in
      let first = statement_still j before s w.0 h in
      still_then s a.1 _ first (statement_still j t a.1 w.1.1.0 (still_has_scope s a.1 first.scopes h))
  statement_still j (Node l.While (Cons word (Cons opening (Cons x (Cons closing (Cons t none)))))) s w h =
      let a = expressions x s in
      let c = condition (offset_of word) a.0 a.1 in
      let step = step_still s c.1 (step_then s a.1 c.1 (expressions_steps x s) (condition_steps (offset_of word) a.0 a.1)) in
      still_then s c.1 _ step (statement_still (in_loop j) t c.1 w.1.1.1.1.0 (still_has_scope s c.1 step.scopes h))
  statement_still j (Node l.DoWhile (Cons word (Cons t (Cons until (Cons opening (Cons x more)))))) s w h =
      let b = statement (in_loop j) t s in
      let a = expressions x b.1 in
      still_then s b.1 _ (statement_still (in_loop j) t s w.1.0 h) (step_still b.1 _ (step_then b.1 a.1 _ (expressions_steps x b.1) (condition_steps (offset_of until) a.0 a.1)))
  statement_still j (Node l.For (Cons word (Cons opening (Cons start (Cons x (Cons semicolon (Cons y (Cons closing (Cons t none))))))))) s w h =
      let is = for_start start (entered s) in
      let c = condition_clause (offset_of word) x is.1 in
      let step = value_clause y c.1 in
      let b = statement (in_loop j) t step.1 in
      let l = for_start_later start (entered s) in
      let a = step_still is.1 step.1 (step_then is.1 c.1 step.1 (condition_clause_steps (offset_of word) x is.1) (value_clause_steps y c.1)) in
      let k = later_then (entered s) is.1 step.1 l a.later in
      within_still s b.1 h (later_then (entered s) step.1 b.1 k (statement_still (in_loop j) t step.1 w.1.1.1.1.1.1.1.0 (k.scope refl)).later)
  statement_still j (Node l.Break (Cons word more)) s w h = step_still s _ (jump_steps j.may_break (offset_of word) typed.break s)
  statement_still j (Node l.Continue (Cons word more)) s w h = step_still s _ (jump_steps j.may_continue (offset_of word) typed.continue s)
  statement_still j (Node l.Return (Cons word (Cons x more))) s w h = step_still s _ (returned_steps j.result (offset_of word) x s)
  statement_still j (Node l.Switch (Cons word (Cons opening (Cons x (Cons closing (Cons begin (Cons gs more))))))) s w h =
      let a = expressions x s in
      let e = subject (offset_of word) a.0 a.1 in
      let step = step_still s e.1 (step_then s a.1 e.1 (expressions_steps x s) (subject_steps (offset_of word) a.0 a.1)) in
      still_then s e.1 _ step (groups_still (in_switch j) gs e.1 w.1.1.1.1.1.0 (still_has_scope s e.1 step.scopes h))
  statement_still j t s w h = stay_still s

  pub items_later : (j : Jumps) (t : Tree) (s : State) → WellShaped t → HasScope s → Later s (items j t s).1
  items_later j (Node (l.More k) (Cons before (Cons (Node l.Locals children) none))) s w h =
      let is = items j before s in later_then s is.1 _ (items_later j before s w.0 h) (locals_later (Node l.Locals children) is.1)
  items_later j (Node (l.More k) (Cons before (Cons t none))) s w h =
      let is = items j before s in
      let first = items_later j before s w.0 h in
      later_then s is.1 _ first (statement_still j t is.1 w.1.0 (first.scope h)).later
  items_later j t s w h = (stay_still s).later

  -- statements alone
  pub items_still : (j : Jumps) (t : Tree) (s : State) → StatementsOnly t → WellShaped t → HasScope s → Still s (items j t s).1
  items_still j (Node (l.More k) (Cons before (Cons (Node l.Locals children) none))) s o w h = absurd o
  items_still j (Node (l.More k) (Cons before (Cons t none))) s o w h =
      let is = items j before s in
      let first = items_still j before s o w.0 h in
      still_then s is.1 _ first (statement_still j t is.1 w.1.0 (still_has_scope s is.1 first.scopes h))
  items_still j t s o w h = stay_still s

  pub groups_still : (j : Jumps) (t : Tree) (s : State) → WellShaped t → HasScope s → Still s (groups j t s).1
  groups_still j (Node (l.More k) (Cons before (Cons t none))) s w h =
      let x = groups j before s in
      let first = groups_still j before s w.0 h in
      still_then s x.1 _ first (group_still j x.0 t x.1 w.1.0 (still_has_scope s x.1 first.scopes h))
  groups_still j t s w h = stay_still s

  pub group_still : (j : Jumps) (x : Groups) (t : Tree) (s : State) → WellShaped t → HasScope s → Still s (group j x t s).1
  group_still j x (Node l.Group (Cons first (Cons more (Cons t (Cons ts none))))) s w h =
      let y = label (next_group x.labels) first s in
      let z = more_labels y.0 more y.1 in
      let b = statement j t z.1 in
      let a = step_still s z.1 (step_then s y.1 z.1 (label_steps (next_group x.labels) first s) (more_labels_steps y.0 more y.1)) in
      let c = statement_still j t z.1 w.1 (still_has_scope s z.1 a.scopes h) in
      let d = still_then s z.1 b.1 a c in
      still_then s b.1 _ d (items_still j ts b.1 w.0 w.2 (still_has_scope s b.1 d.scopes h))
  group_still j x t s w h = stay_still s
