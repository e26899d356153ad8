-- An expression only takes steps.
use Rattle.std.proofs.Common.{◌≡◌, ℕ, zero, suc, Bool, true, false, List, [], ◌∷◌, ◌++◌, refl, sym, subst}
use Rattle.std.specs.Prelude.{slice_get, slice_set, Option, None, Some, option_map, if◌then◌else◌}
use Rattle.std.proofs.lemmas.Bool.{false≢true}
use Rattle.c_ast.specs.declared.operator.Selection.{Selection}
use Rattle.c_ast.specs.declared.operator.IncDec.{IncDec}
use Rattle.c_ast.specs.declared.operator.UnaryOp.{UnaryOp}
use Rattle.c_ast.specs.declared.operator.UnaryOp.TheVariants as unary_operator
use Rattle.c_ast.specs.declared.operator.BinaryOp.{BinaryOp}
use Rattle.c_ast.specs.declared.operator.AssignOp.{AssignOp}
use Rattle.c_ast.specs.Productions as l
use Rattle.c_ast.specs.Tree.{Tree, Node, Nil, Cons}
use Rattle.c_type.specs.Trees.{TypeTree}
use Rattle.c_typed.specs.Typed.{place, local, global, at, member}
use Rattle.c_check_def.specs.declared.operand.Operand.{Operand}
use Rattle.c_check_def.specs.declared.operand.Operand.TheVariants.{Place, Value}
use Rattle.c_check_def.specs.OperandValues.{operand_type, is_assignable}
use Rattle.c_check_def.specs.Operators.{selected_tag}
use Rattle.c_check_scope.specs.Scopes.{Name}
use Rattle.c_check_scope.specs.Names.{number_of}
use Rattle.c_check_scope.specs.Members.{member_number}
use Rattle.c_check_def.specs.declared.meaning.Meaning.{Meaning}
use Rattle.c_check_def.specs.declared.meaning.Meaning.TheVariants as means
use Rattle.c_check_def.specs.declared.refusal_kind.RefusalKind.{RefusalKind}
use Rattle.c_check_def.specs.declared.refusal_kind.RefusalKind.TheVariants.{NotAssignable, BadCall}
use Rattle.c_check_def.specs.declared.call.Callee.{Callee}
use Rattle.c_check_def.specs.declared.call.Called.{Called}
use Rattle.c_check_def.specs.declared.call.Called.TheVariants as calls
use Rattle.c_check_def.specs.State.{MaybeType, Declared, Global, Variable, State, Elaborated, pure, breaks, breaks_if, broken_at, or_broken, if_some, meaning_of, tag_of, changed_by, changed, variable_in, change_variable, add_global}
use Rattle.c_check_def.specs.Leaves.{offset_of, begin_of, name_of, selection_op_of, inc_dec_op_of, unary_op_of, binary_op_of, assign_op_of, count_of}
use Rattle.c_check_def.specs.Specifiers.{Specified, specified_type, tagged}
use Rattle.c_check_def.specs.DeclaredTypes.{MaybeSize, arrays_of, type_if, small_type, unstarred, starred, named_type, with_elements, is_large, is_void, pointers_to}
use Rattle.c_check_def.specs.Operands.{Term, term_meant, named, binary, conditional, indexed, cast, measured, take_address, address, unary_of, unary, target, stepped, assigned, member_numbered, selected, Sequence, first_of, comma}
use Rattle.c_check_def.specs.Calls.{callee_of, callee_numbered, called_term, called_meant, called_name, all_fit, call_term, call_of, called}
use Rattle.c_check_def.specs.Expressions.{size, expression, expressions, more_expressions, arguments, more_arguments, type_name, dimensions}
use Rattle.c_check_laws.proofs.lemmas.States.{AreSame, same_self, Step, stay, step_then}

abbrev pub Steps : {A : Type 0} → Elaborated A → Type 0
Steps m = (s : State) → Step s (m s).1

-- ---- broken rules

breaks_steps : (rule : RefusalKind) (offset : ℕ) → Steps (breaks rule offset)
breaks_steps rule offset s = record {
  broken = λ h. absurd (cc);
  scopes = refl;
  slots = refl;
  structs = refl;
  members = refl;
  declared = refl;
  defined = refl;
  functions = refl;
  globals = λ k g h. h;
  variables = same_self s.variables;
}

pub breaks_if_steps : (wrong : Bool) (rule : RefusalKind) (offset : ℕ) → Steps (breaks_if wrong rule offset)
breaks_if_steps true rule offset s = breaks_steps rule offset s
breaks_if_steps false rule offset s = stay s

pub or_broken_steps : {A : Type 0} → (rule : RefusalKind) (offset : ℕ) (o : Option A) → Steps (or_broken rule offset o)
or_broken_steps rule offset None s = breaks_steps rule offset s
or_broken_steps rule offset (Some a) s = stay s

pub if_some_steps : {A B : Type 0} → (o : Option A) (f : A → Elaborated (Option B)) → ((a : A) → Steps (f a)) → Steps (if_some o f)
if_some_steps None f h s = stay s
if_some_steps (Some a) f h s = h a s

-- ---- variables and globals

-- a change of a variable that keeps its type, that its address is taken, and that its name was used
abbrev KeepsVariable : (Variable → Variable) → Type 0
KeepsVariable f = (v : Variable) → ((f v).type ≡ v.type) × (v.is_taken ≡ true → (f v).is_taken ≡ true) × ((f v).is_named ≡ false → v.is_named ≡ false)

set_same : (f : Variable → Variable) → KeepsVariable f → (vs : List Variable) (k : ℕ) (v : Variable) → slice_get vs k ≡ Some v → AreSame vs (slice_set vs k (f v))
set_same f h [] k v e = absurd (cc)
set_same f h (u ∷ vs) zero v e = let same : u ≡ v = cc in subst (λ w. AreSame (u ∷ vs) (f w ∷ vs)) same ((h u).0, (h u).1, (h u).2, same_self vs)
set_same f h (u ∷ vs) (suc k) v e = (refl, λ q. q, λ q. q, set_same f h vs k v e)

changed_same : (f : Variable → Variable) → KeepsVariable f → (vs : List Variable) (k : ℕ) → AreSame vs (changed f k vs)
changed_same f h vs k = by_variable (slice_get vs k) refl
  where
    by_variable : (x : Option Variable) → slice_get vs k ≡ x → AreSame vs (changed_by f x k vs)
    by_variable None e = same_self vs
    by_variable (Some v) e = set_same f h vs k v e

pub change_variable_steps : (slot : ℕ) (f : Variable → Variable) → KeepsVariable f → Steps (change_variable slot f)
change_variable_steps slot f h s = record {
  broken = λ q. q;
  scopes = refl;
  slots = refl;
  structs = refl;
  members = refl;
  declared = refl;
  defined = refl;
  functions = refl;
  globals = λ k g q. q;
  variables = changed_same f h s.variables (variable_in s.slots slot);
}

pub get_append : {A : Type 0} → (xs ys : List A) (k : ℕ) (x : A) → slice_get xs k ≡ Some x → slice_get (xs ++ ys) k ≡ Some x
get_append [] ys k x e = absurd (cc)
get_append (z ∷ xs) ys zero x e = e
get_append (z ∷ xs) ys (suc k) x e = get_append xs ys k x e

add_global_steps : (g : Global) → Steps (add_global g)
add_global_steps g s = record {
  broken = λ q. q;
  scopes = refl;
  slots = refl;
  structs = refl;
  members = refl;
  declared = refl;
  defined = refl;
  functions = refl;
  globals = λ k x q. get_append s.globals (g ∷ []) k x q;
  variables = same_self s.variables;
}

-- ---- names

pub named_keeps : KeepsVariable (λ v. record v { is_named = true })
named_keeps v = (refl, λ h. h, λ h. absurd (false≢true (sym h)))

taken_keeps : KeepsVariable (λ v. record v { is_taken = true })
taken_keeps v = (refl, λ h. refl, λ h. h)

term_meant_steps : (offset : ℕ) (m : Option Meaning) → Steps (term_meant offset m)
term_meant_steps offset None s = breaks_steps _ offset s
term_meant_steps offset (Some (means.Variable slot is_const)) s = change_variable_steps slot (λ v. record v { is_named = true }) named_keeps s
term_meant_steps offset (Some (means.Global k is_const)) s = stay s
term_meant_steps offset (Some (means.Function k)) s = breaks_steps _ offset s

named_steps : (name : Name) (offset : ℕ) → Steps (named name offset)
named_steps name offset s = term_meant_steps offset (meaning_of name s).0 s

-- ---- operators

-- the operators, where their tokens are some
pub binary_steps : (o : Option BinaryOp) (offset : ℕ) (a b : Term) → Steps (if_some o (λ op. binary op offset a b))
binary_steps None offset a b s = stay s
binary_steps (Some o) offset a b s = if_some_steps a _ (λ x. if_some_steps b _ (λ y. or_broken_steps _ offset _)) s

pub conditional_steps : (offset : ℕ) (c a b : Term) → Steps (conditional offset c a b)
conditional_steps offset c a b s = if_some_steps c _ (λ z. if_some_steps a _ (λ x. if_some_steps b _ (λ y. or_broken_steps _ offset _))) s

pub indexed_steps : (offset : ℕ) (a b : Term) → Steps (indexed offset a b)
indexed_steps offset a b s = if_some_steps a _ (λ x. if_some_steps b _ (λ y. or_broken_steps _ offset _)) s

pub cast_steps : (offset : ℕ) (t : MaybeType) (a : Term) → Steps (cast offset t a)
cast_steps offset t a s = if_some_steps t _ (λ u. if_some_steps a _ (λ x. or_broken_steps _ offset _)) s

pub measured_steps : (offset : ℕ) (t : MaybeType) → Steps (measured offset t)
measured_steps offset t s = if_some_steps t _ (λ u. or_broken_steps _ offset _) s

take_address_steps : (a : Operand) → Steps (take_address a)
take_address_steps (Place (place t (local slot)) is_const) s = change_variable_steps slot (λ v. record v { is_taken = true }) taken_keeps s
take_address_steps (Place (place t (global k)) is_const) s = stay s
take_address_steps (Place (place t (at e)) is_const) s = stay s
take_address_steps (Place (place t (member p n)) is_const) s = stay s
take_address_steps (Value e) s = stay s

address_steps : (offset : ℕ) (a : Operand) → Steps (address offset a)
address_steps offset a s = let r = take_address a s in step_then s r.1 _ (take_address_steps a s) (or_broken_steps _ offset _ r.1)

unary_of_steps : (o : UnaryOp) (offset : ℕ) (a : Operand) → Steps (unary_of o offset a)
unary_of_steps unary_operator.AddressOf offset a s = address_steps offset a s
unary_of_steps o offset a s = or_broken_steps _ offset _ s

pub unary_steps : (o : Option UnaryOp) (offset : ℕ) (a : Term) → Steps (if_some o (λ op. unary op offset a))
unary_steps None offset a s = stay s
unary_steps (Some o) offset a s = if_some_steps a (unary_of o offset) (unary_of_steps o offset) s

target_steps : (offset : ℕ) (a : Term) → Steps (target offset a)
target_steps offset a s = if_some_steps a _ (λ x. by_test x (is_assignable x)) s
  where
    by_test : (x : Operand) (t : Bool) → Steps (if t then pure (Some x) else broken_at NotAssignable offset)
    by_test x true s = stay s
    by_test x false s = breaks_steps _ offset s

pub stepped_steps : (o : Option IncDec) (offset : ℕ) (gives_old : Bool) (a : Term) → Steps (if_some o (λ op. stepped op offset gives_old a))
stepped_steps None offset gives_old a s = stay s
stepped_steps (Some o) offset gives_old a s = let r = target offset a s in step_then s r.1 _ (target_steps offset a s) (if_some_steps r.0 _ (λ x. or_broken_steps _ offset _) r.1)

pub assigned_steps : (o : Option AssignOp) (offset : ℕ) (a b : Term) → Steps (if_some o (λ op. assigned op offset a b))
assigned_steps None offset a b s = stay s
assigned_steps (Some o) offset a b s = let r = target offset a s in step_then s r.1 _ (target_steps offset a s) (if_some_steps r.0 _ (λ x. if_some_steps b _ (λ y. or_broken_steps _ offset _)) r.1)

member_numbered_steps : (o : Selection) (offset : ℕ) (a : Operand) (k : Option ℕ) → Steps (member_numbered o offset a k)
member_numbered_steps o offset a None s = breaks_steps _ offset s
member_numbered_steps o offset a (Some k) s = or_broken_steps _ offset _ s

pub selected_steps : (o : Option Selection) (offset : ℕ) (name : Name) (name_offset : ℕ) (a : Term) → Steps (if_some o (λ op. selected op offset name name_offset a))
selected_steps None offset name name_offset a s = stay s
selected_steps (Some o) offset name name_offset a s =
    if_some_steps a _ (λ x s.
    let r = or_broken _ offset (selected_tag o x) s in
    step_then s r.1 _ (or_broken_steps _ offset (selected_tag o x) s) (if_some_steps r.0 _ (λ tag s. member_numbered_steps o name_offset x (member_number s.members tag name) s) r.1)) s

pub comma_steps : (offset : ℕ) (x : Option Sequence) (b : Term) → Steps (comma offset x b)
comma_steps offset x b s = if_some_steps x _ (λ y. if_some_steps b _ (λ z. or_broken_steps _ offset _)) s

-- ---- calls

callee_of_steps : (offset : ℕ) (n : Option ℕ) → Steps (callee_of offset n)
callee_of_steps offset None s = breaks_steps _ offset s
callee_of_steps offset (Some n) s = stay s

callee_numbered_steps : (k : ℕ) (name : Name) (offset : ℕ) → Steps (callee_numbered k name offset)
callee_numbered_steps zero name offset s = stay s
callee_numbered_steps (suc zero) name offset s = stay s
callee_numbered_steps (suc (suc zero)) name offset s = stay s
callee_numbered_steps (suc (suc (suc k))) name offset s = callee_of_steps offset (number_of s.defined name) s

called_meant_steps : (name : Name) (offset : ℕ) (m : Option Meaning) → Steps (called_meant name offset m)
called_meant_steps name offset (Some (means.Function k)) s = callee_numbered_steps k name offset s
called_meant_steps name offset None s = term_meant_steps offset None s
called_meant_steps name offset (Some (means.Variable slot is_const)) s = term_meant_steps offset (Some (means.Variable slot is_const)) s
called_meant_steps name offset (Some (means.Global k is_const)) s = term_meant_steps offset (Some (means.Global k is_const)) s

pub called_name_steps : (name : Name) (offset : ℕ) → Steps (called_name name offset)
called_name_steps name offset s = called_meant_steps name offset (meaning_of name s).0 s

call_of_steps : (offset : ℕ) (callee : Callee) (xs : List Term) (f : Option Declared) → Steps (call_of offset callee xs f)
call_of_steps offset callee xs None s = stay s
call_of_steps offset callee xs (Some f) s = by_test (all_fit f.params xs) s
  where
    by_test : (t : Bool) → Steps (if t then pure (call_term callee f xs) else broken_at BadCall offset)
    by_test true s = stay s
    by_test false s = breaks_steps _ offset s

pub called_steps : (offset : ℕ) (f : Called) (xs : List Term) → Steps (called offset f xs)
called_steps offset calls.Nothing xs s = stay s
called_steps offset calls.NoFunction xs s = breaks_steps _ offset s
called_steps offset (calls.Function callee k) xs s = call_of_steps offset callee xs (slice_get s.declared k) s

-- ---- type names

tag_of_steps : (name : Name) → Steps (tag_of name)
tag_of_steps name s = record {
  broken = λ q. q;
  scopes = refl;
  slots = refl;
  structs = refl;
  members = refl;
  declared = refl;
  defined = refl;
  functions = refl;
  globals = λ k g q. q;
  variables = same_self s.variables;
}

pub tagged_steps : (name : Name) (offset : ℕ) → Steps (tagged name offset)
tagged_steps name offset s = tag_of_steps name s

pub type_if_steps : (wrong : Bool) (offset : ℕ) (t : TypeTree) → Steps (type_if wrong offset t)
type_if_steps true offset t s = breaks_steps _ offset s
type_if_steps false offset t s = stay s

pub small_type_steps : (offset : ℕ) (t : TypeTree) → Steps (small_type offset t)
small_type_steps offset t s = type_if_steps (is_large s.structs (with_elements t)) offset t s

unstarred_steps : (undeclared : Option ℕ) (t : TypeTree) → Steps (unstarred undeclared t)
unstarred_steps None t s = stay s
unstarred_steps (Some tag) t s = breaks_steps _ tag s

pub starred_steps : (x : Specified) (stars offset : ℕ) → Steps (starred x stars offset)
starred_steps x zero offset s = unstarred_steps x.undeclared x.type s
starred_steps x (suc n) offset s = type_if_steps (is_void x.type) offset (pointers_to x.type (suc n)) s

pub named_type_steps : (offset : ℕ) (x : Specified) (stars : ℕ) (ns : List MaybeSize) → Steps (named_type offset x stars ns)
named_type_steps offset x stars ns s = let r = starred x stars offset s in step_then s r.1 _ (starred_steps x stars offset s) (if_some_steps (arrays_of r.0 ns) (small_type offset)
    (small_type_steps offset) r.1)

pub size_steps : (offset : ℕ) (a : Term) → Steps (size offset a)
size_steps offset a s = or_broken_steps _ offset _ s

-- ---- expressions

mutual
  pub expression_steps : (t : Tree) → Steps (expression t)
  expression_steps (Node l.Name (Cons x more)) s = named_steps (name_of x) (offset_of x) s
  expression_steps (Node l.Number (Cons x more)) s = stay s
  expression_steps (Node l.Character (Cons x more)) s = stay s
  expression_steps (Node l.Text (Cons x (Cons xs more))) s = add_global_steps _ s
  expression_steps (Node l.Paren (Cons opening (Cons inner more))) s = expressions_steps inner s
  expression_steps (Node l.Index (Cons array (Cons opening (Cons index more)))) s =
      let a = expression array s in
      let i = expressions index a.1 in
      step_then s a.1 _ (expression_steps array s) (step_then a.1 i.1 _ (expressions_steps index a.1) (indexed_steps (offset_of opening) a.0 i.0 i.1))
  expression_steps (Node l.Call (Cons (Node l.Name (Cons x none)) (Cons opening (Cons xs more)))) s =
      let f = called_name (name_of x) (offset_of x) s in
      let es = arguments xs f.1 in
      step_then s f.1 _ (called_name_steps (name_of x) (offset_of x) s) (step_then f.1 es.1 _ (arguments_steps xs f.1) (called_steps (offset_of opening) f.0 es.0 es.1))
  expression_steps (Node l.Call (Cons function (Cons opening (Cons xs more)))) s =
      let f = expression function s in
      let es = arguments xs f.1 in
      step_then s f.1 _ (expression_steps function s) (step_then f.1 es.1 _ (arguments_steps xs f.1) (called_steps (offset_of opening) (called_term f.0) es.0 es.1))
  expression_steps (Node l.Dot (Cons object (Cons o (Cons x more)))) s =
      let a = expression object s in step_then s a.1 _ (expression_steps object s) (selected_steps (selection_op_of o) (offset_of o) (name_of x) (offset_of x) a.0 a.1)
  expression_steps (Node l.Arrow (Cons object (Cons o (Cons x more)))) s =
      let a = expression object s in step_then s a.1 _ (expression_steps object s) (selected_steps (selection_op_of o) (offset_of o) (name_of x) (offset_of x) a.0 a.1)
  expression_steps (Node l.PostIncrement (Cons operand (Cons o more))) s =
      let a = expression operand s in step_then s a.1 _ (expression_steps operand s) (stepped_steps (inc_dec_op_of o) (offset_of o) true a.0 a.1)
  expression_steps (Node l.Increment (Cons o (Cons operand more))) s =
      let a = expression operand s in step_then s a.1 _ (expression_steps operand s) (stepped_steps (inc_dec_op_of o) (offset_of o) false a.0 a.1)
  expression_steps (Node l.Unary (Cons o (Cons operand more))) s =
      let a = expression operand s in step_then s a.1 _ (expression_steps operand s) (unary_steps (unary_op_of o) (offset_of o) a.0 a.1)
  expression_steps (Node l.Sizeof (Cons word (Cons (Node l.SizeofType (Cons opening (Cons operand none))) more))) s =
      let t = type_name operand s in step_then s t.1 _ (type_name_steps operand s) (measured_steps (offset_of word) t.0 t.1)
  expression_steps (Node l.Sizeof (Cons word (Cons operand more))) s =
      let a = expression operand s in step_then s a.1 _ (expression_steps operand s) (measured_steps (offset_of word) (option_map operand_type a.0) a.1)
  expression_steps (Node l.Cast (Cons opening (Cons target (Cons closing (Cons operand more))))) s =
      let t = type_name target s in
      let a = expression operand t.1 in
      step_then s t.1 _ (type_name_steps target s) (step_then t.1 a.1 _ (expression_steps operand t.1) (cast_steps (offset_of opening) t.0 a.0 a.1))
  expression_steps (Node (l.Binary level) (Cons left (Cons o (Cons right more)))) s =
      let a = expression left s in
      let b = expression right a.1 in
      step_then s a.1 _ (expression_steps left s) (step_then a.1 b.1 _ (expression_steps right a.1) (binary_steps (binary_op_of o) (offset_of o) a.0 b.0 b.1))
  expression_steps (Node l.Conditional (Cons condition (Cons question (Cons middle (Cons colon (Cons otherwise more)))))) s =
      let c = expression condition s in
      let a = expressions middle c.1 in
      let b = expression otherwise a.1 in
      step_then s c.1 _ (expression_steps condition s) (step_then c.1 a.1 _ (expressions_steps middle c.1) (step_then a.1 b.1 _ (expression_steps otherwise a.1)
      (conditional_steps (offset_of question) c.0 a.0 b.0 b.1)))
  expression_steps (Node l.Assignment (Cons target (Cons o (Cons value more)))) s =
      let a = expression target s in
      let b = expression value a.1 in
      step_then s a.1 _ (expression_steps target s) (step_then a.1 b.1 _ (expression_steps value a.1) (assigned_steps (assign_op_of o) (offset_of o) a.0 b.0 b.1))
  expression_steps t s = stay s

  pub expressions_steps : (t : Tree) → Steps (expressions t)
  expressions_steps (Node l.Expr (Cons first (Cons more none))) s =
      let a = expression first s in step_then s a.1 _ (expression_steps first s) (more_expressions_steps (option_map first_of a.0) more a.1)
  expressions_steps t s = stay s

  pub more_expressions_steps : (first : Option Sequence) (t : Tree) → Steps (more_expressions first t)
  more_expressions_steps first (Node (l.More k) (Cons before (Cons o (Cons element none)))) s =
      let x = more_expressions first before s in
      let b = expression element x.1 in
      step_then s x.1 _ (more_expressions_steps first before s) (step_then x.1 b.1 _ (expression_steps element x.1) (comma_steps (offset_of o) x.0 b.0 b.1))
  more_expressions_steps first t s = stay s

  pub arguments_steps : (t : Tree) → Steps (arguments t)
  arguments_steps (Node (l.Present k) (Cons first (Cons more none))) s =
      let a = expression first s in step_then s a.1 _ (expression_steps first s) (more_arguments_steps more a.1)
  arguments_steps t s = stay s

  pub more_arguments_steps : (t : Tree) → Steps (more_arguments t)
  more_arguments_steps (Node (l.More k) (Cons before (Cons o (Cons element none)))) s =
      let xs = more_arguments before s in step_then s xs.1 _ (more_arguments_steps before s) (expression_steps element xs.1)
  more_arguments_steps t s = stay s

  pub type_name_steps : (t : Tree) → Steps (type_name t)
  type_name_steps (Node l.TypeName (Cons qualifier (Cons specifier (Cons stars (Cons sizes none))))) s =
      let x = specified_type specifier s in
      let ns = dimensions sizes x.1 in
      step_then s x.1 _ (specified_type_steps specifier s) (step_then x.1 ns.1 _ (dimensions_steps sizes x.1)
      (named_type_steps (begin_of (Cons qualifier (Cons specifier Nil))) x.0 (count_of stars) ns.0 ns.1))
  type_name_steps t s = stay s

  pub dimensions_steps : (t : Tree) → Steps (dimensions t)
  dimensions_steps (Node (l.More k) (Cons before (Cons opening (Cons bound none)))) s =
      let ns = dimensions before s in
      let a = expression bound ns.1 in
      step_then s ns.1 _ (dimensions_steps before s) (step_then ns.1 a.1 _ (expression_steps bound ns.1) (size_steps (begin_of bound) a.0 a.1))
  dimensions_steps t s = stay s

  pub specified_type_steps : (t : Tree) → Steps (specified_type t)
  specified_type_steps (Node l.Signed (Cons sign (Cons base more))) s = stay s
  specified_type_steps (Node l.StructTag (Cons word (Cons tag more))) s = tagged_steps (name_of tag) (offset_of tag) s
  specified_type_steps t s = stay s
