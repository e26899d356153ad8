-- Steps that add no global.
use Rattle.std.proofs.Common.{◌≡◌, ℕ, zero, suc, Bool, true, false, List, [], ◌∷◌, length, refl, ◌∙◌}
use Rattle.std.specs.Prelude.{slice_get, not, ◌||◌, ◌&&◌, nat_le, Option, None, Some, option_and_then, if◌then◌else◌}
use Rattle.c_ast.specs.declared.operator.Selection.{Selection}
use Rattle.c_ast.specs.declared.operator.IncDec.{IncDec}
use Rattle.c_ast.specs.declared.operator.UnaryOp.{UnaryOp}
use Rattle.c_ast.specs.declared.operator.UnaryOp.TheVariants as unary_operator
use Rattle.c_ast.specs.declared.operator.BinaryOp.{BinaryOp}
use Rattle.c_ast.specs.declared.operator.AssignOp.{AssignOp}
use Rattle.c_ast.specs.Productions as l
use Rattle.c_ast.specs.Tree.{Tree, Node, Cons}
use Rattle.c_type.specs.Trees.{TypeTree}
use Rattle.c_typed.specs.Typed as typed
use Rattle.c_typed.specs.Typed.{place, local, global, at, member, ElementTrees, StmtTree}
use Rattle.c_check_def.specs.declared.operand.Operand.{Operand}
use Rattle.c_check_def.specs.declared.operand.Operand.TheVariants.{Place, Value}
use Rattle.c_check_def.specs.OperandValues.{is_assignable}
use Rattle.c_check_def.specs.Operators.{selected_tag}
use Rattle.c_check_scope.specs.Scopes.{Name, is_declared}
use Rattle.c_check_scope.specs.Names.{number_of}
use Rattle.c_check_scope.specs.Members.{member_number}
use Rattle.c_check_def.specs.declared.meaning.Meaning.{Meaning}
use Rattle.c_check_def.specs.declared.meaning.Meaning.TheVariants as means
use Rattle.c_check_def.specs.declared.refusal_kind.RefusalKind.{RefusalKind}
use Rattle.c_check_def.specs.declared.refusal_kind.RefusalKind.TheVariants.{NotAssignable, NotConstant, BadCall, BadInitialiser, BadJump, BadLabel, Redeclared}
use Rattle.c_check_def.specs.declared.call.Callee.{Callee}
use Rattle.c_check_def.specs.declared.call.Called.{Called}
use Rattle.c_check_def.specs.declared.call.Called.TheVariants as calls
use Rattle.c_check_def.specs.declared.dimension.Dimension.{Dimension}
use Rattle.c_check_def.specs.State.{MaybeType, Declared, State, Elaborated, pure, breaks_if, broken_at, or_broken, if_some, meaning_of, tag_of, declare}
use Rattle.c_check_def.specs.Leaves.{offset_of, name_of}
use Rattle.c_check_def.specs.Specifiers.{Specified, specified_type, tagged}
use Rattle.c_check_def.specs.DeclaredTypes.{MaybeSize, unstarred, with_elements, is_large, is_void, pointers_to, arrays_of, sizes_of, size_of_dimension, type_if, small_type, unless_empty, starred, named_type, is_object_of, object_type, is_param_of, elements_specified, elements_type, adjusted, param_type, other_is_empty, first_is_empty}
use Rattle.c_check_def.specs.Operands.{Term, term_meant, named, binary, conditional, indexed, cast, measured, take_address, address, unary_of, unary, target, stepped, assigned, member_numbered, selected, Sequence, comma}
use Rattle.c_check_def.specs.Calls.{callee_of, callee_numbered, called_meant, called_name, all_fit, call_term, call_of, called}
use Rattle.c_check_def.specs.Expressions.{size}
use Rattle.c_check_def.specs.Initialisers.{converted, value_read, characters, parts_of, takes, list_for, completed}
use Rattle.c_check_def.specs.Declarators.{completed_type}
use Rattle.c_check_def.specs.Statements.{whole, condition, subject, jump, Labels, case_label}
use Rattle.c_check_def.specs.Externals.{may_follow, function_meant, declare_function, declare_if}

-- no global is added
abbrev pub Quiet : {A : Type 0} → Elaborated A → Type 0
Quiet m = (s : State) → (m s).1.globals ≡ s.globals

pub breaks_if_quiet : (wrong : Bool) (rule : RefusalKind) (offset : ℕ) → Quiet (breaks_if wrong rule offset)
breaks_if_quiet true rule offset s = refl
breaks_if_quiet false rule offset s = refl

pub or_broken_quiet : {A : Type 0} → (rule : RefusalKind) (offset : ℕ) (o : Option A) → Quiet (or_broken rule offset o)
or_broken_quiet rule offset None s = refl
or_broken_quiet rule offset (Some a) s = refl

pub if_some_quiet : {A B : Type 0} → (o : Option A) (f : A → Elaborated (Option B)) → ((a : A) → Quiet (f a)) → Quiet (if_some o f)
if_some_quiet None f h s = refl
if_some_quiet (Some a) f h s = h a s

-- ---- operands

term_meant_quiet : (offset : ℕ) (m : Option Meaning) → Quiet (term_meant offset m)
term_meant_quiet offset None s = refl
term_meant_quiet offset (Some (means.Variable slot is_const)) s = refl
term_meant_quiet offset (Some (means.Global k is_const)) s = refl
term_meant_quiet offset (Some (means.Function k)) s = refl

pub named_quiet : (name : Name) (offset : ℕ) → Quiet (named name offset)
named_quiet name offset s = term_meant_quiet offset (meaning_of name s).0 s

pub binary_quiet : (o : Option BinaryOp) (offset : ℕ) (a b : Term) → Quiet (if_some o (λ op. binary op offset a b))
binary_quiet None offset a b s = refl
binary_quiet (Some o) offset a b s = if_some_quiet a _ (λ x. if_some_quiet b _ (λ y. or_broken_quiet _ offset _)) s

pub conditional_quiet : (offset : ℕ) (c a b : Term) → Quiet (conditional offset c a b)
conditional_quiet offset c a b s = if_some_quiet c _ (λ z. if_some_quiet a _ (λ x. if_some_quiet b _ (λ y. or_broken_quiet _ offset _))) s

pub indexed_quiet : (offset : ℕ) (a b : Term) → Quiet (indexed offset a b)
indexed_quiet offset a b s = if_some_quiet a _ (λ x. if_some_quiet b _ (λ y. or_broken_quiet _ offset _)) s

pub cast_quiet : (offset : ℕ) (t : MaybeType) (a : Term) → Quiet (cast offset t a)
cast_quiet offset t a s = if_some_quiet t _ (λ u. if_some_quiet a _ (λ x. or_broken_quiet _ offset _)) s

pub measured_quiet : (offset : ℕ) (t : MaybeType) → Quiet (measured offset t)
measured_quiet offset t s = if_some_quiet t _ (λ u. or_broken_quiet _ offset _) s

take_address_quiet : (a : Operand) → Quiet (take_address a)
take_address_quiet (Place (place t (local slot)) is_const) s = refl
take_address_quiet (Place (place t (global k)) is_const) s = refl
take_address_quiet (Place (place t (at e)) is_const) s = refl
take_address_quiet (Place (place t (member p n)) is_const) s = refl
take_address_quiet (Value e) s = refl

address_quiet : (offset : ℕ) (a : Operand) → Quiet (address offset a)
address_quiet offset a s = let r = take_address a s in or_broken_quiet _ offset _ r.1 ∙ take_address_quiet a s

unary_of_quiet : (o : UnaryOp) (offset : ℕ) (a : Operand) → Quiet (unary_of o offset a)
unary_of_quiet unary_operator.AddressOf offset a s = address_quiet offset a s
unary_of_quiet o offset a s = or_broken_quiet _ offset _ s

pub unary_quiet : (o : Option UnaryOp) (offset : ℕ) (a : Term) → Quiet (if_some o (λ op. unary op offset a))
unary_quiet None offset a s = refl
unary_quiet (Some o) offset a s = if_some_quiet a (unary_of o offset) (unary_of_quiet o offset) s

target_quiet : (offset : ℕ) (a : Term) → Quiet (target offset a)
target_quiet offset a s = if_some_quiet a _ (λ x. by_test x (is_assignable x)) s
  where
    by_test : (x : Operand) (t : Bool) → Quiet (if t then pure (Some x) else broken_at NotAssignable offset)
    by_test x true s = refl
    by_test x false s = refl

pub stepped_quiet : (o : Option IncDec) (offset : ℕ) (gives_old : Bool) (a : Term) → Quiet (if_some o (λ op. stepped op offset gives_old a))
stepped_quiet None offset gives_old a s = refl
stepped_quiet (Some o) offset gives_old a s = let r = target offset a s in if_some_quiet r.0 _ (λ x. or_broken_quiet _ offset _) r.1 ∙ target_quiet offset a s

pub assigned_quiet : (o : Option AssignOp) (offset : ℕ) (a b : Term) → Quiet (if_some o (λ op. assigned op offset a b))
assigned_quiet None offset a b s = refl
assigned_quiet (Some o) offset a b s = let r = target offset a s in if_some_quiet r.0 _ (λ x. if_some_quiet b _ (λ y. or_broken_quiet _ offset _)) r.1 ∙ target_quiet offset a s

member_numbered_quiet : (o : Selection) (offset : ℕ) (a : Operand) (k : Option ℕ) → Quiet (member_numbered o offset a k)
member_numbered_quiet o offset a None s = refl
member_numbered_quiet o offset a (Some k) s = or_broken_quiet _ offset _ s

pub selected_quiet : (o : Option Selection) (offset : ℕ) (name : Name) (name_offset : ℕ) (a : Term) → Quiet (if_some o (λ op. selected op offset name name_offset a))
selected_quiet None offset name name_offset a s = refl
selected_quiet (Some o) offset name name_offset a s =
    if_some_quiet a _ (λ x s.
    let r = or_broken _ offset (selected_tag o x) s in
    if_some_quiet r.0 _ (λ tag s. member_numbered_quiet o name_offset x (member_number s.members tag name) s) r.1 ∙ or_broken_quiet _ offset (selected_tag o x) s) s

pub comma_quiet : (offset : ℕ) (x : Option Sequence) (b : Term) → Quiet (comma offset x b)
comma_quiet offset x b s = if_some_quiet x _ (λ y. if_some_quiet b _ (λ z. or_broken_quiet _ offset _)) s

-- ---- calls

callee_of_quiet : (offset : ℕ) (n : Option ℕ) → Quiet (callee_of offset n)
callee_of_quiet offset None s = refl
callee_of_quiet offset (Some n) s = refl

callee_numbered_quiet : (k : ℕ) (name : Name) (offset : ℕ) → Quiet (callee_numbered k name offset)
callee_numbered_quiet zero name offset s = refl
callee_numbered_quiet (suc zero) name offset s = refl
callee_numbered_quiet (suc (suc zero)) name offset s = refl
callee_numbered_quiet (suc (suc (suc k))) name offset s = callee_of_quiet offset (number_of s.defined name) s

called_meant_quiet : (name : Name) (offset : ℕ) (m : Option Meaning) → Quiet (called_meant name offset m)
called_meant_quiet name offset (Some (means.Function k)) s = callee_numbered_quiet k name offset s
called_meant_quiet name offset None s = term_meant_quiet offset None s
called_meant_quiet name offset (Some (means.Variable slot is_const)) s = term_meant_quiet offset (Some (means.Variable slot is_const)) s
called_meant_quiet name offset (Some (means.Global k is_const)) s = term_meant_quiet offset (Some (means.Global k is_const)) s

pub called_name_quiet : (name : Name) (offset : ℕ) → Quiet (called_name name offset)
called_name_quiet name offset s = called_meant_quiet name offset (meaning_of name s).0 s

call_of_quiet : (offset : ℕ) (callee : Callee) (xs : List Term) (f : Option Declared) → Quiet (call_of offset callee xs f)
call_of_quiet offset callee xs None s = refl
call_of_quiet offset callee xs (Some f) s = by_test (all_fit f.params xs) s
  where
    by_test : (t : Bool) → Quiet (if t then pure (call_term callee f xs) else broken_at BadCall offset)
    by_test true s = refl
    by_test false s = refl

pub called_quiet : (offset : ℕ) (f : Called) (xs : List Term) → Quiet (called offset f xs)
called_quiet offset calls.Nothing xs s = refl
called_quiet offset calls.NoFunction xs s = refl
called_quiet offset (calls.Function callee k) xs s = call_of_quiet offset callee xs (slice_get s.declared k) s

-- ---- types

tag_of_quiet : (name : Name) → Quiet (tag_of name)
tag_of_quiet name s = refl

pub tagged_quiet : (name : Name) (offset : ℕ) → Quiet (tagged name offset)
tagged_quiet name offset s = tag_of_quiet name s

pub specified_type_quiet : (t : Tree) → Quiet (specified_type t)
specified_type_quiet (Node l.Signed (Cons sign (Cons base more))) s = refl
specified_type_quiet (Node l.StructTag (Cons word (Cons tag more))) s = tagged_quiet (name_of tag) (offset_of tag) s
specified_type_quiet t s = refl

pub type_if_quiet : (wrong : Bool) (offset : ℕ) (t : TypeTree) → Quiet (type_if wrong offset t)
type_if_quiet true offset t s = refl
type_if_quiet false offset t s = refl

small_type_quiet : (offset : ℕ) (t : TypeTree) → Quiet (small_type offset t)
small_type_quiet offset t s = type_if_quiet (is_large s.structs (with_elements t)) offset t s

unstarred_quiet : (undeclared : Option ℕ) (t : TypeTree) → Quiet (unstarred undeclared t)
unstarred_quiet None t s = refl
unstarred_quiet (Some tag) t s = refl

pub starred_quiet : (x : Specified) (stars offset : ℕ) → Quiet (starred x stars offset)
starred_quiet x zero offset s = unstarred_quiet x.undeclared x.type s
starred_quiet x (suc n) offset s = type_if_quiet (is_void x.type) offset (pointers_to x.type (suc n)) s

pub named_type_quiet : (offset : ℕ) (x : Specified) (stars : ℕ) (ns : List MaybeSize) → Quiet (named_type offset x stars ns)
named_type_quiet offset x stars ns s =
    let r = starred x stars offset s in if_some_quiet (arrays_of r.0 ns) (small_type offset) (small_type_quiet offset) r.1 ∙ starred_quiet x stars offset s

unless_empty_quiet : (wrong : Bool) (offset : ℕ) (t : MaybeType) → Quiet (unless_empty wrong offset t)
unless_empty_quiet true offset t s = refl
unless_empty_quiet false offset t s = refl

pub size_quiet : (offset : ℕ) (a : Term) → Quiet (size offset a)
size_quiet offset a s = or_broken_quiet _ offset _ s

pub object_type_quiet : (may : Bool) (offset : ℕ) (x : Specified) (stars : ℕ) (ds : List Dimension) → Quiet (object_type may offset x stars ds)
object_type_quiet may offset x stars ds s =
    let u = starred x stars offset s in
    let t = if_some u.0 (λ t. type_if (not (is_object_of s.structs t)) offset t) u.1 in
    let v = if_some (arrays_of t.0 (sizes_of ds)) (small_type offset) t.1 in
    unless_empty_quiet (other_is_empty ds || (first_is_empty ds && not may)) offset v.0 v.1
    ∙ if_some_quiet (arrays_of t.0 (sizes_of ds)) (small_type offset) (small_type_quiet offset) t.1
    ∙ if_some_quiet u.0 (λ t. type_if (not (is_object_of s.structs t)) offset t) (λ t. type_if_quiet (not (is_object_of s.structs t)) offset t) u.1
    ∙ starred_quiet x stars offset s

adjusted_quiet : (offset : ℕ) (t : MaybeType) (ds : List Dimension) → Quiet (adjusted offset t ds)
adjusted_quiet offset t [] s = refl
adjusted_quiet offset t (d ∷ ds) s = if_some_quiet (elements_type t (size_of_dimension d) ds) (small_type offset) (small_type_quiet offset) s

pub param_type_quiet : (offset : ℕ) (x : Specified) (stars : ℕ) (ds : List Dimension) → Quiet (param_type offset x stars ds)
param_type_quiet offset x stars ds s =
    let u = starred (elements_specified x ds) stars offset s in
    let f = λ (t : TypeTree). type_if (not (is_param_of s.structs t ds)) offset t in
    let t = if_some u.0 f u.1 in
    let v = adjusted offset t.0 ds t.1 in
    unless_empty_quiet (other_is_empty ds) offset v.0 v.1
    ∙ adjusted_quiet offset t.0 ds t.1
    ∙ if_some_quiet u.0 f (λ t. type_if_quiet (not (is_param_of s.structs t ds)) offset t) u.1
    ∙ starred_quiet (elements_specified x ds) stars offset s

-- ---- initialisers

converted_quiet : (t : MaybeType) (n offset : ℕ) (a : Operand) → Quiet (converted t n offset a)
converted_quiet None n offset a s = refl
converted_quiet (Some t) n offset a s = or_broken_quiet _ offset _ s

pub value_read_quiet : (is_static : Bool) (t : MaybeType) (n offset : ℕ) (a : Term) → Quiet (value_read is_static t n offset a)
value_read_quiet is_static t n offset a s =
    let r = breaks_if _ NotConstant offset s in if_some_quiet a (converted t n offset) (converted_quiet t n offset) r.1 ∙ breaks_if_quiet _ NotConstant offset s

pub characters_quiet : (n offset : ℕ) (cs : List ℕ) (m : ℕ) → Quiet (characters n offset cs m)
characters_quiet n offset cs m s = by_test (nat_le (length cs) m)
  where
    by_test : (t : Bool) → ((if t then pure (Some (typed.characters_then n cs typed.no_elements)) else broken_at BadInitialiser offset) s).1.globals ≡ s.globals
    by_test true = refl
    by_test false = refl

pub list_for_quiet : (t : MaybeType) (offset count : ℕ) (es : ElementTrees) → Quiet (list_for t offset count es)
list_for_quiet None offset count es s = refl
list_for_quiet (Some t) offset count es s = by_test (takes (parts_of s.structs t) count)
  where
    by_test : (t : Bool) → ((if t then pure (Some es) else broken_at BadInitialiser offset) s).1.globals ≡ s.globals
    by_test true = refl
    by_test false = refl

pub completed_type_quiet : (offset : ℕ) (x : Tree) (t : MaybeType) → Quiet (completed_type offset x t)
completed_type_quiet offset x t s = if_some_quiet (option_and_then (completed x) t) (small_type offset) (small_type_quiet offset) s

-- ---- statements

pub whole_quiet : (offset : ℕ) (a : Term) → Quiet (whole offset a)
whole_quiet offset a s = if_some_quiet a _ (λ x. or_broken_quiet _ offset _) s

pub condition_quiet : (offset : ℕ) (a : Term) → Quiet (condition offset a)
condition_quiet offset a s = if_some_quiet a _ (λ x. or_broken_quiet _ offset _) s

pub subject_quiet : (offset : ℕ) (a : Term) → Quiet (subject offset a)
subject_quiet offset a s = if_some_quiet a _ (λ x. or_broken_quiet _ offset _) s

pub jump_quiet : (allowed : Bool) (offset : ℕ) (a : StmtTree) → Quiet (jump allowed offset a)
jump_quiet allowed offset a s = breaks_if_quiet _ BadJump offset s

pub case_label_quiet : (x : Labels) (offset : ℕ) (w : Option ℕ) → Quiet (case_label x offset w)
case_label_quiet x offset None s = refl
case_label_quiet x offset (Some w) s = breaks_if_quiet _ BadLabel offset s

-- ---- declarations

pub declare_quiet : (name : Name) (offset : ℕ) (m : Meaning) → Quiet (declare name offset m)
declare_quiet name offset m s = breaks_if_quiet (is_declared s.scopes name) Redeclared offset s

pub declare_if_quiet : (name : Option Name) (offset : ℕ) (m : Meaning) → Quiet (declare_if name offset m)
declare_if_quiet None offset m s = refl
declare_if_quiet (Some name) offset m s = declare_quiet name offset m s

function_meant_quiet : (name : Name) (offset : ℕ) (f : Declared) (m : Option Meaning) → Quiet (function_meant name offset f m)
function_meant_quiet name offset f None s = refl
function_meant_quiet name offset f (Some (means.Function k)) s = breaks_if_quiet (not (may_follow (slice_get s.declared k) f)) Redeclared offset s
function_meant_quiet name offset f (Some (means.Variable slot is_const)) s = refl
function_meant_quiet name offset f (Some (means.Global k is_const)) s = refl

pub declare_function_quiet : (name : Name) (offset : ℕ) (f : Declared) → Quiet (declare_function name offset f)
declare_function_quiet name offset f s = function_meant_quiet name offset f (meaning_of name s).0 s
