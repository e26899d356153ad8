-- Which typed programs are well typed: the operands of each form have the types that it asks for (ISO/IEC 9899:2011, 6.5),
-- names stand for what is in scope, jumps stand where they may (6.8.6), and initialisers fit what they begin (6.7.9).
use Rattle.std.specs.Prelude.{◌≡◌, ◌≢◌, ℕ, suc, ◌+◌, ◌*◌, ◌^◌, ◌<◌, ◌≤◌, ◌⊎◌, if◌then◌else◌, Bool, true, false, List, [], ◌∷◌, ◌++◌, map, length, take, slice_get, Some, codes}
use Rattle.val_core.specs.declared.leaf.Leaf.{Leaf}
use Rattle.val_core.specs.declared.operation.Op2.{Op2}
use Rattle.val_core.specs.declared.operation.Op2.TheVariants as op
use Rattle.c_type.specs.declared.scalar.Scalar.TheVariants.{Int, UnsignedInt}
use Rattle.c_type.specs.Trees.{TypeTree, void_type, scalar_type, pointer_to, array_of, struct_type}
use Rattle.c_type.specs.Layout.{Definitions, is_complete, size, offset, leaves, members, IsLaidOut}
use Rattle.c_type.specs.WellDefined.{AreDefinitions}
use Rattle.c_typed.specs.declared.operator.UnaryOp.{UnaryOp}
use Rattle.c_typed.specs.declared.operator.UnaryOp.TheVariants as unary_op
use Rattle.c_typed.specs.declared.operator.BinaryOp.{BinaryOp}
use Rattle.c_typed.specs.declared.operator.BinaryOp.TheVariants as binary_op
use Rattle.c_typed.specs.declared.operator.CompoundOp.{CompoundOp}
use Rattle.c_typed.specs.declared.operator.CompoundOp.TheVariants as compound_op
use Rattle.c_typed.specs.Typed.{ExprTree, expr, FormTree, constant, read, address, unary, binary, logical_and, logical_or, conditional, comma, assign, compound, inc_dec, call, get, ExprTrees, no_exprs, expr_then, PlaceTree, place, PlaceFormTree, local, global, at, member, OptionalExpr, no_expr, some_expr, ElementTrees, no_elements, value_then, characters_then, InitialTree, no_initial, initial_value, initial_elements, StmtTree, null, value, block, if_else, loop, do_while, break, continue, return_value, return_none, switch, ItemTrees, no_items, stmt_then, declare_then, GroupTrees, no_groups, group_then, VariableTree, FunctionTree, WrittenTree, word_at, link_at, characters_at, GlobalTree, ProgramTree}

-- ---- types

abbrev pub int : TypeTree
int = scalar_type Int

abbrev pub unsigned_int : TypeTree
unsigned_int = scalar_type UnsignedInt

abbrev pub IsInteger : TypeTree → Type 0
IsInteger (scalar_type s) = Unit {0}
IsInteger _ = ⊥

-- an integer type or a pointer type
abbrev pub IsScalar : TypeTree → Type 0
IsScalar (scalar_type s) = Unit {0}
IsScalar (pointer_to t) = Unit {0}
IsScalar _ = ⊥

-- the types of arithmetic, to which operands are promoted (6.3.1.1, 6.3.1.8)
abbrev pub IsPromoted : TypeTree → Type 0
IsPromoted (scalar_type Int) = Unit {0}
IsPromoted (scalar_type UnsignedInt) = Unit {0}
IsPromoted _ = ⊥

abbrev pub is_shift : Op2 → Bool
is_shift op.Sll = true
is_shift op.Srl = true
is_shift op.Sra = true
is_shift o = false

abbrev pub is_division : Op2 → Bool
is_division op.Div = true
is_division op.Rem = true
is_division op.Divu = true
is_division op.Remu = true
is_division o = false

-- what `++` and `--` do
abbrev pub step_op : (up : Bool) → Op2
step_op up = if up then op.Add else op.Sub

-- The operation serves the type: division, remainder and the shift to the right are of signed or of unsigned numbers.
abbrev pub Serves : Op2 → TypeTree → Type 0
Serves op.Add t = IsPromoted t
Serves op.Sub t = IsPromoted t
Serves op.Mul t = IsPromoted t
Serves op.And t = IsPromoted t
Serves op.Or t = IsPromoted t
Serves op.Xor t = IsPromoted t
Serves op.Sll t = IsPromoted t
Serves op.Sra t = t ≡ int
Serves op.Div t = t ≡ int
Serves op.Rem t = t ≡ int
Serves op.Srl t = t ≡ unsigned_int
Serves op.Divu t = t ≡ unsigned_int
Serves op.Remu t = t ≡ unsigned_int
Serves o t = ⊥

-- the right operand of an operation of this type: of a shift it has a type of its own
abbrev pub IsRightOf : (shift : Bool) → (t right : TypeTree) → Type 0
IsRightOf true t right = IsPromoted right
IsRightOf false t right = right ≡ t

abbrev pub if_unsigned : Bool → TypeTree
if_unsigned true = unsigned_int
if_unsigned false = int

-- ---- what is in scope

pub record Signature : Type 0 where
  pub result : TypeTree
  pub params : List TypeTree

-- What an expression or a statement may name: the struct definitions, the functions, the globals' types, the variables of
-- the function by number, and those in scope by slot.
pub record Scope : Type 0 where
  pub structs : Definitions
  pub functions : List Signature
  pub globals : List TypeTree
  pub variables : List VariableTree
  pub slots : List VariableTree

-- the scope after one more declaration
abbrev pub extended : Scope → VariableTree → Scope
extended c v = record { structs = c.structs; functions = c.functions; globals = c.globals; variables = c.variables; slots = c.slots ++ v ∷ [] }

-- ---- expressions

abbrev pub type_of : ExprTree → TypeTree
type_of (expr t f) = t

abbrev pub place_type : PlaceTree → TypeTree
place_type (place t f) = t

abbrev pub types_of : ExprTrees → List TypeTree
types_of no_exprs = []
types_of (expr_then e es) = type_of e ∷ types_of es

-- a pointer to elements of so many bytes
abbrev pub PointsTo : Definitions → TypeTree → (bytes : ℕ) → Type 0
PointsTo defs (pointer_to t) bytes = (is_complete defs t ≡ true) × (size defs t ≡ bytes)
PointsTo defs _ bytes = ⊥

-- Only a place that is no value variable has an address.
abbrev pub HasAddress : Scope → PlaceTree → Type 0
HasAddress c (place t (local slot)) = (v : VariableTree) × (slice_get c.slots slot ≡ Some v) × (v.is_object ≡ true)
HasAddress c (place t (global k)) = Unit {0}
HasAddress c (place t (at e)) = Unit {0}
HasAddress c (place t (member p offset)) = HasAddress c p

-- the address of a place of this type: of an array also as that of its first element
abbrev pub IsAddressOf : (address of : TypeTree) → Type 0
IsAddressOf t (array_of u n) = (t ≡ pointer_to (array_of u n)) ⊎ (t ≡ pointer_to u)
IsAddressOf t u = t ≡ pointer_to u

-- a member of the struct of this tag
pub record HasMember (defs : Definitions) (tag begins : ℕ) (t : TypeTree) : Type 0 where
  pub index : ℕ
  pub there : slice_get (members defs tag) index ≡ Some t
  pub stands : offset defs tag index ≡ begins

abbrev pub IsMemberOf : Definitions → (whole : TypeTree) → (begins : ℕ) → TypeTree → Type 0
IsMemberOf defs (struct_type tag) begins t = HasMember defs tag begins t
IsMemberOf defs _ begins t = ⊥

-- A conversion is between two integer types, or from a null constant, which has an integer type, to a pointer type
-- (6.3.1.3, 6.3.2.3).
abbrev pub Converts : (from to : TypeTree) → Type 0
Converts from to = IsInteger from × IsScalar to × (from ≢ to)

abbrev pub UnaryFits : UnaryOp → (t operand : TypeTree) → Type 0
UnaryFits unary_op.Convert t u = Converts u t
UnaryFits unary_op.Discard t u = t ≡ void_type
UnaryFits unary_op.Negate t u = IsPromoted t × (u ≡ t)
UnaryFits unary_op.Complement t u = IsPromoted t × (u ≡ t)
UnaryFits unary_op.LogicalNot t u = (t ≡ int) × IsScalar u
UnaryFits unary_op.Put t u = (t ≡ int) × (u ≡ int)
UnaryFits unary_op.Exit t u = (t ≡ void_type) × (u ≡ int)

abbrev pub IsCompared : TypeTree → Type 0
IsCompared (pointer_to t) = Unit {0}
IsCompared t = IsPromoted t

abbrev pub BinaryFits : Definitions → BinaryOp → (t left right : TypeTree) → Type 0
BinaryFits defs (binary_op.Arithmetic o) t u v = Serves o t × (u ≡ t) × IsRightOf (is_shift o) t v
BinaryFits defs (binary_op.Compare r) t u v = (t ≡ int) × IsCompared u × (v ≡ u)
BinaryFits defs (binary_op.PointerPlus bytes) t u v = PointsTo defs t bytes × (u ≡ t) × IsInteger v
BinaryFits defs (binary_op.IntegerPlus bytes) t u v = PointsTo defs t bytes × IsInteger u × (v ≡ t)
BinaryFits defs (binary_op.PointerMinus bytes) t u v = PointsTo defs t bytes × (u ≡ t) × IsInteger v
BinaryFits defs (binary_op.PointerDifference bytes) t u v = (t ≡ int) × PointsTo defs u bytes × (v ≡ u)

abbrev pub CompoundFits : Definitions → CompoundOp → (t value : TypeTree) → Type 0
CompoundFits defs (compound_op.Arithmetic o unsigned) t v = IsInteger t × Serves o (if_unsigned unsigned) × IsRightOf (is_shift o) (if_unsigned unsigned) v
CompoundFits defs (compound_op.PointerPlus bytes) t v = PointsTo defs t bytes × IsInteger v
CompoundFits defs (compound_op.PointerMinus bytes) t v = PointsTo defs t bytes × IsInteger v

-- by 1, or by an element
abbrev pub IncDecFits : Definitions → (by : ℕ) → TypeTree → Type 0
IncDecFits defs by (scalar_type s) = by ≡ 1
IncDecFits defs by t = PointsTo defs t by

-- The value of `?:` may be none.
abbrev pub IsScalarOrVoid : TypeTree → Type 0
IsScalarOrVoid void_type = Unit {0}
IsScalarOrVoid t = IsScalar t

pub record Calls (c : Scope) (f : ℕ) (t : TypeTree) (arguments : List TypeTree) : Type 0 where
  pub callee : Signature
  pub there : slice_get c.functions f ≡ Some callee
  pub gives : t ≡ callee.result
  pub takes : arguments ≡ callee.params

abbrev mutual
  pub ExprIsTyped : Scope → ExprTree → Type 0
  ExprIsTyped c (expr t f) = FormIsTyped c t f

  pub FormIsTyped : Scope → TypeTree → FormTree → Type 0
  FormIsTyped c t (constant w) = IsPromoted t × (w < 2 ^ 32)
  FormIsTyped c t (read p) = PlaceIsTyped c p × (place_type p ≡ t) × IsScalar t
  FormIsTyped c t (address p) = PlaceIsTyped c p × HasAddress c p × IsAddressOf t (place_type p)
  FormIsTyped c t (unary o e) = ExprIsTyped c e × UnaryFits o t (type_of e)
  FormIsTyped c t (binary o a b) = ExprIsTyped c a × ExprIsTyped c b × BinaryFits c.structs o t (type_of a) (type_of b)
  FormIsTyped c t (logical_and a b) = ExprIsTyped c a × ExprIsTyped c b × IsScalar (type_of a) × IsScalar (type_of b) × (t ≡ int)
  FormIsTyped c t (logical_or a b) = ExprIsTyped c a × ExprIsTyped c b × IsScalar (type_of a) × IsScalar (type_of b) × (t ≡ int)
  FormIsTyped c t (conditional d a b) =
      ExprIsTyped c d × ExprIsTyped c a × ExprIsTyped c b × IsScalar (type_of d) × (type_of a ≡ t) × (type_of b ≡ t) × IsScalarOrVoid t
  FormIsTyped c t (comma es e) = ExprsAreTyped c es × ExprIsTyped c e × (type_of e ≡ t)
  FormIsTyped c t (assign p e) = PlaceIsTyped c p × ExprIsTyped c e × (place_type p ≡ t) × (type_of e ≡ t) × IsScalar t
  FormIsTyped c t (compound o p e) = PlaceIsTyped c p × ExprIsTyped c e × (place_type p ≡ t) × CompoundFits c.structs o t (type_of e)
  FormIsTyped c t (inc_dec i p) = PlaceIsTyped c p × (place_type p ≡ t) × IncDecFits c.structs i.by t
  FormIsTyped c t (call f es) = ExprsAreTyped c es × Calls c f t (types_of es)
  FormIsTyped c t get = t ≡ int

  pub ExprsAreTyped : Scope → ExprTrees → Type 0
  ExprsAreTyped c no_exprs = Unit {0}
  ExprsAreTyped c (expr_then e es) = ExprIsTyped c e × ExprsAreTyped c es

  pub PlaceIsTyped : Scope → PlaceTree → Type 0
  PlaceIsTyped c (place t f) = PlaceFormIsTyped c t f

  pub PlaceFormIsTyped : Scope → TypeTree → PlaceFormTree → Type 0
  PlaceFormIsTyped c t (local slot) = (v : VariableTree) × (slice_get c.slots slot ≡ Some v) × (v.type ≡ t)
  PlaceFormIsTyped c t (global k) = slice_get c.globals k ≡ Some t
  PlaceFormIsTyped c t (at e) = ExprIsTyped c e × (type_of e ≡ pointer_to t)
  PlaceFormIsTyped c t (member p offset) = PlaceIsTyped c p × IsMemberOf c.structs (place_type p) offset t

abbrev pub OptionalIsTyped : Scope → OptionalExpr → Type 0
OptionalIsTyped c no_expr = Unit {0}
OptionalIsTyped c (some_expr e) = ExprIsTyped c e

-- a condition is of an integer or a pointer
abbrev pub IsCondition : Scope → ExprTree → Type 0
IsCondition c e = ExprIsTyped c e × IsScalar (type_of e)

abbrev pub IsOptionalCondition : Scope → OptionalExpr → Type 0
IsOptionalCondition c no_expr = Unit {0}
IsOptionalCondition c (some_expr e) = IsCondition c e

-- ---- initialisers

abbrev pub HasLeaf : List Leaf → (offset width : ℕ) → Type 0
HasLeaf [] offset width = ⊥
HasLeaf (l ∷ ls) offset width = ((l.offset ≡ offset) × (l.width ≡ width)) ⊎ HasLeaf ls offset width

-- characters, each at a leaf of one byte
abbrev pub AreCharactersAt : List Leaf → (offset : ℕ) → List ℕ → Type 0
AreCharactersAt ls offset [] = Unit {0}
AreCharactersAt ls offset (c ∷ cs) = HasLeaf ls offset 1 × (c < 2 ^ 8) × AreCharactersAt ls (suc offset) cs

-- Each element stands at leaves, at or after the offset `from`, where the one before it ends.
abbrev pub ElementsFit : Scope → List Leaf → (from : ℕ) → ElementTrees → Type 0
ElementsFit c ls from no_elements = Unit {0}
ElementsFit c ls from (value_then offset e es) =
    (from ≤ offset) × ExprIsTyped c e × IsScalar (type_of e) × HasLeaf ls offset (size c.structs (type_of e))
    × ElementsFit c ls (offset + size c.structs (type_of e)) es
ElementsFit c ls from (characters_then offset cs es) = (from ≤ offset) × AreCharactersAt ls offset cs × ElementsFit c ls (offset + length cs) es

-- what a variable of this kind may begin with, in the scope of its initialiser
abbrev pub InitialFits : Scope → VariableTree → InitialTree → Type 0
InitialFits c v no_initial = Unit {0}
InitialFits c v (initial_value e) = ExprIsTyped c e × (type_of e ≡ v.type) × IsScalar v.type
InitialFits c v (initial_elements es) = (v.is_object ≡ true) × ElementsFit c (leaves c.structs v.type) 0 es

-- ---- statements

-- which jumps may stand here, and what the function gives
pub record Jumps : Type 0 where
  pub may_break : Bool
  pub may_continue : Bool
  pub result : TypeTree

abbrev pub in_loop : Jumps → Jumps
in_loop j = record { may_break = true; may_continue = true; result = j.result }

abbrev pub in_switch : Jumps → Jumps
in_switch j = record { may_break = true; may_continue = j.may_continue; result = j.result }

-- the words of all `case` labels, and how many groups are that of `default`
abbrev pub all_cases : GroupTrees → List ℕ
all_cases no_groups = []
all_cases (group_then cases is_default is gs) = cases ++ all_cases gs

abbrev pub defaults : GroupTrees → ℕ
defaults no_groups = 0
defaults (group_then cases true is gs) = suc (defaults gs)
defaults (group_then cases false is gs) = defaults gs

abbrev pub AreWords : List ℕ → Type 0
AreWords [] = Unit {0}
AreWords (w ∷ ws) = (w < 2 ^ 32) × AreWords ws

abbrev pub IsNotAmong : ℕ → List ℕ → Type 0
IsNotAmong w [] = Unit {0}
IsNotAmong w (v ∷ vs) = (w ≢ v) × IsNotAmong w vs

abbrev pub AreDistinct : List ℕ → Type 0
AreDistinct [] = Unit {0}
AreDistinct (w ∷ ws) = IsNotAmong w ws × AreDistinct ws

-- no declaration stands directly among these items
abbrev pub AreStatements : ItemTrees → Type 0
AreStatements no_items = Unit {0}
AreStatements (stmt_then s is) = AreStatements is
AreStatements (declare_then d is) = ⊥

-- The type of a variable within its own initialiser. An array that is declared without a length is of unknown size until
-- its initialiser ends, and its elements are counted only there (6.7.9p22): in `int a[] = {a == a};` both operands are the
-- address of an array without a length. It is incomplete (6.2.5p22), so nothing asks for its size, and its address and that
-- of its first element are as they are afterwards. A global has its whole type in every expression of a program: what it
-- begins with is constants and addresses, not expressions.
abbrev pub IsBegunAs : (type begun : TypeTree) → Type 0
IsBegunAs (array_of u n) t = (t ≡ array_of u n) ⊎ (t ≡ array_of u 0)
IsBegunAs u t = t ≡ u

-- the scope of an initialiser has its own variable where it names it, of this type
abbrev pub initial_scope : (names_itself : Bool) → Scope → VariableTree → (begun : TypeTree) → Scope
initial_scope true c v t = extended c (record v { type = t })
initial_scope false c v t = c

abbrev mutual
  pub StmtIsTyped : Scope → Jumps → StmtTree → Type 0
  StmtIsTyped c j null = Unit {0}
  StmtIsTyped c j (value e) = ExprIsTyped c e
  StmtIsTyped c j (block is) = ItemsAreTyped c j is
  StmtIsTyped c j (if_else e s t) = IsCondition c e × StmtIsTyped c j s × StmtIsTyped c j t
  StmtIsTyped c j (loop d step s) = IsOptionalCondition c d × OptionalIsTyped c step × StmtIsTyped c (in_loop j) s
  StmtIsTyped c j (do_while s e) = StmtIsTyped c (in_loop j) s × IsCondition c e
  StmtIsTyped c j break = j.may_break ≡ true
  StmtIsTyped c j continue = j.may_continue ≡ true
  StmtIsTyped c j (return_value e) = ExprIsTyped c e × (type_of e ≡ j.result) × IsScalar j.result
  StmtIsTyped c j return_none = j.result ≡ void_type
  StmtIsTyped c j (switch e gs) =
      ExprIsTyped c e × IsPromoted (type_of e) × GroupsAreTyped c (in_switch j) gs × AreWords (all_cases gs) × AreDistinct (all_cases gs) × (defaults gs ≤ 1)

  pub ItemsAreTyped : Scope → Jumps → ItemTrees → Type 0
  ItemsAreTyped c j no_items = Unit {0}
  ItemsAreTyped c j (stmt_then s is) = StmtIsTyped c j s × ItemsAreTyped c j is
  ItemsAreTyped c j (declare_then d is) =
      (v : VariableTree) × (slice_get c.variables d.variable ≡ Some v)
      × ((t : TypeTree) × IsBegunAs v.type t × InitialFits (initial_scope d.names_itself c v t) v d.initial) × ItemsAreTyped (extended c v) j is

  pub GroupsAreTyped : Scope → Jumps → GroupTrees → Type 0
  GroupsAreTyped c j no_groups = Unit {0}
  GroupsAreTyped c j (group_then cases is_default is gs) = AreStatements is × ItemsAreTyped c j is × GroupsAreTyped c j gs

-- ---- functions, globals and programs

-- a variable that is no object is scalar
abbrev pub VariableFits : Definitions → VariableTree → Type 0
VariableFits defs v = IsLaidOut defs v.type × ((v.is_object ≡ true) ⊎ IsScalar v.type)

abbrev pub VariablesFit : Definitions → List VariableTree → Type 0
VariablesFit defs [] = Unit {0}
VariablesFit defs (v ∷ vs) = VariableFits defs v × VariablesFit defs vs

abbrev pub AreScalar : List TypeTree → Type 0
AreScalar [] = Unit {0}
AreScalar (t ∷ ts) = IsScalar t × AreScalar ts

abbrev pub params_of : FunctionTree → List VariableTree
params_of f = take f.params f.variables

abbrev pub signature_of : FunctionTree → Signature
signature_of f = record { result = f.result; params = map (λ v. v.type) (params_of f) }

-- at the start of a function its parameters are in scope
abbrev pub scope_of : ProgramTree → FunctionTree → Scope
scope_of p f = record {
  structs = p.structs;
  functions = map signature_of p.functions;
  globals = map (λ g. g.type) p.globals;
  variables = f.variables;
  slots = params_of f;
}

pub record FunctionIsTyped (p : ProgramTree) (f : FunctionTree) : Type 0 where
  pub gives : IsScalarOrVoid f.result
  pub params : f.params ≤ length f.variables
  pub takes : AreScalar (map (λ v. v.type) (params_of f))
  pub variables : VariablesFit p.structs f.variables
  pub few : length f.variables < 2 ^ 32
  pub body : ItemsAreTyped (scope_of p f) (record { may_break = false; may_continue = false; result = f.result }) f.body

-- What is written in a global stands at its leaves, in order, and links lead to globals of which there are so many.
abbrev pub WrittenFits : List Leaf → (globals from : ℕ) → List WrittenTree → Type 0
WrittenFits ls n from [] = Unit {0}
WrittenFits ls n from (word_at offset width w ∷ ws) = (from ≤ offset) × HasLeaf ls offset width × (w < 2 ^ (8 * width)) × WrittenFits ls n (offset + width) ws
WrittenFits ls n from (link_at offset k ∷ ws) = (from ≤ offset) × HasLeaf ls offset 4 × (k < n) × WrittenFits ls n (offset + 4) ws
WrittenFits ls n from (characters_at offset cs ∷ ws) = (from ≤ offset) × AreCharactersAt ls offset cs × WrittenFits ls n (offset + length cs) ws

pub record GlobalIsTyped (p : ProgramTree) (g : GlobalTree) : Type 0 where
  pub laid_out : IsLaidOut p.structs g.type
  pub written : WrittenFits (leaves p.structs g.type) (length p.globals) 0 g.written

-- One function is called `main`. It takes nothing and gives an `int` (5.1.2.2.1).
pub record HasMain (p : ProgramTree) : Type 0 where
  pub function : FunctionTree
  pub there : slice_get p.functions p.main ≡ Some function
  pub named : function.name ≡ codes "main"
  pub alone : (k : ℕ) (f : FunctionTree) → slice_get p.functions k ≡ Some f → f.name ≡ codes "main" → k ≡ p.main
  pub gives : function.result ≡ int
  pub takes : function.params ≡ 0

pub record IsWellTyped (p : ProgramTree) : Type 0 where
  pub structs : AreDefinitions p.structs
  pub functions : (k : ℕ) (f : FunctionTree) → slice_get p.functions k ≡ Some f → FunctionIsTyped p f
  pub globals : (k : ℕ) (g : GlobalTree) → slice_get p.globals k ≡ Some g → GlobalIsTyped p g
  pub main : HasMain p
  pub few_functions : length p.functions < 2 ^ 32
  pub few_globals : length p.globals < 2 ^ 32
