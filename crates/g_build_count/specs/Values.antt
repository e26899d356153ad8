-- How many values the construction of a typed tree has, in numbers alone: by how many variables are carried, and by
-- which slots are objects. A node without regions has one for itself and one for each output, most often 2.
use Rattle.std.specs.Prelude.{ℕ, suc, ◌+◌, ◌*◌, Bool, true, false, ◌&&◌, not, if◌then◌else◌, List, [], ◌∷◌, ◌++◌, map, length, slice_get, slice_index_or, Option, None, Some}
use Rattle.c_type.specs.declared.scalar.Scalar.TheVariants.{Char, SignedChar, UnsignedChar, Short, UnsignedShort}
use Rattle.c_type.specs.Trees.{TypeTree, void_type, scalar_type, pointer_to}
use Rattle.c_typed.specs.declared.operator.Relation.{Relation}
use Rattle.c_typed.specs.declared.operator.Relation.TheVariants.{LessEqual, GreaterEqual, NotEqual}
use Rattle.c_typed.specs.declared.operator.UnaryOp.{UnaryOp}
use Rattle.c_typed.specs.declared.operator.UnaryOp.TheVariants as unary_op
use Rattle.c_typed.specs.declared.operator.BinaryOp.{BinaryOp}
use Rattle.c_typed.specs.declared.operator.BinaryOp.TheVariants as binary_op
use Rattle.c_typed.specs.declared.operator.CompoundOp.{CompoundOp}
use Rattle.c_typed.specs.declared.operator.CompoundOp.TheVariants as compound_op
use Rattle.c_typed.specs.Typed.{ExprTree, expr, FormTree, constant, read, address, unary, binary, logical_and, logical_or, conditional, comma, assign, compound, inc_dec, call, get, ExprTrees, no_exprs, expr_then, PlaceTree, place, PlaceFormTree, local, global, at, member, OptionalExpr, no_expr, some_expr, ElementTrees, no_elements, value_then, characters_then, InitialTree, no_initial, initial_value, initial_elements, DeclarationTree, StmtTree, null, value, block, if_else, loop, do_while, break, continue, return_value, return_none, switch, ItemTrees, no_items, stmt_then, declare_then, GroupTrees, no_groups, group_then, VariableTree, FunctionTree}
use Rattle.c_typed.specs.WellTyped.{type_of, params_of}
use Rattle.c_typed.specs.Objects.{object_by}
use Rattle.g_build_def.specs.Exits.{stmt_exits, items_exits, groups_exits, can_leave, some_items, body_jumps}
use Rattle.g_build_def.specs.Switch.{ends_segment, some_segment_has_several}

-- ---- regions

-- a Gamma of two regions of so many values, which gives so many extra values and the carried variables
abbrev pub choice_values : (carried extra : ℕ) → (region0 region1 : ℕ) → ℕ
choice_values c x a b = 3 + 3 * x + 5 * c + a + b

-- a Theta whose region has so many values
abbrev pub repeat_values : (carried : ℕ) → (region : ℕ) → ℕ
repeat_values c a = 3 + 3 * c + a

-- ---- expressions

abbrev pub converted_values : TypeTree → ℕ
converted_values (scalar_type Char) = 2
converted_values (scalar_type UnsignedChar) = 2
converted_values (scalar_type SignedChar) = 2
converted_values (scalar_type Short) = 2
converted_values (scalar_type UnsignedShort) = 2
converted_values t = 0

-- a Load, and an extension
abbrev pub load_values : TypeTree → ℕ
load_values (scalar_type SignedChar) = 4
load_values (scalar_type Short) = 4
load_values t = 2

abbrev pub condition_values : TypeTree → ℕ
condition_values (pointer_to t) = 8
condition_values t = 0

abbrev pub not_equal_values : TypeTree → ℕ
not_equal_values (pointer_to t) = 6
not_equal_values t = 2

abbrev pub compared_values : Relation → TypeTree → ℕ
compared_values LessEqual t = 6
compared_values GreaterEqual t = 6
compared_values NotEqual t = not_equal_values t
compared_values r t = 2

abbrev pub unary_values : UnaryOp → TypeTree → ℕ
unary_values unary_op.Convert t = converted_values t
unary_values unary_op.Discard t = 0
unary_values unary_op.Exit t = 2
unary_values o t = 4

abbrev pub binary_values : BinaryOp → (operands : TypeTree) → ℕ
binary_values (binary_op.Arithmetic o) t = 2
binary_values (binary_op.Compare r) t = compared_values r t
binary_values o t = 6

abbrev pub compound_values : CompoundOp → ℕ
compound_values (compound_op.Arithmetic o unsigned) = 2
compound_values o = 6

-- the extra values of `?:`
abbrev pub conditional_extras : TypeTree → ℕ
conditional_extras void_type = 0
conditional_extras t = 1

abbrev pub is_object : List Bool → (slot : ℕ) → Bool
is_object os k = slice_index_or os k false

-- what stands at an address, and not in a value variable
abbrev pub in_memory : List Bool → PlaceTree → Bool
in_memory os (place t (local k)) = is_object os k
in_memory os (place t (global k)) = true
in_memory os (place t (at e)) = true
in_memory os (place t (member p offset)) = in_memory os p

abbrev pub read_values : (in_memory : Bool) → TypeTree → ℕ
read_values m t = if m then load_values t else 0

abbrev pub write_values : (in_memory : Bool) → ℕ
write_values m = if m then 2 else 0

abbrev mutual
  pub expr_values : (carried : ℕ) → (objects : List Bool) → ExprTree → ℕ
  expr_values c os (expr t f) = form_values c os t f

  pub form_values : (carried : ℕ) → (objects : List Bool) → TypeTree → FormTree → ℕ
  form_values c os t (constant w) = 2
  form_values c os t (read p) = place_values c os p + read_values (in_memory os p) t
  form_values c os t (address p) = place_values c os p
  form_values c os t (unary o e) = expr_values c os e + unary_values o t
  form_values c os t (binary o a b) = expr_values c os a + (expr_values c os b + binary_values o (type_of a))
  form_values c os t (logical_and a b) = tested_values c os a + choice_values c 1 2 (tested_values c os b + 4)
  form_values c os t (logical_or a b) = tested_values c os a + choice_values c 1 (tested_values c os b + 4) 2
  form_values c os t (conditional d a b) = tested_values c os d + choice_values c (conditional_extras t) (expr_values c os b) (expr_values c os a)
  form_values c os t (comma es e) = exprs_values c os es + expr_values c os e
  form_values c os t (assign p e) = place_values c os p + (expr_values c os e + write_values (in_memory os p))
  form_values c os t (compound o p e) =
      place_values c os p
      + (read_values (in_memory os p) t + (expr_values c os e + (compound_values o + (converted_values t + write_values (in_memory os p)))))
  form_values c os t (inc_dec i p) =
      place_values c os p + (read_values (in_memory os p) t + (4 + (converted_values t + write_values (in_memory os p))))
  form_values c os t (call f es) = exprs_values c os es + 4
  form_values c os t get = 3

  -- an operand as a condition
  pub tested_values : (carried : ℕ) → (objects : List Bool) → ExprTree → ℕ
  tested_values c os (expr t f) = form_values c os t f + condition_values t

  pub exprs_values : (carried : ℕ) → (objects : List Bool) → ExprTrees → ℕ
  exprs_values c os no_exprs = 0
  exprs_values c os (expr_then e es) = expr_values c os e + exprs_values c os es

  -- the address of a place
  pub place_values : (carried : ℕ) → (objects : List Bool) → PlaceTree → ℕ
  place_values c os (place t f) = place_form_values c os f

  pub place_form_values : (carried : ℕ) → (objects : List Bool) → PlaceFormTree → ℕ
  place_form_values c os (local k) = if is_object os k then 2 else 0
  place_form_values c os (global k) = 2
  place_form_values c os (at e) = expr_values c os e
  place_form_values c os (member p offset) = place_values c os p + (if in_memory os p then 4 else 0)

-- ---- jumps and loops

-- a Gamma on `go` round what follows an item that can leave
abbrev pub leaving_values : (carried : ℕ) → (leaves : Bool) → ℕ
leaving_values c l = if l then 3 + 5 * c else 0

-- `go` becomes 0 where it was a code
abbrev pub jump_ended_values : (leaves : Bool) → ℕ
jump_ended_values l = if l then 6 else 0

abbrev pub optional_tested_values : (carried : ℕ) → (objects : List Bool) → OptionalExpr → ℕ
optional_tested_values c os no_expr = 2
optional_tested_values c os (some_expr e) = tested_values c os e

abbrev pub step_values : (carried : ℕ) → (objects : List Bool) → (leaves : Bool) → OptionalExpr → ℕ
step_values c os l no_expr = 0
step_values c os l (some_expr e) = leaving_values c l + expr_values c os e

-- whether there is another turn
abbrev pub again_values : (carried : ℕ) → (objects : List Bool) → (leaves : Bool) → (step : OptionalExpr) → ℕ
again_values c os l step = jump_ended_values l + step_values c os l step + (if l then 4 else 2)

abbrev pub loop_values : (carried : ℕ) → (objects : List Bool) → (condition step : OptionalExpr) → (leaves : Bool) → (body : ℕ) → ℕ
loop_values c os d step l a =
    repeat_values c (optional_tested_values c os d + choice_values c 1 2 (a + again_values c os l step)) + jump_ended_values l

abbrev pub do_again_values : (carried : ℕ) → (objects : List Bool) → (leaves : Bool) → ExprTree → ℕ
do_again_values c os l e = if l then 6 + choice_values c 1 (tested_values c os e) 2 else tested_values c os e

abbrev pub do_values : (carried : ℕ) → (objects : List Bool) → ExprTree → (leaves : Bool) → (body : ℕ) → ℕ
do_values c os e l a = repeat_values c (a + do_again_values c os l e) + jump_ended_values l

-- ---- declarations

-- a written value: Local, Const, Add and Store, and the Const of a character
abbrev pub elements_values : (carried : ℕ) → (objects : List Bool) → ElementTrees → ℕ
elements_values c os no_elements = 0
elements_values c os (value_then o e es) = expr_values c os e + 8 + elements_values c os es
elements_values c os (characters_then o cs es) = 10 * length cs + elements_values c os es

-- of a value variable that is named in its initialiser and is in scope there
abbrev pub value_values : (carried : ℕ) → (objects : List Bool) → (names_itself : Bool) → InitialTree → ℕ
value_values c os true (initial_value e) = 2 + expr_values (suc c) (os ++ false ∷ []) e
value_values c os false (initial_value e) = expr_values c os e
value_values c os names_itself i = 2

abbrev pub object_values : (carried : ℕ) → (objects : List Bool) → InitialTree → ℕ
object_values c os no_initial = 0
object_values c os (initial_value e) = expr_values c os e + 4
object_values c os (initial_elements es) = 2 + elements_values c os es

abbrev pub declared_object : List VariableTree → DeclarationTree → Bool
declared_object vs d = object_by (slice_get vs d.variable)

abbrev pub variable_values : (object : Bool) → (carried : ℕ) → (objects : List Bool) → DeclarationTree → ℕ
variable_values true c os d = object_values c (os ++ true ∷ []) d.initial
variable_values false c os d = value_values c os d.names_itself d.initial

abbrev pub declared_values_as : Option VariableTree → (carried : ℕ) → (objects : List Bool) → DeclarationTree → ℕ
declared_values_as None c os d = 0
declared_values_as (Some v) c os d = variable_values v.is_object c os d

abbrev pub declared_values : List VariableTree → (carried : ℕ) → (objects : List Bool) → DeclarationTree → ℕ
declared_values vs c os d = declared_values_as (slice_get vs d.variable) c os d

-- a value variable is one more that is carried
abbrev pub more_carried : (object : Bool) → ℕ → ℕ
more_carried true c = c
more_carried false c = suc c

-- ---- switch

abbrev pub label_count : GroupTrees → ℕ
label_count no_groups = 0
label_count (group_then cases d is gs) = length cases + label_count gs

-- the first of these groups is the last of its segment
abbrev pub first_ends : GroupTrees → Bool
first_ends no_groups = true
first_ends (group_then cases d is gs) = ends_segment is gs

abbrev pub segment_count : GroupTrees → ℕ
segment_count no_groups = 0
segment_count (group_then cases d is gs) = (if ends_segment is gs then 1 else 0) + segment_count gs

-- a group of a segment of several: Const, Sltu and a Gamma round its statements
abbrev pub group_values : (carried : ℕ) → (alone : Bool) → (leaves : Bool) → (statements : ℕ) → ℕ
group_values c true l n = n
group_values c false l n = 4 + choice_values c 0 0 n + leaving_values c l

-- the number of the segment, and `from`
abbrev pub selected_values : (several : Bool) → (labels : ℕ) → ℕ
selected_values several n = 2 + 10 * n + (if several then 2 + 6 * n else 0)

-- a Gamma of regions, one for each segment and one with nothing, without what stands in them
abbrev pub segments_values : (carried segments : ℕ) → ℕ
segments_values c n = 1 + c + suc n * (1 + 2 * c)

abbrev pub with_from : (several : Bool) → ℕ → ℕ
with_from several c = if several then suc c else c

-- ---- statements

abbrev mutual
  pub stmt_values : List VariableTree → (carried : ℕ) → (objects : List Bool) → StmtTree → ℕ
  stmt_values vs c os null = 0
  stmt_values vs c os (value e) = expr_values c os e
  stmt_values vs c os (block is) = items_values vs c os is
  stmt_values vs c os (if_else e a b) = tested_values c os e + choice_values c 0 (stmt_values vs c os b) (stmt_values vs c os a)
  stmt_values vs c os (loop d step a) = loop_values c os d step (can_leave (stmt_exits a)) (stmt_values vs c os a)
  stmt_values vs c os (do_while a e) = do_values c os e (can_leave (stmt_exits a)) (stmt_values vs c os a)
  stmt_values vs c os break = 2
  stmt_values vs c os continue = 2
  stmt_values vs c os (return_value e) = expr_values c os e + 2
  stmt_values vs c os return_none = 4
  stmt_values vs c os (switch e no_groups) = expr_values c os e
  stmt_values vs c os (switch e (group_then cases d is gs)) =
      let several : Bool = some_segment_has_several (group_then cases d is gs) in
      expr_values c os e + selected_values several (label_count (group_then cases d is gs))
      + segments_values (with_from several c) (segment_count (group_then cases d is gs))
      + groups_values vs (with_from several c) os true (group_then cases d is gs)
      + jump_ended_values (groups_exits (group_then cases d is gs)).breaks

  pub items_values : List VariableTree → (carried : ℕ) → (objects : List Bool) → ItemTrees → ℕ
  items_values vs c os no_items = 0
  items_values vs c os (stmt_then a is) =
      stmt_values vs c os a + (leaving_values c (can_leave (stmt_exits a) && some_items is) + items_values vs c os is)
  items_values vs c os (declare_then d is) =
      declared_values vs c os d + items_values vs (more_carried (declared_object vs d) c) (os ++ declared_object vs d ∷ []) is

  -- the groups from one that begins a segment, or goes on in it
  pub groups_values : List VariableTree → (carried : ℕ) → (objects : List Bool) → (begins : Bool) → GroupTrees → ℕ
  groups_values vs c os begins no_groups = 0
  groups_values vs c os begins (group_then cases d is gs) =
      group_values c (begins && ends_segment is gs) (not (ends_segment is gs) && can_leave (items_exits is)) (items_values vs c os is)
      + groups_values vs c os (ends_segment is gs) gs

-- ---- functions

-- the arguments of parameters that are objects are stored: Local and Store
abbrev pub params_values : List VariableTree → ℕ
params_values [] = 0
params_values (p ∷ ps) = (if p.is_object then 4 else 0) + params_values ps

abbrev pub value_params : List VariableTree → ℕ
value_params [] = 0
value_params (p ∷ ps) = if p.is_object then value_params ps else suc (value_params ps)

-- a body without jumps: a `return` that is last makes its value alone, and where there is none a Const or Undef is made
abbrev pub straight_then_values : (follows : Bool) → List VariableTree → (carried : ℕ) → (objects : List Bool) → StmtTree → (rest : ℕ) → ℕ
straight_then_values false vs c os (return_value e) n = expr_values c os e
straight_then_values false vs c os return_none n = 2
straight_then_values follows vs c os a n = stmt_values vs c os a + n

abbrev pub straight_values : List VariableTree → (carried : ℕ) → (objects : List Bool) → ItemTrees → ℕ
straight_values vs c os no_items = 2
straight_values vs c os (stmt_then a is) = straight_then_values (some_items is) vs c os a (straight_values vs c os is)
straight_values vs c os (declare_then d is) =
    declared_values vs c os d + straight_values vs (more_carried (declared_object vs d) c) (os ++ declared_object vs d ∷ []) is

-- the value that a `return` gives
abbrev pub returned_values : (carried : ℕ) → (objects : List Bool) → StmtTree → ℕ
returned_values c os (return_value e) = expr_values c os e
returned_values c os a = 2

abbrev pub objects_of : List VariableTree → List Bool
objects_of vs = map (λ (v : VariableTree). v.is_object) vs

-- the nodes of the body: two states are carried, and where it has jumps `go` and `ret`, for which there are two nodes
abbrev pub body_values : FunctionTree → ℕ
body_values f =
    let ps : List VariableTree = params_of f in
    params_values ps
    + (if body_jumps f.body
    then 4 + items_values f.variables (value_params ps + 4) (objects_of ps) f.body
    else straight_values f.variables (value_params ps + 2) (objects_of ps) f.body)

-- with the body itself, an argument for each parameter and each state, and three results
abbrev pub counted_values : FunctionTree → ℕ
counted_values f = 6 + f.params + body_values f

-- from the parameters on, where these are not yet in scope
abbrev pub entered_values : FunctionTree → (jumps : Bool) → List VariableTree → (carried : ℕ) → (objects : List Bool) → ℕ
entered_values f j [] c os = if j then 4 + items_values f.variables c os f.body else straight_values f.variables c os f.body
entered_values f j (p ∷ ps) c os = (if p.is_object then 4 else 0) + entered_values f j ps (more_carried p.is_object c) (os ++ p.is_object ∷ [])
