-- The values of a tree, up to the greatest answer, need the number of carried variables only up to it.
use Rattle.std.proofs.Common.{◌≡◌, ℕ, zero, suc, ◌+◌, ◌*◌, ◌-◌, ◌^◌, Bool, true, false, ◌&&◌, not, List, [], ◌∷◌, ◌++◌, length, slice_get, Option, Some, None, refl, ap, ◌∙◌, arith}
use Rattle.std.proofs.Math.Nat.{suc-mul}
use Rattle.std.specs.Prelude.{if◌then◌else◌, min}
use Rattle.c_typed.specs.Typed.{ExprTree, expr, FormTree, constant, read, address, unary, binary, logical_and, logical_or, conditional, comma, assign, compound, inc_dec, call, get, ExprTrees, no_exprs, expr_then, PlaceTree, place, local, global, at, member, OptionalExpr, no_expr, some_expr, ElementTrees, no_elements, value_then, characters_then, InitialTree, no_initial, initial_value, initial_elements, DeclarationTree, StmtTree, null, value, block, if_else, loop, do_while, break, continue, return_value, return_none, switch, ItemTrees, no_items, stmt_then, declare_then, GroupTrees, no_groups, group_then, VariableTree}
use Rattle.c_typed.specs.WellTyped.{type_of}
use Rattle.c_type.specs.Trees.{TypeTree}
use Rattle.g_graph.specs.Count.{saturated}
use Rattle.g_build_def.specs.Exits.{stmt_exits, items_exits, groups_exits, can_leave, some_items}
use Rattle.g_build_def.specs.Switch.{ends_segment, some_segment_has_several}
use Rattle.g_build_count.specs.Values.{choice_values, repeat_values, converted_values, condition_values, unary_values, binary_values, compound_values, conditional_extras, in_memory, read_values, write_values, expr_values, form_values, tested_values, exprs_values, place_values, leaving_values, jump_ended_values, optional_tested_values, step_values, again_values, do_again_values, elements_values, value_values, object_values, declared_object, variable_values, declared_values_as, declared_values, more_carried, label_count, segment_count, group_values, selected_values, segments_values, with_from, stmt_values, items_values, groups_values, straight_then_values, straight_values}

-- ---- numbers that are equal up to the greatest answer

pub record Near (n m : ℕ) : Type 0 where
  pub equal : saturated n ≡ saturated m

pub near_itself : (n : ℕ) → Near n n
near_itself n = record { equal = refl }

near_same : {n : ℕ} → Near n n
near_same {n = n} = record { equal = refl }

pub near_add : {a b c d : ℕ} → Near a b → Near c d → Near (a + c) (b + d)
near_add {a = a} {b = b} {c = c} {d = d} h k = let x = h.equal in let y = k.equal in record { equal = omega (arith, x, y) }

near_suc : {a b : ℕ} → Near a b → Near (suc a) (suc b)
near_suc {a = a} {b = b} h = let x = h.equal in record { equal = omega (arith, x) }

near_twice : {a b : ℕ} → Near a b → Near (2 * a) (2 * b)
near_twice {a = a} {b = b} h = let x = h.equal in record { equal = omega (arith, x) }

near_three : {a b : ℕ} → Near a b → Near (3 * a) (3 * b)
near_three {a = a} {b = b} h = let x = h.equal in record { equal = omega (arith, x) }

near_five : {a b : ℕ} → Near a b → Near (5 * a) (5 * b)
near_five {a = a} {b = b} h = let x = h.equal in record { equal = omega (arith, x) }

near_times : (n : ℕ) {a b : ℕ} → Near a b → Near (n * a) (n * b)
near_times zero {a = a} {b = b} h = record { equal = omega arith }
near_times (suc n) {a = a} {b = b} h =
    let x = h.equal in
    let rest = (near_times n {a = a} {b = b} h).equal in
    let p = suc-mul n a in
    let q = suc-mul n b in
    record { equal = omega (arith, x, rest, p, q) }

pub near_saturated : (n : ℕ) → Near (saturated n) n
near_saturated n = record { equal = omega arith }

near_choice : (x : ℕ) {c d a b p q : ℕ} → Near c d → Near a b → Near p q → Near (choice_values c x a p) (choice_values d x b q)
near_choice x h i j = near_add (near_add (near_add (near_itself (3 + 3 * x)) (near_five h)) i) j

near_repeat : {c d a b : ℕ} → Near c d → Near a b → Near (repeat_values c a) (repeat_values d b)
near_repeat h i = near_add (near_add (near_itself 3) (near_three h)) i

-- ---- expressions

mutual
  expr_near : {c d : ℕ} → Near c d → (os : List Bool) (e : ExprTree) → Near (expr_values c os e) (expr_values d os e)
  expr_near h os (expr t f) = form_near h os t f

  form_near : {c d : ℕ} → Near c d → (os : List Bool) (t : TypeTree) (f : FormTree) → Near (form_values c os t f) (form_values d os t f)
  form_near h os t (constant w) = near_same
  form_near h os t (read p) = near_add (place_near h os p) (near_itself (read_values (in_memory os p) t))
  form_near h os t (address p) = place_near h os p
  form_near h os t (unary o e) = near_add (expr_near h os e) (near_itself (unary_values o t))
  form_near h os t (binary o a b) = near_add (expr_near h os a) (near_add (expr_near h os b) (near_itself (binary_values o (type_of a))))
  form_near h os t (logical_and a b) = near_add (tested_near h os a) (near_choice 1 h (near_itself 2) (near_add (tested_near h os b) (near_itself 4)))
  form_near h os t (logical_or a b) = near_add (tested_near h os a) (near_choice 1 h (near_add (tested_near h os b) (near_itself 4)) (near_itself 2))
  form_near h os t (conditional e a b) = near_add (tested_near h os e) (near_choice (conditional_extras t) h (expr_near h os b) (expr_near h os a))
  form_near h os t (comma es e) = near_add (exprs_near h os es) (expr_near h os e)
  form_near h os t (assign p e) = near_add (place_near h os p) (near_add (expr_near h os e) (near_itself (write_values (in_memory os p))))
  form_near h os t (compound o p e) =
      near_add (place_near h os p)
      (near_add (near_itself (read_values (in_memory os p) t))
      (near_add (expr_near h os e) (near_itself (compound_values o + (converted_values t + write_values (in_memory os p))))))
  form_near h os t (inc_dec i p) =
      near_add (place_near h os p) (near_itself (read_values (in_memory os p) t + (4 + (converted_values t + write_values (in_memory os p)))))
  form_near h os t (call f es) = near_add (exprs_near h os es) (near_itself 4)
  form_near h os t get = near_same

  tested_near : {c d : ℕ} → Near c d → (os : List Bool) (e : ExprTree) → Near (tested_values c os e) (tested_values d os e)
  tested_near h os (expr t f) = near_add (form_near h os t f) (near_itself (condition_values t))

  exprs_near : {c d : ℕ} → Near c d → (os : List Bool) (es : ExprTrees) → Near (exprs_values c os es) (exprs_values d os es)
  exprs_near h os no_exprs = near_same
  exprs_near h os (expr_then e es) = near_add (expr_near h os e) (exprs_near h os es)

  place_near : {c d : ℕ} → Near c d → (os : List Bool) (p : PlaceTree) → Near (place_values c os p) (place_values d os p)
  place_near h os (place t (local k)) = near_same
  place_near h os (place t (global k)) = near_same
  place_near h os (place t (at e)) = expr_near h os e
  place_near h os (place t (member p offset)) = near_add (place_near h os p) (near_itself (if in_memory os p then 4 else 0))

-- ---- statements

leaving_near : {c d : ℕ} → Near c d → (l : Bool) → Near (leaving_values c l) (leaving_values d l)
leaving_near h true = near_add (near_itself 3) (near_five h)
leaving_near h false = near_same

optional_near : {c d : ℕ} → Near c d → (os : List Bool) (e : OptionalExpr) → Near (optional_tested_values c os e) (optional_tested_values d os e)
optional_near h os no_expr = near_same
optional_near h os (some_expr e) = tested_near h os e

step_near : {c d : ℕ} → Near c d → (os : List Bool) (l : Bool) (e : OptionalExpr) → Near (step_values c os l e) (step_values d os l e)
step_near h os l no_expr = near_same
step_near h os l (some_expr e) = near_add (leaving_near h l) (expr_near h os e)

again_near : {c d : ℕ} → Near c d → (os : List Bool) (l : Bool) (e : OptionalExpr) → Near (again_values c os l e) (again_values d os l e)
again_near h os l e = near_add (near_add (near_itself (jump_ended_values l)) (step_near h os l e)) (near_itself (if l then 4 else 2))

do_again_near : {c d : ℕ} → Near c d → (os : List Bool) (l : Bool) (e : ExprTree) → Near (do_again_values c os l e) (do_again_values d os l e)
do_again_near h os true e = near_add (near_itself 6) (near_choice 1 h (tested_near h os e) (near_itself 2))
do_again_near h os false e = tested_near h os e

elements_near : {c d : ℕ} → Near c d → (os : List Bool) (es : ElementTrees) → Near (elements_values c os es) (elements_values d os es)
elements_near h os no_elements = near_same
elements_near h os (value_then o e es) = near_add (near_add (expr_near h os e) (near_itself 8)) (elements_near h os es)
elements_near h os (characters_then o cs es) = near_add (near_itself (10 * length cs)) (elements_near h os es)

value_near : {c d : ℕ} → Near c d → (os : List Bool) (names : Bool) (i : InitialTree) → Near (value_values c os names i) (value_values d os names i)
value_near h os true (initial_value e) = near_add (near_itself 2) (expr_near (near_suc h) (os ++ false ∷ []) e)
value_near h os false (initial_value e) = expr_near h os e
value_near h os true no_initial = near_same
value_near h os false no_initial = near_same
value_near h os true (initial_elements es) = near_same
value_near h os false (initial_elements es) = near_same

object_near : {c d : ℕ} → Near c d → (os : List Bool) (i : InitialTree) → Near (object_values c os i) (object_values d os i)
object_near h os no_initial = near_same
object_near h os (initial_value e) = near_add (expr_near h os e) (near_itself 4)
object_near h os (initial_elements es) = near_add (near_itself 2) (elements_near h os es)

variable_near : {c d : ℕ} → Near c d → (b : Bool) (os : List Bool) (x : DeclarationTree) → Near (variable_values b c os x) (variable_values b d os x)
variable_near h true os x = object_near h (os ++ true ∷ []) x.initial
variable_near h false os x = value_near h os x.names_itself x.initial

declared_as_near : {c d : ℕ} → Near c d → (v : Option VariableTree) (os : List Bool) (x : DeclarationTree) → Near (declared_values_as v c os x) (declared_values_as v d os x)
declared_as_near h None os x = near_same
declared_as_near h (Some v) os x = variable_near h v.is_object os x

declared_near : {c d : ℕ} → Near c d → (vs : List VariableTree) (os : List Bool) (x : DeclarationTree) → Near (declared_values vs c os x) (declared_values vs d os x)
declared_near h vs os x = declared_as_near h (slice_get vs x.variable) os x

pub more_near : {c d : ℕ} → Near c d → (b : Bool) → Near (more_carried b c) (more_carried b d)
more_near h true = h
more_near h false = near_suc h

from_near : {c d : ℕ} → Near c d → (several : Bool) → Near (with_from several c) (with_from several d)
from_near h true = near_suc h
from_near h false = h

pub segments_near : {c d : ℕ} → Near c d → (n : ℕ) → Near (segments_values c n) (segments_values d n)
segments_near h n = near_add (near_add (near_itself 1) h) (near_times (suc n) (near_add (near_itself 1) (near_twice h)))

group_near : {c d a b : ℕ} → Near c d → Near a b → (alone l : Bool) → Near (group_values c alone l a) (group_values d alone l b)
group_near h i true l = i
group_near h i false l = near_add (near_add (near_itself 4) (near_choice 0 h (near_itself 0) i)) (leaving_near h l)

mutual
  stmt_near : {c d : ℕ} → Near c d → (vs : List VariableTree) (os : List Bool) (a : StmtTree) → Near (stmt_values vs c os a) (stmt_values vs d os a)
  stmt_near h vs os null = near_same
  stmt_near h vs os (value e) = expr_near h os e
  stmt_near h vs os (block is) = items_near h vs os is
  stmt_near h vs os (if_else e a b) = near_add (tested_near h os e) (near_choice 0 h (stmt_near h vs os b) (stmt_near h vs os a))
  stmt_near h vs os (loop e step a) =
      near_add
      (near_repeat h
      (near_add (optional_near h os e)
      (near_choice 1 h (near_itself 2) (near_add (stmt_near h vs os a) (again_near h os (can_leave (stmt_exits a)) step)))))
      (near_itself (jump_ended_values (can_leave (stmt_exits a))))
  stmt_near h vs os (do_while a e) =
      near_add (near_repeat h (near_add (stmt_near h vs os a) (do_again_near h os (can_leave (stmt_exits a)) e)))
      (near_itself (jump_ended_values (can_leave (stmt_exits a))))
  stmt_near h vs os break = near_same
  stmt_near h vs os continue = near_same
  stmt_near h vs os (return_value e) = near_add (expr_near h os e) (near_itself 2)
  stmt_near h vs os return_none = near_same
  stmt_near h vs os (switch e no_groups) = expr_near h os e
  stmt_near h vs os (switch e (group_then cases d is gs)) =
      let all : GroupTrees = group_then cases d is gs in
      let several : Bool = some_segment_has_several all in
      let ends : Bool = ends_segment is gs in
      near_add
      (near_add
      (near_add (near_add (expr_near h os e) (near_itself (selected_values several (label_count all)))) (segments_near (from_near h several) (segment_count all)))
      (near_add (group_near (from_near h several) (items_near (from_near h several) vs os is) ends (not ends && can_leave (items_exits is)))
      (groups_near (from_near h several) vs os ends gs)))
      (near_itself (jump_ended_values (groups_exits all).breaks))

  pub items_near : {c d : ℕ} → Near c d → (vs : List VariableTree) (os : List Bool) (is : ItemTrees) → Near (items_values vs c os is) (items_values vs d os is)
  items_near h vs os no_items = near_same
  items_near h vs os (stmt_then a is) =
      near_add (stmt_near h vs os a) (near_add (leaving_near h (can_leave (stmt_exits a) && some_items is)) (items_near h vs os is))
  items_near h vs os (declare_then x is) =
      near_add (declared_near h vs os x) (items_near (more_near h (declared_object vs x)) vs (os ++ declared_object vs x ∷ []) is)

  pub groups_near : {c d : ℕ} → Near c d → (vs : List VariableTree) (os : List Bool) (begins : Bool) (gs : GroupTrees) →
      Near (groups_values vs c os begins gs) (groups_values vs d os begins gs)
  groups_near h vs os begins no_groups = near_same
  groups_near h vs os begins (group_then cases x is gs) =
      near_add (group_near h (items_near h vs os is) (begins && ends_segment is gs) (not (ends_segment is gs) && can_leave (items_exits is)))
      (groups_near h vs os (ends_segment is gs) gs)

-- ---- bodies without jumps

straight_then_near : {c d a b : ℕ} → Near c d → Near a b → (follows : Bool) (vs : List VariableTree) (os : List Bool) (s : StmtTree) →
    Near (straight_then_values follows vs c os s a) (straight_then_values follows vs d os s b)
straight_then_near h i false vs os (return_value e) = expr_near h os e
straight_then_near h i false vs os return_none = near_same
straight_then_near h i follows vs os s = near_add (stmt_near h vs os s) i

pub straight_near : {c d : ℕ} → Near c d → (vs : List VariableTree) (os : List Bool) (is : ItemTrees) → Near (straight_values vs c os is) (straight_values vs d os is)
straight_near h vs os no_items = near_same
straight_near h vs os (stmt_then a is) = straight_then_near h (straight_near h vs os is) (some_items is) vs os a
straight_near h vs os (declare_then x is) =
    near_add (declared_near h vs os x) (straight_near (more_near h (declared_object vs x)) vs (os ++ declared_object vs x ∷ []) is)

-- ---- one variable more, up to the greatest answer

more_saturated : (c : ℕ) → Near (min (c + 1) (2 ^ 64 - 1)) (suc c)
more_saturated c = record { equal = omega arith }

-- the initialiser of a variable that is named in it
pub named_values : (c a r n : ℕ) (os : List Bool) (e : ExprTree) → a ≡ min (c + 1) (2 ^ 64 - 1) → r ≡ saturated (expr_values a (os ++ false ∷ []) e) → n ≡ min (r + 2) (2 ^ 64 - 1) →
    n ≡ saturated (value_values c os true (initial_value e))
named_values c a r n os e h k l =
    let more = (expr_near (more_saturated c) (os ++ false ∷ []) e).equal in
    let here : r ≡ saturated (expr_values (min (c + 1) (2 ^ 64 - 1)) (os ++ false ∷ []) e) = k ∙ ap (λ m. saturated (expr_values m (os ++ false ∷ []) e)) h in
    omega (arith, more, here, l)
