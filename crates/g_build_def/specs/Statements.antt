-- Declarations and statements (ISO/IEC 9899:2011, 6.7, 6.8).
use Rattle.std.specs.Prelude.{ℕ, suc, ◌&&◌, Bool, true, false, List, [], ◌∷◌, slice_get, Option, None, Some}
use Rattle.c_typed.specs.Typed.{ElementTrees, no_elements, value_then, characters_then, InitialTree, no_initial, initial_value, initial_elements, DeclarationTree, StmtTree, null, value, block, if_else, loop, do_while, break, continue, return_value, return_none, switch, ItemTrees, no_items, stmt_then, declare_then, GroupTrees, no_groups, group_then, VariableTree}
use Rattle.c_typed.specs.WellTyped.{type_of}
use Rattle.c_typed.specs.Objects.{object_number, access_width}
use Rattle.g_graph.specs.declared.op.Origin.{Origin}
use Rattle.g_graph.specs.declared.op.Origin.TheVariants.{Arg}
use Rattle.g_build_def.specs.Writer.{held, object, Point, pushed, popped, newest_set, Built, nothing, bind, dropped, no_value, choice_one_first}
use Rattle.g_build_def.specs.Operations.{const_made, undef_made, local_made, store_made, clear_made, at_offset_made}
use Rattle.g_build_def.specs.Expressions.{expr_made, tested}
use Rattle.g_build_def.specs.Exits.{stmt_exits, items_exits, can_leave, some_items}
use Rattle.g_build_def.specs.Jumps.{jump_made, return_made, unless_left, loop_made, do_made}
use Rattle.g_build_def.specs.Switch.{ends_segment, segments_with, switch_made}

-- ---- declarations

-- a value is written at the start of an object, and some bytes into it
abbrev pub object_stored : (number width : ℕ) → (value : Origin) → Point → Built (Unit {0})
object_stored k w v s = bind (local_made k s) (λ a t. dropped (store_made w a v t))

abbrev pub element_stored : (number offset width : ℕ) → (value : Origin) → Point → Built (Unit {0})
element_stored k o w v s = bind (local_made k s) (λ a t. bind (at_offset_made a o t) (λ b u. dropped (store_made w b v u)))

abbrev pub characters_made : (number offset : ℕ) → List ℕ → Point → Built (Unit {0})
characters_made k o [] s = nothing s
characters_made k o (c ∷ cs) s = bind (const_made c s) (λ v t. bind (element_stored k o 1 v t) (λ _ u. characters_made k (suc o) cs u))

abbrev pub elements_made : (number : ℕ) → ElementTrees → Point → Built (Unit {0})
elements_made k no_elements s = nothing s
elements_made k (value_then o e es) s =
    bind (expr_made e s) (λ v t. bind (element_stored k o (access_width (type_of e)) v t) (λ _ u. elements_made k es u))
elements_made k (characters_then o cs es) s = bind (characters_made k o cs s) (λ _ t. elements_made k es t)

-- the initialiser of a value variable, which comes into scope after it unless it is named in it
abbrev pub value_begun : (names_itself : Bool) → InitialTree → Point → Built (Unit {0})
value_begun true (initial_value e) s =
    bind (undef_made s) (λ o t. bind (expr_made e (pushed (held o) t)) (λ v u. nothing (newest_set (held v) u)))
value_begun false (initial_value e) s = bind (expr_made e s) (λ v t. nothing (pushed (held v) t))
value_begun names_itself i s = bind (undef_made s) (λ o t. nothing (pushed (held o) t))

-- the initialiser of an object, which is in scope
abbrev pub object_begun : (number : ℕ) → InitialTree → Point → Built (Unit {0})
object_begun k no_initial s = nothing s
object_begun k (initial_value e) s = bind (expr_made e s) (λ v t. object_stored k (access_width (type_of e)) v t)
object_begun k (initial_elements es) s = bind (clear_made k s) (λ _ t. elements_made k es t)

abbrev pub variable_begun : (is_object : Bool) → (number : ℕ) → DeclarationTree → Point → Built (Unit {0})
variable_begun false k d s = value_begun d.names_itself d.initial s
variable_begun true k d s = object_begun k d.initial (pushed (object k) s)

abbrev pub declared_as : List VariableTree → DeclarationTree → Option VariableTree → Point → Built (Unit {0})
declared_as vs d None s = nothing (pushed (held (Arg 0)) s)
declared_as vs d (Some v) s = variable_begun v.is_object (object_number vs d.variable) d s

abbrev pub declared_made : List VariableTree → DeclarationTree → Point → Built (Unit {0})
declared_made vs d s = declared_as vs d (slice_get vs d.variable) s

-- ---- statements

abbrev mutual
  pub stmt_made : List VariableTree → StmtTree → Point → Built (Unit {0})
  stmt_made vs null s = nothing s
  stmt_made vs (value e) s = dropped (expr_made e s)
  stmt_made vs (block is) s = items_made vs is s
  stmt_made vs (if_else e a b) s = bind (tested e s) (λ p t. choice_one_first no_value t p (stmt_made vs b) (stmt_made vs a))
  stmt_made vs (loop d step a) s = loop_made d step (can_leave (stmt_exits a)) (stmt_made vs a) s
  stmt_made vs (do_while a e) s = do_made e (can_leave (stmt_exits a)) (stmt_made vs a) s
  stmt_made vs break s = jump_made 1 s
  stmt_made vs continue s = jump_made 2 s
  stmt_made vs (return_value e) s = bind (expr_made e s) return_made
  stmt_made vs return_none s = bind (undef_made s) return_made
  stmt_made vs (switch e gs) s = bind (expr_made e s) (λ p t. switch_made p gs (segments_made vs true 0 gs) t)

  pub items_made : List VariableTree → ItemTrees → Point → Built (Unit {0})
  items_made vs no_items s = nothing s
  items_made vs (stmt_then a is) s =
      bind (stmt_made vs a s) (λ _ t. unless_left (can_leave (stmt_exits a) && some_items is) (items_made vs is) t)
  items_made vs (declare_then d is) s = bind (declared_made vs d s) (λ _ t. bind (items_made vs is t) (λ _ u. nothing (popped u)))

  -- the regions of the segments of groups, the first of which begins a segment or not and has this number
  pub segments_made : List VariableTree → (begins : Bool) → (group : ℕ) → GroupTrees → List (Point → Built (Unit {0}))
  segments_made vs begins g no_groups = []
  segments_made vs begins g (group_then cases d is gs) =
      segments_with begins (ends_segment is gs) g (can_leave (items_exits is)) (items_made vs is) (segments_made vs (ends_segment is gs) (suc g) gs)
