-- Statements and declarations take as many numbers as they make nodes.
use Rattle.std.proofs.Common.{ℕ, suc, Bool, true, false, ◌&&◌, List, [], ◌∷◌, ◌++◌, Option, Some, None, slice_get}
use Rattle.val_core.specs.declared.operation.Op2.TheVariants as op
use Rattle.c_typed.specs.Typed.{ExprTree, OptionalExpr, no_expr, some_expr, ElementTrees, no_elements, value_then, characters_then, InitialTree, no_initial, initial_value, initial_elements, DeclarationTree, StmtTree, null, value, block, if_else, loop, do_while, break, continue, return_value, return_none, switch, ItemTrees, no_items, stmt_then, declare_then, GroupTrees, no_groups, group_then, VariableTree}
use Rattle.c_typed.specs.WellTyped.{type_of}
use Rattle.g_graph.specs.declared.op.Origin.{Origin}
use Rattle.g_graph.specs.declared.op.Origin.TheVariants.{Out}
use Rattle.g_graph.specs.declared.op.Op.TheVariants.{Undef, Clear}
use Rattle.g_build_def.specs.Writer.{held, object, hidden, newest, slot_origin, Point, with_go, with_go_and_ret, pushed, popped, newest_set, Built, given, nothing, bind, dropped, no_value, one_value, choice, choices, choice_one_first, repeat}
use Rattle.g_build_def.specs.Operations.{const_made, undef_made, local_made, bin_made, store_made, clear_made, at_offset_made, is_zero_made}
use Rattle.c_typed.specs.Objects.{access_width, object_number}
use Rattle.g_build_def.specs.Expressions.{expr_made, tested}
use Rattle.g_build_def.specs.Exits.{stmt_exits, items_exits, groups_exits, can_leave, some_items}
use Rattle.g_build_def.specs.Jumps.{jump_made, return_made, jump_ended, break_ended, unless_left, optional_tested, step_made, again_made, turn_made, loop_made, do_again_made, do_made}
use Rattle.g_build_def.specs.Switch.{ends_segment, some_segment_has_several, Target, default_target, Label, labels_of, word_difference, moved_where, Selected, labels_made, segment_made, groups_moved, from_made, from_popped, group_made, segments_with, chosen_made, switch_made}
use Rattle.g_build_def.specs.Statements.{object_stored, element_stored, characters_made, elements_made, value_begun, object_begun, variable_begun, declared_as, declared_made, stmt_made, items_made, segments_made}
use Rattle.g_build_keeps.proofs.Counted.{Counts, Keeps, counted_here, bind_counted, node_counted, EachKeeps, choices_counted, choice_counted, choice_one_first_counted, repeat_counted}
use Rattle.g_build_keeps.proofs.ExpressionNumbers.{const_counted, bin_counted, local_counted, store_counted, is_zero_counted, at_offset_counted, expr_counted, tested_counted}

-- ---- jumps

pub undef_counted : Keeps undef_made
undef_counted s = node_counted s Undef [] (Out s.next 0) s.carried.memory s.carried.io

jump_counted : (w : ℕ) → Keeps (jump_made w)
jump_counted w s = bind_counted s (const_made w s) (λ g t. nothing (with_go t g)) (const_counted w s) (λ g t. counted_here t)

return_counted : (v : Origin) → Keeps (return_made v)
return_counted v s =
    bind_counted s (const_made 3 s) (λ g t. nothing (with_go_and_ret t g v)) (const_counted 3 s) (λ g t. counted_here t)

jump_ended_counted : (w : ℕ) → Keeps (jump_ended w)
jump_ended_counted w s =
    bind_counted s (const_made w s)
    (λ k t. bind (bin_made op.Ne t.carried.go k t) (λ x u. bind (bin_made op.Mul u.carried.go x u) (λ g v. nothing (with_go v g)))) (const_counted w s)
    (λ k t.
    bind_counted t (bin_made op.Ne t.carried.go k t) (λ x u. bind (bin_made op.Mul u.carried.go x u) (λ g v. nothing (with_go v g)))
    (bin_counted op.Ne t.carried.go k t)
    (λ x u. bind_counted u (bin_made op.Mul u.carried.go x u) (λ g v. nothing (with_go v g)) (bin_counted op.Mul u.carried.go x u) (λ g v. counted_here v)))

break_ended_counted : (l : Bool) → Keeps (break_ended l)
break_ended_counted true s = jump_ended_counted 1 s
break_ended_counted false s = counted_here s

unless_left_counted : (l : Bool) (f : Point → Built (Unit {0})) → Keeps f → Keeps (unless_left l f)
unless_left_counted true f h s = choice_counted no_value s s.carried.go f nothing h counted_here
unless_left_counted false f h s = h s

dropped_counted : {A : Type 0} → (s : Point) (b : Built A) → Counts s b → Counts s (dropped b)
dropped_counted s b h = bind_counted s b (λ _ t. nothing t) h (λ _. counted_here)

-- ---- loops

optional_counted : (d : OptionalExpr) → Keeps (optional_tested d)
optional_counted no_expr s = const_counted 1 s
optional_counted (some_expr e) s = tested_counted e s

step_counted : (l : Bool) (d : OptionalExpr) → Keeps (step_made l d)
step_counted l no_expr s = counted_here s
step_counted l (some_expr e) s = unless_left_counted l (λ t. dropped (expr_made e t)) (λ t. dropped_counted t (expr_made e t) (expr_counted e t)) s

again_counted : (l : Bool) (d : OptionalExpr) → Keeps (again_made l d)
again_counted true d s =
    bind_counted s (jump_ended 2 s) (λ _ t. bind (step_made true d t) (λ _ u. is_zero_made u.carried.go u)) (jump_ended_counted 2 s)
    (λ _ t. bind_counted t (step_made true d t) (λ _ u. is_zero_made u.carried.go u) (step_counted true d t) (λ _ u. is_zero_counted u.carried.go u))
again_counted false d s = bind_counted s (step_made false d s) (λ _ t. const_made 1 t) (step_counted false d s) (λ _. const_counted 1)

turn_counted : (d step : OptionalExpr) (l : Bool) (f : Point → Built (Unit {0})) → Keeps f → Keeps (turn_made d step l f)
turn_counted d step l f h s =
    bind_counted s (optional_tested d s) (λ p t. choice one_value t p (const_made 0) (λ u. bind (f u) (λ _ v. again_made l step v))) (optional_counted d s)
    (λ p t.
    choice_counted one_value t p (const_made 0) (λ u. bind (f u) (λ _ v. again_made l step v)) (const_counted 0)
    (λ u. bind_counted u (f u) (λ _ v. again_made l step v) (h u) (λ _. again_counted l step)))

loop_counted : (d step : OptionalExpr) (l : Bool) (f : Point → Built (Unit {0})) → Keeps f → Keeps (loop_made d step l f)
loop_counted d step l f h s =
    bind_counted s (repeat s (turn_made d step l f)) (λ _ t. break_ended l t) (repeat_counted s (turn_made d step l f) (turn_counted d step l f h))
    (λ _. break_ended_counted l)

do_again_counted : (l : Bool) (e : ExprTree) → Keeps (do_again_made l e)
do_again_counted true e s =
    bind_counted s (jump_ended 2 s) (λ _ t. choice one_value t t.carried.go (tested e) (const_made 0)) (jump_ended_counted 2 s)
    (λ _ t. choice_counted one_value t t.carried.go (tested e) (const_made 0) (tested_counted e) (const_counted 0))
do_again_counted false e s = tested_counted e s

do_counted : (e : ExprTree) (l : Bool) (f : Point → Built (Unit {0})) → Keeps f → Keeps (do_made e l f)
do_counted e l f h s =
    bind_counted s (repeat s (λ t. bind (f t) (λ _ u. do_again_made l e u))) (λ _ t. break_ended l t)
    (repeat_counted s (λ t. bind (f t) (λ _ u. do_again_made l e u)) (λ t. bind_counted t (f t) (λ _ u. do_again_made l e u) (h t) (λ _. do_again_counted l e)))
    (λ _. break_ended_counted l)

-- ---- declarations

pub stored_counted : (k w : ℕ) (v : Origin) → Keeps (object_stored k w v)
stored_counted k w v s =
    bind_counted s (local_made k s) (λ a t. dropped (store_made w a v t)) (local_counted k s)
    (λ a t. dropped_counted t (store_made w a v t) (store_counted w a v t))

element_counted : (k o w : ℕ) (v : Origin) → Keeps (element_stored k o w v)
element_counted k o w v s =
    bind_counted s (local_made k s) (λ a t. bind (at_offset_made a o t) (λ b u. dropped (store_made w b v u))) (local_counted k s)
    (λ a t.
    bind_counted t (at_offset_made a o t) (λ b u. dropped (store_made w b v u)) (at_offset_counted a o t)
    (λ b u. dropped_counted u (store_made w b v u) (store_counted w b v u)))

characters_counted : (k o : ℕ) (cs : List ℕ) → Keeps (characters_made k o cs)
characters_counted k o [] s = counted_here s
characters_counted k o (c ∷ cs) s =
    bind_counted s (const_made c s) (λ v t. bind (element_stored k o 1 v t) (λ _ u. characters_made k (suc o) cs u)) (const_counted c s)
    (λ v t. bind_counted t (element_stored k o 1 v t) (λ _ u. characters_made k (suc o) cs u) (element_counted k o 1 v t) (λ _. characters_counted k (suc o) cs))

elements_counted : (k : ℕ) (es : ElementTrees) → Keeps (elements_made k es)
elements_counted k no_elements s = counted_here s
elements_counted k (value_then o e es) s =
    bind_counted s (expr_made e s) (λ v t. bind (element_stored k o (access_width (type_of e)) v t) (λ _ u. elements_made k es u)) (expr_counted e s)
    (λ v t.
    bind_counted t (element_stored k o (access_width (type_of e)) v t) (λ _ u. elements_made k es u) (element_counted k o (access_width (type_of e)) v t)
    (λ _. elements_counted k es))
elements_counted k (characters_then o cs es) s =
    bind_counted s (characters_made k o cs s) (λ _ t. elements_made k es t) (characters_counted k o cs s) (λ _. elements_counted k es)

undef_pushed : Keeps (λ s. bind (undef_made s) (λ o t. nothing (pushed (held o) t)))
undef_pushed s = bind_counted s (undef_made s) (λ o t. nothing (pushed (held o) t)) (undef_counted s) (λ o t. counted_here t)

value_counted : (names : Bool) (i : InitialTree) → Keeps (value_begun names i)
value_counted true (initial_value e) s =
    bind_counted s (undef_made s) (λ o t. bind (expr_made e (pushed (held o) t)) (λ v u. nothing (newest_set (held v) u))) (undef_counted s)
    (λ o t.
    bind_counted t (expr_made e (pushed (held o) t)) (λ v u. nothing (newest_set (held v) u)) (expr_counted e (pushed (held o) t)) (λ v u. counted_here u))
value_counted false (initial_value e) s = bind_counted s (expr_made e s) (λ v t. nothing (pushed (held v) t)) (expr_counted e s) (λ v t. counted_here t)
value_counted true no_initial s = undef_pushed s
value_counted false no_initial s = undef_pushed s
value_counted true (initial_elements es) s = undef_pushed s
value_counted false (initial_elements es) s = undef_pushed s

object_counted : (k : ℕ) (i : InitialTree) → Keeps (object_begun k i)
object_counted k no_initial s = counted_here s
object_counted k (initial_value e) s =
    bind_counted s (expr_made e s) (λ v t. object_stored k (access_width (type_of e)) v t) (expr_counted e s) (stored_counted k (access_width (type_of e)))
object_counted k (initial_elements es) s =
    bind_counted s (clear_made k s) (λ _ t. elements_made k es t) (node_counted {A = Unit {0}} s (Clear k) (s.carried.memory ∷ []) tt (Out s.next 0) s.carried.io)
    (λ _. elements_counted k es)

variable_counted : (b : Bool) (k : ℕ) (d : DeclarationTree) → Keeps (variable_begun b k d)
variable_counted false k d s = value_counted d.names_itself d.initial s
variable_counted true k d s = object_counted k d.initial (pushed (object k) s)

declared_as_counted : (vs : List VariableTree) (d : DeclarationTree) (x : Option VariableTree) → Keeps (declared_as vs d x)
declared_as_counted vs d None s = counted_here s
declared_as_counted vs d (Some v) s = variable_counted v.is_object (object_number vs d.variable) d s

pub declared_counted : (vs : List VariableTree) (d : DeclarationTree) → Keeps (declared_made vs d)
declared_counted vs d s = declared_as_counted vs d (slice_get vs d.variable) s

-- ---- switch

moved_counted : (q : Origin) (d : ℕ) (n : Origin) → Keeps (moved_where q d n)
moved_counted q d n s =
    bind_counted s (const_made d s) (λ k t. bind (bin_made op.Mul q k t) (λ m u. bin_made op.Add n m u)) (const_counted d s)
    (λ k t. bind_counted t (bin_made op.Mul q k t) (λ m u. bin_made op.Add n m u) (bin_counted op.Mul q k t) (λ m. bin_counted op.Add n m))

-- a label before others
abbrev with_label : (equal : Origin) → Selected → Point → Built Selected
with_label q x s = given (record { number = x.number; equals = q ∷ x.equals }) s

labels_counted : (p : Origin) (d : ℕ) (ls : List Label) (n : Origin) → Keeps (labels_made p d ls n)
labels_counted p d [] n s = counted_here s
labels_counted p d (l ∷ ls) n s =
    bind_counted s (const_made l.word s)
    (λ w t.
    bind (bin_made op.Eq p w t)
    (λ q u.
    bind (moved_where q (word_difference l.target.segment d) n u)
    (λ m v. bind (labels_made p d ls m v) (with_label q))))
    (const_counted l.word s)
    (λ w t.
    bind_counted t (bin_made op.Eq p w t)
    (λ q u.
    bind (moved_where q (word_difference l.target.segment d) n u)
    (λ m v. bind (labels_made p d ls m v) (with_label q)))
    (bin_counted op.Eq p w t)
    (λ q u.
    bind_counted u (moved_where q (word_difference l.target.segment d) n u)
    (λ m v. bind (labels_made p d ls m v) (with_label q))
    (moved_counted q (word_difference l.target.segment d) n u)
    (λ m v.
    bind_counted v (labels_made p d ls m v) (with_label q) (labels_counted p d ls m v)
    (λ x z. counted_here z))))

segment_counted : (p : Origin) (d : ℕ) (ls : List Label) → Keeps (segment_made p d ls)
segment_counted p d ls s = bind_counted s (const_made d s) (λ n t. labels_made p d ls n t) (const_counted d s) (labels_counted p d ls)

groups_counted : (d : ℕ) (ls : List Label) (qs : List Origin) (n : Origin) → Keeps (groups_moved d ls qs n)
groups_counted d [] qs n s = counted_here s
groups_counted d (l ∷ ls) [] n s = counted_here s
groups_counted d (l ∷ ls) (q ∷ qs) n s =
    bind_counted s (moved_where q (word_difference l.target.group d) n s) (λ m t. groups_moved d ls qs m t)
    (moved_counted q (word_difference l.target.group d) n s) (groups_counted d ls qs)

group_counted : (g : ℕ) (f : Point → Built (Unit {0})) → Keeps f → Keeps (group_made g f)
group_counted g f h s =
    bind_counted s (const_made (suc g) s)
    (λ k t. bind (bin_made op.Sltu (slot_origin (newest t.carried.variables)) k t) (λ p u. choice no_value u p nothing f)) (const_counted (suc g) s)
    (λ k t.
    bind_counted t (bin_made op.Sltu (slot_origin (newest t.carried.variables)) k t) (λ p u. choice no_value u p nothing f)
    (bin_counted op.Sltu (slot_origin (newest t.carried.variables)) k t) (λ p u. choice_counted no_value u p nothing f counted_here h))

segments_keep : (begins ends : Bool) (g : ℕ) (l : Bool) (f : Point → Built (Unit {0})) (fs : List (Point → Built (Unit {0}))) → Keeps f → EachKeeps fs →
    EachKeeps (segments_with begins ends g l f fs)
segments_keep true true g l f fs h hs = (h, hs)
segments_keep false true g l f fs h hs = (group_counted g f h, hs)
segments_keep true false g l f [] h hs = (group_counted g f h, tt)
segments_keep false false g l f [] h hs = (group_counted g f h, tt)
segments_keep true false g l f (rest ∷ fs) h hs =
    ((λ s. bind_counted s (group_made g f s) (λ _ t. unless_left l rest t) (group_counted g f h s) (λ _. unless_left_counted l rest hs.0)), hs.1)
segments_keep false false g l f (rest ∷ fs) h hs =
    ((λ s. bind_counted s (group_made g f s) (λ _ t. unless_left l rest t) (group_counted g f h s) (λ _. unless_left_counted l rest hs.0)), hs.1)

each_append : (fs : List (Point → Built (Unit {0}))) (g : Point → Built (Unit {0})) → EachKeeps fs → Keeps g → EachKeeps (fs ++ g ∷ [])
each_append [] g h k = (k, tt)
each_append (f ∷ fs) g h k = (h.0, each_append fs g h.1 k)

from_counted : (several : Bool) (d : ℕ) (ls : List Label) (qs : List Origin) → Keeps (from_made several d ls qs)
from_counted false d ls qs s = counted_here s
from_counted true d ls qs s =
    bind_counted s (const_made d s) (λ n t. bind (groups_moved d ls qs n t) (λ m u. nothing (pushed (hidden m) u))) (const_counted d s)
    (λ n t. bind_counted t (groups_moved d ls qs n t) (λ m u. nothing (pushed (hidden m) u)) (groups_counted d ls qs n t) (λ m u. counted_here u))

popped_counted : (several : Bool) (b : Bool) (s : Point) → Counts s (break_ended b (from_popped several s))
popped_counted false b s = break_ended_counted b s
popped_counted true b s = break_ended_counted b (popped s)

chosen_counted : (p : Origin) (gs : GroupTrees) (fs : List (Point → Built (Unit {0}))) → EachKeeps fs → Keeps (chosen_made p gs fs)
chosen_counted p gs fs hs s =
    let d : Target = default_target 0 0 gs in
    let ls : List Label = labels_of 0 0 gs in
    let several : Bool = some_segment_has_several gs in
    let b : Bool = (groups_exits gs).breaks in
    bind_counted s (segment_made p d.segment ls s)
    (λ x t.
    bind (from_made several d.group ls x.equals t)
    (λ _ u. bind (choices no_value u x.number (fs ++ nothing ∷ [])) (λ _ v. break_ended b (from_popped several v))))
    (segment_counted p d.segment ls s)
    (λ x t.
    bind_counted t (from_made several d.group ls x.equals t)
    (λ _ u. bind (choices no_value u x.number (fs ++ nothing ∷ [])) (λ _ v. break_ended b (from_popped several v)))
    (from_counted several d.group ls x.equals t)
    (λ _ u.
    bind_counted u (choices no_value u x.number (fs ++ nothing ∷ [])) (λ _ v. break_ended b (from_popped several v))
    (choices_counted no_value u x.number (fs ++ nothing ∷ []) (each_append fs nothing hs counted_here)) (λ _ v. popped_counted several b v)))

switch_counted : (p : Origin) (gs : GroupTrees) (fs : List (Point → Built (Unit {0}))) → EachKeeps fs → Keeps (switch_made p gs fs)
switch_counted p no_groups fs hs s = counted_here s
switch_counted p (group_then cases d is gs) fs hs s = chosen_counted p (group_then cases d is gs) fs hs s

-- ---- statements

mutual
  pub stmt_counted : (vs : List VariableTree) (a : StmtTree) → Keeps (stmt_made vs a)
  stmt_counted vs null s = counted_here s
  stmt_counted vs (value e) s = dropped_counted s (expr_made e s) (expr_counted e s)
  stmt_counted vs (block is) s = items_counted vs is s
  stmt_counted vs (if_else e a b) s =
      bind_counted s (tested e s) (λ p t. choice_one_first no_value t p (stmt_made vs b) (stmt_made vs a)) (tested_counted e s)
      (λ p t. choice_one_first_counted no_value t p (stmt_made vs b) (stmt_made vs a) (stmt_counted vs b) (stmt_counted vs a))
  stmt_counted vs (loop d step a) s = loop_counted d step (can_leave (stmt_exits a)) (stmt_made vs a) (stmt_counted vs a) s
  stmt_counted vs (do_while a e) s = do_counted e (can_leave (stmt_exits a)) (stmt_made vs a) (stmt_counted vs a) s
  stmt_counted vs break s = jump_counted 1 s
  stmt_counted vs continue s = jump_counted 2 s
  stmt_counted vs (return_value e) s = bind_counted s (expr_made e s) return_made (expr_counted e s) return_counted
  stmt_counted vs return_none s = bind_counted s (undef_made s) return_made (undef_counted s) return_counted
  stmt_counted vs (switch e gs) s =
      bind_counted s (expr_made e s) (λ p t. switch_made p gs (segments_made vs true 0 gs) t) (expr_counted e s)
      (λ p. switch_counted p gs (segments_made vs true 0 gs) (segments_counted vs true 0 gs))

  pub items_counted : (vs : List VariableTree) (is : ItemTrees) → Keeps (items_made vs is)
  items_counted vs no_items s = counted_here s
  items_counted vs (stmt_then a is) s =
      bind_counted s (stmt_made vs a s) (λ _ t. unless_left (can_leave (stmt_exits a) && some_items is) (items_made vs is) t) (stmt_counted vs a s)
      (λ _. unless_left_counted (can_leave (stmt_exits a) && some_items is) (items_made vs is) (items_counted vs is))
  items_counted vs (declare_then d is) s =
      bind_counted s (declared_made vs d s) (λ _ t. bind (items_made vs is t) (λ _ u. nothing (popped u))) (declared_counted vs d s)
      (λ _ t. bind_counted t (items_made vs is t) (λ _ u. nothing (popped u)) (items_counted vs is t) (λ _ u. counted_here u))

  segments_counted : (vs : List VariableTree) (begins : Bool) (g : ℕ) (gs : GroupTrees) → EachKeeps (segments_made vs begins g gs)
  segments_counted vs begins g no_groups = tt
  segments_counted vs begins g (group_then cases d is gs) =
      segments_keep begins (ends_segment is gs) g (can_leave (items_exits is)) (items_made vs is) (segments_made vs (ends_segment is gs) (suc g) gs)
      (items_counted vs is) (segments_counted vs (ends_segment is gs) (suc g) gs)
