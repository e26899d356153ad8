-- Statements keep what is carried, and a declaration brings its variable into scope.
use Rattle.std.proofs.Common.{◌≡◌, ℕ, suc, Bool, true, false, ◌&&◌, List, [], ◌∷◌, ◌++◌, Option, Some, None, slice_get, refl, sym, ap, ◌∙◌, arith}
use Rattle.val_core.specs.declared.operation.Op2.TheVariants as op
use Rattle.c_typed.specs.Typed.{ExprTree, OptionalExpr, no_expr, some_expr, ElementTrees, no_elements, value_then, characters_then, InitialTree, no_initial, initial_value, initial_elements, DeclarationTree, StmtTree, null, value, block, if_else, loop, do_while, break, continue, return_value, return_none, switch, ItemTrees, no_items, stmt_then, declare_then, GroupTrees, no_groups, group_then, VariableTree}
use Rattle.c_typed.specs.WellTyped.{type_of}
use Rattle.g_graph.specs.declared.op.Origin.{Origin}
use Rattle.g_graph.specs.declared.op.Origin.TheVariants.{Arg, Out}
use Rattle.g_graph.specs.declared.op.Op.TheVariants.{Undef, Clear}
use Rattle.g_build_def.specs.Writer.{SlotOrigin, held, object, hidden, newest, slot_origin, Point, with_go, with_go_and_ret, pushed, popped, newest_set, Built, nothing, bind, dropped, no_value, one_value, choice, choices, choice_one_first, repeat}
use Rattle.g_build_def.specs.Operations.{const_made, undef_made, local_made, bin_made, store_made, clear_made, at_offset_made, is_zero_made}
use Rattle.c_typed.specs.Objects.{access_width, object_number}
use Rattle.g_build_def.specs.Expressions.{expr_made, tested}
use Rattle.g_build_def.specs.Exits.{stmt_exits, items_exits, groups_exits, can_leave, some_items}
use Rattle.g_build_def.specs.Jumps.{jump_made, return_made, jump_ended, break_ended, unless_left, optional_tested, step_made, again_made, turn_made, loop_made, do_again_made, do_made}
use Rattle.g_build_def.specs.Switch.{ends_segment, some_segment_has_several, Target, default_target, Label, labels_of, word_difference, moved_where, Selected, labels_made, segment_made, groups_moved, from_made, from_popped, group_made, segments_with, chosen_made, switch_made}
use Rattle.g_build_def.specs.Statements.{object_stored, element_stored, characters_made, elements_made, value_begun, object_begun, variable_begun, declared_as, declared_made, stmt_made, items_made, segments_made}
use Rattle.g_build_def.specs.Laws.{shape, Later, variable_shape, shape_as, declared_shape}
use Rattle.g_build_def.proofs.lemmas.Later.{Keeps, later_here, later_then, bind_later, node_later, EachKeeps, choices_later, choice_later, choice_one_first_later, repeat_later, shape_append, popped_later}
use Rattle.g_build_def.proofs.lemmas.LaterExpressions.{const_later, bin_later, local_later, store_later, is_zero_later, at_offset_later, expr_later, tested_later}

-- ---- jumps

go_later : (s : Point) (g : Origin) → Later s (with_go s g)
go_later s g = record { form = refl; shape = refl; next = omega arith }

undef_later : Keeps undef_made
undef_later s = node_later s Undef [] (Out s.next 0) s.carried.memory s.carried.io

jump_later : (w : ℕ) → Keeps (jump_made w)
jump_later w s = bind_later s (const_made w s) (λ g t. nothing (with_go t g)) (const_later w s) (λ g t. go_later t g)

return_later : (v : Origin) → Keeps (return_made v)
return_later v s =
    bind_later s (const_made 3 s) (λ g t. nothing (with_go_and_ret t g v)) (const_later 3 s) (λ g t. record { form = refl; shape = refl; next = omega arith })

pub jump_ended_later : (w : ℕ) → Keeps (jump_ended w)
jump_ended_later w s =
    bind_later s (const_made w s)
    (λ k t. bind (bin_made op.Ne t.carried.go k t) (λ x u. bind (bin_made op.Mul u.carried.go x u) (λ g v. nothing (with_go v g)))) (const_later w s)
    (λ k t.
    bind_later t (bin_made op.Ne t.carried.go k t) (λ x u. bind (bin_made op.Mul u.carried.go x u) (λ g v. nothing (with_go v g)))
    (bin_later op.Ne t.carried.go k t)
    (λ x u. bind_later u (bin_made op.Mul u.carried.go x u) (λ g v. nothing (with_go v g)) (bin_later op.Mul u.carried.go x u) (λ g v. go_later v g)))

break_ended_later : (l : Bool) → Keeps (break_ended l)
break_ended_later true s = jump_ended_later 1 s
break_ended_later false s = later_here s

pub unless_left_later : (l : Bool) (f : Point → Built (Unit {0})) → Keeps f → Keeps (unless_left l f)
unless_left_later true f h s = choice_later no_value s s.carried.go f nothing h later_here
unless_left_later false f h s = h s

pub dropped_later : {A : Type 0} → (s : Point) (b : Built A) → Later s b.after → Later s (dropped b).after
dropped_later s b h = bind_later s b (λ _ t. nothing t) h (λ _. later_here)

-- ---- loops

pub optional_later : (d : OptionalExpr) → Keeps (optional_tested d)
optional_later no_expr s = const_later 1 s
optional_later (some_expr e) s = tested_later e s

pub step_later : (l : Bool) (d : OptionalExpr) → Keeps (step_made l d)
step_later l no_expr s = later_here s
step_later l (some_expr e) s = unless_left_later l (λ t. dropped (expr_made e t)) (λ t. dropped_later t (expr_made e t) (expr_later e t)) s

pub again_later : (l : Bool) (d : OptionalExpr) → Keeps (again_made l d)
again_later true d s =
    bind_later s (jump_ended 2 s) (λ _ t. bind (step_made true d t) (λ _ u. is_zero_made u.carried.go u)) (jump_ended_later 2 s)
    (λ _ t. bind_later t (step_made true d t) (λ _ u. is_zero_made u.carried.go u) (step_later true d t) (λ _ u. is_zero_later u.carried.go u))
again_later false d s = bind_later s (step_made false d s) (λ _ t. const_made 1 t) (step_later false d s) (λ _. const_later 1)

pub turn_later : (d step : OptionalExpr) (l : Bool) (f : Point → Built (Unit {0})) → Keeps f → Keeps (turn_made d step l f)
turn_later d step l f h s =
    bind_later s (optional_tested d s) (λ p t. choice one_value t p (const_made 0) (λ u. bind (f u) (λ _ v. again_made l step v))) (optional_later d s)
    (λ p t.
    choice_later one_value t p (const_made 0) (λ u. bind (f u) (λ _ v. again_made l step v)) (const_later 0)
    (λ u. bind_later u (f u) (λ _ v. again_made l step v) (h u) (λ _. again_later l step)))

loop_later : (d step : OptionalExpr) (l : Bool) (f : Point → Built (Unit {0})) → Keeps f → Keeps (loop_made d step l f)
loop_later d step l f h s =
    bind_later s (repeat s (turn_made d step l f)) (λ _ t. break_ended l t) (repeat_later s (turn_made d step l f) (turn_later d step l f h))
    (λ _. break_ended_later l)

pub do_again_later : (l : Bool) (e : ExprTree) → Keeps (do_again_made l e)
do_again_later true e s =
    bind_later s (jump_ended 2 s) (λ _ t. choice one_value t t.carried.go (tested e) (const_made 0)) (jump_ended_later 2 s)
    (λ _ t. choice_later one_value t t.carried.go (tested e) (const_made 0) (tested_later e) (const_later 0))
do_again_later false e s = tested_later e s

do_later : (e : ExprTree) (l : Bool) (f : Point → Built (Unit {0})) → Keeps f → Keeps (do_made e l f)
do_later e l f h s =
    bind_later s (repeat s (λ t. bind (f t) (λ _ u. do_again_made l e u))) (λ _ t. break_ended l t)
    (repeat_later s (λ t. bind (f t) (λ _ u. do_again_made l e u)) (λ t. bind_later t (f t) (λ _ u. do_again_made l e u) (h t) (λ _. do_again_later l e)))
    (λ _. break_ended_later l)

-- ---- declarations

pub stored_later : (k w : ℕ) (v : Origin) → Keeps (object_stored k w v)
stored_later k w v s =
    bind_later s (local_made k s) (λ a t. dropped (store_made w a v t)) (local_later k s)
    (λ a t. dropped_later t (store_made w a v t) (store_later w a v t))

element_later : (k o w : ℕ) (v : Origin) → Keeps (element_stored k o w v)
element_later k o w v s =
    bind_later s (local_made k s) (λ a t. bind (at_offset_made a o t) (λ b u. dropped (store_made w b v u))) (local_later k s)
    (λ a t.
    bind_later t (at_offset_made a o t) (λ b u. dropped (store_made w b v u)) (at_offset_later a o t)
    (λ b u. dropped_later u (store_made w b v u) (store_later w b v u)))

characters_later : (k o : ℕ) (cs : List ℕ) → Keeps (characters_made k o cs)
characters_later k o [] s = later_here s
characters_later k o (c ∷ cs) s =
    bind_later s (const_made c s) (λ v t. bind (element_stored k o 1 v t) (λ _ u. characters_made k (suc o) cs u)) (const_later c s)
    (λ v t. bind_later t (element_stored k o 1 v t) (λ _ u. characters_made k (suc o) cs u) (element_later k o 1 v t) (λ _. characters_later k (suc o) cs))

elements_later : (k : ℕ) (es : ElementTrees) → Keeps (elements_made k es)
elements_later k no_elements s = later_here s
elements_later k (value_then o e es) s =
    bind_later s (expr_made e s) (λ v t. bind (element_stored k o (access_width (type_of e)) v t) (λ _ u. elements_made k es u)) (expr_later e s)
    (λ v t.
    bind_later t (element_stored k o (access_width (type_of e)) v t) (λ _ u. elements_made k es u) (element_later k o (access_width (type_of e)) v t)
    (λ _. elements_later k es))
elements_later k (characters_then o cs es) s =
    bind_later s (characters_made k o cs s) (λ _ t. elements_made k es t) (characters_later k o cs s) (λ _. elements_later k es)

-- points of one shape have it with one more variable of one shape
pushed_later : (s t : Point) (x y : SlotOrigin) → shape (x ∷ []) ≡ shape (y ∷ []) → Later s t → Later (pushed x s) (pushed y t)
pushed_later s t x y e h =
    record {
      form = h.form;
      shape =
          shape_append t.carried.variables (y ∷ []) ∙ ap (λ zs. zs ++ shape (y ∷ [])) h.shape ∙ ap (λ zs. shape s.carried.variables ++ zs) (sym e)
          ∙ sym (shape_append s.carried.variables (x ∷ []));
      next = h.next;
    }

undef_pushed : (s : Point) → Later (pushed (held (Arg 0)) s) (bind (undef_made s) (λ o t. nothing (pushed (held o) t))).after
undef_pushed s = pushed_later s (undef_made s).after (held (Arg 0)) (held (undef_made s).value) refl (undef_later s)

newest_later : (s t : Point) (x y : SlotOrigin) → shape (x ∷ []) ≡ shape (y ∷ []) → Later (pushed x s) t → Later (pushed x s) (newest_set y t)
newest_later s t x y e h = pushed_later s (popped t) x y e (popped_later s t x h)

value_later : (names : Bool) (i : InitialTree) (s : Point) → Later (pushed (held (Arg 0)) s) (value_begun names i s).after
value_later true (initial_value e) s =
    let a : Built Origin = undef_made s in
    let t : Point = pushed (held a.value) a.after in
    newest_later s (expr_made e t).after (held (Arg 0)) (held (expr_made e t).value) refl
    (later_then (pushed (held (Arg 0)) s) t (expr_made e t).after (undef_pushed s) (expr_later e t))
value_later false (initial_value e) s = pushed_later s (expr_made e s).after (held (Arg 0)) (held (expr_made e s).value) refl (expr_later e s)
value_later true no_initial s = undef_pushed s
value_later false no_initial s = undef_pushed s
value_later true (initial_elements es) s = undef_pushed s
value_later false (initial_elements es) s = undef_pushed s

object_later : (k : ℕ) (i : InitialTree) → Keeps (object_begun k i)
object_later k no_initial s = later_here s
object_later k (initial_value e) s =
    bind_later s (expr_made e s) (λ v t. object_stored k (access_width (type_of e)) v t) (expr_later e s) (stored_later k (access_width (type_of e)))
object_later k (initial_elements es) s =
    bind_later s (clear_made k s) (λ _ t. elements_made k es t) (node_later {A = Unit {0}} s (Clear k) (s.carried.memory ∷ []) tt (Out s.next 0) s.carried.io)
    (λ _. elements_later k es)

variable_later : (b : Bool) (k : ℕ) (d : DeclarationTree) (s : Point) → Later (pushed (variable_shape b k) s) (variable_begun b k d s).after
variable_later false k d s = value_later d.names_itself d.initial s
variable_later true k d s = object_later k d.initial (pushed (object k) s)

declared_as_later : (vs : List VariableTree) (d : DeclarationTree) (x : Option VariableTree) (s : Point) →
    Later (pushed (shape_as vs d.variable x) s) (declared_as vs d x s).after
declared_as_later vs d None s = later_here (pushed (held (Arg 0)) s)
declared_as_later vs d (Some v) s = variable_later v.is_object (object_number vs d.variable) d s

pub declared_later : (vs : List VariableTree) (d : DeclarationTree) (s : Point) →
    Later (pushed (declared_shape vs d) s) (declared_made vs d s).after
declared_later vs d s = declared_as_later vs d (slice_get vs d.variable) s

-- ---- switch

moved_later : (q : Origin) (d : ℕ) (n : Origin) → Keeps (moved_where q d n)
moved_later q d n s =
    bind_later s (const_made d s) (λ k t. bind (bin_made op.Mul q k t) (λ m u. bin_made op.Add n m u)) (const_later d s)
    (λ k t. bind_later t (bin_made op.Mul q k t) (λ m u. bin_made op.Add n m u) (bin_later op.Mul q k t) (λ m. bin_later op.Add n m))

labels_later : (p : Origin) (d : ℕ) (ls : List Label) (n : Origin) → Keeps (labels_made p d ls n)
labels_later p d [] n s = later_here s
labels_later p d (l ∷ ls) n s =
    let w : Built Origin = const_made l.word s in
    let q : Built Origin = bin_made op.Eq p w.value w.after in
    let m : Built Origin = moved_where q.value (word_difference l.target.segment d) n q.after in
    let first : Later s q.after = later_then s w.after q.after (const_later l.word s) (bin_later op.Eq p w.value w.after) in
    let next : Later s m.after = later_then s q.after m.after first (moved_later q.value (word_difference l.target.segment d) n q.after) in
    later_then s m.after (labels_made p d ls m.value m.after).after next (labels_later p d ls m.value m.after)

pub segment_later : (p : Origin) (d : ℕ) (ls : List Label) → Keeps (segment_made p d ls)
segment_later p d ls s = bind_later s (const_made d s) (λ n t. labels_made p d ls n t) (const_later d s) (labels_later p d ls)

groups_later : (d : ℕ) (ls : List Label) (qs : List Origin) (n : Origin) → Keeps (groups_moved d ls qs n)
groups_later d [] qs n s = later_here s
groups_later d (l ∷ ls) [] n s = later_here s
groups_later d (l ∷ ls) (q ∷ qs) n s =
    bind_later s (moved_where q (word_difference l.target.group d) n s) (λ m t. groups_moved d ls qs m t)
    (moved_later q (word_difference l.target.group d) n s) (groups_later d ls qs)

pub group_later : (g : ℕ) (f : Point → Built (Unit {0})) → Keeps f → Keeps (group_made g f)
group_later g f h s =
    bind_later s (const_made (suc g) s)
    (λ k t. bind (bin_made op.Sltu (slot_origin (newest t.carried.variables)) k t) (λ p u. choice no_value u p nothing f)) (const_later (suc g) s)
    (λ k t.
    bind_later t (bin_made op.Sltu (slot_origin (newest t.carried.variables)) k t) (λ p u. choice no_value u p nothing f)
    (bin_later op.Sltu (slot_origin (newest t.carried.variables)) k t) (λ p u. choice_later no_value u p nothing f later_here h))

segments_keep : (begins ends : Bool) (g : ℕ) (l : Bool) (f : Point → Built (Unit {0})) (fs : List (Point → Built (Unit {0}))) → Keeps f → EachKeeps fs →
    EachKeeps (segments_with begins ends g l f fs)
segments_keep true true g l f fs h hs = (h, hs)
segments_keep false true g l f fs h hs = (group_later g f h, hs)
segments_keep true false g l f [] h hs = (group_later g f h, tt)
segments_keep false false g l f [] h hs = (group_later g f h, tt)
segments_keep true false g l f (rest ∷ fs) h hs =
    ((λ s. bind_later s (group_made g f s) (λ _ t. unless_left l rest t) (group_later g f h s) (λ _. unless_left_later l rest hs.0)), hs.1)
segments_keep false false g l f (rest ∷ fs) h hs =
    ((λ s. bind_later s (group_made g f s) (λ _ t. unless_left l rest t) (group_later g f h s) (λ _. unless_left_later l rest hs.0)), hs.1)

pub each_append : (fs : List (Point → Built (Unit {0}))) (g : Point → Built (Unit {0})) → EachKeeps fs → Keeps g → EachKeeps (fs ++ g ∷ [])
each_append [] g h k = (k, tt)
each_append (f ∷ fs) g h k = (h.0, each_append fs g h.1 k)

-- where `from` is in scope, it is one more variable
abbrev pub with_from : Bool → Point → Point
with_from false s = s
with_from true s = pushed (hidden (Arg 0)) s

pub from_later : (several : Bool) (d : ℕ) (ls : List Label) (qs : List Origin) (s : Point) → Later (with_from several s) (from_made several d ls qs s).after
from_later false d ls qs s = later_here s
from_later true d ls qs s =
    let n : Built Origin = const_made d s in
    let m : Built Origin = groups_moved d ls qs n.value n.after in
    pushed_later s m.after (hidden (Arg 0)) (hidden m.value) refl (later_then s n.after m.after (const_later d s) (groups_later d ls qs n.value n.after))

from_popped_later : (several : Bool) (s t : Point) → Later (with_from several s) t → Later s (from_popped several t)
from_popped_later false s t h = h
from_popped_later true s t h = popped_later s t (hidden (Arg 0)) h

-- after the regions of a `switch`, where `from` has left
abbrev pub chosen_end : (value : Origin) → GroupTrees → (segments : List (Point → Built (Unit {0}))) → Point → Point
chosen_end p gs fs s =
    let d : Target = default_target 0 0 gs in
    let ls : List Label = labels_of 0 0 gs in
    let several : Bool = some_segment_has_several gs in
    let x : Built Selected = segment_made p d.segment ls s in
    let f : Built (Unit {0}) = from_made several d.group ls x.value.equals x.after in
    from_popped several (choices no_value f.after x.value.number (fs ++ nothing ∷ [])).after

pub chosen_end_later : (p : Origin) (gs : GroupTrees) (fs : List (Point → Built (Unit {0}))) → EachKeeps fs → (s : Point) → Later s (chosen_end p gs fs s)
chosen_end_later p gs fs hs s =
    let d : Target = default_target 0 0 gs in
    let ls : List Label = labels_of 0 0 gs in
    let several : Bool = some_segment_has_several gs in
    let x : Built Selected = segment_made p d.segment ls s in
    let f : Built (Unit {0}) = from_made several d.group ls x.value.equals x.after in
    let c : Built (Unit {0}) = choices no_value f.after x.value.number (fs ++ nothing ∷ []) in
    let inner : Later (with_from several x.after) c.after =
    later_then (with_from several x.after) f.after c.after (from_later several d.group ls x.value.equals x.after)
    (choices_later no_value f.after x.value.number (fs ++ nothing ∷ []) (each_append fs nothing hs later_here)) in
    later_then s x.after (from_popped several c.after) (segment_later p d.segment ls s) (from_popped_later several x.after c.after inner)

chosen_later : (p : Origin) (gs : GroupTrees) (fs : List (Point → Built (Unit {0}))) → EachKeeps fs → Keeps (chosen_made p gs fs)
chosen_later p gs fs hs s =
    let e : Point = chosen_end p gs fs s in
    let b : Bool = (groups_exits gs).breaks in
    later_then s e (break_ended b e).after (chosen_end_later p gs fs hs s) (break_ended_later b e)

switch_later : (p : Origin) (gs : GroupTrees) (fs : List (Point → Built (Unit {0}))) → EachKeeps fs → Keeps (switch_made p gs fs)
switch_later p no_groups fs hs s = later_here s
switch_later p (group_then cases d is gs) fs hs s = chosen_later p (group_then cases d is gs) fs hs s

-- ---- statements

mutual
  pub stmt_later : (vs : List VariableTree) (a : StmtTree) → Keeps (stmt_made vs a)
  stmt_later vs null s = later_here s
  stmt_later vs (value e) s = dropped_later s (expr_made e s) (expr_later e s)
  stmt_later vs (block is) s = items_later vs is s
  stmt_later vs (if_else e a b) s =
      bind_later s (tested e s) (λ p t. choice_one_first no_value t p (stmt_made vs b) (stmt_made vs a)) (tested_later e s)
      (λ p t. choice_one_first_later no_value t p (stmt_made vs b) (stmt_made vs a) (stmt_later vs b) (stmt_later vs a))
  stmt_later vs (loop d step a) s = loop_later d step (can_leave (stmt_exits a)) (stmt_made vs a) (stmt_later vs a) s
  stmt_later vs (do_while a e) s = do_later e (can_leave (stmt_exits a)) (stmt_made vs a) (stmt_later vs a) s
  stmt_later vs break s = jump_later 1 s
  stmt_later vs continue s = jump_later 2 s
  stmt_later vs (return_value e) s = bind_later s (expr_made e s) return_made (expr_later e s) return_later
  stmt_later vs return_none s = bind_later s (undef_made s) return_made (undef_later s) return_later
  stmt_later vs (switch e gs) s =
      bind_later s (expr_made e s) (λ p t. switch_made p gs (segments_made vs true 0 gs) t) (expr_later e s)
      (λ p. switch_later p gs (segments_made vs true 0 gs) (segments_later vs true 0 gs))

  pub items_later : (vs : List VariableTree) (is : ItemTrees) → Keeps (items_made vs is)
  items_later vs no_items s = later_here s
  items_later vs (stmt_then a is) s =
      bind_later s (stmt_made vs a s) (λ _ t. unless_left (can_leave (stmt_exits a) && some_items is) (items_made vs is) t) (stmt_later vs a s)
      (λ _. unless_left_later (can_leave (stmt_exits a) && some_items is) (items_made vs is) (items_later vs is))
  items_later vs (declare_then d is) s =
      let x : SlotOrigin = declared_shape vs d in
      let t : Point = (declared_made vs d s).after in
      popped_later s (items_made vs is t).after x (later_then (pushed x s) t (items_made vs is t).after (declared_later vs d s) (items_later vs is t))

  pub segments_later : (vs : List VariableTree) (begins : Bool) (g : ℕ) (gs : GroupTrees) → EachKeeps (segments_made vs begins g gs)
  segments_later vs begins g no_groups = tt
  segments_later vs begins g (group_then cases d is gs) =
      segments_keep begins (ends_segment is gs) g (can_leave (items_exits is)) (items_made vs is) (segments_made vs (ends_segment is gs) (suc g) gs)
      (items_later vs is) (segments_later vs (ends_segment is gs) (suc g) gs)
