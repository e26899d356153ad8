-- The graphs of statements.
use Rattle.std.proofs.Common.{ℕ, suc, Bool, true, false, [], refl, arith}
use Rattle.std.specs.Prelude.{not, ◌||◌, ◌&&◌}
use Rattle.c_typed.specs.Typed.{StmtTree, null, value, block, if_else, loop, do_while, break, continue, return_value, return_none, switch, ItemTrees, no_items, stmt_then, declare_then, GroupTrees, no_groups, group_then}
use Rattle.c_typed.specs.WellTyped.{Scope, Jumps, in_loop, in_switch, extended, StmtIsTyped, ItemsAreTyped, GroupsAreTyped}
use Rattle.g_build_keeps.specs.Formation.{Standing}
use Rattle.g_build_def.specs.Writer.{Form, straight, jumping, Point, popped, nothing, bind, no_value, choice_one_first}
use Rattle.g_build_def.specs.Operations.{undef_made}
use Rattle.g_build_def.specs.Expressions.{expr_made, tested}
use Rattle.g_build_def.specs.Exits.{stmt_exits, items_exits, can_leave, stmt_jumps, items_jump, groups_jump, some_items}
use Rattle.g_build_def.specs.Jumps.{return_made, unless_left}
use Rattle.g_build_def.specs.Switch.{ends_segment, some_segment_has_several, switch_made}
use Rattle.g_build_def.specs.Statements.{declared_made, stmt_made, items_made, segments_made}
use Rattle.g_build_keeps.proofs.Stands.{Frame, a_hidden, with_mark, IsValue, NoValue, Stands, Made}
use Rattle.g_build_keeps.proofs.Parts.{bind_made, then_made, nothing_made, dropped_made, AllInside, no_value_fits, choice_one_first_made}
use Rattle.g_build_keeps.proofs.Operations.{undef_ok}
use Rattle.g_build_keeps.proofs.PlaceGraphs.{shown_pushed, stands_popped}
use Rattle.g_build_keeps.proofs.ExpressionGraphs.{FitsScope, expr_ok, tested_ok}
use Rattle.g_build_keeps.proofs.lemmas.Exits.{MayJump, jump_left, jump_right, stmt_leaves, items_leave, groups_break}
use Rattle.g_build_keeps.proofs.lemmas.Jumps.{jump_made_ok, return_made_ok, unless_left_ok, loop_made_ok, do_made_ok}
use Rattle.g_build_keeps.proofs.lemmas.Switches.{from_frame, HasFrom, segments_with_ok, switch_made_ok}
use Rattle.g_build_keeps.proofs.lemmas.Declarations.{scope_extended, mark_shown, declared_mark, declared_ok}

leave_and : (form : Form) (a b : Bool) → MayJump form a → MayJump form (a && b)
leave_and straight true b h = absurd (cc)
leave_and straight false b h = refl
leave_and jumping a b h = tt

-- the scope in the regions of a `switch`
scope_from : (several : Bool) (f : Frame) (k : Scope) → FitsScope f k → FitsScope (from_frame several f) k
scope_from true f k q = record { slots = let n = shown_pushed f.marks a_hidden in omega (arith, n, q.slots); globals = q.globals; functions = q.functions; variables = q.variables }
scope_from false f k q = q

jump_from : (several : Bool) (f : Frame) (b : Bool) → MayJump f.form b → MayJump (from_frame several f).form b
jump_from true f b h = h
jump_from false f b h = h

from_there : (several : Bool) (f : Frame) → HasFrom several (from_frame several f)
from_there true f e = (f.marks, refl)
from_there false f e = absurd (cc)

-- what asks for `from` in a group, and in those after it
has_from_own : (f : Frame) (begins ends rest : Bool) → HasFrom (not begins || (not ends || rest)) f → HasFrom (not begins || not ends) f
has_from_own f true true rest h e = absurd (cc)
has_from_own f true false rest h e = h refl
has_from_own f false ends rest h e = h refl

has_from_rest : (f : Frame) (begins ends rest : Bool) → HasFrom (not begins || (not ends || rest)) f → HasFrom (not ends || rest) f
has_from_rest f true ends rest h = h
has_from_rest f false ends rest h = λ e. h refl

mutual
  pub stmt_ok : (f : Frame) (k : Scope) (j : Jumps) (a : StmtTree) (c : Standing) (s : Point) → FitsScope f k → StmtIsTyped k j a → MayJump f.form (stmt_jumps a) → Stands f c s →
      Made f NoValue c (stmt_made k.variables a s)
  stmt_ok f k j null c s q ty m h = nothing_made f c s h
  stmt_ok f k j (value e) c s q ty m h = dropped_made f IsValue c (expr_made e s) (expr_ok f k e c s q ty h)
  stmt_ok f k j (block is) c s q ty m h = items_ok f k j is c s q ty m h
  stmt_ok f k j (if_else e a b) c s q ty m h =
      let p = tested e s in
      then_made f IsValue NoValue c p (λ p t. choice_one_first no_value t p (stmt_made k.variables b) (stmt_made k.variables a)) (tested_ok f k e c s q ty.0.0 h) (λ d x.
      choice_one_first_made f NoValue NoValue d p.after no_value [] p.value (stmt_made k.variables b) (stmt_made k.variables a) x.stands x.value (no_value_fits f d p.after.next)
      (λ d2 t y. stmt_ok f k j b d2 t q ty.2 (jump_right f.form (stmt_jumps a) (stmt_jumps b) m) y)
      (λ d2 t y. stmt_ok f k j a d2 t q ty.1 (jump_left f.form (stmt_jumps a) (stmt_jumps b) m) y))
  stmt_ok f k j (loop d step a) c s q ty m h =
      loop_made_ok f k d step (can_leave (stmt_exits a)) (stmt_made k.variables a) c s q ty.0 ty.1 (stmt_leaves f.form a m) (λ d2 t y. stmt_ok f k (in_loop j) a d2 t q ty.2 m y) h
  stmt_ok f k j (do_while a e) c s q ty m h =
      do_made_ok f k e (can_leave (stmt_exits a)) (stmt_made k.variables a) c s q ty.1 (stmt_leaves f.form a m) (λ d2 t y. stmt_ok f k (in_loop j) a d2 t q ty.0 m y) h
  stmt_ok f k j break c s q ty m h = jump_made_ok f c s 1 h
  stmt_ok f k j continue c s q ty m h = jump_made_ok f c s 2 h
  stmt_ok f k j (return_value e) c s q ty m h =
      let b = expr_made e s in then_made f IsValue NoValue c b return_made (expr_ok f k e c s q ty.0 h) (λ d x. return_made_ok f d b.after b.value x.stands x.value)
  stmt_ok f k j return_none c s q ty m h =
      let b = undef_made s in then_made f IsValue NoValue c b return_made (undef_ok f c s h) (λ d x. return_made_ok f d b.after b.value x.stands x.value)
  stmt_ok f k j (switch e gs) c s q ty m h =
      let p = expr_made e s in
      let several = some_segment_has_several gs in
      then_made f IsValue NoValue c p (λ p t. switch_made p gs (segments_made k.variables true 0 gs) t) (expr_ok f k e c s q ty.0 h) (λ d x.
      switch_made_ok f d p.after p.value gs (segments_made k.variables true 0 gs) x.stands x.value (groups_break f.form gs m)
      (segments_ok (from_frame several f) k (in_switch j) true 0 gs (scope_from several f k q) ty.2 (jump_from several f (groups_jump gs) m) (from_there several f)))

  pub items_ok : (f : Frame) (k : Scope) (j : Jumps) (is : ItemTrees) (c : Standing) (s : Point) → FitsScope f k → ItemsAreTyped k j is → MayJump f.form (items_jump is) → Stands f c s →
      Made f NoValue c (items_made k.variables is s)
  items_ok f k j no_items c s q ty m h = nothing_made f c s h
  items_ok f k j (stmt_then a is) c s q ty m h =
      let b = stmt_made k.variables a s in
      let l = can_leave (stmt_exits a) && some_items is in
      then_made f NoValue NoValue c b (λ _ t. unless_left l (items_made k.variables is) t) (stmt_ok f k j a c s q ty.0 (jump_left f.form (stmt_jumps a) (items_jump is) m) h) (λ d x.
      unless_left_ok f d b.after l (items_made k.variables is)
      (leave_and f.form (can_leave (stmt_exits a)) (some_items is) (stmt_leaves f.form a (jump_left f.form (stmt_jumps a) (items_jump is) m))) x.stands
      (λ d2 t y. items_ok f k j is d2 t q ty.1 (jump_right f.form (stmt_jumps a) (items_jump is) m) y))
  items_ok f k j (declare_then d is) c s q ty m h =
      let g = with_mark f (declared_mark k d ty.0) in
      let b = declared_made k.variables d s in
      let r = items_made k.variables is b.after in
      bind_made g f NoValue NoValue c b (λ _ t. bind (items_made k.variables is t) (λ _ u. nothing (popped u))) refl (declared_ok f k ty.0 ty.2.0 d c s q ty.1 ty.2.2 h) (λ d1 x1.
      bind_made g f NoValue NoValue d1 r (λ _ u. nothing (popped u)) refl
      (items_ok g (extended k ty.0) j is d1 b.after (scope_extended f k ty.0 (declared_mark k d ty.0) q (mark_shown ty.0.is_object _)) ty.3 m x1.stands) (λ d2 x2.
      nothing_made f d2 (popped r.after) (stands_popped f d2 r.after (declared_mark k d ty.0) x2.stands)))

  segments_ok : (f : Frame) (k : Scope) (j : Jumps) (begins : Bool) (n : ℕ) (gs : GroupTrees) → FitsScope f k → GroupsAreTyped k j gs → MayJump f.form (groups_jump gs) →
      HasFrom (not begins || some_segment_has_several gs) f → AllInside f NoValue (segments_made k.variables begins n gs)
  segments_ok f k j begins n no_groups q ty m from = tt
  segments_ok f k j begins n (group_then cases d is gs) q ty m from =
      let ends = ends_segment is gs in
      segments_with_ok f begins ends n (can_leave (items_exits is)) (items_made k.variables is) (segments_made k.variables ends (suc n) gs)
      (has_from_own f begins ends (some_segment_has_several gs) from) (items_leave f.form is (jump_left f.form (items_jump is) (groups_jump gs) m))
      (λ c s h. items_ok f k j is c s q ty.1 (jump_left f.form (items_jump is) (groups_jump gs) m) h)
      (segments_ok f k j ends (suc n) gs q ty.2 (jump_right f.form (items_jump is) (groups_jump gs) m) (has_from_rest f begins ends (some_segment_has_several gs) from))
