-- A statement takes its input from the state.
use Rattle.std.proofs.Common.{ℕ, zero, suc, ◌-◌, Bool, true, false, List, [], slice_get, Option, None, Some, refl}
use Rattle.val_core.specs.declared.values.Value.{Value}
use Rattle.val_core.specs.declared.values.Value.TheVariants.{Bad}
use Rattle.val_core.specs.Memory.{Memory, store}
use Rattle.val_core.specs.Answers.{Answer, Returned, Cut, then_on, on_defined}
use Rattle.c_typed.specs.Typed.{ExprTree, OptionalExpr, no_expr, some_expr, ElementTrees, no_elements, value_then, characters_then, InitialTree, no_initial, initial_value, initial_elements, StmtTree, null, value, block, if_else, loop, do_while, break, continue, return_value, return_none, switch, ItemTrees, no_items, stmt_then, declare_then, GroupTrees, no_groups, group_then, VariableTree}
use Rattle.c_typed.specs.WellTyped.{type_of}
use Rattle.c_mean.specs.State.{holds, object, State, with_memory, bytes_into}
use Rattle.c_typed.specs.Objects.{access_width, object_number}
use Rattle.c_mean.specs.Expressions.{Context}
use Rattle.c_mean.specs.Statements.{Flow, normal, broke, continued, returned, Flowed, flows, goes_on, if_normal, past, after_turn, optional_step, while_true, loop_run, do_run, in_scope, newest_written, characters_stored, elements_run, zeros, value_begun, object_begun, begun, declared, group_count, chosen_groups, groups_done, stmt_run, items_run, groups_runs}
use Rattle.c_mean.proofs.Taken.{Takes, takes-then, takes-defined, takes-number, takes-used, takes-branched}
use Rattle.c_mean.proofs.TakenExpressions.{of_value, of_state, of_given, expr-takes}

abbrev pub of_flow : Flowed → List ℕ
of_flow x = x.state.input

normal-takes : (f : Flow) (s : State) (next : State → Answer Flowed) → ((t : State) → Takes of_flow t.input (next t)) → Takes of_flow s.input (if_normal f s next)
normal-takes normal s next go = go s
normal-takes broke s next go = refl
normal-takes continued s next go = refl
normal-takes (returned v) s next go = refl

turn-takes : (f : Flow) (s : State) (again : State → Answer Flowed) → ((t : State) → Takes of_flow t.input (again t)) → Takes of_flow s.input (after_turn f s again)
turn-takes normal s again go = go s
turn-takes broke s again go = refl
turn-takes continued s again go = go s
turn-takes (returned v) s again go = refl

module _ (c : Context) (calls : (f : ℕ) (vs : List Value) (m : Memory) (i : List ℕ) → Takes of_given i (c.calls f vs m i)) where
  -- ---- loops

  optional-takes : (e : OptionalExpr) (s : State) → Takes of_state s.input (optional_step c e s)
  optional-takes no_expr s = refl
  optional-takes (some_expr e) s = takes-then of_value of_state s.input _ _ (expr-takes c calls e s) (λ x. refl)

  while-takes : (e : OptionalExpr) (turn : State → Answer Flowed) → ((t : State) → Takes of_flow t.input (turn t)) → (s : State) → Takes of_flow s.input (while_true c e turn s)
  while-takes no_expr turn go s = go s
  while-takes (some_expr e) turn go s =
      takes-then of_value of_flow s.input _ _ (expr-takes c calls e s) (λ x.
      takes-branched of_flow x.state.input (type_of e) x.value (turn x.state) (goes_on x.state) (go x.state) refl)

  module _ (body : State → Answer Flowed) (go : (s : State) → Takes of_flow s.input (body s)) where
    loop-takes : (n : ℕ) (e step : OptionalExpr) (s : State) → Takes of_flow s.input (loop_run n c e step body s)
    loop-takes zero e step s = while-takes e (λ t. Cut []) (λ t. (t.input, refl)) s
    loop-takes (suc n) e step s =
        while-takes e (λ t. then_on (body t) (λ x. after_turn x.flow x.state (λ u. then_on (optional_step c step u) (loop_run n c e step body))))
        (λ t. takes-then of_flow of_flow t.input _ _ (go t) (λ x.
        turn-takes x.flow x.state (λ u. then_on (optional_step c step u) (loop_run n c e step body)) (λ u.
        takes-then of_state of_flow u.input _ _ (optional-takes step u) (λ v. loop-takes n e step v)))) s

    do-takes : (n : ℕ) (e : ExprTree) (s : State) → Takes of_flow s.input (do_run n c e body s)
    do-takes zero e s = (s.input, refl)
    do-takes (suc n) e s =
        takes-then of_flow of_flow s.input _ _ (go s) (λ x.
        turn-takes x.flow x.state _ (λ t.
        takes-then of_value of_flow t.input _ _ (expr-takes c calls e t) (λ y.
        takes-branched of_flow y.state.input (type_of e) y.value (do_run n c e body y.state) (goes_on y.state) (do-takes n e y.state) refl)))

  -- ---- declarations

  elements-take : (a : Value) (es : ElementTrees) (s : State) → Takes of_state s.input (elements_run c a es s)
  elements-take a no_elements s = refl
  elements-take a (value_then o e es) s =
      takes-then of_value of_state s.input _ _ (expr-takes c calls e s) (λ x.
      takes-used of_state x.state.input x.value (λ v. on_defined (store (access_width (type_of e)) (bytes_into a o) v x.state.memory) (λ m. elements_run c a es (with_memory x.state m))) (λ v.
      takes-defined of_state x.state.input (store (access_width (type_of e)) (bytes_into a o) v x.state.memory) (λ m. elements_run c a es (with_memory x.state m)) (λ m.
      elements-take a es (with_memory x.state m))))
  elements-take a (characters_then o cs es) s =
      takes-defined of_state s.input (characters_stored a o cs s.memory) (λ m. elements_run c a es (with_memory s m)) (λ m. elements-take a es (with_memory s m))

  value-takes : (i : InitialTree) (s : State) → Takes of_state s.input (value_begun c i s)
  value-takes no_initial s = refl
  value-takes (initial_value e) s =
      takes-then of_value of_state s.input _ _ (expr-takes c calls e s) (λ x.
      takes-used of_state x.state.input x.value (λ v. Returned (newest_written x.state v) []) (λ v. refl))
  value-takes (initial_elements es) s = refl

  object-takes : (a : Value) (i : InitialTree) (s : State) → Takes of_state s.input (object_begun c a i s)
  object-takes a no_initial s = refl
  object-takes a (initial_value e) s =
      takes-then of_value of_state s.input _ _ (expr-takes c calls e s) (λ x.
      takes-used of_state x.state.input x.value (λ v. on_defined (store (access_width (type_of e)) a v x.state.memory) (λ m. Returned (with_memory x.state m) [])) (λ v.
      takes-defined of_state x.state.input (store (access_width (type_of e)) a v x.state.memory) (λ m. Returned (with_memory x.state m) []) (λ m. refl)))
  object-takes a (initial_elements es) s =
      takes-defined of_state s.input (zeros a s.memory) (λ m. elements_run c a es (with_memory s m)) (λ m. elements-take a es (with_memory s m))

  begun-takes : (is_object : Bool) (k : ℕ) (i : InitialTree) (s : State) → Takes of_state s.input (begun c is_object k i s)
  begun-takes false k i s = value-takes i (in_scope s (holds Bad))
  begun-takes true k i s = object-takes (c.addresses.local k) i (in_scope s (object k))

  declared-takes : (vs : List VariableTree) (k : ℕ) (v : Option VariableTree) (i : InitialTree) (s : State) → Takes of_state s.input (declared c vs k v i s)
  declared-takes vs k None i s = (s.input, refl)
  declared-takes vs k (Some v) i s = begun-takes v.is_object (object_number vs k) i s

  -- ---- statements

  mutual
    pub stmt-takes : (vs : List VariableTree) (a : StmtTree) (s : State) → Takes of_flow s.input (stmt_run c vs a s)
    stmt-takes vs null s = refl
    stmt-takes vs (value e) s = takes-then of_value of_flow s.input _ _ (expr-takes c calls e s) (λ x. refl)
    stmt-takes vs (block is) s = items-take vs is s
    stmt-takes vs (if_else e a b) s =
        takes-then of_value of_flow s.input _ _ (expr-takes c calls e s) (λ x.
        takes-branched of_flow x.state.input (type_of e) x.value _ _ (stmt-takes vs a x.state) (stmt-takes vs b x.state))
    stmt-takes vs (loop e step a) s =
        takes-then of_flow of_flow s.input _ _ (loop-takes (stmt_run c vs a) (λ t. stmt-takes vs a t) c.bound e step s) (λ x. refl)
    stmt-takes vs (do_while a e) s =
        takes-then of_flow of_flow s.input _ _ (do-takes (stmt_run c vs a) (λ t. stmt-takes vs a t) c.bound e s) (λ x. refl)
    stmt-takes vs break s = refl
    stmt-takes vs continue s = refl
    stmt-takes vs (return_value e) s =
        takes-then of_value of_flow s.input _ _ (expr-takes c calls e s) (λ x.
        takes-used of_flow x.state.input x.value (λ v. flows x.state (returned (Some v))) (λ v. refl))
    stmt-takes vs return_none s = refl
    stmt-takes vs (switch e gs) s =
        takes-then of_value of_flow s.input _ _ (expr-takes c calls e s) (λ x.
        takes-number of_flow x.state.input x.value (λ w. then_on (groups_done (group_count gs - group_count (chosen_groups w gs)) (groups_runs c vs gs) x.state) past) (λ w.
        takes-then of_flow of_flow x.state.input _ _ (groups-take vs (group_count gs - group_count (chosen_groups w gs)) gs x.state) (λ y. refl)))

    pub items-take : (vs : List VariableTree) (is : ItemTrees) (s : State) → Takes of_flow s.input (items_run c vs is s)
    items-take vs no_items s = refl
    items-take vs (stmt_then a is) s =
        takes-then of_flow of_flow s.input _ _ (stmt-takes vs a s) (λ x. normal-takes x.flow x.state (items_run c vs is) (λ t. items-take vs is t))
    items-take vs (declare_then i is) s =
        takes-then of_state of_flow s.input _ _ (declared-takes vs i.variable (slice_get vs i.variable) i.initial s) (λ t.
        takes-then of_flow of_flow t.input _ _ (items-take vs is t) (λ x. refl))

    groups-take : (vs : List VariableTree) (passed : ℕ) (gs : GroupTrees) (s : State) → Takes of_flow s.input (groups_done passed (groups_runs c vs gs) s)
    groups-take vs k no_groups s = refl
    groups-take vs zero (group_then cases b is gs) s =
        takes-then of_flow of_flow s.input _ _ (items-take vs is s) (λ x. normal-takes x.flow x.state (groups_done zero (groups_runs c vs gs)) (λ t. groups-take vs zero gs t))
    groups-take vs (suc k) (group_then cases b is gs) s = groups-take vs k gs s
