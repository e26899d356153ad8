-- The statements of a greater bound extend those of a lesser one.
use Rattle.std.proofs.Common.{ℕ, zero, suc, ◌≤◌, ◌-◌, Bool, true, false, List, [], slice_get, Option, None, Some, refl, arith}
use Rattle.val_core.specs.declared.values.Value.{Value}
use Rattle.val_core.specs.Memory.{Memory}
use Rattle.val_core.specs.Objects.{Addresses}
use Rattle.val_core.specs.Answers.{Answer, Cut, then_on}
use Rattle.c_typed.specs.Typed.{ExprTree, OptionalExpr, no_expr, some_expr, ElementTrees, no_elements, value_then, characters_then, InitialTree, no_initial, initial_value, initial_elements, StmtTree, null, value, block, if_else, loop, do_while, break, continue, return_value, return_none, switch, ItemTrees, no_items, stmt_then, declare_then, GroupTrees, no_groups, group_then, VariableTree}
use Rattle.c_typed.specs.WellTyped.{type_of}
use Rattle.c_mean.specs.State.{State, with_memory}
use Rattle.c_mean.specs.Expressions.{Call, Context, expr_run}
use Rattle.c_mean.specs.Statements.{Flow, normal, broke, continued, returned, Flowed, goes_on, if_normal, after_turn, optional_step, while_true, loop_run, do_run, elements_run, value_begun, object_begun, begun, declared, group_count, chosen_groups, groups_done, stmt_run, items_run, groups_runs}
use Rattle.c_typed.specs.Objects.{object_number}
use Rattle.c_mean.specs.RunLaws.{Extends}
use Rattle.c_mean.proofs.Extends.{extends-itself, extends-then, extends-defined, extends-number, extends-used, extends-branched}
use Rattle.c_mean.proofs.ExtendExpressions.{expr-extends}

extends-normal : (f : Flow) (s : State) (next next' : State → Answer Flowed) → ((t : State) → Extends (next t) (next' t)) → Extends (if_normal f s next) (if_normal f s next')
extends-normal normal s next next' go = go s
extends-normal broke s next next' go = refl
extends-normal continued s next next' go = refl
extends-normal (returned v) s next next' go = refl

extends-turn : (f : Flow) (s : State) (again again' : State → Answer Flowed) → ((t : State) → Extends (again t) (again' t)) → Extends (after_turn f s again) (after_turn f s again')
extends-turn normal s again again' go = go s
extends-turn broke s again again' go = refl
extends-turn continued s again again' go = go s
extends-turn (returned v) s again again' go = refl

module _ (n m : ℕ) (order : n ≤ m) (calls calls' : ℕ → Call) (addresses : Addresses)
    (more : (f : ℕ) (vs : List Value) (k : Memory) (i : List ℕ) → Extends (calls f vs k i) (calls' f vs k i)) where
  abbrev c : Context
  c = record { bound = n; calls = calls; addresses = addresses }

  abbrev d : Context
  d = record { bound = m; calls = calls'; addresses = addresses }

  step-extends : (e : ExprTree) (s : State) → Extends (expr_run c e s) (expr_run d e s)
  step-extends e s = expr-extends n m calls calls' addresses more e s

  -- ---- loops

  optional-extends : (e : OptionalExpr) (s : State) → Extends (optional_step c e s) (optional_step d e s)
  optional-extends no_expr s = refl
  optional-extends (some_expr e) s = extends-then _ _ _ _ (step-extends e s) (λ x. refl)

  while-extends : (e : OptionalExpr) (turn turn' : State → Answer Flowed) → ((t : State) → Extends (turn t) (turn' t)) → (s : State) → Extends (while_true c e turn s) (while_true d e turn' s)
  while-extends no_expr turn turn' go s = go s
  while-extends (some_expr e) turn turn' go s =
      extends-then _ _ _ _ (step-extends e s) (λ x. extends-branched (type_of e) x.value (turn x.state) (goes_on x.state) (turn' x.state) (goes_on x.state) (go x.state) refl)

  module _ (body body' : State → Answer Flowed) (go : (s : State) → Extends (body s) (body' s)) where
    loop-extends : (j k : ℕ) → j ≤ k → (e step : OptionalExpr) (s : State) → Extends (loop_run j c e step body s) (loop_run k d e step body' s)
    loop-extends zero zero h e step s = while-extends e (λ t. Cut []) (λ t. Cut []) (λ t. ([], refl)) s
    loop-extends zero (suc k) h e step s =
        while-extends e (λ t. Cut []) (λ t. then_on (body' t) (λ x. after_turn x.flow x.state (λ u. then_on (optional_step d step u) (loop_run k d e step body'))))
        (λ t. (_, refl)) s
    loop-extends (suc j) zero h e step s = absurd (omega (arith, h))
    loop-extends (suc j) (suc k) h e step s =
        while-extends e (λ t. then_on (body t) (λ x. after_turn x.flow x.state (λ u. then_on (optional_step c step u) (loop_run j c e step body))))
        (λ t. then_on (body' t) (λ x. after_turn x.flow x.state (λ u. then_on (optional_step d step u) (loop_run k d e step body'))))
        (λ t. extends-then _ _ _ _ (go t) (λ x. extends-turn x.flow x.state _ _ (λ u. extends-then _ _ _ _ (optional-extends step u) (λ v. loop-extends j k (omega (arith, h)) e step v)))) s

    do-extends : (j k : ℕ) → j ≤ k → (e : ExprTree) (s : State) → Extends (do_run j c e body s) (do_run k d e body' s)
    do-extends zero k h e s = (_, refl)
    do-extends (suc j) zero h e s = absurd (omega (arith, h))
    do-extends (suc j) (suc k) h e s =
        extends-then _ _ _ _ (go s) (λ x.
        extends-turn x.flow x.state _ _ (λ t.
        extends-then _ _ _ _ (step-extends e t) (λ y.
        extends-branched (type_of e) y.value (do_run j c e body y.state) (goes_on y.state) (do_run k d e body' y.state) (goes_on y.state) (do-extends j k (omega (arith, h)) e y.state) refl)))

  -- ---- declarations

  elements-extend : (a : Value) (es : ElementTrees) (s : State) → Extends (elements_run c a es s) (elements_run d a es s)
  elements-extend a no_elements s = refl
  elements-extend a (value_then o e es) s =
      extends-then _ _ _ _ (step-extends e s) (λ x. extends-used x.value _ _ (λ v. extends-defined _ _ _ (λ k. elements-extend a es (with_memory x.state k))))
  elements-extend a (characters_then o cs es) s = extends-defined _ _ _ (λ k. elements-extend a es (with_memory s k))

  value-extends : (i : InitialTree) (s : State) → Extends (value_begun c i s) (value_begun d i s)
  value-extends no_initial s = refl
  value-extends (initial_value e) s = extends-then _ _ _ _ (step-extends e s) (λ x. extends-itself _)
  value-extends (initial_elements es) s = refl

  object-extends : (a : Value) (i : InitialTree) (s : State) → Extends (object_begun c a i s) (object_begun d a i s)
  object-extends a no_initial s = refl
  object-extends a (initial_value e) s = extends-then _ _ _ _ (step-extends e s) (λ x. extends-itself _)
  object-extends a (initial_elements es) s = extends-defined _ _ _ (λ k. elements-extend a es (with_memory s k))

  begun-extends : (is_object : Bool) (k : ℕ) (i : InitialTree) (s : State) → Extends (begun c is_object k i s) (begun d is_object k i s)
  begun-extends false k i s = value-extends i _
  begun-extends true k i s = object-extends (addresses.local k) i _

  declared-extends : (vs : List VariableTree) (k : ℕ) (v : Option VariableTree) (i : InitialTree) (s : State) → Extends (declared c vs k v i s) (declared d vs k v i s)
  declared-extends vs k None i s = refl
  declared-extends vs k (Some v) i s = begun-extends v.is_object (object_number vs k) i s

  -- ---- statements

  mutual
    pub stmt-extends : (vs : List VariableTree) (a : StmtTree) (s : State) → Extends (stmt_run c vs a s) (stmt_run d vs a s)
    stmt-extends vs null s = refl
    stmt-extends vs (value e) s = extends-then _ _ _ _ (step-extends e s) (λ x. refl)
    stmt-extends vs (block is) s = items-extend vs is s
    stmt-extends vs (if_else e a b) s =
        extends-then _ _ _ _ (step-extends e s) (λ x. extends-branched (type_of e) x.value _ _ _ _ (stmt-extends vs a x.state) (stmt-extends vs b x.state))
    stmt-extends vs (loop e step a) s =
        extends-then _ _ _ _ (loop-extends (stmt_run c vs a) (stmt_run d vs a) (λ t. stmt-extends vs a t) n m order e step s) (λ x. refl)
    stmt-extends vs (do_while a e) s =
        extends-then _ _ _ _ (do-extends (stmt_run c vs a) (stmt_run d vs a) (λ t. stmt-extends vs a t) n m order e s) (λ x. refl)
    stmt-extends vs break s = refl
    stmt-extends vs continue s = refl
    stmt-extends vs (return_value e) s = extends-then _ _ _ _ (step-extends e s) (λ x. extends-itself _)
    stmt-extends vs return_none s = refl
    stmt-extends vs (switch e gs) s =
        extends-then _ _ _ _ (step-extends e s) (λ x.
        extends-number x.value _ _ (λ w. extends-then _ _ _ _ (groups-extend vs (group_count gs - group_count (chosen_groups w gs)) gs x.state) (λ y. refl)))

    pub items-extend : (vs : List VariableTree) (is : ItemTrees) (s : State) → Extends (items_run c vs is s) (items_run d vs is s)
    items-extend vs no_items s = refl
    items-extend vs (stmt_then a is) s = extends-then _ _ _ _ (stmt-extends vs a s) (λ x. extends-normal x.flow x.state _ _ (λ t. items-extend vs is t))
    items-extend vs (declare_then i is) s =
        extends-then _ _ _ _ (declared-extends vs i.variable (slice_get vs i.variable) i.initial s) (λ t. extends-then _ _ _ _ (items-extend vs is t) (λ x. refl))

    groups-extend : (vs : List VariableTree) (passed : ℕ) (gs : GroupTrees) (s : State) → Extends (groups_done passed (groups_runs c vs gs) s) (groups_done passed (groups_runs d vs gs) s)
    groups-extend vs k no_groups s = refl
    groups-extend vs zero (group_then cases b is gs) s =
        extends-then _ _ _ _ (items-extend vs is s) (λ x. extends-normal x.flow x.state _ _ (λ t. groups-extend vs zero gs t))
    groups-extend vs (suc k) (group_then cases b is gs) s = groups-extend vs k gs s
