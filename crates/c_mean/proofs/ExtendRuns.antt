-- The calls and runs of a greater bound extend those of a lesser one.
use Rattle.std.proofs.Common.{ℕ, zero, suc, ◌≤◌, ◌==◌, Bool, List, [], map, length, slice_get, slice_index_or, Option, None, Some, refl, subst, arith}
use Rattle.val_core.specs.declared.values.Value.{Value}
use Rattle.val_core.specs.Memory.{Memory}
use Rattle.val_core.specs.Objects.{address_in}
use Rattle.c_typed.specs.Typed.{FunctionTree, ProgramTree}
use Rattle.c_mean.specs.Expressions.{Call, expr_run}
use Rattle.c_mean.specs.Statements.{stmt_run}
use Rattle.c_mean.specs.Run.{objects_of, function_run, nested, global_address, first_memory, finished, run}
use Rattle.c_mean.specs.RunLaws.{Extends, ExpressionsExtend, StatementsExtend, NestedCallsExtend, CallsExtend, RunsExtend, DeepestGrows}
use Rattle.c_mean.proofs.Extends.{extends-itself, extends-then, extends-defined, extends-active, extends-deepest}
use Rattle.c_mean.proofs.ExtendExpressions.{expr-extends}
use Rattle.c_mean.proofs.ExtendStatements.{stmt-extends, items-extend}

pub expressions_extend : ExpressionsExtend
expressions_extend c d h e s =
    subst (λ a. Extends (expr_run c e s) (expr_run (record { bound = d.bound; calls = d.calls; addresses = a }) e s)) h.addresses
    (expr-extends c.bound d.bound c.calls d.calls c.addresses h.calls e s)

pub statements_extend : StatementsExtend
statements_extend c d h vs a s =
    subst (λ x. Extends (stmt_run c vs a s) (stmt_run (record { bound = d.bound; calls = d.calls; addresses = x }) vs a s)) h.addresses
    (stmt-extends c.bound d.bound h.bound c.calls d.calls c.addresses h.calls vs a s)

module _ (p : ProgramTree) (global : ℕ → Value) (n m : ℕ) (order : n ≤ m) where
  function-extends : (calls calls' : ℕ → Call) → ((f : ℕ) (vs : List Value) (k : Memory) (i : List ℕ) → Extends (calls f vs k i) (calls' f vs k i)) →
      (is_main : Bool) (f : Option FunctionTree) (vs : List Value) (k : Memory) (i : List ℕ) →
      Extends (function_run p n calls global is_main f vs k i) (function_run p m calls' global is_main f vs k i)
  function-extends calls calls' more is_main None vs k i = refl
  function-extends calls calls' more is_main (Some f) vs k i =
      extends-defined _ _ _ (λ l.
      extends-then _ _ _ _
      (items-extend n m order calls calls' (record { local = address_in (length k) (map (λ o. o.size) (objects_of p.structs f.variables)); global = global }) more f.variables f.body _)
      (λ x. refl))

  nested-extends : (j k : ℕ) → j ≤ k → (f : ℕ) (vs : List Value) (l : Memory) (i : List ℕ) → Extends (nested p global n j f vs l i) (nested p global m k f vs l i)
  nested-extends zero k h f vs l i = (_, refl)
  nested-extends (suc j) zero h f vs l i = absurd (omega (arith, h))
  nested-extends (suc j) (suc k) h f vs l i =
      extends-active f _ _ (function-extends (nested p global n j) (nested p global m k) (nested-extends j k (omega (arith, h))) (f == p.main) (slice_get p.functions f) vs l i)

pub nested_calls_extend : NestedCallsExtend
nested_calls_extend p global n m order depth deeper h f vs k i = nested-extends p global n m order depth deeper h f vs k i

pub calls_extend : CallsExtend
calls_extend n m p global f vs k i order = nested-extends p global n m order (suc n) (suc m) (omega (arith, order)) f vs k i

pub runs_extend : RunsExtend
runs_extend n m p i order =
    extends-then _ _ _ _ (calls_extend n m p (global_address p) p.main [] (first_memory p) i order) (λ g. extends-itself (finished g))

pub deepest_grows : DeepestGrows
deepest_grows n m p sizes i order = extends-deepest (λ f. slice_index_or sizes f 0) (run n p i) (run m p i) (runs_extend n m p i order)
