-- Calls and runs take their input from its beginning.
use Rattle.std.proofs.Common.{ℕ, zero, suc, ◌%◌, ◌==◌, Bool, List, [], ◌++◌, map, length, slice_get, Option, None, Some, refl}
use Rattle.val_core.specs.declared.values.Value.{Value}
use Rattle.val_core.specs.Memory.{Memory}
use Rattle.val_core.specs.Objects.{Addresses, address_in, opened}
use Rattle.val_core.specs.Answers.{Exited, then_on, on_number}
use Rattle.val_core.specs.Within.{Given}
use Rattle.c_typed.specs.Typed.{FunctionTree, ProgramTree}
use Rattle.c_typed.specs.WellTyped.{params_of}
use Rattle.c_mean.specs.State.{State}
use Rattle.c_mean.specs.Expressions.{Call, Context, expr_run}
use Rattle.c_mean.specs.Statements.{stmt_run, items_run}
use Rattle.c_mean.specs.Run.{objects_of, params_in_scope, params_stored, ended, function_run, nested, call_run, global_address, first_memory, finished, run}
use Rattle.c_mean.specs.RunLaws.{ExpressionsTakeInput, StatementsTakeInput, NestedCallsTakeInput, CallsTakeInput, RunsTakeInput}
use Rattle.c_mean.proofs.Taken.{Takes, takes-law, law-takes, takes-then, takes-defined, takes-number, takes-active}
use Rattle.c_mean.proofs.TakenExpressions.{of_value, of_given, expr-takes}
use Rattle.c_mean.proofs.TakenStatements.{of_flow, stmt-takes, items-take}

pub expressions_take_input : ExpressionsTakeInput
expressions_take_input c h e s =
    takes-law of_value s.input (expr_run c e s) (expr-takes c (λ f vs m i. law-takes of_given i (c.calls f vs m i) (h f vs m i)) e s)

pub statements_take_input : StatementsTakeInput
statements_take_input c h vs a s =
    takes-law of_flow s.input (stmt_run c vs a s) (stmt-takes c (λ f vs m i. law-takes of_given i (c.calls f vs m i) (h f vs m i)) vs a s)

module _ (p : ProgramTree) (global : ℕ → Value) (n : ℕ) where
  function-takes : (calls : ℕ → Call) → ((f : ℕ) (vs : List Value) (m : Memory) (i : List ℕ) → Takes of_given i (calls f vs m i)) →
      (is_main : Bool) (f : Option FunctionTree) (vs : List Value) (m : Memory) (i : List ℕ) → Takes of_given i (function_run p n calls global is_main f vs m i)
  function-takes calls h is_main None vs m i = (i, refl)
  function-takes calls h is_main (Some f) vs m i =
      let objects = objects_of p.structs f.variables in
      let addresses : Addresses = record { local = address_in (length m) (map (λ o. o.size) objects); global = global } in
      let c : Context = record { bound = n; calls = calls; addresses = addresses } in
      let start : Memory → State = λ k. record { slots = params_in_scope 0 (params_of f) vs; memory = k; input = i } in
      takes-defined of_given i (params_stored addresses.local 0 (params_of f) vs (m ++ opened objects))
      (λ k. then_on (items_run c f.variables f.body (start k)) (ended is_main (length m) (length objects)))
      (λ k. takes-then of_flow of_given i (items_run c f.variables f.body (start k)) (ended is_main (length m) (length objects)) (items-take c h f.variables f.body (start k)) (λ x. refl))

  nested-takes : (depth : ℕ) (f : ℕ) (vs : List Value) (m : Memory) (i : List ℕ) → Takes of_given i (nested p global n depth f vs m i)
  nested-takes zero f vs m i = (i, refl)
  nested-takes (suc k) f vs m i =
      takes-active of_given i f _ (function-takes (nested p global n k) (nested-takes k) (f == p.main) (slice_get p.functions f) vs m i)

pub nested_calls_take_input : NestedCallsTakeInput
nested_calls_take_input p global n depth f vs m i = takes-law of_given i (nested p global n depth f vs m i) (nested-takes p global n depth f vs m i)

pub calls_take_input : CallsTakeInput
calls_take_input n p global f vs m i = takes-law of_given i (call_run p global n f vs m i) (nested-takes p global n (suc n) f vs m i)

finished-takes : (g : Given (Option Value)) → Takes of_given g.input (finished g)
finished-takes g =
    takes-defined of_given g.input g.value (λ v. on_number v (λ w. Exited [] (w % 256))) (λ v.
    takes-number of_given g.input v (λ w. Exited [] (w % 256)) (λ w. (g.input, refl)))

run-takes : (n : ℕ) (p : ProgramTree) (i : List ℕ) → Takes of_given i (run n p i)
run-takes n p i =
    takes-then of_given of_given i (call_run p (global_address p) n p.main [] (first_memory p) i) finished (nested-takes p (global_address p) n (suc n) p.main [] (first_memory p) i) finished-takes

pub runs_take_input : RunsTakeInput
runs_take_input n p i = takes-law of_given i (run n p i) (run-takes n p i)
