-- Jumps by the variable `go`, which is 0 where control goes on, and what stands around loops (ISO/IEC 9899:2011, 6.8.5,
-- 6.8.6).
use Rattle.std.specs.Prelude.{ℕ, Bool, true, false}
use Rattle.val_core.specs.declared.operation.Op2.TheVariants as op
use Rattle.c_typed.specs.Typed.{ExprTree, OptionalExpr, no_expr, some_expr}
use Rattle.g_graph.specs.declared.op.Origin.{Origin}
use Rattle.g_build_def.specs.Writer.{Point, with_go, with_go_and_ret, Built, nothing, bind, dropped, no_value, one_value, choice, repeat}
use Rattle.g_build_def.specs.Operations.{const_made, bin_made, is_zero_made}
use Rattle.g_build_def.specs.Expressions.{expr_made, tested}

-- ---- jumps

-- `go` is 1 after a `break`, 2 after a `continue`, and 3 after a `return`
abbrev pub jump_made : (code : ℕ) → Point → Built (Unit {0})
jump_made w s = bind (const_made w s) (λ g t. nothing (with_go t g))

abbrev pub return_made : (value : Origin) → Point → Built (Unit {0})
return_made v s = bind (const_made 3 s) (λ g t. nothing (with_go_and_ret t g v))

-- `go` becomes 0 where it is this code
abbrev pub jump_ended : (code : ℕ) → Point → Built (Unit {0})
jump_ended w s =
    bind (const_made w s) (λ k t.
    bind (bin_made op.Ne t.carried.go k t) (λ x u. bind (bin_made op.Mul u.carried.go x u) (λ g v. nothing (with_go v g))))

-- after a loop or a `switch` that can be left: its own `break` has ended
abbrev pub break_ended : (leaves : Bool) → Point → Built (Unit {0})
break_ended true s = jump_ended 1 s
break_ended false s = nothing s

-- what follows an item that can leave is passed over where it has left
abbrev pub unless_left : (leaves : Bool) → (rest : Point → Built (Unit {0})) → Point → Built (Unit {0})
unless_left true f s = choice no_value s s.carried.go f nothing
unless_left false f s = f s

-- ---- loops

-- a condition that is left out is true
abbrev pub optional_tested : OptionalExpr → Point → Built Origin
optional_tested no_expr s = const_made 1 s
optional_tested (some_expr e) s = tested e s

-- the step of a loop, which is done unless the body was left
abbrev pub step_made : (leaves : Bool) → OptionalExpr → Point → Built (Unit {0})
step_made l no_expr s = nothing s
step_made l (some_expr e) s = unless_left l (λ t. dropped (expr_made e t)) s

-- whether there is another turn, after the body
abbrev pub again_made : (leaves : Bool) → (step : OptionalExpr) → Point → Built Origin
again_made true step s = bind (jump_ended 2 s) (λ _ t. bind (step_made true step t) (λ _ u. is_zero_made u.carried.go u))
again_made false step s = bind (step_made false step s) (λ _ t. const_made 1 t)

abbrev pub turn_made : (condition step : OptionalExpr) → (leaves : Bool) → (body : Point → Built (Unit {0})) → Point → Built Origin
turn_made d step l f s =
    bind (optional_tested d s) (λ p t. choice one_value t p (const_made 0) (λ u. bind (f u) (λ _ v. again_made l step v)))

abbrev pub loop_made : (condition step : OptionalExpr) → (leaves : Bool) → (body : Point → Built (Unit {0})) → Point → Built (Unit {0})
loop_made d step l f s = bind (repeat s (turn_made d step l f)) (λ _ t. break_ended l t)

-- the condition of a `do`, which is asked unless the body was left
abbrev pub do_again_made : (leaves : Bool) → (condition : ExprTree) → Point → Built Origin
do_again_made true e s = bind (jump_ended 2 s) (λ _ t. choice one_value t t.carried.go (tested e) (const_made 0))
do_again_made false e s = tested e s

abbrev pub do_made : (condition : ExprTree) → (leaves : Bool) → (body : Point → Built (Unit {0})) → Point → Built (Unit {0})
do_made e l f s = bind (repeat s (λ t. bind (f t) (λ _ u. do_again_made l e u))) (λ _ t. break_ended l t)
