-- Steps of an expression of which a condition, an operand or an argument is known, or is evaluated before the rest is done.
use Rattle.std.proofs.Common.{Vec, Global, ◌≡◌, ℕ, Bool, true, false, if◌then◌else◌, List, [], ◌∷◌, ◌++◌, length, refl, sym, ap, ◌∙◌}
use Rattle.std.specs.Prelude.{Option, None, Some, Result, Ok}
use Rattle.val_core.specs.declared.values.Value.{Value}
use Rattle.val_core.specs.declared.values.Value.TheVariants.{Num, At, Bad}
use Rattle.val_core.specs.Answers.{Answer, Returned, then_on, on_defined}
use Rattle.val_core.proofs.lemmas.Answers.{then_on_given, then_nothing}
use Rattle.c_type.specs.Trees.{TypeTree}
use Rattle.c_typed.specs.declared.operator.BinaryOp.{BinaryOp}
use Rattle.c_typed.specs.Typed as tree
use Rattle.c_typed.specs.Typed.{ExprTree, expr, ExprTrees, no_exprs, exprs_of, ProgramTree}
use Rattle.c_typed.specs.WellTyped.{type_of}
use Rattle.c_mean.specs.State.{State, gives, truth}
use Rattle.c_mean.specs.Expressions.{Context, binary_done, branched, expr_run}
use Rattle.c_mean.specs.Statements as mean
use Rattle.c_interp_store.specs.Holding.{Opened, Holds}
use Rattle.c_interp_store.specs.Operators.{used_value}
use Rattle.c_interp_def.specs.Configurations.{Configuration, Reached, reaches, state_of, gives_value, with_operands}
use Rattle.c_interp_def.specs.ExprTasks as task
use Rattle.c_interp_def.specs.ExprTasks.{context, count_of, expr_task_run}
use Rattle.c_interp_def.specs.StmtTasks.{Task, of_expr, task_run}
use Rattle.c_interp_def.specs.declared.task.Flow.TheVariants.{Normal}
use Rattle.c_interp_def.proofs.ExprLaws.{expression-expands, passed-expand}
use Rattle.c_interp_answer.specs.Answered.{IsValue, HasTruth, IsTruth}
use Rattle.c_interp.specs.declared.stop.Stop.{Stop}
use Rattle.c_interp.specs.declared.machine.Machine.{Machine}
use Rattle.c_interp.specs.Machines.{config_of}
use Rattle.c_interp.specs.Known.{Knows}
use Rattle.c_interp.specs.Steps.{IsStep, nothing_run, give_run, passed_run, passed_then}
use Rattle.c_interp.proofs.Steps.{with_ops, calls_in, newest-one, moved, same_step, nothing_step}

-- ---- `?:`

decided : {A : Type 0} (t : TypeTree) (v : Value) (d : Bool) (a b : Answer A) → truth t v ≡ Some d → branched t v a b ≡ (if d then a else b)
decided t v d a b h = ap (λ o. on_defined o (λ x. if x then a else b)) h

chosen-run : (c : Context) (s : State) (t : TypeTree) (e a b : ExprTree) (d : Bool) → HasTruth c e s d → expr_run c (expr t (tree.conditional e a b)) s ≡ (if d then expr_run c a s else expr_run c b s)
chosen-run c s t e a b d (v, is, h) =
    ap (λ q. then_on q (λ x. branched (type_of e) x.value (expr_run c a x.state) (expr_run c b x.state))) is
    ∙ decided (type_of e) v d (expr_run c a s) (expr_run c b s) h

-- the condition is known
pub chosen_step : (p : ProgramTree) (n : ℕ) (r : Result Unit Stop) (old new : Machine) (t : TypeTree) (e a b : ExprTree) (d : Bool) → d ≡ true →
    Knows p n old (λ c s. IsTruth c e s (Some d)) → IsStep p n r old new (expr_task_run p n (task.evaluate a)) → IsStep p n r old new (expr_task_run p n (task.evaluate (expr t (tree.conditional e a b))))
chosen_step p n r old new t e a b d is known step =
    same_step p n r old new (expr_task_run p n (task.evaluate (expr t (tree.conditional e a b)))) (expr_task_run p n (task.evaluate a))
    (λ m i held.
    let x : Configuration = config_of old m i in
    let c : Context = context p n x in
    ap (λ z. then_on z (gives_value x)) (chosen-run c (state_of x) t e a b d (known m i held) ∙ ap (λ q. if q then expr_run c a (state_of x) else expr_run c b (state_of x)) is))
    step

pub other_step : (p : ProgramTree) (n : ℕ) (r : Result Unit Stop) (old new : Machine) (t : TypeTree) (e a b : ExprTree) (d : Bool) → d ≡ false →
    Knows p n old (λ c s. IsTruth c e s (Some d)) → IsStep p n r old new (expr_task_run p n (task.evaluate b)) → IsStep p n r old new (expr_task_run p n (task.evaluate (expr t (tree.conditional e a b))))
other_step p n r old new t e a b d is known step =
    same_step p n r old new (expr_task_run p n (task.evaluate (expr t (tree.conditional e a b)))) (expr_task_run p n (task.evaluate b))
    (λ m i held.
    let x : Configuration = config_of old m i in
    let c : Context = context p n x in
    ap (λ z. then_on z (gives_value x)) (chosen-run c (state_of x) t e a b d (known m i held) ∙ ap (λ q. if q then expr_run c a (state_of x) else expr_run c b (state_of x)) is))
    step

-- the condition is evaluated first
pub choose_put : (p : ProgramTree) (n : ℕ) (r : Result Unit Stop) (old new : Machine) (t : TypeTree) (e a b : ExprTree) (w : Task) → w ≡ of_expr (task.choose (type_of e) a b) →
    IsStep p n r old new (λ x. then_on (expr_task_run p n (task.evaluate e) x) (task_run p n w)) → IsStep p n r old new (expr_task_run p n (task.evaluate (expr t (tree.conditional e a b))))
choose_put p n r old new t e a b w is step =
    same_step p n r old new (expr_task_run p n (task.evaluate (expr t (tree.conditional e a b)))) (λ x. then_on (expr_task_run p n (task.evaluate e) x) (task_run p n w))
    (λ m i held.
    let x : Configuration = config_of old m i in
    expression-expands p n t (tree.conditional e a b) x ∙ ap (λ z. then_on (expr_task_run p n (task.evaluate e) x) (task_run p n z)) (sym is))
    step

-- ---- operators

given-defined : (x : Configuration) (v : Option Value) → then_on (on_defined v (gives (state_of x))) (gives_value x) ≡ give_run v x
given-defined x None = refl
given-defined x (Some v) = refl

-- both operands are known
pub operated_step : (p : ProgramTree) (n : ℕ) (r : Result Unit Stop) (old new : Machine) (t : TypeTree) (o : BinaryOp) (a b : ExprTree) (y z : Value) (v : Option Value) →
    Knows p n old (λ c s. IsValue c a s (Some y)) → Knows p n old (λ c s. IsValue c b s (Some z)) →
    ((calls : List Opened) (s : State) → Holds old.store calls s.memory → binary_done o (type_of a) (type_of b) y z s ≡ on_defined v (gives s)) →
    IsStep p n r old new (give_run v) → IsStep p n r old new (expr_task_run p n (task.evaluate (expr t (tree.binary o a b))))
operated_step p n r old new t o a b y z v left right done step =
    same_step p n r old new (expr_task_run p n (task.evaluate (expr t (tree.binary o a b)))) (give_run v)
    (λ m i held.
    let x : Configuration = config_of old m i in
    let c : Context = context p n x in
    ap (λ q. then_on (then_on q (λ u. then_on (expr_run c b u.state) (λ w. binary_done o (type_of a) (type_of b) u.value w.value w.state))) (gives_value x)) (left m i held)
    ∙ ap (λ q. then_on (then_on q (λ w. binary_done o (type_of a) (type_of b) y w.value w.state)) (gives_value x)) (right m i held)
    ∙ ap (λ q. then_on q (gives_value x)) (done (calls_in old) (state_of x) held.store)
    ∙ given-defined x v)
    step

-- the left operand is known, and waits for the right one
pub operand_step : (p : ProgramTree) (n : ℕ) (r : Result Unit Stop) (old new : Machine) (many : Vec Value Global) (t : TypeTree) (o : BinaryOp) (a b : ExprTree) (y : Value) (w : Task) →
    w ≡ of_expr (task.binary o (type_of a) (type_of b)) → Knows p n old (λ c s. IsValue c a s (Some y)) → many.items ≡ old.operands.items ++ y ∷ [] →
    IsStep p n r (with_ops old many) new (λ x. then_on (expr_task_run p n (task.evaluate b) x) (task_run p n w)) → IsStep p n r old new (expr_task_run p n (task.evaluate (expr t (tree.binary o a b))))
operand_step p n r old new many t o a b y w is left pushed step =
    let last : Reached → Answer Reached = task_run p n w in
    let plain : Reached → Answer Reached = task_run p n (of_expr (task.binary o (type_of a) (type_of b))) in
    moved p n r old (with_ops old many) new (expr_task_run p n (task.evaluate (expr t (tree.binary o a b)))) (λ x. then_on (expr_task_run p n (task.evaluate b) x) last) refl
    (λ m held. (
      m,
      record { store = held.store; counts = held.counts },
      λ i.
          let x : Configuration = config_of old m i in
          expression-expands p n t (tree.binary o a b) x
          ∙ ap (λ q. then_on (then_on (then_on q (gives_value x)) (task_run p n (of_expr (task.evaluate b)))) plain) (left m i held)
          ∙ ap (λ z. then_on (expr_task_run p n (task.evaluate b) (with_operands x (y ∷ x.operands))) (task_run p n z)) (sym is)
          ∙ ap (λ vs. then_on (expr_task_run p n (task.evaluate b) (with_operands x vs)) last) (sym (newest-one old.operands.items many.items y pushed)),
    ))
    step

-- both are evaluated
pub operate_put : (p : ProgramTree) (n : ℕ) (r : Result Unit Stop) (old new : Machine) (t : TypeTree) (o : BinaryOp) (a b : ExprTree) (w : Task) → w ≡ of_expr (task.binary o (type_of a) (type_of b)) →
    IsStep p n r old new (λ x. then_on (then_on (expr_task_run p n (task.evaluate a) x) (task_run p n (of_expr (task.evaluate b)))) (task_run p n w)) →
    IsStep p n r old new (expr_task_run p n (task.evaluate (expr t (tree.binary o a b))))
operate_put p n r old new t o a b w is step =
    same_step p n r old new (expr_task_run p n (task.evaluate (expr t (tree.binary o a b))))
    (λ x. then_on (then_on (expr_task_run p n (task.evaluate a) x) (task_run p n (of_expr (task.evaluate b)))) (task_run p n w))
    (λ m i held.
    let x : Configuration = config_of old m i in
    expression-expands p n t (tree.binary o a b) x ∙ ap (λ z. then_on (then_on (expr_task_run p n (task.evaluate a) x) (task_run p n (of_expr (task.evaluate b)))) (task_run p n z)) (sym is))
    step

-- ---- calls

pub call_put : (p : ProgramTree) (n : ℕ) (r : Result Unit Stop) (old new : Machine) (t : TypeTree) (f count : ℕ) (es : ExprTrees) → count_of es ≡ count →
    IsStep p n r old new (λ x. then_on (expr_task_run p n (task.pass_each es) x) (task_run p n (of_expr (task.call f count)))) →
    IsStep p n r old new (expr_task_run p n (task.evaluate (expr t (tree.call f es))))
call_put p n r old new t f count es is step =
    same_step p n r old new (expr_task_run p n (task.evaluate (expr t (tree.call f es)))) (λ x. then_on (expr_task_run p n (task.pass_each es) x) (task_run p n (of_expr (task.call f count))))
    (λ m i held.
    let x : Configuration = config_of old m i in
    expression-expands p n t (tree.call f es) x ∙ ap (λ k. then_on (expr_task_run p n (task.pass_each es) x) (task_run p n (of_expr (task.call f k)))) is)
    step

-- ---- arguments

-- the first argument is passed, and then the others
pub pass_put : (p : ProgramTree) (n : ℕ) (r : Result Unit Stop) (old new : Machine) (all : List ExprTree) (e : ExprTree) (es : List ExprTree) → all ≡ e ∷ es →
    IsStep p n r old new (passed_then p n e (exprs_of es)) → IsStep p n r old new (expr_task_run p n (task.pass_each (exprs_of all)))
pass_put p n r old new all e es is step =
    same_step p n r old new (expr_task_run p n (task.pass_each (exprs_of all))) (passed_then p n e (exprs_of es))
    (λ m i held.
    let x : Configuration = config_of old m i in
    ap (λ l. expr_task_run p n (task.pass_each (exprs_of l)) x) is ∙ passed-expand p n (exprs_of (e ∷ es)) x)
    step

none-left : (es : List ExprTree) → length es ≡ 0 → exprs_of es ≡ no_exprs
none-left [] h = refl
none-left (e ∷ es) h = absurd cc

-- there are none
pub pass_none : (p : ProgramTree) (n : ℕ) (u : Unit) (old : Machine) (es : List ExprTree) → old.flow ≡ Normal → length es ≡ 0 → IsStep p n (Ok u) old old (expr_task_run p n (task.pass_each (exprs_of es)))
pass_none p n u old es flow none =
    same_step p n (Ok u) old old (expr_task_run p n (task.pass_each (exprs_of es))) nothing_run
    (λ m i held. ap (λ l. expr_task_run p n (task.pass_each l) (config_of old m i)) (none-left es none)) (nothing_step p n u old flow)

stays : (p : ProgramTree) (n : ℕ) (f : mean.Flow) (x : Configuration) → task_run p n (of_expr (task.pass_each no_exprs)) (record { flow = f; at = x }) ≡ reaches f x
stays p n mean.normal x = refl
stays p n mean.broke x = refl
stays p n mean.continued x = refl
stays p n (mean.returned v) x = refl

nothing-left : (p : ProgramTree) (n : ℕ) (a : Answer Reached) → then_on a (task_run p n (of_expr (task.pass_each no_exprs))) ≡ a
nothing-left p n a =
    then_on_given a (task_run p n (of_expr (task.pass_each no_exprs))) (λ r. Returned r []) (λ r o e. stays p n r.flow r.at) ∙ then_nothing a

-- no others are left
pub pass_last : (p : ProgramTree) (n : ℕ) (r : Result Unit Stop) (old new : Machine) (e : ExprTree) (es : List ExprTree) → length es ≡ 0 →
    IsStep p n r old new (passed_run p n e) → IsStep p n r old new (passed_then p n e (exprs_of es))
pass_last p n r old new e es none step =
    same_step p n r old new (passed_then p n e (exprs_of es)) (passed_run p n e)
    (λ m i held.
    let x : Configuration = config_of old m i in
    ap (λ l. passed_then p n e l x) (none-left es none) ∙ nothing-left p n (passed_run p n e x))
    step

given-used : (p : ProgramTree) (n : ℕ) (x : Configuration) (v : Value) → then_on (gives_value x (record { value = v; state = state_of x })) (task_run p n (of_expr task.use_it)) ≡ give_run (used_value v) x
given-used p n x (Num w) = refl
given-used p n x (At b o) = refl
given-used p n x Bad = refl
