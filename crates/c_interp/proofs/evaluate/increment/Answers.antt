use Rattle.std.proofs.Common.{◌∙◌, sym, ap, subst}
use Rattle.c_typed.specs.Typed.{ExprTree, expr, inc_dec}
use Rattle.c_typed.specs.WellTyped.{type_of}
use Rattle.c_interp_def.specs.ExprTasks as task
use Rattle.c_interp_def.specs.ExprTasks.{expr_task_run}
use Rattle.c_interp.specs.Steps.{IsStep}
use Rattle.c_interp.proofs.Unknown.{written_given}
use Rattle.c_interp.proofs.evaluate.increment.Goals as goal

pub returns-in-Some : goal.returns-in-Some
returns-in-Some c = λ n.
    let p = c.args.program.now.typed.now in
    written_given p n c.give_value.result c.args.machine.now c.give_value.new.machine (type_of c.args.e.now) c.args.e.now c.set_slot.new.slots c.in-Some.w (c.in-Some.ensures n) c.set_slot.ensures (c.give_value.ensures p n)

pub returns-in-None : goal.returns-in-None
returns-in-None c = λ n.
    let p = c.args.program.now.typed.now in
    subst (λ (e : ExprTree). IsStep p n c.increment_more.result c.args.machine.now c.increment_more.new.machine (expr_task_run p n (task.evaluate e)))
    (sym (c.requires.is ∙ ap (λ t. expr t (inc_dec c.args.step c.args.p.now)) (sym (c.deref.ensures ∙ ap type_of c.e.view_is)))) (c.increment_more.ensures n)
