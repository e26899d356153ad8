use Rattle.std.proofs.Common.{◌≡◌, ◌-◌, ◌∙◌, ◌++◌, length, inl, inr, refl, sym, ap, arith}
use Rattle.std.specs.Prelude.{Some, option_to_list, option_copied, slice_get, slice_index_or}
use Rattle.std.proofs.lemmas.Option.{get_or_from_slice_get, slice_get_within}
use Rattle.c_interp.proofs.Steps.{with_tasks}
use Rattle.c_interp.proofs.calls.end_at_once.Goals as goal

pub returns-in_default : goal.returns-in_default
returns-in_default c = inl refl

pub returns : goal.returns
returns c =
    let tasks = c.args.machine.now.tasks in
    let newest = c.in-Some.task.now in
    let found : slice_get tasks.items (length tasks.items - 1) ≡ Some newest =
    ap (λ l. slice_get l (length l - 1)) (sym c.deref.ensures.value) ∙ sym c.last.ensures.value ∙ ap option_copied c.in-Some.is in
    let popped : c.pop.result ≡ Some newest =
    c.pop.ensures.value newest (omega (arith, tasks.ok.0, slice_get_within tasks.items (length tasks.items - 1) newest found))
    ∙ ap Some (ap (λ k. slice_index_or tasks.items (k - 1) newest) tasks.ok.0 ∙ get_or_from_slice_get tasks.items (length tasks.items - 1) newest newest found) in
    inr (
      with_tasks c.args.machine.now c.pop.new.self,
      c.pop.ensures.items ∙ ap (λ o. c.pop.new.self.items ++ option_to_list o) (popped ∙ ap Some (c.is_end_call.ensures c.if-not-is_end_call.false)),
      c.end_call.ensures c.args.program.now.bound,
    )
