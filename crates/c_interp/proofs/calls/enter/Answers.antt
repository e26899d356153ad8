use Rattle.std.proofs.Common.{◌∷◌, ◌++◌, [], ◌∙◌, refl, ap₂}
use Rattle.c_interp.proofs.CallSteps.{active_of}
use Rattle.c_interp.proofs.calls.enter.Goals as goal

pub returns : goal.returns
returns c =
    let old = c.args.machine.now in
    record {
      tasks = refl;
      frame_is = c.replace-frame.ensures.after;
      slots_are = c.replace-slots.ensures.after;
      callers = c.in_ok-push.ensures.items ∙ ap₂ (λ f s. old.callers.items ++ active_of f s ∷ []) c.replace-frame.ensures.value c.replace-slots.ensures.value;
      operands = refl;
      flow = refl;
      store = refl;
    }
