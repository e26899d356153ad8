use Rattle.std.proofs.Common.{sym, ap}
use Rattle.val_core.specs.Objects.{address_in}
use Rattle.c_interp_answer.specs.TaskViews.{slots_of}
use Rattle.c_interp.proofs.Layouts.{sizes-laid}
use Rattle.c_interp.proofs.known.scope_of.Goals as goal

pub returns : goal.returns
returns c = λ n k i held. record {
  memory = held.store;
  slots = ap slots_of c.as_slice.ensures.value;
  locals = λ j. ap (λ l. address_in c.args.machine.now.frame.objects.first l j) (sym (sizes-laid c.args.program.now.typed.now c.args.program.now.layouts.now c.args.machine.now.frame.function c.requires.laid));
  globals = λ j. ap (λ l. address_in 0 l j) (sym c.requires.laid.globals);
}
