use Rattle.std.proofs.Common.{◌∙◌, ap}
use Rattle.val_core.specs.Objects.{address_in}
use Rattle.c_interp.proofs.Layouts.{sizes-laid}
use Rattle.c_interp.proofs.variable.address_of.Goals as goal

pub returns : goal.returns
returns c = c.object.ensures ∙ ap (λ l. address_in c.args.first l c.args.number) (sizes-laid c.args.program.now.typed.now c.args.program.now.layouts.now c.args.function c.requires.laid)
