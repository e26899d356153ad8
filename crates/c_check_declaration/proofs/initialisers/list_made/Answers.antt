use Rattle.c_check_def.specs.Initialisers.{list_for}
use Rattle.c_check_declaration.proofs.BegunLemmas.{finish-none, finish-still, finish-some, finish-state}
use Rattle.c_check_declaration.proofs.initialisers.list_made.Goals as goal

pub returns-then-made-clause-made : goal.returns-then-made-clause-made
returns-then-made-clause-made c old new es h =
    finish-some (list_for c.args.ty.now c.args.offset c.args.count) c.args.state.now old new es c.args.made c.list_fits.result h c.if-made.true c.list_fits.ensures.made

pub returns-then-made-clause-state : goal.returns-then-made-clause-state
returns-then-made-clause-state c old new es h =
    finish-state (list_for c.args.ty.now c.args.offset c.args.count) c.args.state.now old new es c.args.made c.list_fits.new.state h c.if-made.true c.list_fits.ensures.state

pub returns-else-made-clause-made : goal.returns-else-made-clause-made
returns-else-made-clause-made c old new es h =
    finish-none (list_for c.args.ty.now c.args.offset c.args.count) c.args.state.now old new es c.args.made h c.if-made.false

pub returns-else-made-clause-state : goal.returns-else-made-clause-state
returns-else-made-clause-state c old new es h =
    finish-still (list_for c.args.ty.now c.args.offset c.args.count) c.args.state.now old new es c.args.made h c.if-made.false
