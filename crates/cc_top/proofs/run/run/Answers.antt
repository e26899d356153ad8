use Rattle.std.proofs.Common.{◌∙◌, refl}
use Rattle.rv_machine.specs.View.{flags_in, hart_of}
use Rattle.cc_top.proofs.RunLemmas.{run_ends, run_refused}
use Rattle.cc_top.proofs.run.run.Goals as goal

pub returns-in-Ok-machine_of : goal.returns-in-Ok-machine_of
returns-in-Ok-machine_of g c =
    let made = c.in-Ok-machine_of.ensures.ok in
    run_ends c.args.image.now c.args.steps _ _ c.outcome_of.result c.run_machine.result (flags_in c.in-Ok-machine_of.machine) (hart_of c.in-Ok-machine_of.machine)
    (hart_of c.run_machine.new.machine) c.deref.result.now
    c.outcome_of.ensures c.in-Ok.ensures.known (λ files known. c.deref.ensures.value ∙ c.in-Ok.ensures.bytes files known)
    made.0 made.1 made.2 made.3 c.run_machine.ensures.run c.run_machine.ensures.left c.run_machine.ensures.cause

pub returns : goal.returns
returns g c =
    run_refused c.args.image.now c.args.steps _ _ c.in-Err.outcome c.deref.result.now
    c.in-Ok.ensures.known (refl, refl) (λ files known. c.deref.ensures.value ∙ c.in-Ok.ensures.bytes files known) c.in-Err.ensures.err
