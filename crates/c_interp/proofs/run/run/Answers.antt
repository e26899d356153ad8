use Rattle.std.proofs.Common.{refl, ◌∙◌, arith}
use Rattle.c_interp.proofs.Reached.{reached_first, reached_more, none_left, all_done, ended_by, ended_weaker, increased-earlier, part_here}
use Rattle.c_interp.proofs.run.run.Goals as goal

pub loop-step-init : goal.loop-step-init
loop-step-init g c = record {
  reached = reached_first c.args.program.now.typed.now c.args.program.now.bound c.args.machine.now _ refl c.requires.begun;
  reads = omega arith;
  writes = omega arith;
  rest = refl;
}

pub step-requires-clause-at_end : goal.step-requires-clause-at_end
step-requires-clause-at_end g c = c.loop-step.invariant.reached.at_end

pub loop-step-preserved : goal.loop-step-preserved
loop-step-preserved g c =
    let d = c.in-Ok.ensures in
    record {
      reached = reached_more c.args.program.now.typed.now c.args.program.now.bound _ c.loop-step.machine c.pop.new.self c.in-Some.task c.step.new.machine _ _
          c.loop-step.invariant.reached c.in-Some.ensures.items d.step;
      reads = omega (arith, d.read_faults, c.loop-step.invariant.reads);
      writes = omega (arith, d.write_faults, c.loop-step.invariant.writes);
      rest = d.rest ∙ c.loop-step.invariant.rest;
    }

pub returns-in_default-clause-ends : goal.returns-in_default-clause-ends
returns-in_default-clause-ends g c = all_done c.args.program.now.typed.now c.args.program.now.bound _ c.loop-step.machine _ c.loop-step.invariant.reached (none_left c.loop-step.machine.tasks c.in_default.ensures.cases.0)

pub returns-in-Err-clause-ends : goal.returns-in-Err-clause-ends
returns-in-Err-clause-ends g c =
    ended_weaker c.args.program.now.typed.now c.args.program.now.bound _ _ _ _ _ _ c.ending_of.result (λ h. increased-earlier _ _ _ c.loop-step.invariant.reads h) (λ h. increased-earlier _ _ _ c.loop-step.invariant.writes h)
    (ended_by c.args.program.now.typed.now c.args.program.now.bound _ c.loop-step.machine c.pop.new.self c.in-Some.task _ _ _ _ _ c.in-Err.stop c.ending_of.result
    c.loop-step.invariant.reached c.in-Some.ensures.items c.in-Err.ensures.step c.ending_of.ensures)

pub returns-clause-ends : goal.returns-clause-ends
returns-clause-ends g c = part_here c.args.program.now.typed.now c.args.program.now.bound _ c.loop-step.machine _ c.loop-step.invariant.reached
