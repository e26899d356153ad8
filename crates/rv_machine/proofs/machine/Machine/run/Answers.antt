use Rattle.std.proofs.Common.{[], refl, sym, ap, ◌∙◌, arith}
use Rattle.cc_io.specs.Source.{prepend}
use Rattle.cc_io.proofs.lemmas.Prepends.{prepend-none}
use Rattle.rv_machine.specs.View.{state_of, flags_in, hart_of}
use Rattle.rv_machine.proofs.Reached.{reached_none}
use Rattle.rv_machine.proofs.Stopped.{reached_next, stopped_next, stopped_left, budget_run, hart-runs, ended_machine}
use Rattle.rv_machine.proofs.machine.Machine.run.Goals as goal

pub returns-in-Some-clause-run : goal.returns-in-Some-clause-run
returns-in-Some-clause-run g c =
    ended_machine c.args.self.now (flags_in c.args.self.now) c.args.steps c.in-Some.ending c.from.result _ c.in-Some.is c.from.ensures

pub loop-done-init : goal.loop-done-init
loop-done-init g c = record {
  runs = c.in_default.is;
  reached = reached_none (flags_in c.args.self.now) (hart_of c.args.self.now) _ refl;
  flags = refl;
  reads = omega arith;
  writes = omega arith;
  rest = refl;
}

pub loop-done-preserved : goal.loop-done-preserved
loop-done-preserved g c =
    let d = c.in_default-step_from.ensures in
    record {
      runs = d.runs;
      reached = reached_next (flags_in c.args.self.now) (flags_in c.loop-done.self) c.loop-done._done (hart_of c.args.self.now) _
          (hart_of c.loop-done.self) (hart_of c.step_from.new.self) _ _ c.loop-done.invariant.flags c.loop-done.invariant.reached d.done;
      flags = d.flags ∙ c.loop-done.invariant.flags;
      reads = omega (arith, d.read_faults, c.loop-done.invariant.reads);
      writes = omega (arith, d.write_faults, c.loop-done.invariant.writes);
      rest = d.rest ∙ c.loop-done.invariant.rest;
    }

pub step_from-requires-clause-at_end : goal.step_from-requires-clause-at_end
step_from-requires-clause-at_end g c = c.loop-done.invariant.reached.at_end

pub returns-in-Some-step_from-clause-run : goal.returns-in-Some-step_from-clause-run
returns-in-Some-step_from-clause-run g c =
    stopped_next (flags_in c.args.self.now) (flags_in c.loop-done.self) c.loop-done._done c.args.steps (hart_of c.args.self.now) _
    (hart_of c.loop-done.self) (hart_of c.step_from.new.self) _ _ c.in-Some-step_from.stop
    c.loop-done.invariant.flags c.loop-done.invariant.reached c.loop-done-test.true
    (state_of c.loop-done.self, hart-runs c.loop-done.self c.loop-done.invariant.runs) c.in-Some-step_from.ensures.stopped

pub returns-clause-run : goal.returns-clause-run
returns-clause-run g c =
    budget_run (flags_in c.args.self.now) c.loop-done._done c.args.steps (hart_of c.args.self.now) _ (hart_of c.loop-done.self) _
    c.loop-done.invariant.reached (omega arith) (state_of c.loop-done.self, hart-runs c.loop-done.self c.loop-done.invariant.runs)

pub returns-in-Some-clause-left : goal.returns-in-Some-clause-left
returns-in-Some-clause-left g c = ([], prepend-none _)

pub returns-in-Some-step_from-clause-left : goal.returns-in-Some-step_from-clause-left
returns-in-Some-step_from-clause-left g c =
    let r = c.loop-done.invariant.reached in
    (r.taken, r.left ∙ ap (prepend r.taken) (sym (stopped_left _ _ _ _ _ _ c.in-Some-step_from.ensures.stopped)))

pub returns-clause-left : goal.returns-clause-left
returns-clause-left g c = (c.loop-done.invariant.reached.taken, c.loop-done.invariant.reached.left)
