use Rattle.std.proofs.Common.{◌≡◌, ◌++◌, length}
use Rattle.std.specs.List.{AllByRecursion, flat_map}
use Rattle.cc_watch.specs.Texts.{step_text}
use Rattle.log_check.specs.Log.{IsStep}
use Rattle.log_check.proofs.reader.read_steps.Given as goal

-- the steps so far stand in front of what is left
abbrev pub invariant-loop-step : goal.invariant-loop-step
invariant-loop-step l = record {
  text : l.text ≡ flat_map step_text l.steps.items ++ l.rest;
  fine : AllByRecursion IsStep l.steps.items;
}

abbrev pub decreases-loop-step : goal.decreases-loop-step
decreases-loop-step l = length l.rest
