use Rattle.std.proofs.Common.{◌≡◌, ◌++◌, take, flat_map}
use Rattle.cc_watch.specs.Texts.{step_text}
use Rattle.cc_watch.proofs.text.push_steps.Given as goal

-- the lines so far are written
abbrev pub invariant-loop-step : goal.invariant-loop-step
invariant-loop-step l = l.out.items ≡ l.initial.out.items ++ flat_map step_text (take l.step-index l.steps)
