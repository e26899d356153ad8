use Rattle.std.proofs.Common.{◌≡◌, ◌+◌, ◌%◌, ◌^◌, take, slice_index}
use Rattle.r_rule.specs.declared.steps.Rule.{Rule}
use Rattle.r_rule.specs.Names.{rule_place}
use Rattle.cc_watch.specs.Texts.{steps_of}
use Rattle.cc_watch.proofs.counter.count_steps.Given as goal

-- the steps so far are counted
abbrev pub invariant-loop-step : goal.invariant-loop-step
invariant-loop-step l =
    (k : Rule) → slice_index l.applied (rule_place k) ≡ (slice_index l.initial.applied (rule_place k) + steps_of k (take l.step-index l.steps)) % 2 ^ 32
