use Rattle.std.proofs.Common.{◌≡◌, ◌++◌, take, flat_map, slice_index}
use Rattle.r_rule.specs.Names.{rule_place}
use Rattle.cc_watch.specs.Texts.{rule_text}
use Rattle.cc_watch.proofs.counter.push_rules.Given as goal

-- the counts so far are written
abbrev pub invariant-loop-rule : goal.invariant-loop-rule
invariant-loop-rule l = l.out.items ≡ l.initial.out.items ++ flat_map (rule_text (λ k. slice_index l.applied (rule_place k))) (take l.rule-index l.rule-items)
