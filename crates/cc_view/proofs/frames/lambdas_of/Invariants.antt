-- The loop over the answers: the lambdas of those before.
use Rattle.std.proofs.Common.{◌≡◌, map, take}
use Rattle.std.specs.Arc.{arc_value}
use Rattle.cc_emit.specs.Image.{lambdas_of}
use Rattle.cc_view.proofs.frames.lambdas_of.Given as goal

-- the lambdas so far
abbrev pub invariant-loop-answer : goal.invariant-loop-answer
invariant-loop-answer l = l.all.items ≡ lambdas_of (map arc_value (take l.answer-index l.answers))
