-- The loop over the answers: the frames of those before.
use Rattle.std.proofs.Common.{◌≡◌, map, take}
use Rattle.std.specs.Arc.{arc_value}
use Rattle.s_linear.specs.declared.frame.CodeForm.TheVariants.{Plain}
use Rattle.cc_emit.specs.Image.{frame_of, lambdas_of}
use Rattle.cc_view.proofs.frames.frames.Given as goal

-- the frames so far
abbrev pub invariant-loop-answer : goal.invariant-loop-answer
invariant-loop-answer l = l.all.items ≡ map (frame_of Plain) (lambdas_of (map arc_value (take l.answer-index l.answers)))
