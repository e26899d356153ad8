-- The loop over the frames: what is left comes after what is written.
use Rattle.std.proofs.Common.{◌≡◌, ◌++◌, drop}
use Rattle.cc_view.specs.Explanation.{frame_lines}
use Rattle.cc_view.proofs.text.push_frames.Given as goal

-- what is left comes after what is written
abbrev pub invariant-loop-function : goal.invariant-loop-function
invariant-loop-function l = l.out.items ++ frame_lines l.names l.function (drop l.function l.frames) ≡ l.fn.out.items ++ frame_lines l.names 0 l.frames
