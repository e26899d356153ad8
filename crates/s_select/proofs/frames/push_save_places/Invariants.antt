use Rattle.std.proofs.Common.{◌≡◌, ◌++◌}
use Rattle.s_select.specs.Templates.{words, save_places}
use Rattle.s_select.proofs.frames.push_save_places.Given as goal

-- the sequence of the places so far
abbrev pub invariant-loop-place : goal.invariant-loop-place
invariant-loop-place l = l.items.items ≡ l.initial.items.items ++ words (save_places l.place)
