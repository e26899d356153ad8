use Rattle.std.proofs.Common.{◌≡◌, drop}
use Rattle.c_lex.specs.Trivia as spec
use Rattle.c_lex.proofs.trivia.comment_end.Given as goal

abbrev pub invariant-loop-i : goal.invariant-loop-i
invariant-loop-i l = spec.comment_end l.i (drop l.i l.text) ≡ spec.comment_end 0 l.text
