use Rattle.std.proofs.Common.{◌≡◌, false, drop}
use Rattle.c_lex.specs.Quoted as spec
use Rattle.c_lex.proofs.quoted.closing.Given as goal

abbrev pub invariant-loop-i : goal.invariant-loop-i
invariant-loop-i l = spec.closing_from l.quote l.taken l.i (drop l.i l.text) ≡ spec.closing_from l.quote false 0 l.text
