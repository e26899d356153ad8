use Rattle.std.proofs.Common.{◌≡◌, drop, map}
use Rattle.c_check_def.specs.Externals.{Param, all_agree}
use Rattle.c_check.proofs.agreement.all_agree.Given as goal

abbrev pub invariant-loop-i : goal.invariant-loop-i
invariant-loop-i l = all_agree (drop l.i l.types) (map (λ (p : Param). p.type) (drop l.i l.params)) ≡ all_agree l.types (map (λ (p : Param). p.type) l.params)
