use Rattle.std.proofs.Common.{◌≡◌, ◌<◌, ◌^◌, drop}
use Rattle.c_lex.specs.Digits as spec
use Rattle.c_lex.proofs.Scans.{value_from}
use Rattle.c_lex.proofs.digits.digits_value.Given as goal

abbrev pub invariant-loop-d : goal.invariant-loop-d
invariant-loop-d l = record {
  fits : l.value < 2 ^ 32;
  value : value_from l.base l.value (drop l.d-index l.digits) ≡ spec.digits_value l.base l.digits;
}
