-- The value of the digits so far.
use Rattle.std.proofs.Common.{◌≡◌, ◌^◌, take, min}
use Rattle.cc_script_text.specs.Script.{decimal_value}
use Rattle.cc_script_text.proofs.line.decimal_value.Given as goal

-- the value of the digits so far, or 10^7 where it is greater
abbrev pub invariant-loop-digit : goal.invariant-loop-digit
invariant-loop-digit l = l.value ≡ min (10 ^ 7) (decimal_value (take l.digit-index l.digits))
