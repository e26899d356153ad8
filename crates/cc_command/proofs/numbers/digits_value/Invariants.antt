use Rattle.std.proofs.Common.{◌≡◌, ◌^◌, take, min}
use Rattle.cc_command.specs.Command.{digits_value}
use Rattle.cc_command.proofs.numbers.digits_value.Given as goal

-- the value of the digits so far, or 10^18 where it is greater
abbrev pub invariant-loop-digit : goal.invariant-loop-digit
invariant-loop-digit l = l.value ≡ min (10 ^ 18) (digits_value (take l.digit-index l.digits))
