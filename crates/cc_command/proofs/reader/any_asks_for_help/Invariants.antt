use Rattle.std.proofs.Common.{◌≡◌, drop, map}
use Rattle.std.specs.List.{list_any}
use Rattle.std.specs.String.{string_bytes}
use Rattle.cc_command.specs.Forms.{asks_for_help}
use Rattle.cc_command.proofs.reader.any_asks_for_help.Given as goal

abbrev pub invariant-loop-argument : goal.invariant-loop-argument
invariant-loop-argument l = list_any asks_for_help (map string_bytes (drop l.argument-index l.arguments)) ≡ list_any asks_for_help (map string_bytes l.arguments)
