-- A list of arguments that is the name of the program alone, and one with arguments after it.
use Rattle.std.proofs.Common.{◌≡◌, ◌<◌, List, [], ◌∷◌, Global, String, length, map, refl, arith}
use Rattle.std.specs.String.{string_bytes}
use Rattle.cc_command.specs.Command.{command_of, forms}
use Rattle.cc_command.specs.Forms.{command_among}

pub name_followed : (arguments : List (String Global)) → 1 < length arguments → command_of (map string_bytes arguments) ≡ command_among forms (map string_bytes arguments)
name_followed [] h = absurd (omega (arith, h))
name_followed (program ∷ []) h = absurd (omega (arith, h))
name_followed (program ∷ name ∷ arguments) h = refl
