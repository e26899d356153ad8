-- What the answer of a build says of the limits.
use Rattle.std.specs.Prelude.{Option, None, Some, Result, Ok, Err}
use Rattle.g_build.specs.declared.passed.Passed.{Passed}
use Rattle.g_build.specs.declared.omega.BuildFault.{BuildFault}
use Rattle.g_build.specs.declared.omega.BuildFault.TheVariants.{Limit, NoMemory}

-- The limit that it names. It names none where the program was built, nor where memory ran out.
abbrev pub limit_named : {O : Type 0} → Result O BuildFault → Option Passed
limit_named (Ok o) = None
limit_named (Err (Limit p)) = Some p
limit_named (Err NoMemory) = None
