-- How a statement can be left, as the code keeps it.
use Rattle.std.specs.Prelude.{true, false}
use Rattle.g_build_def.specs.Exits.{Exits}
use Rattle.g_build_count.specs.declared.exits.Leaves.{Leaves}

abbrev pub exits_of : Leaves → Exits
exits_of l = record { returns = l.returns; breaks = l.breaks; continues = l.continues }

-- by a `return`
abbrev pub returning : Exits
returning = record { returns = true; breaks = false; continues = false }
