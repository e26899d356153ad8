use Rattle.std.proofs.Common.{arith}
use Rattle.g_build_count.proofs.Near.{named_values}
use Rattle.g_build_count.proofs.declaration.value_values.Goals as goal

pub returns-then-names_itself : goal.returns-then-names_itself
returns-then-names_itself c = grind (arith, named_values)
