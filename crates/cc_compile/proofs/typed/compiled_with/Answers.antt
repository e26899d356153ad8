use Rattle.std.proofs.Common.{arith}
use Rattle.cc_compile.proofs.typed.compiled_with.Goals as goal

pub rows_of-requires : goal.rows_of-requires
rows_of-requires c = record { small = λ f l e. omega (arith, (c.requires.image.limits.each f l e).values) }
