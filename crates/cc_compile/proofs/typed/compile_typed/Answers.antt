use Rattle.std.proofs.Common.{sym}
use Rattle.cc_compile.proofs.typed.compile_typed.Goals as goal

pub compiled_of-requires-clause-values : goal.compiled_of-requires-clause-values
compiled_of-requires-clause-values c = sym c.in_ok-omega.ensures.limit
