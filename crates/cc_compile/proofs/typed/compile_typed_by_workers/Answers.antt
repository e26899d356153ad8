use Rattle.std.proofs.Common.{sym}
use Rattle.cc_compile.proofs.typed.compile_typed_by_workers.Goals as goal

pub compiled_by_workers-requires-clause-values : goal.compiled_by_workers-requires-clause-values
compiled_by_workers-requires-clause-values g c κs within = sym c.in_ok-omega.ensures.limit
