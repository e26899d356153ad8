use Rattle.cc_emit.proofs.Sections.{program_loads}
use Rattle.cc_emit.proofs.image_laws.program_loads.Goals as goal

pub returns : goal.returns
returns c = program_loads c.image_is_placed.ensures c.written_loads.ensures
