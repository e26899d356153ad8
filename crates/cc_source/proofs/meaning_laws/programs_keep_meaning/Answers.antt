use Rattle.cc_source.proofs.Programs.{programs_keep_meaning, built_programs_keep_meaning}
use Rattle.cc_source.proofs.meaning_laws.programs_keep_meaning.Goals as goal

pub returns-clause-lists : goal.returns-clause-lists
returns-clause-lists c = programs_keep_meaning c.construction_keeps_programs.ensures c.well_typed_are_built.ensures c.images_keep_meaning.ensures

pub returns-clause-built : goal.returns-clause-built
returns-clause-built c =
    built_programs_keep_meaning (programs_keep_meaning c.construction_keeps_programs.ensures c.well_typed_are_built.ensures c.images_keep_meaning.ensures)
    c.well_typed_are_built.ensures c.small_are_within_limits.ensures c.lists_compose.ensures.itself
