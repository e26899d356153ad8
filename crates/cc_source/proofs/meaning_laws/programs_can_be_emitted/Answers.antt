use Rattle.cc_source.proofs.Kept.{programs_can_be_emitted, kept_lists_can_be_emitted}
use Rattle.cc_source.proofs.meaning_laws.programs_can_be_emitted.Goals as goal

pub returns-clause-graphs : goal.returns-clause-graphs
returns-clause-graphs c = programs_can_be_emitted c.well_typed_are_built.ensures c.small_are_within_limits.ensures

pub returns-clause-lists : goal.returns-clause-lists
returns-clause-lists c =
    kept_lists_can_be_emitted c.well_typed_are_built.ensures c.small_are_within_limits.ensures c.kept_lists_fit_images.ensures
