-- Lists that keep the graph of a program can be put in an image.
use Rattle.g_build_def.specs.Functions.{graph, omega}
use Rattle.g_build_keeps.specs.BuiltLaws.{WellTypedAreBuilt, SmallAreWithinLimits}
use Rattle.g_pass_def.specs.Laws.{KeptListsFitImages}
use Rattle.cc_source.specs.Laws.{KeptListsCanBeEmitted, ProgramsCanBeEmitted}
use Rattle.cc_source.proofs.lemmas.Small.{unlimited_are_small, graph_may_grow}

pub programs_can_be_emitted : WellTypedAreBuilt → SmallAreWithinLimits → ProgramsCanBeEmitted
programs_can_be_emitted built within p typed checked few = record { program = built p typed; limits = within p (unlimited_are_small p checked few) }

pub kept_lists_can_be_emitted : WellTypedAreBuilt → SmallAreWithinLimits → KeptListsFitImages → KeptListsCanBeEmitted
kept_lists_can_be_emitted built within fit p typed checked few ks kept =
    let can = fit (omega p) (graph p) ks kept (built p typed) (within p (unlimited_are_small p checked few)) (graph_may_grow p few) in
    record { program = can.0; limits = can.1 }
