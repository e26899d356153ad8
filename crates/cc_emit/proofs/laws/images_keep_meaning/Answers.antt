use Rattle.cc_emit.proofs.Programs.{images_keep_meaning}
use Rattle.cc_emit.proofs.laws.images_keep_meaning.Goals as goal

pub returns : goal.returns
returns c =
    images_keep_meaning c.programs_are_kept.ensures c.sequenced_functions_agree.ensures c.sequenced_shared_agree.ensures c.runs_are_within_each_other.ensures.programs c.program_loads.ensures
    c.image_is_placed.ensures c.loaded_is_sound.ensures c.globals_are_shown.ensures.shown c.globals_are_shown.ensures.blocks
