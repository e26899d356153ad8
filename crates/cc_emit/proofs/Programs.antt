-- The image of a program does what its lambdas do.
use Rattle.elf_file.specs.Laws.{LoadedIsSound}
use Rattle.rv_layout.specs.Layout.{put_at}
use Rattle.s_sequence_keeps.specs.Laws.{ProgramsAreWithin}
use Rattle.a_place_keeps.specs.Laws.{SequencedFunctionsAgree, SequencedSharedAgree}
use Rattle.s_select_keeps.specs.Kept.{ProgramIsKept}
use Rattle.s_select_keeps.specs.Globals.{bases_of, GlobalsAreShown, GlobalsHaveBlocks}
use Rattle.cc_emit.specs.Image.{places_in, main_of}
use Rattle.cc_emit.specs.Laws.{ImageIsPlaced, ProgramLoads}
use Rattle.cc_emit.specs.Images.{linear, program_of, ImagesKeepMeaning}
use Rattle.cc_emit.proofs.LoadedFunctions.{can-lay-out, segments_are_sound, program_can_run, program_starts}
use Rattle.cc_emit.proofs.Images.{forms_agree, image_keeps}

pub images_keep_meaning : ProgramIsKept → SequencedFunctionsAgree → SequencedSharedAgree → ProgramsAreWithin → ProgramLoads → ImageIsPlaced → LoadedIsSound →
    GlobalsAreShown → GlobalsHaveBlocks →
    ImagesKeepMeaning
images_keep_meaning kept plain tight within loads placed sound shown blocks form omega ls can i bytes right =
    let addresses = (program_of form omega ls).addresses in
    let lays = can-lay-out form omega ls can in
    let segments = segments_are_sound form omega ls can sound loads in
    image_keeps kept (forms_agree plain tight) within form omega ls can (loads form omega ls can) (program_can_run form omega ls can sound loads) addresses.stack_at put_at (bases_of addresses) i
    (program_starts form omega ls can sound loads placed (bases_of addresses) i (shown (places_in form) (linear ls) omega.deltas (main_of omega) lays segments can.program.globals)
    (blocks (places_in form) (linear ls) omega.deltas (main_of omega) lays segments) bytes) right
