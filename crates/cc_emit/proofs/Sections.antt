-- The sections of a program stand where a file wants them, and its file loads.
use Rattle.std.proofs.Common.{map, arith}
use Rattle.elf_file.specs.Laws.{WrittenLoads}
use Rattle.rv_layout.proofs.lemmas.Placed.{length-text}
use Rattle.rv_layout.specs.Laws.{LaidIsPlaced}
use Rattle.rv_layout.specs.Layout.{addresses_of}
use Rattle.cc_emit.specs.Image.{function_items, main_of, image_of}
use Rattle.cc_emit.specs.Laws.{TextIsShort, ImageIsPlaced, ProgramLoads, FunctionsFit}
use Rattle.cc_emit.proofs.lemmas.FunctionFits.{text_sum, memory_end}

pub text_is_short : TextIsShort
text_is_short form program ls can =
    let functions = map (function_items form) ls in
    omega (arith, length-text (addresses_of functions program.deltas) functions (main_of program), text_sum program ls can form)

pub image_is_placed : FunctionsFit → LaidIsPlaced → ImageIsPlaced
image_is_placed fit placed form program ls can =
    placed (map (function_items form) ls) program.deltas (main_of program) (fit form program ls can) (memory_end program ls can form)

pub program_loads : ImageIsPlaced → WrittenLoads → ProgramLoads
program_loads placed loads form program ls can = loads (image_of form program ls) (placed form program ls can)
