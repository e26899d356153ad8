-- Worked row: the image of the program that returns 42.
use Rattle.std.specs.Prelude.{◌≡◌, refl, [], ◌∷◌, length, map, drop}
use Rattle.elf_file.specs.Header.{elf_header, program_header}
use Rattle.elf_file.specs.Written.{file_of, headers}
use Rattle.rv_isa.specs.Words.{word_of}
use Rattle.g_graph.specs.declared.op.Kind.TheVariants.{Memory, Io}
use Rattle.g_graph.specs.declared.op.Origin.TheVariants.{Arg, Out}
use Rattle.g_graph.specs.declared.op.Op.TheVariants.{Const}
use Rattle.g_graph.specs.Plain.{region, node, no_nodes, node_then, no_regions, PlainLambda, PlainOmega}
use Rattle.g_graph.specs.Program.{main_name}
use Rattle.rv_layout.specs.Sequences.{bytes_of}
use Rattle.rv_layout.specs.Layout.{addresses_of, text_of}
use Rattle.s_linear.specs.declared.frame.CodeForm.TheVariants.{Plain}
use Rattle.cc_emit.specs.Image.{file_of_program, frame_of, function_items}

abbrev answer : PlainLambda
answer = record {
  number = 0;
  params = 0;
  objects = [];
  body = region (Memory ∷ Io ∷ []) (node_then (node 0 (Const 42) [] no_regions) no_nodes) (Out 0 0 ∷ Arg 0 ∷ Arg 1 ∷ []);
  next = 1;
}

abbrev program : PlainOmega
program = record { lambdas = answer ∷ []; deltas = []; names = main_name ∷ [] }

answer-frame : frame_of Plain answer ≡ 16
answer-frame = refl

-- the words after the start code and the stubs
answer-words :
    drop 29 (map word_of (text_of (addresses_of (function_items Plain answer ∷ []) []) (function_items Plain answer ∷ []) 0))
    ≡ 0x01000293 ∷ 0x40810333 ∷ 0x00537463 ∷ 0x00100073 ∷ 0x40510133 ∷ 0x00510333 ∷ 0xfe132e23 ∷ 0xfe932c23
    ∷ 0x02a00493
    ∷ 0x00048513 ∷ 0x01000293 ∷ 0x00510333 ∷ 0xff832483 ∷ 0xffc32083 ∷ 0x00030113 ∷ 0x00008067
    ∷ []
unfolding word_of
answer-words = refl

answer-file : length (file_of_program Plain program (answer ∷ [])) ≡ 8200
unfolding file_of headers elf_header program_header bytes_of
answer-file = refl
