use Rattle.std.proofs.Common.{◌≡◌, ◌++◌, take, flat_map, codes}
use Rattle.g_graph.specs.Signatures.{output_kinds}
use Rattle.g_text.specs.Texts.{kind_text}
use Rattle.g_text.proofs.writing.push_outputs.Given as goal

-- the letters so far are written
abbrev pub invariant-loop-port : goal.invariant-loop-port
invariant-loop-port l = l.out.items ≡ l.fn.out.items ++ codes " " ++ flat_map kind_text (take l.port (output_kinds l.node))
