use Rattle.std.proofs.Common.{◌++◌, take, ap, ◌∙◌}
use Rattle.cc_io.specs.Source.{prepend}
use Rattle.cc_io.proofs.lemmas.Prepends.{prepend-twice}
use Rattle.cc_io.proofs.load.load_input.Goals as goal

pub returns-in_err-extend_from_slice-clause-rest : goal.returns-in_err-extend_from_slice-clause-rest
returns-in_err-extend_from_slice-clause-rest g c =
    let before = c.loop-buffer.bytes.items in
    let more = take c.in-Ok.count c.read.new.buf in
    (before ++ more, c.loop-buffer.invariant.0 ∙ ap (prepend before) c.in-Ok.ensures.bytes ∙ prepend-twice before more (g.I.Source.left c.read.new.self))
