use Rattle.std.proofs.Common.{ℕ, ◌+◌, List, ap, ◌∙◌, sym, arith, length-take, length-drop}
use Rattle.std.specs.List.{slice_range}
use Rattle.cc_io.specs.Source.{prepend}
use Rattle.cc_io.proofs.lemmas.Prepends.{prepend-part}
use Rattle.cc_io.proofs.buffered_source.BufferedSourceSource.read.Goals as goal

pub returns-clause-bytes : goal.returns-clause-bytes
returns-clause-bytes g c =
    let now = c.fill.new.self in
    let copied = c.copy_front-n.ensures in
    let rest = λ (bytes : List ℕ). prepend bytes (prepend (slice_range now.buffer (now.at + c.copy_front-n.result) now.end) (g.S.Source.left now.source)) in
    sym c.fill.ensures.left
    ∙ prepend-part (g.S.Source.left now.source) now.buffer now.at now.end c.copy_front-n.result
    (omega (arith, simp (length-take, length-drop) at copied.count))
    ∙ ap rest (sym copied.bytes)
