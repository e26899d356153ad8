use Rattle.std.proofs.Common.{◌<◌, ◌+◌, [], ◌∷◌, ℕ, List, get_or, ap, sym, ◌∙◌, rules}
use Rattle.std.specs.List.{slice_range}
use Rattle.cc_io.specs.Source.{prepend}
use Rattle.cc_io.proofs.lemmas.Prepends.{prepend-twice}
use Rattle.cc_script_text.proofs.lemmas.Takes.{range_next}
use Rattle.cc_script_text.proofs.reader.ScriptReader.next_byte.Goals as goal

pub returns-clause-taken : goal.returns-clause-taken
returns-clause-taken g c =
    let now = c.fill.new.self in
    let left = g.I.Source.left c.fill.new.input in
    let some : now.at < now.end = c.in_ok-fill.ensures.some (search rules) in
    sym c.fill.ensures.left
    ∙ ap (λ (bytes : List ℕ). prepend bytes left) (range_next now.buffer now.at now.end some now.within)
    ∙ sym (prepend-twice (get_or now.buffer now.at 0 ∷ []) (slice_range now.buffer (now.at + 1) now.end) left)
