use Rattle.std.proofs.Common.{ap, ◌∙◌, arith}
use Rattle.cc_gen.specs.Chunks.{held_length}
use Rattle.cc_gen.specs.Generated.{generated}
use Rattle.cc_gen.proofs.ChunksLemmas.{none-gathered, some-sent, all-sent, not-all-sent}
use Rattle.cc_gen.proofs.PrefixLemmas.{on_err}
use Rattle.cc_gen.proofs.program.write_in_chunks.Goals as goal

pub returns-in_err-write_program-clause-err : goal.returns-in_err-write_program-clause-err
returns-in_err-write_program-clause-err g c =
    let was = c.args.chunks.now in
    let now = c.write_program.new.out in
    let kept = c.write_program.ensures.rest in
    let first = (λ i. (kept i).first) ∙ ap g.S.Sink.held c.requires.first in
    on_err c.from_residual.result
    (some-sent (g.S.Sink.held was.out.now) _ (g.S.Sink.held now.out.now) now.chunk.items (generated c.args.start c.args.functions) now.sent
    (none-gathered (g.S.Sink.held was.out.now) was.chunk.items was.sent c.requires.empty)
    (omega (arith, now.grown, ap held_length first)) c.in_err-write_program.ensures.err)

pub returns-clause-ok : goal.returns-clause-ok
returns-clause-ok g c =
    let was = c.args.chunks.now in
    let now = c.send.new.self in
    all-sent c.send.result (g.S.Sink.held was.out.now) _ (g.S.Sink.held now.out.now) now.chunk.items (generated c.args.start c.args.functions) now.sent
    (none-gathered (g.S.Sink.held was.out.now) was.chunk.items was.sent c.requires.empty)
    (c.send.ensures.held ∙ c.in_ok-write_program.ensures.ok) c.send.ensures.ok

pub returns-clause-err : goal.returns-clause-err
returns-clause-err g c =
    let was = c.args.chunks.now in
    let now = c.send.new.self in
    let kept = c.write_program.ensures.rest in
    let first = ap g.S.Sink.held c.send.ensures.first ∙ (λ i. (kept i).first) ∙ ap g.S.Sink.held c.requires.first in
    not-all-sent c.send.result (g.S.Sink.held was.out.now) _ (g.S.Sink.held now.out.now) now.chunk.items (generated c.args.start c.args.functions) now.sent
    (none-gathered (g.S.Sink.held was.out.now) was.chunk.items was.sent c.requires.empty)
    (c.send.ensures.held ∙ c.in_ok-write_program.ensures.ok) (omega (arith, now.grown, ap held_length first))
