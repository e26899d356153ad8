use Rattle.cc_io.specs.Outside.{stream_seen}
use Rattle.cc_top.proofs.Runs.{run_ends}
use Rattle.cc_top.proofs.interpreting.run_program.Goals as goal

pub returns : goal.returns
returns g c =
    let input = stream_seen g.I.Source.left g.I.Source.faults in
    let output = stream_seen g.O.Sink.held g.O.Sink.faults in
    run_ends c.args.bound c.args.typed.now (input c.args.input.now) (input c.interpret-ended.new.input) (output c.args.output.now) (output c.interpret-ended.new.output)
    (output c.flush.new.self) c.flush.ensures.held c.flush.ensures.faults c.interpret-ended.result c.interpret-ended.ensures.ends
