use Rattle.std.proofs.Common.{refl}
use Rattle.cc_io.specs.Outside.{outside_of}
use Rattle.cc_top.proofs.Runs.{run_so, unread_so}
use Rattle.cc_top.proofs.interpreting.interpret.Goals as goal

pub returns-in-Ok : goal.returns-in-Ok
returns-in-Ok g c =
    let seen = outside_of g.F.Files.known g.F.Files.read_faults g.F.Files.write_faults g.F.Files.open_faults g.F.Files.create_faults g.I.Source.left g.I.Source.faults g.O.Sink.held g.O.Sink.faults in
    record {
      cause =
          run_so c.args.source.now c.args.bound c.in-Ok.typed c.run_program.result c.outcome_of.result (seen c.args.files.now c.args.input.now c.args.output.now)
          (seen c.program_of.new.files c.run_program.new.input c.run_program.new.output) c.in-Ok.ensures.accepted c.run_program.ensures c.outcome_of.ensures;
      files = c.in-Ok.ensures.known;
    }

pub returns-in-Err : goal.returns-in-Err
returns-in-Err g c =
    let seen = outside_of g.F.Files.known g.F.Files.read_faults g.F.Files.write_faults g.F.Files.open_faults g.F.Files.create_faults g.I.Source.left g.I.Source.faults g.O.Sink.held g.O.Sink.faults in
    record {
      cause =
          unread_so c.args.source.now c.args.bound c.in-Err.outcome (seen c.args.files.now c.args.input.now c.args.output.now)
          (seen c.program_of.new.files c.args.input.now c.args.output.now) c.in-Err.ensures.err (refl, refl);
      files = c.in-Err.ensures.known;
    }
