use Rattle.cc_io.specs.Outside.{outside_of}
use Rattle.cc_script_text.specs.Taken.{commands_read, read_ahead}
use Rattle.cc_top.specs.Steps.{reading}
use Rattle.cc_top.proofs.Ends.{ends, plays_on, starts}
use Rattle.cc_top.proofs.play.play.Goals as goal

pub loop-outcome-init : goal.loop-outcome-init
loop-outcome-init g c =
    let seen = outside_of g.F.Files.known g.F.Files.read_faults g.F.Files.write_faults g.F.Files.open_faults g.F.Files.create_faults g.I.Source.left g.I.Source.faults g.O.Sink.held g.O.Sink.faults in
    let reader = c.new-reader.result in
    starts c.args.session.now c.args.image.now (seen c.args.files.now c.args.input.now c.args.output.now) (read_ahead reader) (commands_read reader) c.new-reader.ensures.read_ahead
    c.new-reader.ensures.count

pub loop-outcome-preserved : goal.loop-outcome-preserved
loop-outcome-preserved g c =
    let seen = outside_of g.F.Files.known g.F.Files.read_faults g.F.Files.write_faults g.F.Files.open_faults g.F.Files.create_faults g.I.Source.left g.I.Source.faults g.O.Sink.held g.O.Sink.faults in
    let l = c.loop-outcome in
    let new = c.step.new in
    let step = c.in_default.ensures in
    plays_on c.put_twice.ensures c.args.session.now c.args.image.now l.session (commands_read l.reader) (seen c.args.files.now c.args.input.now c.args.output.now)
    (reading l.reader (seen l.files l.input l.output)) l.invariant new.session (commands_read new.reader) (reading new.reader (seen new.files new.input new.output)) step.step
    (record { files = step.kept.files; input = step.kept.input; output = step.kept.output })

pub returns-in-Err : goal.returns-in-Err
returns-in-Err g c =
    let seen = outside_of g.F.Files.known g.F.Files.read_faults g.F.Files.write_faults g.F.Files.open_faults g.F.Files.create_faults g.I.Source.left g.I.Source.faults g.O.Sink.held g.O.Sink.faults in
    let l = c.loop-outcome in
    let new = c.step.new in
    ends c.put_twice.ensures c.args.session.now c.args.image.now l.session (commands_read l.reader) (seen c.args.files.now c.args.input.now c.args.output.now)
    (reading l.reader (seen l.files l.input l.output)) l.invariant (seen new.files new.input new.output) (read_ahead new.reader) c.in-Err.outcome c.in-Err.ensures.ends
