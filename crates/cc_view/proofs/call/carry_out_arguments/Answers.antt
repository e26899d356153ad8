use Rattle.std.proofs.Common.{Option, map, refl, subst, inl}
use Rattle.std.specs.String.{string_bytes}
use Rattle.cc_io.specs.Outside.{files_seen, stream_seen}
use Rattle.cc_report.specs.declared.outcome.Outcome.TheVariants.{Usage}
use Rattle.cc_view_source.specs.Command.{Command, command_of}
use Rattle.cc_view.specs.ViewEnds.{ViewEnds}
use Rattle.cc_view.proofs.Ends.{unread_arguments}
use Rattle.cc_view.proofs.call.carry_out_arguments.Goals as goal

pub returns-in-Ok-Some : goal.returns-in-Ok-Some
returns-in-Ok-Some g c =
    let seen = files_seen g.F.Files.known g.F.Files.read_faults g.F.Files.write_faults g.F.Files.open_faults g.F.Files.create_faults in
    let stream = stream_seen g.O.Sink.held g.O.Sink.faults in
    subst (λ (o : Option Command). ViewEnds o c.carry_out.result (seen c.args.files.now) (seen c.carry_out.new.files) (stream c.args.output.now) (stream c.carry_out.new.output)) (rw c.in-Ok-Some.field-0-is at c.in-Ok-Some.ensures)
    c.carry_out.ensures

pub returns-in-Ok-None : goal.returns-in-Ok-None
returns-in-Ok-None g c =
    let seen = files_seen g.F.Files.known g.F.Files.read_faults g.F.Files.write_faults g.F.Files.open_faults g.F.Files.create_faults in
    let stream = stream_seen g.O.Sink.held g.O.Sink.faults in
    subst (λ (o : Option Command). ViewEnds o Usage (seen c.args.files.now) (seen c.args.files.now) (stream c.args.output.now) (stream c.args.output.now)) (rw c.in-Ok-None.field-0-is at c.in-Ok-None.ensures)
    (inl refl, refl, refl)

pub returns-in-Err : goal.returns-in-Err
returns-in-Err g c =
    let seen = files_seen g.F.Files.known g.F.Files.read_faults g.F.Files.write_faults g.F.Files.open_faults g.F.Files.create_faults in
    let stream = stream_seen g.O.Sink.held g.O.Sink.faults in
    unread_arguments (command_of (map string_bytes c.args.words.now)) (seen c.args.files.now) (stream c.args.output.now)
