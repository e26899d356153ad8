use Rattle.cc_io.specs.Outside.{files_seen, stream_seen}
use Rattle.cc_view_source.specs.PlainCommand.{plain_command}
use Rattle.cc_view.proofs.Ends.{under_it, under_none}
use Rattle.cc_view.proofs.call.carry_out.Goals as goal

pub returns-in-Some : goal.returns-in-Some
returns-in-Some g c =
    let seen = files_seen g.F.Files.known g.F.Files.read_faults g.F.Files.write_faults g.F.Files.open_faults g.F.Files.create_faults in
    let stream = stream_seen g.O.Sink.held g.O.Sink.faults in
    under_it c.texts_have_one_recipe.ensures c.in-Some.recipe (plain_command c.args.command) c.list_of.result.now c.carry_out_under.result (seen c.args.files.now) (seen c.carry_out_under.new.files)
    (stream c.args.output.now) (stream c.carry_out_under.new.output) c.list_of.ensures c.in-Some.ensures.some c.carry_out_under.ensures.cause c.carry_out_under.ensures.kept

pub returns-in-None : goal.returns-in-None
returns-in-None g c =
    let seen = files_seen g.F.Files.known g.F.Files.read_faults g.F.Files.write_faults g.F.Files.open_faults g.F.Files.create_faults in
    let stream = stream_seen g.O.Sink.held g.O.Sink.faults in
    under_none (plain_command c.args.command) c.list_of.result.now (seen c.args.files.now) (stream c.args.output.now) c.list_of.ensures c.in-None.ensures.none
