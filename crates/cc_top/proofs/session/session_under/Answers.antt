use Rattle.std.proofs.Common.{refl}
use Rattle.cc_io.specs.Outside.{files_seen, outside_of}
use Rattle.cc_top.proofs.Opening.{ends_opened, ends_unopened, since}
use Rattle.cc_top.proofs.session.session_under.Goals as goal

pub returns-in-Ok : goal.returns-in-Ok
returns-in-Ok g c =
    let files = files_seen g.F.Files.known g.F.Files.read_faults g.F.Files.write_faults g.F.Files.open_faults g.F.Files.create_faults in
    let seen = outside_of g.F.Files.known g.F.Files.read_faults g.F.Files.write_faults g.F.Files.open_faults g.F.Files.create_faults g.I.Source.left g.I.Source.faults g.O.Sink.held g.O.Sink.faults in
    let before = seen c.args.files.now c.args.input.now c.args.output.now in
    let after = seen c.play.new.files c.play.new.input c.play.new.output in
    let it = c.in-Ok.ensures in
    ends_opened c.args.recipe c.args.form c.args.source.now c.args.image.now before after c.in-Ok.session c.play.result it.opened
    (since c.in-Ok.session c.args.image.now before after (files c.open.new.files) it.known it.create_faults it.write_faults c.play.result c.play.ensures)

pub returns-in-Err : goal.returns-in-Err
returns-in-Err g c =
    let seen = outside_of g.F.Files.known g.F.Files.read_faults g.F.Files.write_faults g.F.Files.open_faults g.F.Files.create_faults g.I.Source.left g.I.Source.faults g.O.Sink.held g.O.Sink.faults in
    ends_unopened c.args.recipe c.args.form c.args.source.now c.args.image.now (seen c.args.files.now c.args.input.now c.args.output.now)
    (seen c.open.new.files c.args.input.now c.args.output.now) c.in-Err.outcome
    c.in-Err.ensures.err (record { files = c.in-Err.ensures.known; input = refl; output = refl })
