use Rattle.std.proofs.Common.{◌∙◌, ap, take}
use Rattle.cc_io.specs.Outside.{files_seen, stream_seen}
use Rattle.cc_view_source.specs.PlainCommand.{plain_command}
use Rattle.cc_view.specs.ViewEnds.{source_of}
use Rattle.cc_view.proofs.Ends.{read_text, unread_so, written_ends}
use Rattle.cc_view.proofs.call.carry_out_under.Goals as goal

pub returns-in-Err-clause-cause : goal.returns-in-Err-clause-cause
returns-in-Err-clause-cause g c =
    let seen = files_seen g.F.Files.known g.F.Files.read_faults g.F.Files.write_faults g.F.Files.open_faults g.F.Files.create_faults in
    let stream = stream_seen g.O.Sink.held g.O.Sink.faults in
    let command = plain_command c.args.command in
    unread_so c.args.recipe.now command (source_of command) c.source_of.result.now c.in-Err.outcome (seen c.args.files.now) (seen c.text_of.new.files) (stream c.args.output.now) c.source_of.ensures
    c.in-Err.ensures.fault

pub returns-clause-cause : goal.returns-clause-cause
returns-clause-cause g c =
    let seen = files_seen g.F.Files.known g.F.Files.read_faults g.F.Files.write_faults g.F.Files.open_faults g.F.Files.create_faults in
    let stream = stream_seen g.O.Sink.held g.O.Sink.faults in
    let command = plain_command c.args.command in
    let text = c.front.result.now in
    let shown = c.show-shown.result in
    written_ends c.args.recipe.now command (source_of command) shown.ended c.write_shown-ended.result shown.text.items (seen c.args.files.now) (seen c.text_of.new.files) (stream c.args.output.now)
    (stream c.write_shown-ended.new.output)
    (record {
      text = text;
      read =
          read_text (source_of command) c.source_of.result.now (g.F.Files.known c.args.files.now) c.in-Ok.text.items text c.source_of.ensures
          (λ all known. c.in-Ok.ensures.bytes all known) (c.front.ensures.value ∙ ap (take 1048577) c.deref.ensures.value);
      shows = c.show-shown.ensures;
    })
    c.write_shown-ended.ensures
