-- So many commands were answered, and the session is what they make of it.
use Rattle.std.proofs.Common.{◌-◌}
use Rattle.cc_io.specs.Outside.{outside_of}
use Rattle.cc_script_text.specs.Taken.{commands_read}
use Rattle.cc_script_text.specs.Script.{most_commands}
use Rattle.cc_top.specs.Steps.{reading, IsPlaying}
use Rattle.cc_top.proofs.play.play.Given as goal

abbrev pub invariant-loop-outcome : goal.invariant-loop-outcome
invariant-loop-outcome g l =
    let seen = outside_of g.F.Files.known g.F.Files.read_faults g.F.Files.write_faults g.F.Files.open_faults g.F.Files.create_faults g.I.Source.left g.I.Source.faults g.O.Sink.held g.O.Sink.faults in
    IsPlaying l.initial.session l.image l.session (commands_read l.reader) (seen l.initial.files l.initial.input l.initial.output) (reading l.reader (seen l.files l.input l.output))

abbrev pub decreases-loop-outcome : goal.decreases-loop-outcome
decreases-loop-outcome g l = most_commands - commands_read l.reader
