use Rattle.std.proofs.Common.{◌∙◌}
use Rattle.cc_command.proofs.lemmas.ReadingLemmas.{command-without_fault, none-at_fault}
use Rattle.cc_view_source.specs.Arguments.{read_command, view_app}
use Rattle.cc_view_source.specs.Command.{forms}
use Rattle.cc_view_source.proofs.CommandLemmas.{free, simple}
use Rattle.cc_view_source.proofs.arguments.read_arguments.Goals as goal

pub returns-in-Ok : goal.returns-in-Ok
unfolding read_command
returns-in-Ok c =
    let read = c.in-Ok.ensures in
    c.command_in.ensures ∙ command-without_fault view_app forms _ _ c.in_ok-view_app.ensures c.in-Ok.matches simple free read.matches read.kinds

pub returns : goal.returns
unfolding read_command
returns c =
    none-at_fault view_app forms _ _ c.in_ok-view_app.ensures c.in-Err.error free c.in-Err.ensures.kinds (λ same. c.in_default.not-OutOfMemory (c.kind.ensures ∙ same))
