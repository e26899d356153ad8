use Rattle.std.proofs.Common.{◌∙◌, map, sym}
use Rattle.std.specs.String.{string_bytes}
use Rattle.std.proofs.lemmas.Result.{IfOk-weaker}
use Rattle.cc_command.proofs.lemmas.AppReads.{asked, defined}
use Rattle.cc_view_source.specs.Arguments.{read_command, view_app}
use Rattle.cc_view_source.specs.Command.{forms}
use Rattle.cc_view_source.proofs.CommandLemmas.{sound}
use Rattle.cc_view_source.proofs.arguments.parse_command.Goals as goal

pub returns : goal.returns
unfolding read_command view_app
returns c =
    let none = sym c.help_is_asked.ensures ∙ c.if-help_is_asked.false in
    IfOk-weaker c.read_arguments.result _ _ (λ m read. read ∙ defined forms sound c.args.arguments.now none) c.read_arguments.ensures

pub returns-then-help_is_asked : goal.returns-then-help_is_asked
returns-then-help_is_asked c = asked forms (map string_bytes c.args.arguments.now) (sym c.help_is_asked.ensures ∙ c.if-help_is_asked.true)
