use Rattle.std.proofs.Common.{◌∙◌, ap₂}
use Rattle.std.proofs.lemmas.Result.{IfOk-weaker}
use Rattle.clap.specs.Words.{with_subcommand}
use Rattle.cc_command.specs.Arguments.{rvcc}
use Rattle.cc_command.proofs.arguments.rvcc.Goals as goal

pub returns : goal.returns
unfolding rvcc
returns c =
    let build = c.in_ok-subcommand.ensures.shape c.in_ok-build_arguments.ensures.globals ∙ ap₂ with_subcommand c.new.ensures.app c.in_ok-build_arguments.ensures.shape in
    let run = c.in_ok-subcommand-2.ensures.shape c.in_ok-run_arguments.ensures.globals ∙ ap₂ with_subcommand build c.in_ok-run_arguments.ensures.shape in
    let generate = c.in_ok-subcommand-3.ensures.shape c.in_ok-generate_arguments.ensures.globals ∙ ap₂ with_subcommand run c.in_ok-generate_arguments.ensures.shape in
    let check = c.in_ok-subcommand-4.ensures.shape c.in_ok-check_arguments.ensures.globals ∙ ap₂ with_subcommand generate c.in_ok-check_arguments.ensures.shape in
    let session = c.in_ok-subcommand-5.ensures.shape c.in_ok-session_arguments.ensures.globals ∙ ap₂ with_subcommand check c.in_ok-session_arguments.ensures.shape in
    IfOk-weaker c.subcommand-6.result _ _
    (λ m added. added.shape c.in_ok-interpret_arguments.ensures.globals ∙ ap₂ with_subcommand session c.in_ok-interpret_arguments.ensures.shape) c.subcommand-6.ensures
