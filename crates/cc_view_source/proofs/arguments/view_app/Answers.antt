use Rattle.std.proofs.Common.{◌∙◌, ap₂}
use Rattle.std.proofs.lemmas.Result.{IfOk-weaker}
use Rattle.clap.specs.Words.{with_subcommand}
use Rattle.cc_view_source.specs.Arguments.{view_app}
use Rattle.cc_view_source.proofs.arguments.view_app.Goals as goal

pub returns : goal.returns
unfolding view_app
returns c =
    let graph = c.in_ok-subcommand.ensures.shape c.in_ok-graph_arguments.ensures.globals ∙ ap₂ with_subcommand c.new.ensures.app c.in_ok-graph_arguments.ensures.shape in
    let steps = c.in_ok-subcommand-2.ensures.shape c.in_ok-steps_arguments.ensures.globals ∙ ap₂ with_subcommand graph c.in_ok-steps_arguments.ensures.shape in
    let listing = c.in_ok-subcommand-3.ensures.shape c.in_ok-listing_arguments.ensures.globals ∙ ap₂ with_subcommand steps c.in_ok-listing_arguments.ensures.shape in
    IfOk-weaker c.subcommand-4.result _ _
    (λ m added. added.shape c.in_ok-explain_arguments.ensures.globals ∙ ap₂ with_subcommand listing c.in_ok-explain_arguments.ensures.shape) c.subcommand-4.ensures
