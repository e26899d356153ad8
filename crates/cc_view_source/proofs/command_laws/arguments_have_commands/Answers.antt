use Rattle.cc_view_source.proofs.CommandRowsLemmas.{graph_rows, other_rows}
use Rattle.cc_view_source.proofs.command_laws.arguments_have_commands.Goals as goal

pub returns : goal.returns
returns c = record { graphs = graph_rows; others = other_rows }
