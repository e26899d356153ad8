use Rattle.cc_view_source.proofs.SweepsAdd.{sweeps_add}
use Rattle.cc_view_source.proofs.table_laws.sweeps_make_the_answer.Goals as goal

pub returns : goal.returns
returns c = sweeps_add
