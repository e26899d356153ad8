use Rattle.log_check.proofs.OneReading.{one_break, logs_do_not_break}
use Rattle.log_check.proofs.LogOrBreak.{log_or_break}
use Rattle.log_check.proofs.laws.texts_break_at_one_line.Goals as goal

pub returns-clause-one : goal.returns-clause-one
returns-clause-one c = one_break

pub returns-clause-none : goal.returns-clause-none
returns-clause-none c = logs_do_not_break

pub returns-clause-some : goal.returns-clause-some
returns-clause-some c = log_or_break
