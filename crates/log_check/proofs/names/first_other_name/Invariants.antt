-- The functions so far have the names of the log.
use Rattle.log_check.proofs.Named.{HasCome}
use Rattle.log_check.proofs.names.first_other_name.Given as goal

abbrev pub invariant-loop-index : goal.invariant-loop-index
invariant-loop-index l = HasCome l.typed l.log l.index l.line
