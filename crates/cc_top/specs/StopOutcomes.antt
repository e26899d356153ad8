-- How a command ends whose run of an image stopped.
use Rattle.cc_report.specs.declared.outcome.Outcome.{Outcome}
use Rattle.cc_report.specs.declared.outcome.Outcome.TheVariants as outcome
use Rattle.rv_machine.specs.declared.stop.Stop.{Stop}
use Rattle.rv_machine.specs.declared.stop.Stop.TheVariants.{Exit, Stack, Budget, Stuck, ReadFault, WriteFault}

-- how a command ends whose run stopped so
abbrev pub outcome_of : Stop → Outcome
outcome_of (Exit status) = outcome.Exit status
outcome_of Stack = outcome.Stack
outcome_of Budget = outcome.Budget
outcome_of (Stuck pc why) = outcome.Stuck pc why
outcome_of ReadFault = outcome.ReadFault
outcome_of WriteFault = outcome.WriteFault
