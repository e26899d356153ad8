-- How a command ends whose run of a source came to its end.
use Rattle.std.specs.Prelude.{Result, Ok, Err}
use Rattle.base.specs.declared.no_memory.NoMemory.{NoMemory}
use Rattle.cc_report.specs.declared.outcome.Outcome.{Outcome}
use Rattle.cc_report.specs.declared.outcome.Outcome.TheVariants as outcome
use Rattle.c_interp.specs.declared.stop.Ending.{Ending}
use Rattle.c_interp.specs.declared.stop.Ending.TheVariants.{Exit, Cut, Undefined, ReadFault, WriteFault}

-- how a command ends whose run came to this
abbrev pub outcome_of_ending : Ending → Outcome
outcome_of_ending (Exit status) = outcome.Exit status
outcome_of_ending Cut = outcome.Cut
outcome_of_ending Undefined = outcome.Undefined
outcome_of_ending ReadFault = outcome.ReadFault
outcome_of_ending WriteFault = outcome.WriteFault

-- the same, or memory ran out
abbrev pub outcome_of : Result Ending NoMemory → Outcome
outcome_of (Ok ending) = outcome_of_ending ending
outcome_of (Err e) = outcome.NoMemory
