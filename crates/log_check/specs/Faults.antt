-- The fault of a stage as the fault of the judge.
use Rattle.cc_source.specs.declared.fault.CompileFault.{CompileFault}
use Rattle.cc_source.specs.declared.fault.CompileFault.TheVariants as source
use Rattle.log_check.specs.declared.fault.ReadFault.{ReadFault}
use Rattle.log_check.specs.declared.fault.ReadFault.TheVariants as reader
use Rattle.log_check.specs.declared.replay_fault.ReplayFault.{ReplayFault}
use Rattle.log_check.specs.declared.replay_fault.ReplayFault.TheVariants as replay
use Rattle.log_check.specs.declared.judge_fault.JudgeFault.{JudgeFault}
use Rattle.log_check.specs.declared.judge_fault.JudgeFault.TheVariants as fault

abbrev pub of_source : CompileFault → JudgeFault
of_source source.NoMemory = fault.NoMemory
of_source e = fault.Source e

abbrev pub of_reader : ReadFault → JudgeFault
of_reader reader.LongLog = fault.LongLog
of_reader (reader.BadLine line) = fault.BadLine line
of_reader reader.NoMemory = fault.NoMemory

abbrev pub of_replay : ReplayFault → JudgeFault
of_replay (replay.BadCount line) = fault.BadCount line
of_replay (replay.BadStep line) = fault.BadStep line
of_replay replay.NoMemory = fault.NoMemory
