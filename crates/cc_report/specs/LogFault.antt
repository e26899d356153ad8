-- The number and the name of a fault of a log or its image, as they are reported.
use Rattle.std.specs.Prelude.{ℕ, List, codes}
use Rattle.cc_report.specs.declared.log_fault.LogFault.{LogFault}
use Rattle.cc_report.specs.declared.log_fault.LogFault.TheVariants.{BadLine, BadFunction, BadCount, BadStep, OtherImage, LongLog}

abbrev pub number_of : LogFault → ℕ
number_of BadLine = 61
number_of BadFunction = 62
number_of BadCount = 63
number_of BadStep = 64
number_of OtherImage = 65
number_of LongLog = 66

abbrev pub name_of : LogFault → List ℕ
name_of BadLine = codes "BadLine"
name_of BadFunction = codes "BadFunction"
name_of BadCount = codes "BadCount"
name_of BadStep = codes "BadStep"
name_of OtherImage = codes "OtherImage"
name_of LongLog = codes "LongLog"
