-- The number and the name of a refusal, as they are reported.
use Rattle.std.specs.Prelude.{ℕ, List, codes}
use Rattle.cc_report.specs.declared.refusal.RefusalKind.{RefusalKind}
use Rattle.cc_report.specs.declared.refusal.RefusalKind.TheVariants.{BadByte, OpenComment, OpenText, BadText, TooWide, LongName, Directive, ManyTokens, BadNumber, LongSource, LeftOut, TooDeep, Syntax, Unknown, Redeclared, NotAssignable, BadOperands, BadCall, NotConstant, BadInitialiser, BadType, BadReturn, BadJump, NoMain, Limit, BadLabel}

abbrev pub number_of : RefusalKind → ℕ
number_of BadByte = 1
number_of OpenComment = 2
number_of OpenText = 3
number_of BadText = 4
number_of TooWide = 5
number_of LongName = 6
number_of Directive = 7
number_of ManyTokens = 8
number_of BadNumber = 9
number_of LongSource = 10
number_of LeftOut = 21
number_of TooDeep = 22
number_of Syntax = 23
number_of Unknown = 31
number_of Redeclared = 32
number_of NotAssignable = 33
number_of BadOperands = 34
number_of BadCall = 35
number_of NotConstant = 36
number_of BadInitialiser = 37
number_of BadType = 38
number_of BadReturn = 39
number_of BadJump = 40
number_of NoMain = 41
number_of (Limit which count) = 42
number_of BadLabel = 43

abbrev pub name_of : RefusalKind → List ℕ
name_of BadByte = codes "BadByte"
name_of OpenComment = codes "OpenComment"
name_of OpenText = codes "OpenText"
name_of BadText = codes "BadText"
name_of TooWide = codes "TooWide"
name_of LongName = codes "LongName"
name_of Directive = codes "Directive"
name_of ManyTokens = codes "ManyTokens"
name_of BadNumber = codes "BadNumber"
name_of LongSource = codes "LongSource"
name_of LeftOut = codes "LeftOut"
name_of TooDeep = codes "TooDeep"
name_of Syntax = codes "Syntax"
name_of Unknown = codes "Unknown"
name_of Redeclared = codes "Redeclared"
name_of NotAssignable = codes "NotAssignable"
name_of BadOperands = codes "BadOperands"
name_of BadCall = codes "BadCall"
name_of NotConstant = codes "NotConstant"
name_of BadInitialiser = codes "BadInitialiser"
name_of BadType = codes "BadType"
name_of BadReturn = codes "BadReturn"
name_of BadJump = codes "BadJump"
name_of NoMain = codes "NoMain"
name_of (Limit which count) = codes "Limit"
name_of BadLabel = codes "BadLabel"
