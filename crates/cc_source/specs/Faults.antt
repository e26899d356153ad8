-- The fault of a phase as the fault of the compiler.
use Rattle.c_lex.specs.declared.fault.LexFault.{LexFault}
use Rattle.c_lex.specs.declared.fault.LexFault.TheVariants as lexer
use Rattle.c_parse.specs.declared.fault.ParseFault.{ParseFault}
use Rattle.c_parse.specs.declared.fault.ParseFault.TheVariants as parser
use Rattle.c_check.specs.declared.fault.CheckFault.{CheckFault}
use Rattle.c_check.specs.declared.fault.CheckFault.TheVariants as checker
use Rattle.g_build.specs.declared.omega.BuildFault.{BuildFault}
use Rattle.g_build.specs.declared.omega.BuildFault.TheVariants as build
use Rattle.cc_source.specs.declared.fault.CompileFault.{CompileFault}
use Rattle.cc_source.specs.declared.fault.CompileFault.TheVariants as fault

abbrev pub of_lexer : LexFault → CompileFault
of_lexer lexer.NoMemory = fault.NoMemory
of_lexer e = fault.Lex e

abbrev pub of_parser : ParseFault → CompileFault
of_parser parser.NoMemory = fault.NoMemory
of_parser e = fault.Parse e

abbrev pub of_checker : CheckFault → CompileFault
of_checker checker.NoMemory = fault.NoMemory
of_checker e = fault.Check e

abbrev pub of_build : BuildFault → CompileFault
of_build build.NoMemory = fault.NoMemory
of_build e = fault.Build e
