-- Where a fault of a source is.
use Rattle.std.specs.Prelude.{◌≡◌, ℕ, List, Option, Some, None}
use Rattle.c_lex.specs.declared.fault.LexFault.{LexFault}
use Rattle.c_lex.specs.declared.fault.LexFault.TheVariants as lexer
use Rattle.c_parse.specs.declared.fault.ParseFault.{ParseFault}
use Rattle.c_parse.specs.declared.fault.ParseFault.TheVariants as parser
use Rattle.c_check.specs.declared.fault.CheckFault.{CheckFault}
use Rattle.c_check.specs.declared.fault.CheckFault.TheVariants as checker
use Rattle.g_build.specs.declared.omega.BuildFault.{BuildFault}
use Rattle.g_build.specs.declared.omega.BuildFault.TheVariants as construction
use Rattle.cc_source.specs.declared.fault.CompileFault.{CompileFault}
use Rattle.cc_source.specs.declared.fault.CompileFault.TheVariants as fault
use Rattle.cc_report.specs.declared.refusal.Refusal.{Refusal}
use Rattle.cc_source.specs.Refusal.{line_at, refusal_of}

-- ---- the offset of a fault of a phase; none where memory ran out, which is no fault of a source

abbrev pub offset_of_text : LexFault → Option ℕ
offset_of_text (lexer.BadByte at) = Some at
offset_of_text (lexer.OpenComment at) = Some at
offset_of_text (lexer.OpenText at) = Some at
offset_of_text (lexer.BadText at) = Some at
offset_of_text (lexer.TooWide at) = Some at
offset_of_text (lexer.LongName at) = Some at
offset_of_text (lexer.Directive at) = Some at
offset_of_text (lexer.ManyTokens at) = Some at
offset_of_text (lexer.BadNumber at) = Some at
offset_of_text (lexer.LongSource at) = Some at
offset_of_text lexer.NoMemory = None

abbrev pub offset_of_tokens : ParseFault → Option ℕ
offset_of_tokens (parser.LeftOut at) = Some at
offset_of_tokens (parser.TooDeep at) = Some at
offset_of_tokens (parser.Syntax at) = Some at
offset_of_tokens parser.NoMemory = None

abbrev pub offset_of_tree : CheckFault → Option ℕ
offset_of_tree (checker.Unknown at) = Some at
offset_of_tree (checker.Redeclared at) = Some at
offset_of_tree (checker.NotAssignable at) = Some at
offset_of_tree (checker.BadOperands at) = Some at
offset_of_tree (checker.BadCall at) = Some at
offset_of_tree (checker.NotConstant at) = Some at
offset_of_tree (checker.BadInitialiser at) = Some at
offset_of_tree (checker.BadType at) = Some at
offset_of_tree (checker.BadReturn at) = Some at
offset_of_tree (checker.BadJump at) = Some at
offset_of_tree (checker.NoMain at) = Some at
offset_of_tree (checker.BadLabel at) = Some at
offset_of_tree (checker.Limit at which count) = Some at
offset_of_tree checker.NoMemory = None

abbrev pub offset_of_values : BuildFault → Option ℕ
offset_of_values (construction.Limit passed) = Some passed.at
offset_of_values construction.NoMemory = None

-- the offset of a fault into its source
abbrev pub offset_of : CompileFault → Option ℕ
offset_of (fault.Lex e) = offset_of_text e
offset_of (fault.Parse e) = offset_of_tokens e
offset_of (fault.Check e) = offset_of_tree e
offset_of (fault.Build e) = offset_of_values e
offset_of fault.NoMemory = None

-- ---- the law

-- where a refusal comes from
pub record IsAt (source : List ℕ) (e : CompileFault) (r : Refusal) : Type 0 where
  pub at : ℕ
  pub there : offset_of e ≡ Some at
  pub line : r.line ≡ line_at at source

-- The line of a refusal is that of the offset of its fault.
abbrev pub LinesAreOfOffsets : Type 0
LinesAreOfOffsets = (source : List ℕ) (e : CompileFault) (r : Refusal) → refusal_of e source ≡ Some r → IsAt source e r
