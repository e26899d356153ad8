-- Why a source is refused, and where.
use Rattle.std.specs.Prelude.{ℕ, Bool, ◌+◌, ◌==◌, List, take, count_by, Option, Some, None}
use Rattle.c_lex.specs.declared.fault.LexFault.{LexFault}
use Rattle.c_lex.specs.declared.fault.LexFault.TheVariants as lexer
use Rattle.c_parse.specs.declared.fault.ParseFault.{ParseFault}
use Rattle.c_parse.specs.declared.fault.ParseFault.TheVariants as parser
use Rattle.c_check.specs.declared.fault.CheckFault.{CheckFault}
use Rattle.c_check.specs.declared.fault.CheckFault.TheVariants as checker
use Rattle.g_build.specs.declared.omega.BuildFault.{BuildFault}
use Rattle.g_build.specs.declared.omega.BuildFault.TheVariants as construction
use Rattle.cc_source.specs.declared.fault.CompileFault.{CompileFault}
use Rattle.cc_source.specs.declared.fault.CompileFault.TheVariants as fault
use Rattle.cc_report.specs.declared.refusal.RefusalKind.{RefusalKind}
use Rattle.cc_report.specs.declared.refusal.RefusalKind.TheVariants.{BadByte, OpenComment, OpenText, BadText, TooWide, LongName, Directive, ManyTokens, BadNumber, LongSource, LeftOut, TooDeep, Syntax, Unknown, Redeclared, NotAssignable, BadOperands, BadCall, NotConstant, BadInitialiser, BadType, BadReturn, BadJump, NoMain, Limit, BadLabel}
use Rattle.cc_report.specs.declared.refusal.Refusal.{Refusal}

abbrev pub is_line_end : ℕ → Bool
is_line_end b = b == 10

-- The line of an offset: the number of line ends before it, and one.
abbrev pub line_at : (at : ℕ) → List ℕ → ℕ
line_at at source = count_by is_line_end (take at source) + 1

abbrev pub refused_at : RefusalKind → (at : ℕ) → List ℕ → Refusal
refused_at kind at source = record { kind = kind; line = line_at at source }

-- ---- the refusal that a fault of a phase is; none where memory ran out, which is no fault of a source

abbrev pub refusal_of_text : LexFault → List ℕ → Option Refusal
refusal_of_text (lexer.BadByte at) source = Some (refused_at BadByte at source)
refusal_of_text (lexer.OpenComment at) source = Some (refused_at OpenComment at source)
refusal_of_text (lexer.OpenText at) source = Some (refused_at OpenText at source)
refusal_of_text (lexer.BadText at) source = Some (refused_at BadText at source)
refusal_of_text (lexer.TooWide at) source = Some (refused_at TooWide at source)
refusal_of_text (lexer.LongName at) source = Some (refused_at LongName at source)
refusal_of_text (lexer.Directive at) source = Some (refused_at Directive at source)
refusal_of_text (lexer.ManyTokens at) source = Some (refused_at ManyTokens at source)
refusal_of_text (lexer.BadNumber at) source = Some (refused_at BadNumber at source)
refusal_of_text (lexer.LongSource at) source = Some (refused_at LongSource at source)
refusal_of_text lexer.NoMemory source = None

abbrev pub refusal_of_tokens : ParseFault → List ℕ → Option Refusal
refusal_of_tokens (parser.LeftOut at) source = Some (refused_at LeftOut at source)
refusal_of_tokens (parser.TooDeep at) source = Some (refused_at TooDeep at source)
refusal_of_tokens (parser.Syntax at) source = Some (refused_at Syntax at source)
refusal_of_tokens parser.NoMemory source = None

abbrev pub refusal_of_tree : CheckFault → List ℕ → Option Refusal
refusal_of_tree (checker.Unknown at) source = Some (refused_at Unknown at source)
refusal_of_tree (checker.Redeclared at) source = Some (refused_at Redeclared at source)
refusal_of_tree (checker.NotAssignable at) source = Some (refused_at NotAssignable at source)
refusal_of_tree (checker.BadOperands at) source = Some (refused_at BadOperands at source)
refusal_of_tree (checker.BadCall at) source = Some (refused_at BadCall at source)
refusal_of_tree (checker.NotConstant at) source = Some (refused_at NotConstant at source)
refusal_of_tree (checker.BadInitialiser at) source = Some (refused_at BadInitialiser at source)
refusal_of_tree (checker.BadType at) source = Some (refused_at BadType at source)
refusal_of_tree (checker.BadReturn at) source = Some (refused_at BadReturn at source)
refusal_of_tree (checker.BadJump at) source = Some (refused_at BadJump at source)
refusal_of_tree (checker.NoMain at) source = Some (refused_at NoMain at source)
refusal_of_tree (checker.BadLabel at) source = Some (refused_at BadLabel at source)
refusal_of_tree (checker.Limit at which count) source = Some (refused_at (Limit which count) at source)
refusal_of_tree checker.NoMemory source = None

abbrev pub refusal_of_values : BuildFault → List ℕ → Option Refusal
refusal_of_values (construction.Limit passed) source = Some (refused_at (Limit passed.which passed.count) passed.at source)
refusal_of_values construction.NoMemory source = None

-- the refusal of a source with this fault
abbrev pub refusal_of : CompileFault → List ℕ → Option Refusal
refusal_of (fault.Lex e) source = refusal_of_text e source
refusal_of (fault.Parse e) source = refusal_of_tokens e source
refusal_of (fault.Check e) source = refusal_of_tree e source
refusal_of (fault.Build e) source = refusal_of_values e source
refusal_of fault.NoMemory source = None
