-- The line of a refusal is that of the offset of its fault.
use Rattle.std.proofs.Common.{◌≡◌, ℕ, List, refl, sym, ap, Some}
use Rattle.c_lex.specs.declared.fault.LexFault.{LexFault}
use Rattle.c_lex.specs.declared.fault.LexFault.TheVariants as lexer
use Rattle.c_parse.specs.declared.fault.ParseFault.{ParseFault}
use Rattle.c_parse.specs.declared.fault.ParseFault.TheVariants as parser
use Rattle.c_check.specs.declared.fault.CheckFault.{CheckFault}
use Rattle.c_check.specs.declared.fault.CheckFault.TheVariants as checker
use Rattle.g_build.specs.declared.omega.BuildFault.{BuildFault}
use Rattle.g_build.specs.declared.omega.BuildFault.TheVariants as construction
use Rattle.cc_source.specs.declared.fault.CompileFault.{CompileFault}
use Rattle.cc_source.specs.declared.fault.CompileFault.TheVariants as fault
use Rattle.cc_report.specs.declared.refusal.RefusalKind.{RefusalKind}
use Rattle.cc_report.specs.declared.refusal.RefusalKind.TheVariants.{BadByte, OpenComment, OpenText, BadText, TooWide, LongName, Directive, ManyTokens, BadNumber, LongSource, LeftOut, TooDeep, Syntax, Unknown, Redeclared, NotAssignable, BadOperands, BadCall, NotConstant, BadInitialiser, BadType, BadReturn, BadJump, NoMain, Limit, BadLabel}
use Rattle.cc_report.specs.declared.refusal.Refusal.{Refusal}
use Rattle.cc_source.specs.Refusal.{refused_at, refusal_of_text, refusal_of_tokens, refusal_of_tree, refusal_of_values}
use Rattle.cc_source.specs.Offset.{offset_of, IsAt, LinesAreOfOffsets}

found : (source : List ℕ) (e : CompileFault) (kind : RefusalKind) (at : ℕ) (r : Refusal) → offset_of e ≡ Some at → Some (refused_at kind at source) ≡ Some r → IsAt source e r
found source e kind at r there h =
    let same : refused_at kind at source ≡ r = cc in
    record { at = at; there = there; line = sym (ap (λ (x : Refusal). x.line) same) }

of_text : (source : List ℕ) (e : LexFault) (r : Refusal) → refusal_of_text e source ≡ Some r → IsAt source (fault.Lex e) r
of_text source (lexer.BadByte at) r h = found source (fault.Lex (lexer.BadByte at)) BadByte at r refl h
of_text source (lexer.OpenComment at) r h = found source (fault.Lex (lexer.OpenComment at)) OpenComment at r refl h
of_text source (lexer.OpenText at) r h = found source (fault.Lex (lexer.OpenText at)) OpenText at r refl h
of_text source (lexer.BadText at) r h = found source (fault.Lex (lexer.BadText at)) BadText at r refl h
of_text source (lexer.TooWide at) r h = found source (fault.Lex (lexer.TooWide at)) TooWide at r refl h
of_text source (lexer.LongName at) r h = found source (fault.Lex (lexer.LongName at)) LongName at r refl h
of_text source (lexer.Directive at) r h = found source (fault.Lex (lexer.Directive at)) Directive at r refl h
of_text source (lexer.ManyTokens at) r h = found source (fault.Lex (lexer.ManyTokens at)) ManyTokens at r refl h
of_text source (lexer.BadNumber at) r h = found source (fault.Lex (lexer.BadNumber at)) BadNumber at r refl h
of_text source (lexer.LongSource at) r h = found source (fault.Lex (lexer.LongSource at)) LongSource at r refl h
of_text source lexer.NoMemory r h = absurd cc

of_tokens : (source : List ℕ) (e : ParseFault) (r : Refusal) → refusal_of_tokens e source ≡ Some r → IsAt source (fault.Parse e) r
of_tokens source (parser.LeftOut at) r h = found source (fault.Parse (parser.LeftOut at)) LeftOut at r refl h
of_tokens source (parser.TooDeep at) r h = found source (fault.Parse (parser.TooDeep at)) TooDeep at r refl h
of_tokens source (parser.Syntax at) r h = found source (fault.Parse (parser.Syntax at)) Syntax at r refl h
of_tokens source parser.NoMemory r h = absurd cc

of_tree : (source : List ℕ) (e : CheckFault) (r : Refusal) → refusal_of_tree e source ≡ Some r → IsAt source (fault.Check e) r
of_tree source (checker.Unknown at) r h = found source (fault.Check (checker.Unknown at)) Unknown at r refl h
of_tree source (checker.Redeclared at) r h = found source (fault.Check (checker.Redeclared at)) Redeclared at r refl h
of_tree source (checker.NotAssignable at) r h = found source (fault.Check (checker.NotAssignable at)) NotAssignable at r refl h
of_tree source (checker.BadOperands at) r h = found source (fault.Check (checker.BadOperands at)) BadOperands at r refl h
of_tree source (checker.BadCall at) r h = found source (fault.Check (checker.BadCall at)) BadCall at r refl h
of_tree source (checker.NotConstant at) r h = found source (fault.Check (checker.NotConstant at)) NotConstant at r refl h
of_tree source (checker.BadInitialiser at) r h = found source (fault.Check (checker.BadInitialiser at)) BadInitialiser at r refl h
of_tree source (checker.BadType at) r h = found source (fault.Check (checker.BadType at)) BadType at r refl h
of_tree source (checker.BadReturn at) r h = found source (fault.Check (checker.BadReturn at)) BadReturn at r refl h
of_tree source (checker.BadJump at) r h = found source (fault.Check (checker.BadJump at)) BadJump at r refl h
of_tree source (checker.NoMain at) r h = found source (fault.Check (checker.NoMain at)) NoMain at r refl h
of_tree source (checker.BadLabel at) r h = found source (fault.Check (checker.BadLabel at)) BadLabel at r refl h
of_tree source (checker.Limit at which count) r h = found source (fault.Check (checker.Limit at which count)) (Limit which count) at r refl h
of_tree source checker.NoMemory r h = absurd cc

of_values : (source : List ℕ) (e : BuildFault) (r : Refusal) → refusal_of_values e source ≡ Some r → IsAt source (fault.Build e) r
of_values source (construction.Limit passed) r h = found source (fault.Build (construction.Limit passed)) (Limit passed.which passed.count) passed.at r refl h
of_values source construction.NoMemory r h = absurd cc

pub lines_are_of_offsets : LinesAreOfOffsets
lines_are_of_offsets source (fault.Lex e) r h = of_text source e r h
lines_are_of_offsets source (fault.Parse e) r h = of_tokens source e r h
lines_are_of_offsets source (fault.Check e) r h = of_tree source e r h
lines_are_of_offsets source (fault.Build e) r h = of_values source e r h
lines_are_of_offsets source fault.NoMemory r h = absurd cc
