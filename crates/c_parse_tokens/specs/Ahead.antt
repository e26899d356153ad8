-- The productions that stand for what the parser sees ahead.
use Rattle.std.specs.Prelude.{Bool, true, false}
use Rattle.c_ast.specs.declared.specifier.Spec.{Spec}
use Rattle.c_ast.specs.declared.specifier.Spec.TheVariants as named
use Rattle.c_ast.specs.Productions.{Production}
use Rattle.c_ast.specs.Productions as production
use Rattle.c_parse_tokens.specs.declared.ahead.BaseKeyword.{BaseKeyword}
use Rattle.c_parse_tokens.specs.declared.ahead.BaseKeyword.TheVariants as word
use Rattle.c_parse_tokens.specs.declared.ahead.SpecStart.{SpecStart}
use Rattle.c_parse_tokens.specs.declared.ahead.SpecStart.TheVariants as spec
use Rattle.c_parse_tokens.specs.declared.ahead.StmtStart.{StmtStart}
use Rattle.c_parse_tokens.specs.declared.ahead.StmtStart.TheVariants as stmt
use Rattle.c_parse_tokens.specs.declared.ahead.SimpleStart.{SimpleStart}
use Rattle.c_parse_tokens.specs.declared.ahead.SimpleStart.TheVariants as simple
use Rattle.c_parse_tokens.specs.declared.ahead.LabelStart.{LabelStart}
use Rattle.c_parse_tokens.specs.declared.ahead.LabelStart.TheVariants as case
use Rattle.c_parse_tokens.specs.declared.ahead.ExternalStart.{ExternalStart}
use Rattle.c_parse_tokens.specs.declared.ahead.ExternalStart.TheVariants as external

abbrev pub base_production : BaseKeyword → Production
base_production word.Char = production.Char
base_production word.Int = production.Int
base_production word.Short = production.Short

abbrev pub spec_production : SpecStart → Production
spec_production spec.Void = production.Void
spec_production (spec.Base w) = base_production w
spec_production spec.Struct = production.StructTag
spec_production spec.Signed = production.Signed

abbrev pub simple_production : SimpleStart → Production
simple_production simple.Null = production.Null
simple_production simple.Expression = production.Expression
simple_production simple.Break = production.Break
simple_production simple.Continue = production.Continue
simple_production simple.Return = production.Return

abbrev pub stmt_production : StmtStart → Production
stmt_production (stmt.Simple s) = simple_production s
stmt_production stmt.Block = production.Block
stmt_production stmt.If = production.If
stmt_production stmt.While = production.While
stmt_production stmt.Do = production.DoWhile
stmt_production stmt.For = production.For
stmt_production stmt.Switch = production.Switch

abbrev pub case_production : LabelStart → Production
case_production case.Case = production.Case
case_production case.Default = production.Default

abbrev pub external_production : ExternalStart → Production
external_production external.Static = production.Static
external_production external.Const = production.Const
external_production external.Struct = production.Struct
external_production external.Plain = production.Plain

-- whether a structure is named
abbrev pub starts_struct : SpecStart → Bool
starts_struct spec.Struct = true
starts_struct _ = false

abbrev pub is_struct : Spec → Bool
is_struct (named.Struct keyword tag) = true
is_struct _ = false
