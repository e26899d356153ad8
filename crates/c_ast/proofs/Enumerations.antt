-- All token kinds, productions and nonterminals, so that what is to hold of each of them can be computed.
use Rattle.std.specs.Prelude.{◌≡◌, ℕ, ◌+◌, Bool, true, false, List, [], ◌∷◌, map, Option, Some, None}
use Rattle.std.proofs.Common.{refl, inl, inr, sym, ap, ◌∙◌, subst, ◌==◌}
use Rattle.std.proofs.lemmas.Bool.{eqb-true}
use Rattle.c_lex.specs.declared.keyword.Keyword.TheVariants as word
use Rattle.c_lex.specs.declared.punct.Punct.TheVariants as mark
use Rattle.c_lex.specs.declared.token.TokenKind.{TokenKind}
use Rattle.c_lex.specs.declared.token.TokenKind.TheVariants as kind
use Rattle.c_ast.specs.Nonterminals.{Nonterminal, Many, Opt, External, AfterTag, AfterType, AfterName, Body, Members, Member, Locals, Decl, Init, InitItems, InitEnded, InitOpen, Param, Spec, PlainSpec, Base, TypeName, Block, Item, Stmt, IfPart, ForFirst, Group, GroupLabel, Expr, Assign, Cond, Binary, Cast, Unary, SizeofOperand, Postfix, level_number, repeated_number, optional_number}
use Rattle.c_ast.specs.Productions.{Production}
use Rattle.c_ast.specs.Productions as production
use Rattle.c_ast.specs.Terminals.{keyword_number, mark_number}
use Rattle.c_ast.proofs.lemmas.CheckedLists.{In, nth, in_nth, in_map}

-- ---- tokens

-- what tokens of one kind may differ in
pub record Payload : Type 0 where
  pub name : List ℕ
  pub value : ℕ
  pub unsigned : Bool
  pub char : ℕ
  pub text : List ℕ

abbrev pub payload : TokenKind → Payload
payload (kind.Name n) = record { name = n; value = 0; unsigned = false; char = 0; text = [] }
payload (kind.Number v u) = record { name = []; value = v; unsigned = u; char = 0; text = [] }
payload (kind.Char c) = record { name = []; value = 0; unsigned = false; char = c; text = [] }
payload (kind.Text t) = record { name = []; value = 0; unsigned = false; char = 0; text = t }
payload _ = record { name = []; value = 0; unsigned = false; char = 0; text = [] }

abbrev pub other_kinds : Payload → List TokenKind
other_kinds y =
    kind.Number y.value y.unsigned ∷ kind.Char y.char ∷ kind.Text y.text ∷ kind.Keyword word.Break ∷ kind.Keyword word.Case ∷ kind.Keyword word.Char ∷ kind.Keyword word.Const ∷
    kind.Keyword word.Continue ∷ kind.Keyword word.Default ∷ kind.Keyword word.Do ∷ kind.Keyword word.Else ∷ kind.Keyword word.For ∷ kind.Keyword word.If ∷ kind.Keyword word.Int ∷
    kind.Keyword word.Return ∷ kind.Keyword word.Short ∷ kind.Keyword word.Signed ∷ kind.Keyword word.Sizeof ∷ kind.Keyword word.Static ∷ kind.Keyword word.Struct ∷ kind.Keyword word.Switch ∷
    kind.Keyword word.Unsigned ∷ kind.Keyword word.Void ∷ kind.Keyword word.While ∷ kind.Keyword word.Auto ∷ kind.Keyword word.Double ∷ kind.Keyword word.Enum ∷ kind.Keyword word.Extern ∷
    kind.Keyword word.Float ∷ kind.Keyword word.Goto ∷ kind.Keyword word.Inline ∷ kind.Keyword word.Long ∷ kind.Keyword word.Register ∷ kind.Keyword word.Restrict ∷ kind.Keyword word.Typedef ∷
    kind.Keyword word.Union ∷ kind.Keyword word.Volatile ∷ kind.Keyword word.Alignas ∷ kind.Keyword word.Alignof ∷ kind.Keyword word.Atomic ∷ kind.Keyword word.Bool ∷ kind.Keyword word.Complex ∷
    kind.Keyword word.Generic ∷ kind.Keyword word.Imaginary ∷ kind.Keyword word.Noreturn ∷ kind.Keyword word.StaticAssert ∷ kind.Keyword word.ThreadLocal ∷ kind.Punct mark.LParen ∷
    kind.Punct mark.RParen ∷ kind.Punct mark.LBracket ∷ kind.Punct mark.RBracket ∷ kind.Punct mark.LBrace ∷ kind.Punct mark.RBrace ∷ kind.Punct mark.Semicolon ∷ kind.Punct mark.Comma ∷
    kind.Punct mark.Dot ∷ kind.Punct mark.Arrow ∷ kind.Punct mark.PlusPlus ∷ kind.Punct mark.MinusMinus ∷ kind.Punct mark.Amp ∷ kind.Punct mark.Star ∷ kind.Punct mark.Plus ∷
    kind.Punct mark.Minus ∷ kind.Punct mark.Tilde ∷ kind.Punct mark.Bang ∷ kind.Punct mark.Slash ∷ kind.Punct mark.Percent ∷ kind.Punct mark.ShiftLeft ∷ kind.Punct mark.ShiftRight ∷
    kind.Punct mark.Less ∷ kind.Punct mark.Greater ∷ kind.Punct mark.LessEqual ∷ kind.Punct mark.GreaterEqual ∷ kind.Punct mark.EqualEqual ∷ kind.Punct mark.BangEqual ∷ kind.Punct mark.Caret ∷
    kind.Punct mark.Pipe ∷ kind.Punct mark.AmpAmp ∷ kind.Punct mark.PipePipe ∷ kind.Punct mark.Question ∷ kind.Punct mark.Colon ∷ kind.Punct mark.Equal ∷ kind.Punct mark.StarEqual ∷
    kind.Punct mark.SlashEqual ∷ kind.Punct mark.PercentEqual ∷ kind.Punct mark.PlusEqual ∷ kind.Punct mark.MinusEqual ∷ kind.Punct mark.ShiftLeftEqual ∷ kind.Punct mark.ShiftRightEqual ∷
    kind.Punct mark.AmpEqual ∷ kind.Punct mark.CaretEqual ∷ kind.Punct mark.PipeEqual ∷ []

abbrev pub kinds : Payload → List TokenKind
kinds y = kind.Name y.name ∷ other_kinds y

abbrev pub heads : Payload → List (Option TokenKind)
heads y = None ∷ map Some (kinds y)

abbrev pub kind_number : TokenKind → ℕ
unfolding keyword_number mark_number
kind_number (kind.Name n) = 0
kind_number (kind.Number v u) = 1
kind_number (kind.Char c) = 2
kind_number (kind.Text t) = 3
kind_number (kind.Keyword k) = 4 + keyword_number k
kind_number (kind.Punct p) = 48 + mark_number p

kind_at : (k : TokenKind) → nth (kind.Name (payload k).name) (other_kinds (payload k)) (kind_number k) ≡ k
unfolding kind_number keyword_number mark_number
kind_at (kind.Name n) = refl
kind_at (kind.Keyword word.Break) = refl
kind_at (kind.Punct mark.LParen) = refl
kind_at (kind.Keyword k) = refl
kind_at (kind.Punct p) = refl
kind_at k = refl

pub kind_in : (k : TokenKind) → In k (kinds (payload k))
kind_in k = subst (λ (x : TokenKind). In x (kinds (payload k))) (kind_at k) (in_nth (kind.Name (payload k).name) (other_kinds (payload k)) (kind_number k))

abbrev pub head_payload : Option TokenKind → Payload
head_payload (Some k) = payload k
head_payload None = payload (kind.Char 0)

pub head_in : (h : Option TokenKind) → In h (heads (head_payload h))
head_in None = inl refl
head_in (Some k) = inr (in_map Some k (kinds (payload k)) (kind_in k))

pub flag_in : (b : Bool) → In b (false ∷ true ∷ [])
flag_in false = inl refl
flag_in true = inr (inl refl)

-- ---- productions

abbrev pub other_productions : List Production
other_productions = production.Empty production.MoreMembers ∷ production.Empty production.MoreMember ∷ production.Empty production.Stars ∷ production.Empty production.Dimensions ∷
    production.Empty production.OpenDimensions ∷ production.Empty production.MoreDecls ∷ production.Empty production.MoreParams ∷ production.Empty production.Items ∷
    production.Empty production.Groups ∷ production.Empty production.MoreLabels ∷ production.Empty production.MoreStmts ∷ production.Empty production.MoreAssigns ∷
    production.Empty production.MoreLiterals ∷ production.More production.Externals ∷ production.More production.MoreMembers ∷ production.More production.MoreMember ∷
    production.More production.Stars ∷ production.More production.Dimensions ∷ production.More production.OpenDimensions ∷ production.More production.MoreDecls ∷
    production.More production.MoreParams ∷ production.More production.Items ∷ production.More production.Groups ∷ production.More production.MoreLabels ∷ production.More production.MoreStmts ∷
    production.More production.MoreAssigns ∷ production.More production.MoreLiterals ∷ production.Absent production.Constant ∷ production.Absent production.ShortInt ∷
    production.Absent production.SignedBase ∷ production.Absent production.Size ∷ production.Absent production.Initialiser ∷ production.Absent production.ParamName ∷
    production.Absent production.Params ∷ production.Absent production.Clause ∷ production.Absent production.Arguments ∷ production.Present production.Constant ∷
    production.Present production.ShortInt ∷ production.Present production.SignedBase ∷ production.Present production.Size ∷ production.Present production.Initialiser ∷
    production.Present production.ParamName ∷ production.Present production.Params ∷ production.Present production.Clause ∷ production.Present production.Arguments ∷
    production.Binary production.Multiplicative ∷ production.Binary production.Additive ∷ production.Binary production.Shift ∷ production.Binary production.Relational ∷
    production.Binary production.Equality ∷ production.Binary production.BitAnd ∷ production.Binary production.BitXor ∷ production.Binary production.BitOr ∷ production.Binary production.LogicalAnd ∷
    production.Binary production.LogicalOr ∷ production.Static ∷ production.Const ∷ production.Plain ∷ production.Struct ∷ production.StructName ∷ production.StructMembers ∷ production.Declared ∷
    production.Function ∷ production.Globals ∷ production.Prototype ∷ production.Members ∷ production.Member ∷ production.Locals ∷ production.Decl ∷ production.InitList ∷ production.InitFirst ∷
    production.InitComma ∷ production.InitNext ∷ production.Param ∷ production.Void ∷ production.Char ∷ production.Int ∷ production.Short ∷ production.Signed ∷ production.StructTag ∷
    production.TypeName ∷ production.Block ∷ production.Null ∷ production.Expression ∷ production.If ∷ production.IfElse ∷ production.While ∷ production.DoWhile ∷ production.For ∷ production.Break ∷
    production.Continue ∷ production.Return ∷ production.Switch ∷ production.ForClause ∷ production.Group ∷ production.Case ∷ production.Default ∷ production.Expr ∷ production.Assignment ∷
    production.Conditional ∷ production.Cast ∷ production.Increment ∷ production.Unary ∷ production.Sizeof ∷ production.SizeofType ∷ production.Index ∷ production.Call ∷ production.Dot ∷
    production.Arrow ∷ production.PostIncrement ∷ production.Name ∷ production.Number ∷ production.Character ∷ production.Text ∷ production.Paren ∷ []

abbrev pub labels : List Production
labels = production.Empty production.Externals ∷ other_productions

unfoldable pub production_number : Production → ℕ
production_number (production.Empty k) = repeated_number k
production_number (production.More k) = 14 + repeated_number k
production_number (production.Absent k) = 28 + optional_number k
production_number (production.Present k) = 37 + optional_number k
production_number (production.Binary k) = 46 + level_number k
production_number production.Static = 56
production_number production.Const = 57
production_number production.Plain = 58
production_number production.Struct = 59
production_number production.StructName = 60
production_number production.StructMembers = 61
production_number production.Declared = 62
production_number production.Function = 63
production_number production.Globals = 64
production_number production.Prototype = 65
production_number production.Members = 66
production_number production.Member = 67
production_number production.Locals = 68
production_number production.Decl = 69
production_number production.InitList = 70
production_number production.InitFirst = 71
production_number production.InitComma = 72
production_number production.InitNext = 73
production_number production.Param = 74
production_number production.Void = 75
production_number production.Char = 76
production_number production.Int = 77
production_number production.Short = 78
production_number production.Signed = 79
production_number production.StructTag = 80
production_number production.TypeName = 81
production_number production.Block = 82
production_number production.Null = 83
production_number production.Expression = 84
production_number production.If = 85
production_number production.IfElse = 86
production_number production.While = 87
production_number production.DoWhile = 88
production_number production.For = 89
production_number production.Break = 90
production_number production.Continue = 91
production_number production.Return = 92
production_number production.Switch = 93
production_number production.ForClause = 94
production_number production.Group = 95
production_number production.Case = 96
production_number production.Default = 97
production_number production.Expr = 98
production_number production.Assignment = 99
production_number production.Conditional = 100
production_number production.Cast = 101
production_number production.Increment = 102
production_number production.Unary = 103
production_number production.Sizeof = 104
production_number production.SizeofType = 105
production_number production.Index = 106
production_number production.Call = 107
production_number production.Dot = 108
production_number production.Arrow = 109
production_number production.PostIncrement = 110
production_number production.Name = 111
production_number production.Number = 112
production_number production.Character = 113
production_number production.Text = 114
production_number production.Paren = 115

production_at : (l : Production) → nth (production.Empty production.Externals) other_productions (production_number l) ≡ l
unfolding production_number repeated_number optional_number level_number
production_at (production.Empty production.Externals) = refl
production_at (production.More production.Externals) = refl
production_at (production.Absent production.Constant) = refl
production_at (production.Present production.Constant) = refl
production_at (production.Binary production.Additive) = refl
production_at (production.Empty k) = refl
production_at (production.More k) = refl
production_at (production.Absent k) = refl
production_at (production.Present k) = refl
production_at (production.Binary k) = refl
production_at l = refl

pub production_in : (l : Production) → In l labels
production_in l = subst (λ (x : Production). In x labels) (production_at l) (in_nth (production.Empty production.Externals) other_productions (production_number l))

unfoldable pub same_production : Production → Production → Bool
same_production l m = production_number l == production_number m

pub same_production-true : (l m : Production) → same_production l m ≡ true → l ≡ m
unfolding same_production
same_production-true l m h = sym (production_at l) ∙ ap (nth (production.Empty production.Externals) other_productions) (eqb-true (production_number l) (production_number m) h) ∙ production_at m

pub same_if_else : same_production production.IfElse production.IfElse ≡ true
unfolding same_production production_number
same_if_else = refl

-- ---- nonterminals

abbrev pub other_nonterminals : List Nonterminal
other_nonterminals = Many production.MoreMembers ∷ Many production.MoreMember ∷ Many production.Stars ∷ Many production.Dimensions ∷ Many production.OpenDimensions ∷ Many production.MoreDecls ∷
    Many production.MoreParams ∷ Many production.Items ∷ Many production.Groups ∷ Many production.MoreLabels ∷ Many production.MoreStmts ∷ Many production.MoreAssigns ∷
    Many production.MoreLiterals ∷ Opt production.Constant ∷ Opt production.ShortInt ∷ Opt production.SignedBase ∷ Opt production.Size ∷ Opt production.Initialiser ∷ Opt production.ParamName ∷
    Opt production.Params ∷ Opt production.Clause ∷ Opt production.Arguments ∷ Binary production.Multiplicative ∷ Binary production.Additive ∷ Binary production.Shift ∷
    Binary production.Relational ∷ Binary production.Equality ∷ Binary production.BitAnd ∷ Binary production.BitXor ∷ Binary production.BitOr ∷ Binary production.LogicalAnd ∷
    Binary production.LogicalOr ∷ External ∷ AfterTag ∷ AfterType ∷ AfterName ∷ Body ∷ Members ∷ Member ∷ Locals ∷ Decl ∷ Init ∷ InitItems ∷ InitEnded ∷ InitOpen ∷ Param ∷ Spec ∷ PlainSpec ∷ Base ∷
    TypeName ∷ Block ∷ Item ∷ Stmt ∷ IfPart ∷ ForFirst ∷ Group ∷ GroupLabel ∷ Expr ∷ Assign ∷ Cond ∷ Cast ∷ Unary ∷ SizeofOperand ∷ Postfix ∷ []

abbrev pub nonterminals : List Nonterminal
nonterminals = Many production.Externals ∷ other_nonterminals

unfoldable pub nonterminal_index : Nonterminal → ℕ
nonterminal_index (Many k) = repeated_number k
nonterminal_index (Opt k) = 14 + optional_number k
nonterminal_index (Binary k) = 23 + level_number k
nonterminal_index External = 33
nonterminal_index AfterTag = 34
nonterminal_index AfterType = 35
nonterminal_index AfterName = 36
nonterminal_index Body = 37
nonterminal_index Members = 38
nonterminal_index Member = 39
nonterminal_index Locals = 40
nonterminal_index Decl = 41
nonterminal_index Init = 42
nonterminal_index InitItems = 43
nonterminal_index InitEnded = 44
nonterminal_index InitOpen = 45
nonterminal_index Param = 46
nonterminal_index Spec = 47
nonterminal_index PlainSpec = 48
nonterminal_index Base = 49
nonterminal_index TypeName = 50
nonterminal_index Block = 51
nonterminal_index Item = 52
nonterminal_index Stmt = 53
nonterminal_index IfPart = 54
nonterminal_index ForFirst = 55
nonterminal_index Group = 56
nonterminal_index GroupLabel = 57
nonterminal_index Expr = 58
nonterminal_index Assign = 59
nonterminal_index Cond = 60
nonterminal_index Cast = 61
nonterminal_index Unary = 62
nonterminal_index SizeofOperand = 63
nonterminal_index Postfix = 64

nonterminal_at : (c : Nonterminal) → nth (Many production.Externals) other_nonterminals (nonterminal_index c) ≡ c
unfolding nonterminal_index repeated_number optional_number level_number
nonterminal_at (Many production.Externals) = refl
nonterminal_at (Opt production.Constant) = refl
nonterminal_at (Binary production.Additive) = refl
nonterminal_at (Many k) = refl
nonterminal_at (Opt k) = refl
nonterminal_at (Binary k) = refl
nonterminal_at c = refl

pub nonterminal_in : (c : Nonterminal) → In c nonterminals
nonterminal_in c = subst (λ (x : Nonterminal). In x nonterminals) (nonterminal_at c) (in_nth (Many production.Externals) other_nonterminals (nonterminal_index c))
