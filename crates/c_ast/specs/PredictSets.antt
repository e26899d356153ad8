-- Which production a token chooses: one that begins with it, or one that goes on with it after a finished tree.
use Rattle.std.specs.Prelude.{Bool, true, false, ◌&&◌, ◌||◌, if◌then◌else◌, List, [], ◌∷◌, Option, Some, None}
use Rattle.std.specs.Option.{option_and_then, option_map_or}
use Rattle.c_lex.specs.declared.keyword.Keyword.{Keyword}
use Rattle.c_lex.specs.declared.keyword.Keyword.TheVariants as word
use Rattle.c_lex.specs.declared.punct.Punct.{Punct}
use Rattle.c_lex.specs.declared.punct.Punct.TheVariants as mark
use Rattle.c_lex.specs.declared.token.Token.{Token}
use Rattle.c_lex.specs.declared.token.TokenKind.{TokenKind}
use Rattle.c_lex.specs.declared.token.TokenKind.TheVariants as kind
use Rattle.c_ast.specs.Nonterminals.{Nonterminal, Many, Opt, External, AfterTag, AfterType, AfterName, Body, Members, Member, Locals, Decl, Init, InitItems, InitEnded, InitOpen, Param, Spec, PlainSpec, Base, TypeName, Block, Item, Stmt, IfPart, ForFirst, Group, GroupLabel, Expr, Assign, Cond, Binary, Cast, Unary, SizeofOperand, Postfix}
use Rattle.c_ast.specs.Productions.{Repeated, Optional, Production}
use Rattle.c_ast.specs.Productions as production
use Rattle.c_ast.specs.Terminals.{is, ThisKeyword, Mark, AnyName, AnyLiteral, operator_level, is_assign_mark, is_unary_mark, is_inc_dec_mark}
use Rattle.c_ast.specs.Grammar.{allowed}

-- ---- the tokens ahead

-- the kind of the next token
abbrev pub head : List Token → Option TokenKind
head [] = None
head (x ∷ ts) = Some x.kind

-- whether the next token is one of these
abbrev pub at : (TokenKind → Bool) → Option TokenKind → Bool
at p None = false
at p (Some k) = p k

unfoldable pub begins_base : TokenKind → Bool
begins_base (kind.Keyword word.Char) = true
begins_base (kind.Keyword word.Int) = true
begins_base (kind.Keyword word.Short) = true
begins_base _ = false

unfoldable pub begins_type : TokenKind → Bool
begins_type (kind.Keyword word.Const) = true
begins_type (kind.Keyword word.Void) = true
begins_type (kind.Keyword word.Char) = true
begins_type (kind.Keyword word.Int) = true
begins_type (kind.Keyword word.Short) = true
begins_type (kind.Keyword word.Signed) = true
begins_type (kind.Keyword word.Unsigned) = true
begins_type (kind.Keyword word.Struct) = true
begins_type _ = false

unfoldable pub begins_external : TokenKind → Bool
begins_external k = begins_type k || is (ThisKeyword word.Static) k

unfoldable pub begins_expr : TokenKind → Bool
begins_expr (kind.Name name) = true
begins_expr (kind.Number value unsigned) = true
begins_expr (kind.Char c) = true
begins_expr (kind.Text cs) = true
begins_expr (kind.Keyword word.Sizeof) = true
begins_expr (kind.Keyword _) = false
begins_expr (kind.Punct mark.LParen) = true
begins_expr (kind.Punct p) = is_inc_dec_mark p || is_unary_mark p

unfoldable pub begins_init : TokenKind → Bool
begins_init k = begins_expr k || is (Mark mark.LBrace) k

-- whether the token after the next one begins a type name
unfoldable pub typed : List Token → Bool
typed [] = false
typed (x ∷ ts) = at begins_type (head ts)

-- ---- what begins with the next token

-- a statement that begins with a keyword
unfoldable pub keyword_stmt : Keyword → Option Production
keyword_stmt word.If = Some production.If
keyword_stmt word.While = Some production.While
keyword_stmt word.Do = Some production.DoWhile
keyword_stmt word.For = Some production.For
keyword_stmt word.Break = Some production.Break
keyword_stmt word.Continue = Some production.Continue
keyword_stmt word.Return = Some production.Return
keyword_stmt word.Switch = Some production.Switch
keyword_stmt word.Sizeof = Some production.Expression
keyword_stmt _ = None

unfoldable pub stmt : TokenKind → Option Production
stmt (kind.Keyword k) = keyword_stmt k
stmt (kind.Punct mark.Semicolon) = Some production.Null
stmt (kind.Punct mark.LBrace) = Some production.Block
stmt k = if begins_expr k then Some production.Expression else None

unfoldable pub item : TokenKind → Option Production
item k = if begins_type k then Some production.Locals else stmt k

unfoldable pub base : TokenKind → Option Production
base (kind.Keyword word.Char) = Some production.Char
base (kind.Keyword word.Int) = Some production.Int
base (kind.Keyword word.Short) = Some production.Short
base _ = None

unfoldable pub plain_spec : TokenKind → Option Production
plain_spec (kind.Keyword word.Void) = Some production.Void
plain_spec (kind.Keyword word.Signed) = Some production.Signed
plain_spec (kind.Keyword word.Unsigned) = Some production.Signed
plain_spec k = base k

unfoldable pub spec : TokenKind → Option Production
spec (kind.Keyword word.Struct) = Some production.StructTag
spec k = plain_spec k

unfoldable pub external : TokenKind → Option Production
external (kind.Keyword word.Static) = Some production.Static
external (kind.Keyword word.Const) = Some production.Const
external (kind.Keyword word.Struct) = Some production.Struct
external k = if begins_type k then Some production.Plain else None

unfoldable pub after_tag : TokenKind → Production
after_tag (kind.Punct mark.Semicolon) = production.StructName
after_tag (kind.Punct mark.LBrace) = production.StructMembers
after_tag _ = production.Declared

unfoldable pub group_label : TokenKind → Option Production
group_label (kind.Keyword word.Case) = Some production.Case
group_label (kind.Keyword word.Default) = Some production.Default
group_label _ = None

-- What `(` begins in a nonterminal of operands, where a type name follows or not: a cast only where casts are operands, and
-- after `sizeof` a type in parentheses.
unfoldable pub parenthesis : Nonterminal → Bool → Production
parenthesis c false = production.Paren
parenthesis SizeofOperand true = production.SizeofType
parenthesis c true = if allowed c production.Cast then production.Cast else production.Paren

unfoldable pub operand_mark : Nonterminal → Bool → Punct → Option Production
operand_mark c b mark.LParen = Some (parenthesis c b)
operand_mark c b p =
    if is_inc_dec_mark p then Some production.Increment else (if is_unary_mark p then Some production.Unary else None)

unfoldable pub operand : Nonterminal → Bool → TokenKind → Option Production
operand c b (kind.Name name) = Some production.Name
operand c b (kind.Number value unsigned) = Some production.Number
operand c b (kind.Char char) = Some production.Character
operand c b (kind.Text cs) = Some production.Text
operand c b (kind.Keyword word.Sizeof) = Some production.Sizeof
operand c b (kind.Keyword _) = None
operand c b (kind.Punct p) = operand_mark c b p

-- an initialiser
unfoldable pub initialiser : Bool → TokenKind → Option Production
initialiser b k = if is (Mark mark.LBrace) k then Some production.InitList else operand Assign b k

-- what the tokens are with which an optional symbol begins
unfoldable pub begins_optional : Optional → TokenKind → Bool
begins_optional production.Constant k = is (ThisKeyword word.Const) k
begins_optional production.ShortInt k = is (ThisKeyword word.Int) k
begins_optional production.SignedBase k = begins_base k
begins_optional production.Size k = begins_expr k
begins_optional production.Initialiser k = is (Mark mark.Equal) k
begins_optional production.ParamName k = is AnyName k
begins_optional production.Params k = begins_type k
begins_optional production.Clause k = begins_expr k
begins_optional production.Arguments k = begins_expr k

-- The production with which a nonterminal begins, by the kind of the next token, and by whether the one after it begins a
-- type name. No tree of `InitEnded`, `InitOpen`, `IfPart` or `Postfix` is read as such.
unfoldable pub start : Nonterminal → Option TokenKind → Bool → Option Production
start (Many k) h b = Some (production.Empty k)
start (Opt k) h b = Some (if at (begins_optional k) h then production.Present k else production.Absent k)
start External h b = option_and_then external h
start AfterTag h b = Some (option_map_or after_tag h production.Declared)
start AfterType h b = Some production.Declared
start AfterName h b = Some (if at (is (Mark mark.LParen)) h then production.Function else production.Globals)
start Body h b = Some (if at (is (Mark mark.Semicolon)) h then production.Prototype else production.Block)
start Members h b = Some production.Members
start Member h b = Some production.Member
start Locals h b = Some production.Locals
start Decl h b = Some production.Decl
start Init h b = option_and_then (initialiser b) h
start InitItems h b = Some production.InitFirst
start InitEnded h b = None
start InitOpen h b = None
start Param h b = Some production.Param
start Spec h b = option_and_then spec h
start PlainSpec h b = option_and_then plain_spec h
start Base h b = option_and_then base h
start TypeName h b = Some production.TypeName
start Block h b = Some production.Block
start Item h b = option_and_then item h
start Stmt h b = option_and_then stmt h
start IfPart h b = None
start ForFirst h b = Some (if at begins_type h then production.Locals else production.ForClause)
start Group h b = Some production.Group
start GroupLabel h b = option_and_then group_label h
start Expr h b = Some production.Expr
start Postfix h b = None
start c h b = option_and_then (operand c b) h

-- ---- what goes on with the next token

-- what the tokens are with which a repeated symbol begins
unfoldable pub begins_repeated : Repeated → TokenKind → Bool
begins_repeated production.Externals k = begins_external k
begins_repeated production.MoreMembers k = begins_type k
begins_repeated production.MoreMember k = is (Mark mark.Comma) k
begins_repeated production.Stars k = is (Mark mark.Star) k
begins_repeated production.Dimensions k = is (Mark mark.LBracket) k
begins_repeated production.OpenDimensions k = is (Mark mark.LBracket) k
begins_repeated production.MoreDecls k = is (Mark mark.Comma) k
begins_repeated production.MoreParams k = is (Mark mark.Comma) k
begins_repeated production.Items k = option_map_or (λ l. true) (item k) false
begins_repeated production.Groups k = option_map_or (λ l. true) (group_label k) false
begins_repeated production.MoreLabels k = option_map_or (λ l. true) (group_label k) false
begins_repeated production.MoreStmts k = option_map_or (λ l. true) (stmt k) false
begins_repeated production.MoreAssigns k = is (Mark mark.Comma) k
begins_repeated production.MoreLiterals k = is AnyLiteral k

-- the production that takes an operand before this token as its first child, and the nonterminal of that operand
unfoldable pub mark_suffix : Punct → Option Production
mark_suffix mark.LBracket = Some production.Index
mark_suffix mark.LParen = Some production.Call
mark_suffix mark.Dot = Some production.Dot
mark_suffix mark.Arrow = Some production.Arrow
mark_suffix mark.PlusPlus = Some production.PostIncrement
mark_suffix mark.MinusMinus = Some production.PostIncrement
mark_suffix mark.Question = Some production.Conditional
mark_suffix p =
    if is_assign_mark p then Some production.Assignment else option_map_or (λ level. Some (production.Binary level)) (operator_level p) None

unfoldable pub suffix : TokenKind → Option Production
suffix (kind.Punct p) = mark_suffix p
suffix _ = None

unfoldable pub left : Production → Nonterminal
left production.Assignment = Unary
left production.Conditional = Binary production.LogicalOr
left (production.Binary level) = Binary level
left _ = Postfix

-- a production that goes on after an operand of the production l, where it makes a tree of the nonterminal
unfoldable pub operation : Nonterminal → Production → Production → Option Production
operation c l m = if allowed c m && allowed (left m) l then Some m else None

unfoldable pub operand_next : Nonterminal → Production → TokenKind → Option Production
operand_next c l k = option_and_then (operation c l) (suffix k)

-- After elements of a list in braces a comma goes on, and after the comma an initialiser.
unfoldable pub init_next : Production → TokenKind → Option Production
init_next production.InitComma k = if begins_init k then Some production.InitNext else None
init_next _ k = if is (Mark mark.Comma) k then Some production.InitComma else None

-- After an `if` an `else` goes on.
unfoldable pub stmt_next : Production → TokenKind → Option Production
stmt_next production.If k = if is (ThisKeyword word.Else) k then Some production.IfElse else None
stmt_next _ k = None

-- The production that takes a tree of the production l as its first child, in a nonterminal, by the kind of the next token.
unfoldable pub next : Nonterminal → Production → Option TokenKind → Option Production
next (Many k) l h = if at (begins_repeated k) h then Some (production.More k) else None
next InitItems l h = option_and_then (init_next l) h
next Item l h = option_and_then (stmt_next l) h
next Stmt l h = option_and_then (stmt_next l) h
next Init l h = option_and_then (operand_next Init l) h
next Assign l h = option_and_then (operand_next Assign l) h
next Cond l h = option_and_then (operand_next Cond l) h
next (Binary level) l h = option_and_then (operand_next (Binary level) l) h
next Cast l h = option_and_then (operand_next Cast l) h
next Unary l h = option_and_then (operand_next Unary l) h
next SizeofOperand l h = option_and_then (operand_next SizeofOperand l) h
next _ l h = None
