-- What may begin and what may follow each nonterminal, and what the productions are made of.
use Rattle.std.specs.Prelude.{ℕ, ◌+◌, Bool, true, false, not, ◌&&◌, ◌||◌, nat_le, List, [], ◌∷◌, drop, Option, Some, None}
use Rattle.std.specs.Option.{option_map_or}
use Rattle.c_lex.specs.declared.keyword.Keyword.TheVariants as word
use Rattle.c_lex.specs.declared.punct.Punct.TheVariants as mark
use Rattle.c_lex.specs.declared.token.TokenKind.{TokenKind}
use Rattle.c_lex.specs.declared.token.TokenKind.TheVariants as kind
use Rattle.c_ast.specs.Nonterminals.{Nonterminal, Many, Opt, External, AfterTag, AfterType, AfterName, Body, Members, Member, Locals, Decl, Init, InitItems, InitEnded, InitOpen, Param, Spec, PlainSpec, Base, TypeName, Block, Item, Stmt, IfPart, ForFirst, Group, GroupLabel, Expr, Assign, Cond, Binary, Cast, Unary, SizeofOperand, Postfix, level_number}
use Rattle.c_ast.specs.Productions.{Repeated, Optional, Production}
use Rattle.c_ast.specs.Productions as production
use Rattle.c_ast.specs.Terminals.{is, ThisKeyword, Mark, AnyName, AssignMark, operator_level}
use Rattle.c_ast.specs.Grammar.{Symbol, T, N, symbols_of}
use Rattle.c_ast.specs.PredictSets.{at, begins_base, begins_type, begins_external, begins_expr, begins_init, begins_optional, begins_repeated, stmt, item, group_label}

-- ---- productions

-- whether the first symbol of a production is a tree that is there before the production is chosen
unfoldable pub is_suffix : Production → Bool
is_suffix (production.More k) = true
is_suffix production.IfElse = true
is_suffix production.InitComma = true
is_suffix production.InitNext = true
is_suffix production.Assignment = true
is_suffix production.Conditional = true
is_suffix (production.Binary level) = true
is_suffix production.Index = true
is_suffix production.Call = true
is_suffix production.Dot = true
is_suffix production.Arrow = true
is_suffix production.PostIncrement = true
is_suffix _ = false

abbrev pub nonterminal_of : Symbol → Nonterminal
nonterminal_of (N c) = c
nonterminal_of (T s) = Expr

-- the nonterminal of the first symbol
abbrev pub first_nonterminal : List Symbol → Nonterminal
first_nonterminal [] = Expr
first_nonterminal (s ∷ symbols) = nonterminal_of s

unfoldable pub front : Production → Nonterminal
front l = first_nonterminal (symbols_of l)

abbrev pub without_front : Bool → List Symbol → List Symbol
without_front true symbols = drop 1 symbols
without_front false symbols = symbols

-- the children that are read once the production is chosen
unfoldable pub rest_of : Production → List Symbol
rest_of l = without_front (is_suffix l) (symbols_of l)

-- the nonterminals that are read by themselves
unfoldable pub is_read : Nonterminal → Bool
is_read InitEnded = false
is_read InitOpen = false
is_read IfPart = false
is_read Postfix = false
is_read _ = true

-- the nonterminals with an empty tree
unfoldable pub is_nullable : Nonterminal → Bool
is_nullable (Many k) = true
is_nullable (Opt k) = true
is_nullable _ = false

abbrev pub sym_nullable : Symbol → Bool
sym_nullable (T s) = false
sym_nullable (N c) = is_nullable c

unfoldable pub all_nullable : List Symbol → Bool
all_nullable [] = true
all_nullable (s ∷ symbols) = sym_nullable s && all_nullable symbols

-- ---- first tokens

abbrev pub begins_some : Option Production → Bool
begins_some None = false
begins_some (Some l) = true

-- `*` or a name
abbrev pub begins_declarator : TokenKind → Bool
begins_declarator k = is (Mark mark.Star) k || is AnyName k

-- the tokens that a tree of the nonterminal may begin with
unfoldable pub begins : Nonterminal → TokenKind → Bool
begins (Many r) k = begins_repeated r k
begins (Opt o) k = begins_optional o k
begins External k = begins_external k
begins AfterTag k = begins_declarator k || is (Mark mark.Semicolon) k || is (Mark mark.LBrace) k
begins AfterType k = begins_declarator k
begins AfterName k =
    is (Mark mark.LParen) k || is (Mark mark.LBracket) k || is (Mark mark.Equal) k || is (Mark mark.Comma) k || is (Mark mark.Semicolon) k
begins Body k = is (Mark mark.Semicolon) k || is (Mark mark.LBrace) k
begins Members k = begins_type k
begins Member k = begins_declarator k
begins Locals k = begins_type k
begins Decl k = begins_declarator k
begins Init k = begins_init k
begins InitItems k = begins_init k
begins InitEnded k = begins_init k
begins InitOpen k = begins_init k
begins Param k = begins_type k
begins Spec k = begins_type k && not (is (ThisKeyword word.Const) k)
begins PlainSpec k = begins_type k && not (is (ThisKeyword word.Const) k) && not (is (ThisKeyword word.Struct) k)
begins Base k = begins_base k
begins TypeName k = begins_type k
begins Block k = is (Mark mark.LBrace) k
begins Item k = begins_some (item k)
begins Stmt k = begins_some (stmt k)
begins IfPart k = is (ThisKeyword word.If) k
begins ForFirst k = begins_type k || begins_expr k || is (Mark mark.Semicolon) k
begins Group k = begins_some (group_label k)
begins GroupLabel k = begins_some (group_label k)
begins _ k = begins_expr k

-- the tokens that a sequence of symbols may begin with
unfoldable pub ahead : List Symbol → TokenKind → Bool
ahead [] k = false
ahead (T s ∷ symbols) k = is s k
ahead (N c ∷ symbols) k = begins c k || (is_nullable c && ahead symbols k)

-- ---- following tokens

-- after a type specifier
abbrev pub follows_spec : TokenKind → Bool
follows_spec k =
    begins_declarator k || is (Mark mark.LBracket) k || is (Mark mark.Comma) k || is (Mark mark.RParen) k

-- after a conditional expression
abbrev pub follows_cond : TokenKind → Bool
follows_cond k =
    is (Mark mark.Semicolon) k || is (Mark mark.RParen) k || is (Mark mark.RBracket) k || is (Mark mark.RBrace) k || is (Mark mark.Colon) k || is (Mark mark.Comma) k

-- the operators of the levels from a number on
abbrev pub looser : ℕ → TokenKind → Bool
looser n (kind.Punct p) = option_map_or (λ level. nat_le n (level_number level)) (operator_level p) false
looser n _ = false

-- after an operand of the operators of the levels from a number on
abbrev pub follows_operand : ℕ → TokenKind → Bool
follows_operand n k = follows_cond k || is (Mark mark.Question) k || looser n k

-- what may go on after a primary expression
abbrev pub goes_on_primary : TokenKind → Bool
goes_on_primary k =
    is (Mark mark.LBracket) k || is (Mark mark.LParen) k || is (Mark mark.Dot) k || is (Mark mark.Arrow) k || is (Mark mark.PlusPlus) k || is (Mark mark.MinusMinus) k

abbrev pub follows_list : Repeated → TokenKind → Bool
follows_list production.Externals k = false
follows_list production.MoreMembers k = is (Mark mark.RBrace) k
follows_list production.MoreMember k = is (Mark mark.Semicolon) k
follows_list production.Stars k =
    is AnyName k || is (Mark mark.LBracket) k || is (Mark mark.Comma) k || is (Mark mark.RParen) k
follows_list production.Dimensions k = is (Mark mark.Comma) k || is (Mark mark.Semicolon) k || is (Mark mark.RParen) k
follows_list production.OpenDimensions k =
    is (Mark mark.Equal) k || is (Mark mark.Comma) k || is (Mark mark.Semicolon) k || is (Mark mark.RParen) k
follows_list production.MoreDecls k = is (Mark mark.Semicolon) k
follows_list production.MoreParams k = is (Mark mark.RParen) k
follows_list production.Items k = is (Mark mark.RBrace) k
follows_list production.Groups k = is (Mark mark.RBrace) k
follows_list production.MoreLabels k = begins_some (stmt k)
follows_list production.MoreStmts k = begins_some (group_label k) || is (Mark mark.RBrace) k
follows_list production.MoreAssigns k =
    is (Mark mark.Semicolon) k || is (Mark mark.RParen) k || is (Mark mark.RBracket) k || is (Mark mark.Colon) k
follows_list production.MoreLiterals k = follows_operand 0 k || is AssignMark k || goes_on_primary k

abbrev pub follows_option : Optional → TokenKind → Bool
follows_option production.Constant k = begins_type k && not (is (ThisKeyword word.Const) k)
follows_option production.ShortInt k = follows_spec k
follows_option production.SignedBase k = follows_spec k
follows_option production.Size k = is (Mark mark.RBracket) k
follows_option production.Initialiser k = is (Mark mark.Comma) k || is (Mark mark.Semicolon) k
follows_option production.ParamName k = is (Mark mark.LBracket) k || is (Mark mark.Comma) k || is (Mark mark.RParen) k
follows_option production.Params k = is (Mark mark.RParen) k
follows_option production.Clause k = is (Mark mark.Semicolon) k || is (Mark mark.RParen) k
follows_option production.Arguments k = is (Mark mark.RParen) k

-- the tokens that may follow a tree of the nonterminal where it is read by itself
unfoldable pub follows_kind : Nonterminal → TokenKind → Bool
follows_kind (Many r) k = follows_list r k
follows_kind (Opt o) k = follows_option o k
follows_kind External k = begins_external k
follows_kind AfterTag k = begins_external k
follows_kind AfterType k = begins_external k
follows_kind AfterName k = begins_external k
follows_kind Body k = begins_external k
follows_kind Members k = begins_type k || is (Mark mark.RBrace) k
follows_kind Member k = is (Mark mark.Comma) k || is (Mark mark.Semicolon) k
follows_kind Locals k =
    begins_some (item k) || is (Mark mark.RBrace) k || begins_expr k || is (Mark mark.Semicolon) k
follows_kind Decl k = is (Mark mark.Comma) k || is (Mark mark.Semicolon) k
follows_kind Init k = is (Mark mark.Comma) k || is (Mark mark.Semicolon) k || is (Mark mark.RBrace) k
follows_kind InitItems k = is (Mark mark.RBrace) k
follows_kind Param k = is (Mark mark.Comma) k || is (Mark mark.RParen) k
follows_kind Spec k = follows_spec k
follows_kind PlainSpec k = follows_spec k
follows_kind Base k = follows_spec k
follows_kind TypeName k = is (Mark mark.RParen) k
follows_kind Block k = begins_external k || begins_some (item k) || is (Mark mark.RBrace) k
follows_kind Item k = begins_some (item k) || is (Mark mark.RBrace) k
follows_kind Stmt k =
    begins_some (item k) || is (Mark mark.RBrace) k || is (ThisKeyword word.Else) k || begins_some (group_label k)
follows_kind ForFirst k = begins_expr k || is (Mark mark.Semicolon) k
follows_kind Group k = begins_some (group_label k) || is (Mark mark.RBrace) k
follows_kind GroupLabel k = begins_some (group_label k) || begins_some (stmt k)
follows_kind Expr k = follows_list production.MoreAssigns k
follows_kind Assign k = follows_cond k
follows_kind Cond k = follows_cond k
follows_kind (Binary level) k = follows_operand (level_number level + 1) k
follows_kind Cast k = follows_operand 0 k || is AssignMark k
follows_kind Unary k = follows_operand 0 k || is AssignMark k
follows_kind SizeofOperand k = follows_operand 0 k || is AssignMark k
follows_kind _ k = false

-- so too the end
unfoldable pub follows : Nonterminal → Option TokenKind → Bool
follows c None = true
follows c (Some k) = follows_kind c k

abbrev pub is_else : Option TokenKind → Bool
is_else h = at (is (ThisKeyword word.Else)) h

abbrev pub is_last : List Symbol → Bool
is_last [] = true
is_last (s ∷ symbols) = false

-- whether a sequence of symbols may end before this token
unfoldable pub ends : List Symbol → Option TokenKind → Bool
ends [] h = true
ends (T s ∷ symbols) h = ends symbols h
ends (N c ∷ symbols) h = ends symbols h && (not (all_nullable symbols) || (follows c h && (is_last symbols || not (is_else h))))

-- how many nonterminals may be read one inside the other before a token is taken
unfoldable pub precedence : Nonterminal → ℕ
precedence (Many production.Externals) = 9
precedence (Many production.Items) = 9
precedence (Many production.Groups) = 9
precedence (Many production.MoreStmts) = 7
precedence (Many production.MoreMembers) = 5
precedence (Many production.MoreLabels) = 1
precedence (Many _) = 0
precedence (Opt production.SignedBase) = 2
precedence (Opt production.Size) = 1
precedence (Opt production.Params) = 5
precedence (Opt production.Clause) = 3
precedence (Opt production.Arguments) = 1
precedence (Opt _) = 0
precedence External = 8
precedence AfterTag = 7
precedence AfterType = 6
precedence AfterName = 3
precedence Body = 1
precedence Members = 4
precedence Member = 1
precedence Locals = 5
precedence Decl = 2
precedence Init = 1
precedence InitItems = 2
precedence Param = 4
precedence Spec = 3
precedence PlainSpec = 2
precedence Base = 1
precedence TypeName = 4
precedence Item = 6
precedence Stmt = 6
precedence ForFirst = 6
precedence Group = 8
precedence Expr = 2
precedence Assign = 0
precedence _ = 0
