-- The grammar, a production a line, and what it means that a tree follows it.
use Rattle.std.specs.Prelude.{◌≡◌, Bool, true, false, not, List, [], ◌∷◌}
use Rattle.c_lex.specs.declared.keyword.Keyword.{Keyword}
use Rattle.c_lex.specs.declared.keyword.Keyword.TheVariants as word
use Rattle.c_lex.specs.declared.punct.Punct.{Punct}
use Rattle.c_lex.specs.declared.punct.Punct.TheVariants as mark
use Rattle.c_ast.specs.Nonterminals.{Nonterminal, includes, Many, Opt, External, AfterTag, AfterType, AfterName, Body, Members, Member, Locals, Decl, Init, InitItems, InitEnded, InitOpen, Param, Spec, PlainSpec, Base, TypeName, Block, Item, Stmt, IfPart, ForFirst, Group, GroupLabel, Expr, Assign, Cond, Binary, Cast, Unary, SizeofOperand, Postfix}
use Rattle.c_ast.specs.Productions.{Level, Repeated, Optional, Production, Multiplicative, Additive, Shift, Relational, Equality, BitAnd, BitXor, BitOr, LogicalAnd, LogicalOr}
use Rattle.c_ast.specs.Productions as production
use Rattle.c_ast.specs.Terminals.{Terminal, AnyName, AnyNumber, AnyChar, AnyLiteral, ThisKeyword, Mark, SignKeyword, AssignMark, BinaryMark, UnaryMark, IncDecMark, is}
use Rattle.c_ast.specs.Tree.{Tree, Leaf, Node, Nil, Cons}

-- a symbol of a production: a terminal or a nonterminal
pub data Symbol : Type 0 where
  T : Terminal → Symbol
  N : Nonterminal → Symbol

abbrev pub w : Keyword → Symbol
w k = T (ThisKeyword k)

abbrev pub m : Punct → Symbol
m p = T (Mark p)

-- ---- the productions

-- what stands once more: external declarations, `members`, `, member`, `*`, `[ cond ]`, `[ [cond] ]`, `, decl`,
-- `, param`, items of a block, groups, labels, statements, `, assign`, string literals
unfoldable pub repeated : Repeated → List Symbol
repeated production.Externals = N External ∷ []
repeated production.MoreMembers = N Members ∷ []
repeated production.MoreMember = m mark.Comma ∷ N Member ∷ []
repeated production.Stars = m mark.Star ∷ []
repeated production.Dimensions = m mark.LBracket ∷ N Cond ∷ m mark.RBracket ∷ []
repeated production.OpenDimensions = m mark.LBracket ∷ N (Opt production.Size) ∷ m mark.RBracket ∷ []
repeated production.MoreDecls = m mark.Comma ∷ N Decl ∷ []
repeated production.MoreParams = m mark.Comma ∷ N Param ∷ []
repeated production.Items = N Item ∷ []
repeated production.Groups = N Group ∷ []
repeated production.MoreLabels = N GroupLabel ∷ []
repeated production.MoreStmts = N Stmt ∷ []
repeated production.MoreAssigns = m mark.Comma ∷ N Assign ∷ []
repeated production.MoreLiterals = T AnyLiteral ∷ []

-- what may stand
unfoldable pub optional : Optional → List Symbol
optional production.Constant = w word.Const ∷ []
optional production.ShortInt = w word.Int ∷ []
optional production.SignedBase = N Base ∷ []
optional production.Size = N Cond ∷ []
optional production.Initialiser = m mark.Equal ∷ N Init ∷ []
optional production.ParamName = T AnyName ∷ []
optional production.Params = N Param ∷ N (Many production.MoreParams) ∷ []
optional production.Clause = N Expr ∷ []
optional production.Arguments = N Assign ∷ N (Many production.MoreAssigns) ∷ []

-- the next tighter nonterminal of operands of a binary operator
unfoldable pub tighter : Level → Nonterminal
tighter Multiplicative = Cast
tighter Additive = Binary Multiplicative
tighter Shift = Binary Additive
tighter Relational = Binary Shift
tighter Equality = Binary Relational
tighter BitAnd = Binary Equality
tighter BitXor = Binary BitAnd
tighter BitOr = Binary BitXor
tighter LogicalAnd = Binary BitOr
tighter LogicalOr = Binary LogicalAnd

-- a nonterminal, and one of the sequences of symbols that it stands for
infix 10 ◌⟶◌
pub record Rule : Type 0 where
  pub of : Nonterminal
  pub symbols : List Symbol

abbrev pub ◌⟶◌ : Nonterminal → List Symbol → Rule
c ⟶ symbols = record { of = c; symbols = symbols }

-- Each production has one rule. Where the grammar has `{ .. }` or `[ .. ]`, a nonterminal `Many` or `Opt` stands. What
-- begins with the same symbols is one production up to where it differs: a unit is external declarations, and one of them begins with
-- `static`, `const`, `struct name` or another type, after which a function and variables differ only after the name,
-- and the definition of a struct differs from them after `struct name`.
--
-- The parameters `(void)` are those of the lone parameter `void`, which has no name and no more: it means that there
-- are none.
unfoldable pub rule : Production → Rule
rule (production.Empty k) = Many k ⟶ []
rule (production.More k) = Many k ⟶ N (Many k) ∷ repeated k
rule (production.Absent k) = Opt k ⟶ []
rule (production.Present k) = Opt k ⟶ optional k
-- unit = { structdef | function | globals }
rule production.Static = External ⟶ w word.Static ∷ N (Opt production.Constant) ∷ N Spec ∷ N AfterType ∷ []
rule production.Const = External ⟶ w word.Const ∷ N Spec ∷ N AfterType ∷ []
rule production.Plain = External ⟶ N PlainSpec ∷ N AfterType ∷ []
rule production.Struct = External ⟶ w word.Struct ∷ T AnyName ∷ N AfterTag ∷ []
-- structdef = "struct" name [ "{" members { members } "}" ] ";"
rule production.StructName = AfterTag ⟶ m mark.Semicolon ∷ []
rule production.StructMembers =
    AfterTag ⟶ m mark.LBrace ∷ N Members ∷ N (Many production.MoreMembers) ∷ m mark.RBrace ∷ m mark.Semicolon ∷ []
-- members = ["const"] spec member { "," member } ";"
rule production.Members =
    Members ⟶ N (Opt production.Constant) ∷ N Spec ∷ N Member ∷ N (Many production.MoreMember) ∷ m mark.Semicolon ∷ []
-- member = {"*"} name { "[" cond "]" }
rule production.Member = Member ⟶ N (Many production.Stars) ∷ T AnyName ∷ N (Many production.Dimensions) ∷ []
-- function = ["static"] ["const"] spec {"*"} name "(" params ")" ( ";" | block )
-- globals = ["static"] locals
rule production.Declared = AfterType ⟶ N (Many production.Stars) ∷ T AnyName ∷ N AfterName ∷ []
rule production.Function = AfterName ⟶ m mark.LParen ∷ N (Opt production.Params) ∷ m mark.RParen ∷ N Body ∷ []
rule production.Globals =
    AfterName ⟶ N (Many production.OpenDimensions) ∷ N (Opt production.Initialiser) ∷ N (Many production.MoreDecls) ∷ m mark.Semicolon ∷ []
rule production.Prototype = Body ⟶ m mark.Semicolon ∷ []
-- locals = ["const"] spec decl { "," decl } ";"
rule production.Locals =
    Locals ⟶ N (Opt production.Constant) ∷ N Spec ∷ N Decl ∷ N (Many production.MoreDecls) ∷ m mark.Semicolon ∷ []
-- decl = {"*"} name { "[" [cond] "]" } [ "=" init ]
rule production.Decl =
    Decl ⟶ N (Many production.Stars) ∷ T AnyName ∷ N (Many production.OpenDimensions) ∷ N (Opt production.Initialiser) ∷ []
-- init = assign | "{" init { "," init } [","] "}"
rule production.InitList = Init ⟶ m mark.LBrace ∷ N InitItems ∷ m mark.RBrace ∷ []
rule production.InitFirst = InitEnded ⟶ N Init ∷ []
rule production.InitComma = InitOpen ⟶ N InitEnded ∷ m mark.Comma ∷ []
rule production.InitNext = InitEnded ⟶ N InitOpen ∷ N Init ∷ []
-- params = [ "void" | param { "," param } ]
-- param = ["const"] spec {"*"} [name] { "[" [cond] "]" }
rule production.Param =
    Param ⟶ N (Opt production.Constant) ∷ N Spec ∷ N (Many production.Stars) ∷ N (Opt production.ParamName) ∷ N (Many production.OpenDimensions) ∷ []
-- spec = "void" | "char" | "int" | "short" ["int"] | "struct" name
--      | ("signed"|"unsigned") [ "char" | "int" | "short" ["int"] ]
rule production.Void = PlainSpec ⟶ w word.Void ∷ []
rule production.Char = Base ⟶ w word.Char ∷ []
rule production.Int = Base ⟶ w word.Int ∷ []
rule production.Short = Base ⟶ w word.Short ∷ N (Opt production.ShortInt) ∷ []
rule production.StructTag = Spec ⟶ w word.Struct ∷ T AnyName ∷ []
rule production.Signed = PlainSpec ⟶ T SignKeyword ∷ N (Opt production.SignedBase) ∷ []
-- type = ["const"] spec {"*"} { "[" cond "]" }
rule production.TypeName =
    TypeName ⟶ N (Opt production.Constant) ∷ N Spec ∷ N (Many production.Stars) ∷ N (Many production.Dimensions) ∷ []
-- block = "{" { stmt | locals } "}"
rule production.Block = Block ⟶ m mark.LBrace ∷ N (Many production.Items) ∷ m mark.RBrace ∷ []
-- stmt = ";" | expr ";" | block | "if" "(" expr ")" stmt [ "else" stmt ]
--      | "while" "(" expr ")" stmt | "do" stmt "while" "(" expr ")" ";"
--      | "for" "(" ( locals | [expr] ";" ) [expr] ";" [expr] ")" stmt
--      | "break" ";" | "continue" ";" | "return" [expr] ";"
--      | "switch" "(" expr ")" "{" { group } "}"
rule production.Null = Stmt ⟶ m mark.Semicolon ∷ []
rule production.Expression = Stmt ⟶ N Expr ∷ m mark.Semicolon ∷ []
rule production.If = IfPart ⟶ w word.If ∷ m mark.LParen ∷ N Expr ∷ m mark.RParen ∷ N Stmt ∷ []
rule production.IfElse = Stmt ⟶ N IfPart ∷ w word.Else ∷ N Stmt ∷ []
rule production.While = Stmt ⟶ w word.While ∷ m mark.LParen ∷ N Expr ∷ m mark.RParen ∷ N Stmt ∷ []
rule production.DoWhile =
    Stmt ⟶ w word.Do ∷ N Stmt ∷ w word.While ∷ m mark.LParen ∷ N Expr ∷ m mark.RParen ∷ m mark.Semicolon ∷ []
rule production.For =
    Stmt ⟶ w word.For ∷ m mark.LParen ∷ N ForFirst ∷ N (Opt production.Clause) ∷ m mark.Semicolon ∷ N (Opt production.Clause) ∷ m mark.RParen ∷ N Stmt ∷ []
rule production.ForClause = ForFirst ⟶ N (Opt production.Clause) ∷ m mark.Semicolon ∷ []
rule production.Break = Stmt ⟶ w word.Break ∷ m mark.Semicolon ∷ []
rule production.Continue = Stmt ⟶ w word.Continue ∷ m mark.Semicolon ∷ []
rule production.Return = Stmt ⟶ w word.Return ∷ N (Opt production.Clause) ∷ m mark.Semicolon ∷ []
rule production.Switch =
    Stmt ⟶ w word.Switch ∷ m mark.LParen ∷ N Expr ∷ m mark.RParen ∷ m mark.LBrace ∷ N (Many production.Groups) ∷ m mark.RBrace ∷ []
-- group = label { label } stmt { stmt }
rule production.Group =
    Group ⟶ N GroupLabel ∷ N (Many production.MoreLabels) ∷ N Stmt ∷ N (Many production.MoreStmts) ∷ []
-- label = "case" cond ":" | "default" ":"
rule production.Case = GroupLabel ⟶ w word.Case ∷ N Cond ∷ m mark.Colon ∷ []
rule production.Default = GroupLabel ⟶ w word.Default ∷ m mark.Colon ∷ []
-- expr = assign { "," assign }
rule production.Expr = Expr ⟶ N Assign ∷ N (Many production.MoreAssigns) ∷ []
-- assign = cond | unary asop assign
rule production.Assignment = Assign ⟶ N Unary ∷ T AssignMark ∷ N Assign ∷ []
-- cond = binary [ "?" expr ":" cond ]
rule production.Conditional = Cond ⟶ N (Binary LogicalOr) ∷ m mark.Question ∷ N Expr ∷ m mark.Colon ∷ N Cond ∷ []
-- binary: operators of each level, left associative, over operands of the next tighter one, the tightest over casts
rule (production.Binary level) = Binary level ⟶ N (Binary level) ∷ T (BinaryMark level) ∷ N (tighter level) ∷ []
-- cast = "(" type ")" cast | unary
rule production.Cast = Cast ⟶ m mark.LParen ∷ N TypeName ∷ m mark.RParen ∷ N Cast ∷ []
-- unary = postfix | ("++"|"--") unary | ("&"|"*"|"+"|"-"|"~"|"!") cast
--       | "sizeof" unary | "sizeof" "(" type ")"
rule production.Increment = Unary ⟶ T IncDecMark ∷ N Unary ∷ []
rule production.Unary = Unary ⟶ T UnaryMark ∷ N Cast ∷ []
rule production.Sizeof = Unary ⟶ w word.Sizeof ∷ N SizeofOperand ∷ []
rule production.SizeofType = SizeofOperand ⟶ m mark.LParen ∷ N TypeName ∷ m mark.RParen ∷ []
-- postfix = primary { "[" expr "]" | "(" [assign {"," assign}] ")"
--         | "." name | "->" name | "++" | "--" }
rule production.Index = Postfix ⟶ N Postfix ∷ m mark.LBracket ∷ N Expr ∷ m mark.RBracket ∷ []
rule production.Call = Postfix ⟶ N Postfix ∷ m mark.LParen ∷ N (Opt production.Arguments) ∷ m mark.RParen ∷ []
rule production.Dot = Postfix ⟶ N Postfix ∷ m mark.Dot ∷ T AnyName ∷ []
rule production.Arrow = Postfix ⟶ N Postfix ∷ m mark.Arrow ∷ T AnyName ∷ []
rule production.PostIncrement = Postfix ⟶ N Postfix ∷ T IncDecMark ∷ []
-- primary = name | number | char | text {text} | "(" expr ")"
rule production.Name = Postfix ⟶ T AnyName ∷ []
rule production.Number = Postfix ⟶ T AnyNumber ∷ []
rule production.Character = Postfix ⟶ T AnyChar ∷ []
rule production.Text = Postfix ⟶ T AnyLiteral ∷ N (Many production.MoreLiterals) ∷ []
rule production.Paren = Postfix ⟶ m mark.LParen ∷ N Expr ∷ m mark.RParen ∷ []

unfoldable pub symbols_of : Production → List Symbol
symbols_of l = (rule l).symbols

-- whether a node of this production is a tree of the nonterminal
unfoldable pub allowed : Nonterminal → Production → Bool
allowed c l = includes c (rule l).of

-- ---- an `else` belongs to the nearest `if` that can take it

-- whether a tree ends with an `if` that an `else` after the tree would belong to
unfoldable pub waits : Tree → Bool
waits (Leaf x) = false
waits Nil = false
waits (Node production.If children) = true
waits (Node l children) = waits children
waits (Cons child Nil) = waits child
waits (Cons child children) = waits children

-- The statement between `if (..)` and `else` does not end so.
unfoldable pub else_fits : Production → Tree → Bool
else_fits production.IfElse (Cons (Node l children) rest) = not (waits children)
else_fits _ _ = true

-- ---- trees that follow the grammar

-- what a tree is to be: a node of a nonterminal, or children of a production
pub data Form : Type 0 where
  One : Nonterminal → Form
  All : List Symbol → Form

unfoldable pub Fits : Form → Tree → Type 0
Fits (One c) (Node l children) = (allowed c l ≡ true) × (else_fits l children ≡ true) × Fits (All (symbols_of l)) children
Fits (All []) Nil = Unit {0}
Fits (All (T s ∷ symbols)) (Cons (Leaf x) children) = (is s x.kind ≡ true) × Fits (All symbols) children
Fits (All (N c ∷ symbols)) (Cons child children) = Fits (One c) child × Fits (All symbols) children
Fits _ _ = ⊥
