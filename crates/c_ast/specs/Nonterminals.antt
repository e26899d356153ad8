-- The nonterminals of the grammar, and which of them are alternatives of which.
use Rattle.std.specs.Prelude.{ℕ, ◌+◌, Bool, ◌==◌, ◌&&◌, ◌||◌, nat_le}
use Rattle.c_ast.specs.Productions.{Level, Repeated, Optional}
use Rattle.c_ast.specs.Productions as production

pub data Nonterminal : Type 0 where
  -- any number of them; one or none
  Many : Repeated → Nonterminal
  Opt : Optional → Nonterminal
  -- unit
  External : Nonterminal
  -- what follows `struct name`; what follows the type; what follows the name; what follows the parameters
  AfterTag : Nonterminal
  AfterType : Nonterminal
  AfterName : Nonterminal
  Body : Nonterminal
  Members : Nonterminal
  Member : Nonterminal
  Locals : Nonterminal
  Decl : Nonterminal
  Init : Nonterminal
  -- the elements in braces, with or without a comma at their end; without; with
  InitItems : Nonterminal
  InitEnded : Nonterminal
  InitOpen : Nonterminal
  Param : Nonterminal
  -- spec; those that are no struct; those that may follow `signed`
  Spec : Nonterminal
  PlainSpec : Nonterminal
  Base : Nonterminal
  TypeName : Nonterminal
  Block : Nonterminal
  -- an item of a block: stmt or locals
  Item : Nonterminal
  Stmt : Nonterminal
  -- an `if` up to its `else`
  IfPart : Nonterminal
  -- what stands before the condition of a `for`
  ForFirst : Nonterminal
  Group : Nonterminal
  -- label
  GroupLabel : Nonterminal
  -- expressions
  Expr : Nonterminal
  Assign : Nonterminal
  Cond : Nonterminal
  Binary : Level → Nonterminal
  Cast : Nonterminal
  Unary : Nonterminal
  -- what follows `sizeof`
  SizeofOperand : Nonterminal
  Postfix : Nonterminal

-- ---- numbers for them

unfoldable pub level_number : Level → ℕ
level_number production.Multiplicative = 0
level_number production.Additive = 1
level_number production.Shift = 2
level_number production.Relational = 3
level_number production.Equality = 4
level_number production.BitAnd = 5
level_number production.BitXor = 6
level_number production.BitOr = 7
level_number production.LogicalAnd = 8
level_number production.LogicalOr = 9

unfoldable pub repeated_number : Repeated → ℕ
repeated_number production.Externals = 0
repeated_number production.MoreMembers = 1
repeated_number production.MoreMember = 2
repeated_number production.Stars = 3
repeated_number production.Dimensions = 4
repeated_number production.OpenDimensions = 5
repeated_number production.MoreDecls = 6
repeated_number production.MoreParams = 7
repeated_number production.Items = 8
repeated_number production.Groups = 9
repeated_number production.MoreLabels = 10
repeated_number production.MoreStmts = 11
repeated_number production.MoreAssigns = 12
repeated_number production.MoreLiterals = 13

unfoldable pub optional_number : Optional → ℕ
optional_number production.Constant = 0
optional_number production.ShortInt = 1
optional_number production.SignedBase = 2
optional_number production.Size = 3
optional_number production.Initialiser = 4
optional_number production.ParamName = 5
optional_number production.Params = 6
optional_number production.Clause = 7
optional_number production.Arguments = 8

-- The nonterminals of operands have the numbers 0 to 14, the tighter the less.
unfoldable pub nonterminal_number : Nonterminal → ℕ
nonterminal_number Postfix = 0
nonterminal_number Unary = 1
nonterminal_number Cast = 2
nonterminal_number (Binary level) = 3 + level_number level
nonterminal_number Cond = 13
nonterminal_number Assign = 14
nonterminal_number Expr = 15
nonterminal_number SizeofOperand = 16
nonterminal_number External = 17
nonterminal_number AfterTag = 18
nonterminal_number AfterType = 19
nonterminal_number AfterName = 20
nonterminal_number Body = 21
nonterminal_number Members = 22
nonterminal_number Member = 23
nonterminal_number Locals = 24
nonterminal_number Decl = 25
nonterminal_number Init = 26
nonterminal_number InitItems = 27
nonterminal_number InitEnded = 28
nonterminal_number InitOpen = 29
nonterminal_number Param = 30
nonterminal_number Spec = 31
nonterminal_number PlainSpec = 32
nonterminal_number Base = 33
nonterminal_number TypeName = 34
nonterminal_number Block = 35
nonterminal_number Item = 36
nonterminal_number Stmt = 37
nonterminal_number IfPart = 38
nonterminal_number ForFirst = 39
nonterminal_number Group = 40
nonterminal_number GroupLabel = 41
nonterminal_number (Many k) = 50 + repeated_number k
nonterminal_number (Opt k) = 70 + optional_number k

unfoldable pub same_nonterminal : Nonterminal → Nonterminal → Bool
same_nonterminal a b = nonterminal_number a == nonterminal_number b

-- whether each tree of the nonterminal b is one of the nonterminal a: alternatives that are nonterminals by themselves
unfoldable pub includes : Nonterminal → Nonterminal → Bool
includes AfterTag b = same_nonterminal AfterTag b || same_nonterminal AfterType b
includes Body b = same_nonterminal Body b || same_nonterminal Block b
includes Init b = same_nonterminal Init b || nat_le (nonterminal_number b) 14
includes InitItems b = same_nonterminal InitEnded b || same_nonterminal InitOpen b
includes Spec b = same_nonterminal Spec b || same_nonterminal PlainSpec b || same_nonterminal Base b
includes PlainSpec b = same_nonterminal PlainSpec b || same_nonterminal Base b
includes Item b = same_nonterminal Stmt b || same_nonterminal IfPart b || same_nonterminal Block b || same_nonterminal Locals b
includes Stmt b = same_nonterminal Stmt b || same_nonterminal IfPart b || same_nonterminal Block b
includes ForFirst b = same_nonterminal ForFirst b || same_nonterminal Locals b
includes SizeofOperand b = same_nonterminal SizeofOperand b || nat_le (nonterminal_number b) 1
includes a b = same_nonterminal a b || (nat_le (nonterminal_number b) (nonterminal_number a) && nat_le (nonterminal_number a) 14)
