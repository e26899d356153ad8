-- Trees of expressions, by the grammar.
use Rattle.std.proofs.Common.{◌≡◌, ◌≤◌, ◌⊎◌, inl, inr, Bool, true, false, refl, arith}
use Rattle.std.specs.Prelude.{◌==◌}
use Rattle.std.proofs.lemmas.Bool.Decides.{nat_tests}
use Rattle.c_ast.specs.Productions as l
use Rattle.c_ast.specs.Nonterminals as class
use Rattle.c_ast.specs.Tree.{Tree, Node, Cons}
use Rattle.c_ast.specs.Grammar as grammar
use Rattle.c_check_def.specs.Initialisers.{count_in}

-- the productions of expressions without commas
abbrev pub is_expression : l.Production → Bool
is_expression l.Name = true
is_expression l.Number = true
is_expression l.Character = true
is_expression l.Text = true
is_expression l.Paren = true
is_expression l.Index = true
is_expression l.Call = true
is_expression l.Dot = true
is_expression l.Arrow = true
is_expression l.PostIncrement = true
is_expression l.Increment = true
is_expression l.Unary = true
is_expression l.Sizeof = true
is_expression l.Cast = true
is_expression (l.Binary level) = true
is_expression l.Conditional = true
is_expression l.Assignment = true
is_expression p = false

-- a node of an expression, whose children follow the grammar
abbrev pub IsExpression : Tree → Type 0
IsExpression (Node p children) = (is_expression p ≡ true) × grammar.Fits (grammar.All (grammar.symbols_of p)) children
IsExpression t = ⊥

pub small_production : (p : l.Production) → class.nonterminal_number (grammar.rule p).of ≤ 14 → is_expression p ≡ true
unfolding grammar.rule class.nonterminal_number class.level_number class.repeated_number class.optional_number
small_production l.Name h = refl
small_production l.Number h = refl
small_production l.Character h = refl
small_production l.Text h = refl
small_production l.Paren h = refl
small_production l.Index h = refl
small_production l.Call h = refl
small_production l.Dot h = refl
small_production l.Arrow h = refl
small_production l.PostIncrement h = refl
small_production l.Increment h = refl
small_production l.Unary h = refl
small_production l.Sizeof h = refl
small_production l.Cast h = refl
small_production (l.Binary level) h = refl
small_production l.Conditional h = refl
small_production l.Assignment h = refl
small_production p h = absurd (omega (arith, h))

includes_small : (c b : class.Nonterminal) → class.nonterminal_number c ≤ 14 → class.includes c b ≡ true → class.nonterminal_number b ≤ 14
unfolding class.includes class.same_nonterminal class.nonterminal_number class.level_number class.repeated_number class.optional_number
includes_small class.Postfix b h e = grind (arith, nat_tests, e)
includes_small class.Unary b h e = grind (arith, nat_tests, e)
includes_small class.Cast b h e = grind (arith, nat_tests, e)
includes_small (class.Binary level) b h e = grind (arith, nat_tests, e, h)
includes_small class.Cond b h e = grind (arith, nat_tests, e)
includes_small class.Assign b h e = grind (arith, nat_tests, e)
includes_small c b h e = absurd (omega (arith, h))

-- A tree of a nonterminal of operands is an expression.
pub operand_is_expression : (c : class.Nonterminal) (t : Tree) → class.nonterminal_number c ≤ 14 → grammar.Fits (grammar.One c) t → IsExpression t
unfolding grammar.Fits grammar.allowed
operand_is_expression c (Node p children) h f = (small_production p (includes_small c (grammar.rule p).of h f.0), f.2)
operand_is_expression c t h f = absurd f

-- ---- the nonterminals of operands

pub postfix_small : class.nonterminal_number class.Postfix ≤ 14
unfolding class.nonterminal_number
postfix_small = omega arith

pub unary_small : class.nonterminal_number class.Unary ≤ 14
unfolding class.nonterminal_number
unary_small = omega arith

pub cast_small : class.nonterminal_number class.Cast ≤ 14
unfolding class.nonterminal_number
cast_small = omega arith

pub cond_small : class.nonterminal_number class.Cond ≤ 14
unfolding class.nonterminal_number
cond_small = omega arith

pub assign_small : class.nonterminal_number class.Assign ≤ 14
unfolding class.nonterminal_number
assign_small = omega arith

pub binary_small : (level : l.Level) → class.nonterminal_number (class.Binary level) ≤ 14
unfolding class.nonterminal_number class.level_number
binary_small l.Multiplicative = omega arith
binary_small l.Additive = omega arith
binary_small l.Shift = omega arith
binary_small l.Relational = omega arith
binary_small l.Equality = omega arith
binary_small l.BitAnd = omega arith
binary_small l.BitXor = omega arith
binary_small l.BitOr = omega arith
binary_small l.LogicalAnd = omega arith
binary_small l.LogicalOr = omega arith

pub tighter_small : (level : l.Level) → class.nonterminal_number (grammar.tighter level) ≤ 14
unfolding class.nonterminal_number class.level_number grammar.tighter
tighter_small l.Multiplicative = omega arith
tighter_small l.Additive = omega arith
tighter_small l.Shift = omega arith
tighter_small l.Relational = omega arith
tighter_small l.Equality = omega arith
tighter_small l.BitAnd = omega arith
tighter_small l.BitXor = omega arith
tighter_small l.BitOr = omega arith
tighter_small l.LogicalAnd = omega arith
tighter_small l.LogicalOr = omega arith

-- ---- other nonterminals

pub level_small : (level : l.Level) → class.level_number level ≤ 9
unfolding class.level_number
level_small l.Multiplicative = omega arith
level_small l.Additive = omega arith
level_small l.Shift = omega arith
level_small l.Relational = omega arith
level_small l.Equality = omega arith
level_small l.BitAnd = omega arith
level_small l.BitXor = omega arith
level_small l.BitOr = omega arith
level_small l.LogicalAnd = omega arith
level_small l.LogicalOr = omega arith

repeated_small : (k : l.Repeated) → class.repeated_number k ≤ 13
unfolding class.repeated_number
repeated_small l.Externals = omega arith
repeated_small l.MoreMembers = omega arith
repeated_small l.MoreMember = omega arith
repeated_small l.Stars = omega arith
repeated_small l.Dimensions = omega arith
repeated_small l.OpenDimensions = omega arith
repeated_small l.MoreDecls = omega arith
repeated_small l.MoreParams = omega arith
repeated_small l.Items = omega arith
repeated_small l.Groups = omega arith
repeated_small l.MoreLabels = omega arith
repeated_small l.MoreStmts = omega arith
repeated_small l.MoreAssigns = omega arith
repeated_small l.MoreLiterals = omega arith

-- such a nonterminal has no alternatives but itself
expr_number : (b : class.Nonterminal) → class.includes class.Expr b ≡ true → class.nonterminal_number b ≡ 15
unfolding class.includes class.same_nonterminal class.nonterminal_number
expr_number b e = grind (arith, nat_tests, e)

arguments_number : (b : class.Nonterminal) → class.includes (class.Opt l.Arguments) b ≡ true → class.nonterminal_number b ≡ 78
unfolding class.includes class.same_nonterminal class.nonterminal_number class.optional_number
arguments_number b e = grind (arith, nat_tests, e)

assigns_number : (b : class.Nonterminal) → class.includes (class.Many l.MoreAssigns) b ≡ true → class.nonterminal_number b ≡ 62
unfolding class.includes class.same_nonterminal class.nonterminal_number class.repeated_number
assigns_number b e = grind (arith, nat_tests, e)

-- an expression with commas
abbrev pub IsExpressions : Tree → Type 0
IsExpressions (Node l.Expr children) = grammar.Fits (grammar.All (grammar.symbols_of l.Expr)) children
IsExpressions t = ⊥

pub is_expressions : (t : Tree) → grammar.Fits (grammar.One class.Expr) t → IsExpressions t
unfolding grammar.Fits grammar.allowed grammar.rule class.nonterminal_number
is_expressions (Node l.Expr children) f = f.2
is_expressions (Node (l.Binary level) children) f = absurd (omega (arith, expr_number (class.Binary level) f.0, level_small level))
is_expressions (Node p children) f = absurd (omega (arith, expr_number (grammar.rule p).of f.0))
is_expressions t f = absurd f

-- the arguments of a call
abbrev pub AreArguments : Tree → Type 0
AreArguments (Node (l.Present l.Arguments) children) = grammar.Fits (grammar.All (grammar.symbols_of (l.Present l.Arguments))) children
AreArguments (Node (l.Absent k) children) = Unit {0}
AreArguments t = ⊥

pub are_arguments : (t : Tree) → grammar.Fits (grammar.One (class.Opt l.Arguments)) t → AreArguments t
unfolding grammar.Fits grammar.allowed grammar.rule class.nonterminal_number class.optional_number
are_arguments (Node (l.Present l.Arguments) children) f = f.2
are_arguments (Node (l.Present k) children) f = absurd (omega (arith, arguments_number (class.Opt k) f.0))
are_arguments (Node (l.Absent k) children) f = tt
are_arguments (Node (l.Binary level) children) f = absurd (omega (arith, arguments_number (class.Binary level) f.0, level_small level))
are_arguments (Node (l.Empty k) children) f = absurd (omega (arith, arguments_number (class.Many k) f.0, repeated_small k))
are_arguments (Node (l.More k) children) f = absurd (omega (arith, arguments_number (class.Many k) f.0, repeated_small k))
are_arguments (Node p children) f = absurd (omega (arith, arguments_number (grammar.rule p).of f.0))
are_arguments t f = absurd f

-- more of them, each after a comma
abbrev pub AreMoreAssigns : Tree → Type 0
AreMoreAssigns (Node (l.More l.MoreAssigns) children) = grammar.Fits (grammar.All (grammar.symbols_of (l.More l.MoreAssigns))) children
AreMoreAssigns (Node (l.Empty k) children) = Unit {0}
AreMoreAssigns t = ⊥

pub are_more_assigns : (t : Tree) → grammar.Fits (grammar.One (class.Many l.MoreAssigns)) t → AreMoreAssigns t
unfolding grammar.Fits grammar.allowed grammar.rule class.nonterminal_number class.repeated_number
are_more_assigns (Node (l.More l.MoreAssigns) children) f = f.2
are_more_assigns (Node (l.More k) children) f = absurd (omega (arith, assigns_number (class.Many k) f.0))
are_more_assigns (Node (l.Empty k) children) f = tt
are_more_assigns (Node (l.Binary level) children) f = absurd (omega (arith, assigns_number (class.Binary level) f.0, level_small level))
are_more_assigns (Node p children) f = absurd (omega (arith, assigns_number (grammar.rule p).of f.0))
are_more_assigns t f = absurd f

-- a type name
type_number : (b : class.Nonterminal) → class.includes class.TypeName b ≡ true → class.nonterminal_number b ≡ 34
unfolding class.includes class.same_nonterminal class.nonterminal_number
type_number b e = grind (arith, nat_tests, e)

abbrev pub IsTypeName : Tree → Type 0
IsTypeName (Node l.TypeName children) = grammar.Fits (grammar.All (grammar.symbols_of l.TypeName)) children
IsTypeName t = ⊥

pub is_type_name : (t : Tree) → grammar.Fits (grammar.One class.TypeName) t → IsTypeName t
unfolding grammar.Fits grammar.allowed grammar.rule class.nonterminal_number
is_type_name (Node l.TypeName children) f = f.2
is_type_name (Node (l.Binary level) children) f = absurd (omega (arith, type_number (class.Binary level) f.0, level_small level))
is_type_name (Node p children) f = absurd (omega (arith, type_number (grammar.rule p).of f.0))
is_type_name t f = absurd f

-- what follows `sizeof`: a type name in parentheses, or an expression
sizeof_number : (b : class.Nonterminal) → class.includes class.SizeofOperand b ≡ true → (class.nonterminal_number b ≡ 16) ⊎ (class.nonterminal_number b ≤ 14)
unfolding class.includes class.same_nonterminal class.nonterminal_number
sizeof_number b e = by_test (class.nonterminal_number b == 16) refl
  where
    by_test : (t : Bool) → (class.nonterminal_number b == 16) ≡ t → (class.nonterminal_number b ≡ 16) ⊎ (class.nonterminal_number b ≤ 14)
    by_test true q = inl (grind (arith, nat_tests, q))
    by_test false q = inr (grind (arith, nat_tests, e, q))

sizeof_alone : (p : l.Production) → class.nonterminal_number (grammar.rule p).of ≡ 16 → p ≡ l.SizeofType
unfolding grammar.rule class.nonterminal_number class.level_number
sizeof_alone l.SizeofType h = refl
sizeof_alone (l.Binary level) h = absurd (binary_number level h)
  where
    binary_number : (level : l.Level) → class.nonterminal_number (class.Binary level) ≡ 16 → ⊥
    binary_number level h = omega (arith, h, level_small level)
sizeof_alone p h = absurd (omega (arith, h))

abbrev IsSizeofOperand : Tree → Type 0
IsSizeofOperand (Node l.SizeofType children) = grammar.Fits (grammar.All (grammar.symbols_of l.SizeofType)) children
IsSizeofOperand t = IsExpression t

pub is_sizeof_operand : (t : Tree) → grammar.Fits (grammar.One class.SizeofOperand) t → IsSizeofOperand t
unfolding grammar.Fits grammar.allowed
is_sizeof_operand (Node l.SizeofType children) f = f.2
is_sizeof_operand (Node p children) f = (by_number (sizeof_number (grammar.rule p).of f.0), f.2)
  where
    by_number : (class.nonterminal_number (grammar.rule p).of ≡ 16) ⊎ (class.nonterminal_number (grammar.rule p).of ≤ 14) → is_expression p ≡ true
    by_number (inr h) = small_production p h
    by_number (inl h) = absurd (let e = sizeof_alone p h in cc)
is_sizeof_operand t f = absurd f

-- ---- lists of initialisers

ended_number : (b : class.Nonterminal) → class.includes class.InitEnded b ≡ true → class.nonterminal_number b ≡ 28
unfolding class.includes class.same_nonterminal class.nonterminal_number
ended_number b e = grind (arith, nat_tests, e)

items_number : (b : class.Nonterminal) → class.includes class.InitItems b ≡ true → (class.nonterminal_number b ≡ 28) ⊎ (class.nonterminal_number b ≡ 29)
unfolding class.includes class.same_nonterminal class.nonterminal_number
items_number b e = by_test (class.nonterminal_number b == 28) refl
  where
    by_test : (t : Bool) → (class.nonterminal_number b == 28) ≡ t → (class.nonterminal_number b ≡ 28) ⊎ (class.nonterminal_number b ≡ 29)
    by_test true q = inl (grind (arith, nat_tests, q))
    by_test false q = inr (grind (arith, nat_tests, e, q))

count_ended : (t : Tree) → grammar.Fits (grammar.One class.InitEnded) t → 1 ≤ count_in t
unfolding grammar.Fits grammar.allowed grammar.symbols_of grammar.rule class.nonterminal_number
count_ended (Node l.InitFirst children) f = omega arith
count_ended (Node l.InitNext (Cons before more)) f = omega arith
count_ended (Node l.InitNext children) f = absurd (assumption)
count_ended (Node (l.Binary level) children) f = absurd (omega (arith, ended_number (class.Binary level) f.0, level_small level))
count_ended (Node p children) f = absurd (omega (arith, ended_number (grammar.rule p).of f.0))
count_ended t f = absurd f

-- a list has an element
pub count_positive : (t : Tree) → grammar.Fits (grammar.One class.InitItems) t → 1 ≤ count_in t
unfolding grammar.Fits grammar.allowed grammar.symbols_of grammar.rule class.nonterminal_number
count_positive (Node l.InitFirst children) f = omega arith
count_positive (Node l.InitNext (Cons before more)) f = omega arith
count_positive (Node l.InitNext children) f = absurd (assumption)
count_positive (Node l.InitComma (Cons before more)) f = count_ended before f.2.0
count_positive (Node l.InitComma children) f = absurd (assumption)
count_positive (Node (l.Binary level) children) f = absurd (by_number (items_number (class.Binary level) f.0))
  where
    by_number : (class.nonterminal_number (class.Binary level) ≡ 28) ⊎ (class.nonterminal_number (class.Binary level) ≡ 29) → ⊥
    by_number (inl e) = omega (arith, e, level_small level)
    by_number (inr e) = omega (arith, e, level_small level)
count_positive (Node p children) f = absurd (by_number (items_number (grammar.rule p).of f.0))
  where
    by_number : (class.nonterminal_number (grammar.rule p).of ≡ 28) ⊎ (class.nonterminal_number (grammar.rule p).of ≡ 29) → ⊥
    by_number (inl e) = omega (arith, e)
    by_number (inr e) = omega (arith, e)
count_positive t f = absurd f
