-- What the tokens of a tree say.
use Rattle.std.specs.Prelude.{ℕ, suc, Bool, true, false, List, [], Option, unwrap_or}
use Rattle.c_lex.specs.declared.punct.Punct.{Punct}
use Rattle.c_lex.specs.declared.punct.Punct.TheVariants.{Semicolon}
use Rattle.c_lex.specs.declared.token.TokenKind.{TokenKind}
use Rattle.c_lex.specs.declared.token.TokenKind.TheVariants as kind
use Rattle.c_check_scope.specs.Scopes.{Name}
use Rattle.c_ast.specs.declared.operator.Selection.{Selection}
use Rattle.c_ast.specs.declared.operator.IncDec.{IncDec}
use Rattle.c_ast.specs.declared.operator.UnaryOp.{UnaryOp}
use Rattle.c_ast.specs.declared.operator.BinaryOp.{BinaryOp}
use Rattle.c_ast.specs.declared.operator.AssignOp.{AssignOp}
use Rattle.c_ast.specs.Operators.{selection_of, inc_dec_of, unary_of, binary_of, assign_of}
use Rattle.c_ast.specs.Productions as l
use Rattle.c_ast.specs.Tree.{Tree, Leaf, Node, Cons}
use Rattle.c_ast.specs.Spelling.{start_of}

-- where a token stands
abbrev pub offset_of : Tree → ℕ
offset_of (Leaf x) = x.at
offset_of t = 0

-- where a token ends
abbrev pub end_of : Tree → ℕ
end_of (Leaf x) = x.end
end_of t = 0

-- where the first token of a tree stands
abbrev pub begin_of : Tree → ℕ
begin_of t = unwrap_or (start_of t) 0

abbrev pub name_by : TokenKind → Name
name_by (kind.Name name) = name
name_by k = []

abbrev pub name_of : Tree → Name
name_of (Leaf x) = name_by x.kind
name_of t = []

abbrev pub punct_by : TokenKind → Punct
punct_by (kind.Punct p) = p
punct_by k = Semicolon

abbrev punct_of : Tree → Punct
punct_of (Leaf x) = punct_by x.kind
punct_of t = Semicolon

-- the operator of each kind, where the token is one
abbrev pub selection_op_of : Tree → Option Selection
selection_op_of t = selection_of (punct_of t)

abbrev pub inc_dec_op_of : Tree → Option IncDec
inc_dec_op_of t = inc_dec_of (punct_of t)

abbrev pub unary_op_of : Tree → Option UnaryOp
unary_op_of t = unary_of (punct_of t)

abbrev pub binary_op_of : Tree → Option BinaryOp
binary_op_of t = binary_of (punct_of t)

abbrev pub assign_op_of : Tree → Option AssignOp
assign_op_of t = assign_of (punct_of t)

-- the characters of string literals
abbrev pub characters_by : TokenKind → List ℕ
characters_by (kind.Text cs) = cs
characters_by k = []

abbrev pub characters_of : Tree → List ℕ
characters_of (Leaf x) = characters_by x.kind
characters_of t = []

-- ---- repetitions and options

-- how often something stands
abbrev pub count_of : Tree → ℕ
count_of (Node (l.More k) (Cons before more)) = suc (count_of before)
count_of t = 0

-- whether something stands
abbrev pub is_present : Tree → Bool
is_present (Node (l.Present k) children) = true
is_present t = false
