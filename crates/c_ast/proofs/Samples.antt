-- A tree of each nonterminal.
use Rattle.std.specs.Prelude.{◌≡◌, ℕ, Bool, true, false, ◌==◌, ◌&&◌, List, [], ◌∷◌}
use Rattle.std.specs.List.{list_all}
use Rattle.std.proofs.Common.{refl, eq-eqb}
use Rattle.std.proofs.lemmas.Bool.{and_parts}
use Rattle.c_lex.specs.declared.keyword.Keyword.TheVariants as word
use Rattle.c_lex.specs.declared.punct.Punct.TheVariants as mark
use Rattle.c_lex.specs.declared.token.Token.{Token}
use Rattle.c_lex.specs.declared.token.TokenKind.{TokenKind}
use Rattle.c_lex.specs.declared.token.TokenKind.TheVariants as kind
use Rattle.c_ast.specs.Nonterminals.{Nonterminal, Many, Opt, External, AfterTag, AfterType, AfterName, Body, Members, Member, Locals, Decl, InitItems, InitEnded, InitOpen, Param, Spec, PlainSpec, Base, TypeName, Block, Item, Stmt, IfPart, ForFirst, Group, GroupLabel, Expr, includes, nonterminal_number, level_number, repeated_number, optional_number, same_nonterminal}
use Rattle.c_ast.specs.Productions.{Level}
use Rattle.c_ast.specs.Productions as production
use Rattle.c_ast.specs.Terminals.{Terminal, AnyName, AnyNumber, AnyChar, AnyLiteral, ThisKeyword, Mark, SignKeyword, AssignMark, BinaryMark, UnaryMark, IncDecMark, is, keyword_number, mark_number, is_of_level, operator_level, is_assign_mark, is_unary_mark, is_inc_dec_mark}
use Rattle.c_ast.specs.Tree.{Tree, Leaf, Node, Nil, Cons}
use Rattle.c_ast.specs.Grammar.{Symbol, T, N, Form, One, All, Fits, rule, symbols_of, allowed, waits, else_fits, repeated, optional, tighter}
use Rattle.c_ast.proofs.lemmas.CheckedLists.{all_in, conj3}
use Rattle.c_ast.proofs.Enumerations.{nonterminals, nonterminal_in}
use Rattle.c_ast.proofs.Trees.{fits_nil, fits_leaf, fits_cons}

-- ---- the same as a test

unfoldable pub fitting : Form → Tree → Bool
fitting (One c) (Node l f) = allowed c l && else_fits l f && fitting (All (symbols_of l)) f
fitting (All []) Nil = true
fitting (All (T s ∷ symbols)) (Cons (Leaf x) f) = is s x.kind && fitting (All symbols) f
fitting (All (N c ∷ symbols)) (Cons t f) = fitting (One c) t && fitting (All symbols) f
fitting _ _ = false

fitting-true : (t : Tree) (form : Form) → fitting form t ≡ true → Fits form t
unfolding fitting Fits
fitting-true (Node l f) (One c) h =
    let g = conj3 (allowed c l) (else_fits l f) (fitting (All (symbols_of l)) f) h in
    (g.0, g.1, fitting-true f (All (symbols_of l)) g.2)
fitting-true Nil (All []) h = tt
fitting-true (Cons (Leaf x) f) (All (T s ∷ symbols)) h =
    ((and_parts (is s x.kind) (fitting (All symbols) f) h).0, fitting-true f (All symbols) (and_parts (is s x.kind) (fitting (All symbols) f) h).1)
fitting-true (Cons t f) (All (N c ∷ symbols)) h =
    (fitting-true t (One c) (and_parts (fitting (One c) t) (fitting (All symbols) f) h).0, fitting-true f (All symbols) (and_parts (fitting (One c) t) (fitting (All symbols) f) h).1)
fitting-true t (One c) h = absurd (cc h)
fitting-true t (All []) h = absurd (cc h)
fitting-true t (All (T s ∷ symbols)) h = absurd (cc h)
fitting-true t (All (N c ∷ symbols)) h = absurd (cc h)

-- ---- tokens

abbrev pub some_operator : Level → TokenKind
some_operator production.Multiplicative = kind.Punct mark.Star
some_operator production.Additive = kind.Punct mark.Plus
some_operator production.Shift = kind.Punct mark.ShiftLeft
some_operator production.Relational = kind.Punct mark.Less
some_operator production.Equality = kind.Punct mark.EqualEqual
some_operator production.BitAnd = kind.Punct mark.Amp
some_operator production.BitXor = kind.Punct mark.Caret
some_operator production.BitOr = kind.Punct mark.Pipe
some_operator production.LogicalAnd = kind.Punct mark.AmpAmp
some_operator production.LogicalOr = kind.Punct mark.PipePipe

abbrev pub some_kind : Terminal → TokenKind
some_kind AnyName = kind.Name []
some_kind AnyNumber = kind.Number 0 false
some_kind AnyChar = kind.Char 0
some_kind AnyLiteral = kind.Text []
some_kind (ThisKeyword w) = kind.Keyword w
some_kind (Mark m) = kind.Punct m
some_kind SignKeyword = kind.Keyword word.Signed
some_kind AssignMark = kind.Punct mark.Equal
some_kind (BinaryMark level) = some_operator level
some_kind UnaryMark = kind.Punct mark.Minus
some_kind IncDecMark = kind.Punct mark.PlusPlus

operator_is : (level : Level) → is (BinaryMark level) (some_operator level) ≡ true
unfolding is is_of_level operator_level level_number
operator_is production.Multiplicative = refl
operator_is level = refl

same_number : (n : ℕ) → (n == n) ≡ true
same_number n = eq-eqb n n refl

pub some_is : (s : Terminal) → is s (some_kind s) ≡ true
unfolding is is_assign_mark is_unary_mark is_inc_dec_mark keyword_number
some_is (ThisKeyword w) = same_number (keyword_number w)
some_is (Mark m) = same_number (mark_number m)
some_is (BinaryMark level) = operator_is level
some_is s = refl

abbrev pub some_token : Terminal → Token
some_token s = record { kind = some_kind s; at = 0; end = 0 }

-- ---- trees

abbrev pub leaf : Terminal → Tree
leaf s = Leaf (some_token s)

abbrev pub row : List Tree → Tree
row [] = Nil
row (t ∷ ts) = Cons t (row ts)

abbrev pub some_expr : Tree
some_expr = Node production.Name (row (leaf AnyName ∷ []))

abbrev pub some_spec : Tree
some_spec = Node production.Int (row (leaf (ThisKeyword word.Int) ∷ []))

abbrev pub semicolon : Tree
semicolon = leaf (Mark mark.Semicolon)

abbrev pub some_names : Tree
some_names =
    Node production.Globals (row (Node (production.Empty production.OpenDimensions) Nil ∷ Node (production.Absent production.Initialiser) Nil ∷ Node (production.Empty production.MoreDecls) Nil ∷
    semicolon ∷ []))

abbrev pub some_list : Tree
some_list = Node production.InitFirst (row (some_expr ∷ []))

abbrev pub some_whole : Tree
some_whole = Node production.Expr (row (some_expr ∷ Node (production.Empty production.MoreAssigns) Nil ∷ []))

abbrev pub some_stmt : Tree
some_stmt = Node production.Null (row (semicolon ∷ []))

abbrev pub some_production : Tree
some_production = Node production.Default (row (leaf (ThisKeyword word.Default) ∷ leaf (Mark mark.Colon) ∷ []))

abbrev pub some_member : Tree
some_member =
    Node production.Member (row (Node (production.Empty production.Stars) Nil ∷ leaf AnyName ∷ Node (production.Empty production.Dimensions) Nil ∷ []))

abbrev pub some_decl : Tree
some_decl =
    Node production.Decl (row (Node (production.Empty production.Stars) Nil ∷ leaf AnyName ∷ Node (production.Empty production.OpenDimensions) Nil ∷
    Node (production.Absent production.Initialiser) Nil ∷ []))

unfoldable pub some_tree : Nonterminal → Tree
some_tree (Many k) = Node (production.Empty k) Nil
some_tree (Opt k) = Node (production.Absent k) Nil
some_tree External =
    Node production.Struct (row (leaf (ThisKeyword word.Struct) ∷ leaf AnyName ∷ Node production.StructName (row (semicolon ∷ [])) ∷ []))
some_tree AfterTag = Node production.StructName (row (semicolon ∷ []))
some_tree AfterType = Node production.Declared (row (Node (production.Empty production.Stars) Nil ∷ leaf AnyName ∷ some_names ∷ []))
some_tree AfterName = some_names
some_tree Body = Node production.Prototype (row (semicolon ∷ []))
some_tree Members =
    Node production.Members (row (Node (production.Absent production.Constant) Nil ∷ some_spec ∷ some_member ∷ Node (production.Empty production.MoreMember) Nil ∷ semicolon ∷ []))
some_tree Member = some_member
some_tree Locals =
    Node production.Locals (row (Node (production.Absent production.Constant) Nil ∷ some_spec ∷ some_decl ∷ Node (production.Empty production.MoreDecls) Nil ∷ semicolon ∷ []))
some_tree Decl = some_decl
some_tree InitItems = some_list
some_tree InitEnded = some_list
some_tree InitOpen = Node production.InitComma (row (some_list ∷ leaf (Mark mark.Comma) ∷ []))
some_tree Param =
    Node production.Param (row (Node (production.Absent production.Constant) Nil ∷ some_spec ∷ Node (production.Empty production.Stars) Nil ∷ Node (production.Absent production.ParamName) Nil ∷
    Node (production.Empty production.OpenDimensions) Nil ∷ []))
some_tree Spec = some_spec
some_tree PlainSpec = some_spec
some_tree Base = some_spec
some_tree TypeName =
    Node production.TypeName (row (Node (production.Absent production.Constant) Nil ∷ some_spec ∷ Node (production.Empty production.Stars) Nil ∷ Node (production.Empty production.Dimensions) Nil ∷
    []))
some_tree Block =
    Node production.Block (row (leaf (Mark mark.LBrace) ∷ Node (production.Empty production.Items) Nil ∷ leaf (Mark mark.RBrace) ∷ []))
some_tree Item = some_stmt
some_tree Stmt = some_stmt
some_tree IfPart =
    Node production.If (row (leaf (ThisKeyword word.If) ∷ leaf (Mark mark.LParen) ∷ some_whole ∷ leaf (Mark mark.RParen) ∷ some_stmt ∷ []))
some_tree ForFirst = Node production.ForClause (row (Node (production.Absent production.Clause) Nil ∷ semicolon ∷ []))
some_tree Group =
    Node production.Group (row (some_production ∷ Node (production.Empty production.MoreLabels) Nil ∷ some_stmt ∷ Node (production.Empty production.MoreStmts) Nil ∷ []))
some_tree GroupLabel = some_production
some_tree Expr = some_whole
some_tree _ = some_expr

trees_checked : list_all (λ c. fitting (One c) (some_tree c)) nonterminals ≡ true
unfolding fitting some_tree rule symbols_of allowed includes nonterminal_number level_number repeated_number optional_number same_nonterminal repeated optional tighter is keyword_number
    mark_number is_of_level operator_level is_assign_mark is_unary_mark is_inc_dec_mark waits else_fits
trees_checked = refl

-- it is one of the nonterminal
pub some_fits : (c : Nonterminal) → Fits (One c) (some_tree c)
some_fits c = fitting-true (some_tree c) (One c) (all_in (λ c. fitting (One c) (some_tree c)) c nonterminals (nonterminal_in c) trees_checked)

-- ---- sequences

unfoldable pub some_row : List Symbol → Tree
some_row [] = Nil
some_row (T s ∷ symbols) = Cons (leaf s) (some_row symbols)
some_row (N c ∷ symbols) = Cons (some_tree c) (some_row symbols)

pub some_row_fits : (symbols : List Symbol) → Fits (All symbols) (some_row symbols)
unfolding some_row
some_row_fits [] = fits_nil
some_row_fits (T s ∷ symbols) = fits_leaf s symbols (some_token s) (some_row symbols) (some_is s) (some_row_fits symbols)
some_row_fits (N c ∷ symbols) = fits_cons c symbols (some_tree c) (some_row symbols) (some_fits c) (some_row_fits symbols)
