-- The functions that a file defines have names.
use Rattle.std.proofs.Common.{◌≡◌, Bool, true, false, List, [], ◌∷◌, ◌++◌}
use Rattle.std.specs.List.{AllByRecursion}
use Rattle.std.specs.Prelude.{Option, None, Some, if◌then◌else◌}
use Rattle.c_lex.specs.declared.token.Token.{Token}
use Rattle.c_lex.specs.declared.token.TokenKind.{TokenKind}
use Rattle.c_lex.specs.declared.token.TokenKind.TheVariants as kind
use Rattle.c_ast.specs.Productions as l
use Rattle.c_ast.specs.Terminals as terminal
use Rattle.c_ast.specs.Grammar as grammar
use Rattle.c_ast.specs.Spelling.{spelled}
use Rattle.c_ast.specs.Tree.{Tree, Leaf, Node, Nil, Cons}
use Rattle.c_check_scope.specs.Scopes.{Name}
use Rattle.c_check_scope.specs.Names.{has_name}
use Rattle.c_check_def.specs.Leaves.{name_by, name_of}
use Rattle.c_check_def.specs.Check.{defined_after_type, defined_by, with_defined, defined_in}
use Rattle.c_check_laws.specs.NamesLaws.{IsName}
use Rattle.c_check_laws.proofs.NameTokens.{TokenIsNamed, AreNamed}

-- ---- the tokens of a tree

abbrev TreeIsNamed : Tree → Type 0
TreeIsNamed (Leaf x) = TokenIsNamed x.kind
TreeIsNamed (Node p children) = TreeIsNamed children
TreeIsNamed Nil = Unit {0}
TreeIsNamed (Cons t ts) = TreeIsNamed t × TreeIsNamed ts

spelled_tree : (t : Tree) (more : List Token) → AreNamed (spelled t more) → TreeIsNamed t × AreNamed more
unfolding spelled
spelled_tree (Leaf x) more h = (h.0, h.1)
spelled_tree (Node p children) more h = spelled_tree children more h
spelled_tree Nil more h = (tt, h)
spelled_tree (Cons t ts) more h =
    let a = spelled_tree t (spelled ts more) h in
    let b = spelled_tree ts more a.1 in
    ((a.0, b.0), b.1)

-- ---- what is declared has a name

abbrev DeclaredAreNamed : Tree → Type 0
DeclaredAreNamed (Node l.Declared (Cons stars (Cons name rest))) = IsName (name_of name)
DeclaredAreNamed (Node p children) = DeclaredAreNamed children
DeclaredAreNamed (Cons t ts) = DeclaredAreNamed t × DeclaredAreNamed ts
DeclaredAreNamed t = Unit {0}

name_is : (k : TokenKind) → terminal.is terminal.AnyName k ≡ true → TokenIsNamed k → IsName (name_by k)
unfolding terminal.is
name_is (kind.Name name) e h = h
name_is (kind.Keyword w) e h = absurd cc
name_is (kind.Number value unsigned) e h = absurd cc
name_is (kind.Char c) e h = absurd cc
name_is (kind.Text cs) e h = absurd cc
name_is (kind.Punct p) e h = absurd cc

declared_named : (f : grammar.Form) (t : Tree) → grammar.Fits f t → TreeIsNamed t → DeclaredAreNamed t
unfolding grammar.Fits grammar.symbols_of grammar.rule
declared_named (grammar.One c) (Node l.Declared (Cons stars (Cons (Leaf name) rest))) h k = name_is name.kind h.2.1.0 k.1.0
declared_named (grammar.One c) (Node l.Declared children) h k = absurd (assumption)
declared_named (grammar.One c) (Node p children) h k = declared_named (grammar.All (grammar.symbols_of p)) children h.2 k
declared_named (grammar.All []) Nil h k = tt
declared_named (grammar.All (grammar.T s ∷ ss)) (Cons (Leaf x) children) h k = (tt, declared_named (grammar.All ss) children h.1 k.1)
declared_named (grammar.All (grammar.N c ∷ ss)) (Cons t children) h k = (declared_named (grammar.One c) t h.0 k.0, declared_named (grammar.All ss) children h.1 k.1)
declared_named f t h k = absurd h

-- ---- what is defined

abbrev MaybeNamed : Option Name → Type 0
MaybeNamed None = Unit {0}
MaybeNamed (Some name) = IsName name

after_type_named : (t : Tree) → DeclaredAreNamed t → MaybeNamed (defined_after_type t)
after_type_named (Node l.Declared (Cons stars (Cons name (Cons (Node l.Function (Cons opening (Cons params (Cons closing (Cons (Node l.Block children) none))))) more)))) h = h
after_type_named t h = tt

defined_named : (t : Tree) → DeclaredAreNamed t → MaybeNamed (defined_by t)
defined_named (Node l.Static (Cons word (Cons qualifier (Cons specifier (Cons rest none))))) h = after_type_named rest h.1.1.1.0
defined_named (Node l.Const (Cons word (Cons specifier (Cons rest none)))) h = after_type_named rest h.1.1.0
defined_named (Node l.Plain (Cons specifier (Cons rest none))) h = after_type_named rest h.1.0
defined_named (Node l.Struct (Cons word (Cons tag (Cons rest none)))) h = after_type_named rest h.1.1.0
defined_named t h = tt

names_more : (names : List Name) (name : Name) → AllByRecursion IsName names → IsName name → AllByRecursion IsName (names ++ name ∷ [])
names_more [] name h k = (k, tt)
names_more (x ∷ names) name h k = (h.0, names_more names name h.1 k)

with_named : (names : List Name) (o : Option Name) → AllByRecursion IsName names → MaybeNamed o → AllByRecursion IsName (with_defined names o)
with_named names None h k = h
with_named names (Some name) h k = by (has_name names name)
  where
    by : (t : Bool) → AllByRecursion IsName (if t then names else names ++ name ∷ [])
    by true = h
    by false = names_more names name h k

all_named : (t : Tree) → DeclaredAreNamed t → AllByRecursion IsName (defined_in t)
all_named (Node (l.More k) (Cons before (Cons t none))) h = with_named (defined_in before) (defined_by t) (all_named before h.0) (defined_named t h.1.0)
all_named t h = tt

pub defined_names : (f : grammar.Form) (t : Tree) → grammar.Fits f t → AreNamed (spelled t []) → AllByRecursion IsName (defined_in t)
defined_names f t h k = all_named t (declared_named f t h (spelled_tree t [] k).0)
