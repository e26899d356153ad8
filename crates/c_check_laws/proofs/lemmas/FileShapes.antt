-- What the grammar says of files.
use Rattle.std.proofs.Common.{◌≡◌, ◌≤◌, ◌+◌, true, List, [], ◌∷◌, length, arith}
use Rattle.std.proofs.lemmas.Bool.Decides.{nat_tests}
use Rattle.c_lex.specs.declared.token.Token.{Token}
use Rattle.c_ast.specs.Productions as l
use Rattle.c_ast.specs.Nonterminals as class
use Rattle.c_ast.specs.Tree.{Tree, Leaf, Node, Nil, Cons}
use Rattle.c_ast.specs.Grammar as grammar
use Rattle.c_ast.specs.Spelling.{spelled}
use Rattle.c_check_laws.proofs.lemmas.ExpressionShapes.{level_small}
use Rattle.c_check_laws.proofs.lemmas.GoesLocals.{declarations}
use Rattle.c_check_laws.proofs.lemmas.Structs.{HasFirst}
use Rattle.c_check_laws.proofs.lemmas.FunctionMoved.{IsBody}
use Rattle.c_check_laws.proofs.lemmas.FileSteps.{FileShaped}

is_body : (t : Tree) → grammar.Fits (grammar.One class.Body) t → IsBody t
unfolding grammar.Fits grammar.symbols_of grammar.rule
is_body (Node l.Block (Cons opening (Cons xs (Cons closing none)))) h = tt
is_body (Node l.Block (Cons (Leaf opening) children)) h = absurd (assumption)
is_body (Node l.Block children) h = absurd (assumption)
is_body t h = tt

members_number : (b : class.Nonterminal) → class.includes class.Members b ≡ true → class.nonterminal_number b ≡ 22
unfolding class.includes class.same_nonterminal class.nonterminal_number
members_number b e = grind (arith, nat_tests, e)

member_number : (b : class.Nonterminal) → class.includes class.Member b ≡ true → class.nonterminal_number b ≡ 23
unfolding class.includes class.same_nonterminal class.nonterminal_number
member_number b e = grind (arith, nat_tests, e)

-- a member of a list
abbrev IsMember : Tree → Type 0
IsMember (Node l.Member (Cons stars (Cons name (Cons bounds none)))) = Unit {0}
IsMember t = ⊥

is_member : (t : Tree) → grammar.Fits (grammar.One class.Member) t → IsMember t
unfolding grammar.Fits grammar.allowed grammar.symbols_of grammar.rule class.nonterminal_number
is_member (Node l.Member (Cons stars (Cons name (Cons bounds none)))) h = tt
is_member (Node l.Member (Cons stars (Cons (Leaf name) children))) h = absurd (assumption)
is_member (Node l.Member children) h = absurd (assumption)
is_member (Node (l.Binary level) children) h = absurd (omega (arith, member_number (class.Binary level) h.0, level_small level))
is_member (Node p children) h = absurd (omega (arith, member_number (grammar.rule p).of h.0))
is_member t h = absurd h

first_is : (qualifier specifier first more rest : Tree) → IsMember first → HasFirst (Node l.Members (Cons qualifier (Cons specifier (Cons first (Cons more rest)))))
first_is qualifier specifier (Node l.Member (Cons stars (Cons name (Cons bounds none)))) more rest h = tt
first_is qualifier specifier first more rest h = absurd h

has_first : (t : Tree) → grammar.Fits (grammar.One class.Members) t → HasFirst t
unfolding grammar.Fits grammar.allowed grammar.symbols_of grammar.rule class.nonterminal_number
has_first (Node l.Members (Cons qualifier (Cons specifier (Cons first (Cons more rest))))) h = first_is qualifier specifier first more rest (is_member first h.2.1.1.0)
has_first (Node l.Members children) h = absurd (assumption)
has_first (Node (l.Binary level) children) h = absurd (omega (arith, members_number (class.Binary level) h.0, level_small level))
has_first (Node p children) h = absurd (omega (arith, members_number (grammar.rule p).of h.0))
has_first t h = absurd h

pub file_shaped : (f : grammar.Form) (t : Tree) → grammar.Fits f t → FileShaped t
unfolding grammar.Fits grammar.symbols_of grammar.rule
file_shaped (grammar.One c) (Node l.Function (Cons (Leaf opening) (Cons xs (Cons (Leaf closing) (Cons body none))))) h = is_body body h.2.1.1.1.0
file_shaped (grammar.One c) (Node l.Function (Cons opening (Cons xs (Cons closing (Cons body none))))) h = absurd (assumption)
file_shaped (grammar.One c) (Node l.StructMembers (Cons (Leaf opening) (Cons first (Cons more none)))) h = has_first first h.2.1.0
file_shaped (grammar.One c) (Node l.StructMembers (Cons opening (Cons first (Cons more none)))) h = absurd (assumption)
file_shaped (grammar.One c) (Node p children) h = file_shaped (grammar.All (grammar.symbols_of p)) children h.2
file_shaped (grammar.All []) Nil h = tt
file_shaped (grammar.All (grammar.T s ∷ ss)) (Cons (Leaf x) children) h = (tt, file_shaped (grammar.All ss) children h.1)
file_shaped (grammar.All (grammar.N c ∷ ss)) (Cons t children) h = (file_shaped (grammar.One c) t h.0, file_shaped (grammar.All ss) children h.1)
file_shaped f t h = absurd h

-- ---- a declaration has a token

pub spelled_more : (t : Tree) (more : List Token) → length more ≤ length (spelled t more)
unfolding spelled
spelled_more (Leaf x) more = omega arith
spelled_more (Node p children) more = spelled_more children more
spelled_more Nil more = omega arith
spelled_more (Cons t ts) more = let a = spelled_more ts more in let b = spelled_more t (spelled ts more) in omega (arith, a, b)

pub declarations_few : (f : grammar.Form) (t : Tree) → grammar.Fits f t → (more : List Token) → declarations t + length more ≤ length (spelled t more)
unfolding grammar.Fits grammar.symbols_of grammar.rule spelled
declarations_few (grammar.One c) (Node l.Decl (Cons stars (Cons (Leaf name) rest))) h more =
    let a = spelled_more rest more in
    let b = spelled_more stars (name ∷ spelled rest more) in
    omega (arith, a, b)
declarations_few (grammar.One c) (Node l.Decl children) h more = absurd (assumption)
declarations_few (grammar.One c) (Node p children) h more = declarations_few (grammar.All (grammar.symbols_of p)) children h.2 more
declarations_few (grammar.All []) Nil h more = omega arith
declarations_few (grammar.All (grammar.T s ∷ ss)) (Cons (Leaf x) children) h more = let a = declarations_few (grammar.All ss) children h.1 more in omega (arith, a)
declarations_few (grammar.All (grammar.N c ∷ ss)) (Cons t children) h more =
    let a = declarations_few (grammar.All ss) children h.1 more in
    let b = declarations_few (grammar.One c) t h.0 (spelled children more) in
    omega (arith, a, b)
declarations_few f t h more = absurd h
