-- What the grammar says of trees that the checker goes on.
use Rattle.std.proofs.Common.{◌≡◌, ◌≤◌, ◌⊎◌, inl, inr, Bool, true, false, List, [], ◌∷◌, refl, arith}
use Rattle.std.specs.Prelude.{◌==◌, All}
use Rattle.std.proofs.lemmas.Bool.Decides.{nat_tests}
use Rattle.std.proofs.lemmas.Bool.{false≢true}
use Rattle.std.proofs.lemmas.List.Elements.{All-head, All-tail}
use Rattle.c_lex.specs.declared.token.Token.{Token}
use Rattle.c_ast.specs.Productions as l
use Rattle.c_ast.specs.Nonterminals as class
use Rattle.c_ast.specs.Tree.{Tree, Leaf, Node, Nil, Cons}
use Rattle.c_ast.specs.Grammar as grammar
use Rattle.c_ast.specs.Spelling.{spelled, kinds, spell}
use Rattle.c_check_def.specs.CheckLaws.{IsInRange}
use Rattle.c_check_laws.proofs.lemmas.Terms.{InRange}
use Rattle.c_check_laws.proofs.lemmas.ExpressionShapes.{is_expression, small_production, level_small, count_positive}
use Rattle.c_check_laws.proofs.lemmas.StatementSteps.{StatementsOnly, IsInitialiser, MayBegin, WellShaped}

-- ---- tokens in range

spelled_range : (t : Tree) (more : List Token) → All IsInRange (kinds (spelled t more)) → InRange t × All IsInRange (kinds more)
unfolding spelled
spelled_range (Leaf x) more h = (All-head IsInRange x.kind (kinds more) h, All-tail IsInRange x.kind (kinds more) h)
spelled_range (Node p children) more h = spelled_range children more h
spelled_range Nil more h = (tt, h)
spelled_range (Cons t ts) more h =
    let a = spelled_range t (spelled ts more) h in
    let b = spelled_range ts more a.1 in
    ((a.0, b.0), b.1)

pub in_range : (t : Tree) → All IsInRange (spell t) → InRange t
in_range t h = (spelled_range t [] h).0

-- ---- statements in groups

statement_alone : (t : Tree) → grammar.Fits (grammar.One class.Stmt) t → (before more : Tree) (k : l.Repeated) → StatementsOnly before → StatementsOnly (Node (l.More k) (Cons before (Cons t more)))
unfolding grammar.Fits grammar.allowed grammar.rule class.includes class.same_nonterminal class.nonterminal_number class.level_number class.repeated_number
    class.optional_number
statement_alone (Node l.Locals children) h before more k o = absurd (false≢true h.0)
statement_alone t h before more k o = o

statements_only : (t : Tree) → grammar.Fits (grammar.One (class.Many l.MoreStmts)) t → StatementsOnly t
unfolding grammar.Fits grammar.allowed grammar.symbols_of grammar.rule grammar.repeated class.includes class.same_nonterminal class.nonterminal_number class.level_number class.repeated_number
    class.optional_number
statements_only (Node (l.More l.MoreStmts) (Cons before (Cons t more))) h = statement_alone t h.2.1.0 before more l.MoreStmts (statements_only before h.2.0)
statements_only (Node (l.More l.MoreStmts) children) h = tt
statements_only (Node (l.More k) children) h = absurd (false≢true h.0)
statements_only t h = tt

expression_class : (b : class.Nonterminal) → class.includes class.Init b ≡ true → (class.nonterminal_number b ≡ 26) ⊎ (class.nonterminal_number b ≤ 14)
unfolding class.includes class.same_nonterminal class.nonterminal_number
expression_class b e = by_test (class.nonterminal_number b == 26) refl
  where
    by_test : (t : Bool) → (class.nonterminal_number b == 26) ≡ t → (class.nonterminal_number b ≡ 26) ⊎ (class.nonterminal_number b ≤ 14)
    by_test true q = inl (grind (arith, nat_tests, q))
    by_test false q = inr (grind (arith, nat_tests, e, q))

list_alone : (p : l.Production) → class.nonterminal_number (grammar.rule p).of ≡ 26 → p ≡ l.InitList
unfolding grammar.rule class.nonterminal_number class.level_number
list_alone l.InitList h = refl
list_alone (l.Binary level) h = absurd (omega (arith, h, level_small level))
list_alone p h = absurd (omega (arith, h))

is_initialiser : (t : Tree) → grammar.Fits (grammar.One class.Init) t → IsInitialiser t
unfolding grammar.Fits grammar.allowed grammar.symbols_of grammar.rule
is_initialiser (Node l.InitList (Cons (Leaf opening) (Cons items closing))) h = count_positive items h.2.1.0
is_initialiser (Node l.InitList children) h = absurd (assumption)
is_initialiser (Node p children) h = (by_number (expression_class (grammar.rule p).of h.0), h.2)
  where
    by_number : (class.nonterminal_number (grammar.rule p).of ≡ 26) ⊎ (class.nonterminal_number (grammar.rule p).of ≤ 14) → is_expression p ≡ true
    by_number (inr h) = small_production p h
    by_number (inl h) = absurd (let e = list_alone p h in cc)
is_initialiser t h = absurd h

initialiser_number : (b : class.Nonterminal) → class.includes (class.Opt l.Initialiser) b ≡ true → class.nonterminal_number b ≡ 74
unfolding class.includes class.same_nonterminal class.nonterminal_number class.optional_number
initialiser_number b e = grind (arith, nat_tests, e)

may_begin : (t : Tree) → grammar.Fits (grammar.One (class.Opt l.Initialiser)) t → MayBegin t
unfolding grammar.Fits grammar.allowed grammar.symbols_of grammar.rule grammar.optional class.nonterminal_number class.optional_number
may_begin (Node (l.Present l.Initialiser) (Cons (Leaf equal) (Cons x none))) h = is_initialiser x h.2.1.0
may_begin (Node (l.Present l.Initialiser) children) h = absurd (assumption)
may_begin (Node (l.Present k) children) h = absurd (omega (arith, initialiser_number (class.Opt k) h.0))
may_begin t h = tt

pub well_shaped : (f : grammar.Form) (t : Tree) → grammar.Fits f t → WellShaped t
unfolding grammar.Fits grammar.symbols_of grammar.rule
well_shaped (grammar.One c) (Node l.Group (Cons first (Cons more (Cons t (Cons ts none))))) h = (
  statements_only ts h.2.1.1.1.0,
  well_shaped (grammar.One class.Stmt) t h.2.1.1.0,
  well_shaped (grammar.One (class.Many l.MoreStmts)) ts h.2.1.1.1.0,
)
well_shaped (grammar.One c) (Node l.Decl (Cons stars (Cons (Leaf name) (Cons bounds (Cons begun none))))) h = may_begin begun h.2.1.1.1.0
well_shaped (grammar.One c) (Node l.Decl (Cons stars (Cons name (Cons bounds (Cons begun none))))) h = absurd (assumption)
well_shaped (grammar.One c) (Node l.Globals (Cons bounds (Cons begun (Cons more none)))) h = (may_begin begun h.2.1.0, well_shaped (grammar.One (class.Many l.MoreDecls)) more h.2.1.1.0)
well_shaped (grammar.One c) (Node p children) h = well_shaped (grammar.All (grammar.symbols_of p)) children h.2
well_shaped (grammar.All []) Nil h = tt
well_shaped (grammar.All (grammar.T s ∷ ss)) (Cons (Leaf x) children) h = (tt, well_shaped (grammar.All ss) children h.1)
well_shaped (grammar.All (grammar.N c ∷ ss)) (Cons t children) h = (well_shaped (grammar.One c) t h.0, well_shaped (grammar.All ss) children h.1)
well_shaped f t h = absurd h
