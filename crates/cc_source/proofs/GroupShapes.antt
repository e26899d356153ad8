-- A group has a token: that of its first label.
use Rattle.std.proofs.Common.{◌≡◌, ◌≤◌, ℕ, suc, ◌+◌, true, List, [], ◌∷◌, length, arith}
use Rattle.std.proofs.lemmas.Bool.Decides.{nat_tests}
use Rattle.c_lex.specs.declared.token.Token.{Token}
use Rattle.c_ast.specs.Productions as l
use Rattle.c_ast.specs.Nonterminals as class
use Rattle.c_ast.specs.Tree.{Tree, Leaf, Node, Nil, Cons}
use Rattle.c_ast.specs.Grammar as grammar
use Rattle.c_ast.specs.Spelling.{spelled}
use Rattle.c_check_laws.proofs.lemmas.ExpressionShapes.{level_small}

-- how many groups stand in a tree
abbrev pub groups_in : Tree → ℕ
groups_in (Node l.Group children) = suc (groups_in children)
groups_in (Node p children) = groups_in children
groups_in (Cons t ts) = groups_in t + groups_in ts
groups_in t = 0

label_number : (b : class.Nonterminal) → class.includes class.GroupLabel b ≡ true → class.nonterminal_number b ≡ 41
unfolding class.includes class.same_nonterminal class.nonterminal_number
label_number b e = grind (arith, nat_tests, e)

mutual
  unfolding grammar.Fits grammar.allowed grammar.symbols_of grammar.rule class.nonterminal_number spelled

  label_few : (t : Tree) → grammar.Fits (grammar.One class.GroupLabel) t → (more : List Token) → suc (groups_in t + length more) ≤ length (spelled t more)
  label_few (Node l.Case (Cons (Leaf word) (Cons value (Cons (Leaf colon) Nil)))) h more =
      let a = groups_few (grammar.One class.Cond) value h.2.1.0 (colon ∷ more) in
      omega (arith, a)
  label_few (Node l.Default (Cons (Leaf word) (Cons (Leaf colon) Nil))) h more = omega arith
  label_few (Node l.Case children) h more = absurd (assumption)
  label_few (Node l.Default children) h more = absurd (assumption)
  label_few (Node (l.Binary level) children) h more = absurd (omega (arith, label_number (class.Binary level) h.0, level_small level))
  label_few (Node p children) h more = absurd (omega (arith, label_number (grammar.rule p).of h.0))
  label_few t h more = absurd h

  pub groups_few : (f : grammar.Form) (t : Tree) → grammar.Fits f t → (more : List Token) → groups_in t + length more ≤ length (spelled t more)
  groups_few (grammar.One c) (Node l.Group (Cons first rest)) h more =
      let a = groups_few (grammar.All (grammar.N (class.Many l.MoreLabels) ∷ grammar.N class.Stmt ∷ grammar.N (class.Many l.MoreStmts) ∷ [])) rest h.2.1 more in
      let b = label_few first h.2.0 (spelled rest more) in
      omega (arith, a, b)
  groups_few (grammar.One c) (Node l.Group children) h more = absurd (assumption)
  groups_few (grammar.One c) (Node p children) h more = groups_few (grammar.All (grammar.symbols_of p)) children h.2 more
  groups_few (grammar.All []) Nil h more = omega arith
  groups_few (grammar.All (grammar.T s ∷ ss)) (Cons (Leaf x) children) h more = let a = groups_few (grammar.All ss) children h.1 more in omega (arith, a)
  groups_few (grammar.All (grammar.N c ∷ ss)) (Cons t children) h more =
      let a = groups_few (grammar.All ss) children h.1 more in
      let b = groups_few (grammar.One c) t h.0 (spelled children more) in
      omega (arith, a, b)
  groups_few f t h more = absurd h
