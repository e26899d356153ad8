-- Trees that follow the grammar, by their children.
use Rattle.std.specs.Prelude.{◌≡◌, ◌⊎◌, true, false, List, [], ◌∷◌, Option, Some, None}
use Rattle.std.proofs.Common.{refl, inl, inr}
use Rattle.std.proofs.lemmas.Bool.{not-true, not_from_false}
use Rattle.c_lex.specs.declared.token.Token.{Token}
use Rattle.c_lex.specs.declared.token.TokenKind.{TokenKind}
use Rattle.c_ast.specs.Nonterminals.{Nonterminal}
use Rattle.c_ast.specs.Productions.{Production}
use Rattle.c_ast.specs.Productions as production
use Rattle.c_ast.specs.Terminals.{Terminal, is}
use Rattle.c_ast.specs.Tree.{Tree, Leaf, Node, Nil, Cons}
use Rattle.c_ast.specs.Spelling.{spelled}
use Rattle.c_ast.specs.Grammar.{Symbol, T, N, One, All, Fits, symbols_of, rule, allowed, waits, else_fits}
use Rattle.c_ast.specs.PredictSets.{at}
use Rattle.c_ast.proofs.Follow.{is_suffix, rest_of, ahead, is_else}

-- ---- an `if` at the end

pub waits_node : (l : Production) (f : Tree) → (l ≡ production.If → ⊥) → waits (Node l f) ≡ waits f
unfolding waits
waits_node production.If f n = absurd (n refl)
waits_node l f n = refl

pub waits_if : (f : Tree) → waits (Node production.If f) ≡ true
unfolding waits
waits_if f = refl

pub waits_cons : (t f : Tree) → waits t ≡ false → waits f ≡ false → waits (Cons t f) ≡ false
unfolding waits
waits_cons t Nil h g = h
waits_cons t f h g = g

-- the last of several children
pub waits_last : (s : Symbol) (symbols : List Symbol) (t f : Tree) → Fits (All (s ∷ symbols)) f → waits (Cons t f) ≡ waits f
unfolding waits Fits
waits_last (T s) symbols t Nil h = absurd h
waits_last (N c) symbols t Nil h = absurd h
waits_last s symbols t (Leaf x) h = refl
waits_last s symbols t (Node l f) h = refl
waits_last s symbols t (Cons u f) h = refl

pub waits_alone : (t : Tree) → waits (Cons t Nil) ≡ waits t
unfolding waits
waits_alone t = refl

pub waits_leaf : (x : Token) → waits (Leaf x) ≡ false
unfolding waits
waits_leaf x = refl

pub waits_nil : waits Nil ≡ false
unfolding waits
waits_nil = refl

pub else_fits_other : (l : Production) (f : Tree) → (l ≡ production.IfElse → ⊥) → else_fits l f ≡ true
unfolding else_fits
else_fits_other production.IfElse f n = absurd (n refl)
else_fits_other l f n = refl

pub else_fits_if : (l : Production) (f g : Tree) → waits f ≡ false → else_fits production.IfElse (Cons (Node l f) g) ≡ true
unfolding else_fits
else_fits_if l f g h = not_from_false (waits f) h

pub else_fits_quiet : (l : Production) (f g : Tree) → else_fits production.IfElse (Cons (Node l f) g) ≡ true → waits f ≡ false
unfolding else_fits
else_fits_quiet l f g h = not-true (waits f) h

-- the decision whether a production is that of an `if` with `else`
pub is_if_else : (l : Production) → (l ≡ production.IfElse) ⊎ (l ≡ production.IfElse → ⊥)
is_if_else production.IfElse = inl refl
is_if_else l = inr (λ e. cc e)

pub is_if : (l : Production) → (l ≡ production.If) ⊎ (l ≡ production.If → ⊥)
is_if production.If = inl refl
is_if l = inr (λ e. cc e)

pub prefix_if_else : (l : Production) → is_suffix l ≡ false → l ≡ production.IfElse → ⊥
unfolding is_suffix
prefix_if_else production.IfElse s e = cc s
prefix_if_else l s e = cc e

-- ---- what fits

pub fits_node : (c : Nonterminal) (l : Production) (f : Tree) → allowed c l ≡ true → else_fits l f ≡ true → Fits (All (symbols_of l)) f → Fits (One c) (Node l f)
unfolding Fits
fits_node c l f a e h = (a, e, h)

pub fits_allowed : (c : Nonterminal) (l : Production) (f : Tree) → Fits (One c) (Node l f) → allowed c l ≡ true
unfolding Fits
fits_allowed c l f h = h.0

pub fits_else : (c : Nonterminal) (l : Production) (f : Tree) → Fits (One c) (Node l f) → else_fits l f ≡ true
unfolding Fits
fits_else c l f h = h.1

pub fits_parts : (c : Nonterminal) (l : Production) (f : Tree) → Fits (One c) (Node l f) → Fits (All (symbols_of l)) f
unfolding Fits
fits_parts c l f h = h.2

pub fits_nil : Fits (All []) Nil
unfolding Fits
fits_nil = tt

pub fits_leaf : (s : Terminal) (symbols : List Symbol) (x : Token) (f : Tree) → is s x.kind ≡ true → Fits (All symbols) f → Fits (All (T s ∷ symbols)) (Cons (Leaf x) f)
unfolding Fits
fits_leaf s symbols x f i h = (i, h)

pub fits_cons : (c : Nonterminal) (symbols : List Symbol) (t f : Tree) → Fits (One c) t → Fits (All symbols) f → Fits (All (N c ∷ symbols)) (Cons t f)
unfolding Fits
fits_cons c symbols t f g h = (g, h)

-- ---- what is spelled

pub spelled_leaf : (x : Token) (k : List Token) → spelled (Leaf x) k ≡ x ∷ k
unfolding spelled
spelled_leaf x k = refl

pub spelled_node : (l : Production) (f : Tree) (k : List Token) → spelled (Node l f) k ≡ spelled f k
unfolding spelled
spelled_node l f k = refl

pub spelled_cons : (t f : Tree) (k : List Token) → spelled (Cons t f) k ≡ spelled t (spelled f k)
unfolding spelled
spelled_cons t f k = refl

-- the token after an `if` with which it goes on
pub else_ahead : (h : Option TokenKind) → at (ahead (rest_of production.IfElse)) h ≡ is_else h
unfolding rest_of is_suffix symbols_of rule ahead
else_ahead None = refl
else_ahead (Some k) = refl

-- ---- what the children of a production are

pub nil_is : (f : Tree) → Fits (All []) f → f ≡ Nil
unfolding Fits
nil_is Nil h = refl
nil_is (Leaf x) h = absurd h
nil_is (Node l f) h = absurd h
nil_is (Cons t f) h = absurd h

pub record LeafFirst (s : Terminal) (symbols : List Symbol) (f : Tree) : Type 0 where
  pub token : Token
  pub others : Tree
  pub is_so : Cons (Leaf token) others ≡ f
  pub stands_for : is s token.kind ≡ true
  pub fits : Fits (All symbols) others

pub leaf_is : (s : Terminal) (symbols : List Symbol) (f : Tree) → Fits (All (T s ∷ symbols)) f → LeafFirst s symbols f
unfolding Fits
leaf_is s symbols (Cons (Leaf x) f) h = record { token = x; others = f; is_so = refl; stands_for = h.0; fits = h.1 }
leaf_is s symbols (Cons Nil f) h = absurd h
leaf_is s symbols (Cons (Node l g) f) h = absurd h
leaf_is s symbols (Cons (Cons t g) f) h = absurd h
leaf_is s symbols (Leaf x) h = absurd h
leaf_is s symbols (Node l f) h = absurd h
leaf_is s symbols Nil h = absurd h

pub record NodeOf (c : Nonterminal) (t : Tree) : Type 0 where
  pub production : Production
  pub children : Tree
  pub is_so : Node production children ≡ t
  pub fits : Fits (One c) (Node production children)

pub node_is : (c : Nonterminal) (t : Tree) → Fits (One c) t → NodeOf c t
unfolding Fits
node_is c (Node l f) h = record { production = l; children = f; is_so = refl; fits = h }
node_is c (Leaf x) h = absurd h
node_is c Nil h = absurd h
node_is c (Cons t f) h = absurd h

pub cons_not_nil : (s : Symbol) (symbols : List Symbol) → Fits (All (s ∷ symbols)) Nil → ⊥
unfolding Fits
cons_not_nil (T s) symbols h = h
cons_not_nil (N c) symbols h = h

pub cons_not_empty : (t f : Tree) → Fits (All []) (Cons t f) → ⊥
unfolding Fits
cons_not_empty t f h = h

pub not_leaf : (symbols : List Symbol) (x : Token) → Fits (All symbols) (Leaf x) → ⊥
unfolding Fits
not_leaf [] x h = h
not_leaf (T s ∷ symbols) x h = h
not_leaf (N c ∷ symbols) x h = h

pub not_node : (symbols : List Symbol) (l : Production) (f : Tree) → Fits (All symbols) (Node l f) → ⊥
unfolding Fits
not_node [] l f h = h
not_node (T s ∷ symbols) l f h = h
not_node (N c ∷ symbols) l f h = h
