-- How the spelling of a tree begins.
use Rattle.std.specs.Prelude.{◌≡◌, ◌⊎◌, Bool, true, false, ◌&&◌, List, [], ◌∷◌, ◌++◌}
use Rattle.std.proofs.Common.{refl, sym, ap, ◌∙◌, inl, inr, append_assoc}
use Rattle.std.proofs.lemmas.Bool.{and_from, or_left, or_right}
use Rattle.c_lex.specs.declared.token.Token.{Token}
use Rattle.c_lex.specs.declared.token.TokenKind.{TokenKind}
use Rattle.c_ast.specs.Nonterminals.{Nonterminal}
use Rattle.c_ast.specs.Productions.{Production}
use Rattle.c_ast.specs.Terminals.{Terminal, is}
use Rattle.c_ast.specs.Tree.{Tree, Leaf, Node, Nil, Cons}
use Rattle.c_ast.specs.Spelling.{spelled}
use Rattle.c_ast.specs.Grammar.{Symbol, T, N, Form, One, All, Fits, symbols_of, allowed}
use Rattle.c_ast.proofs.lemmas.Spelling.{spelled_append}
use Rattle.c_ast.proofs.Follow.{is_nullable, all_nullable, begins, ahead}
use Rattle.c_ast.proofs.Bridges.{first_is, nonempty_is}

unfoldable pub begins_form : Form → TokenKind → Bool
begins_form (One c) k = begins c k
begins_form (All symbols) k = ahead symbols k

unfoldable pub empty_form : Form → Bool
empty_form (One c) = is_nullable c
empty_form (All symbols) = all_nullable symbols

-- It is empty, or begins with a token of these.
unfoldable pub Opens : (TokenKind → Bool) → Bool → Tree → Type 0
Opens p e t =
    ((e ≡ true) × ((j : List Token) → spelled t j ≡ j)) ⊎ ((x : Token) × (s : List Token) × (p x.kind ≡ true) × ((j : List Token) → spelled t j ≡ x ∷ (s ++ j)))

decided : (b : Bool) → (b ≡ false → ⊥) → b ≡ true
decided true h = refl
decided false h = absurd (h refl)

node_opens : (c : Nonterminal) (l : Production) (f : Tree) → allowed c l ≡ true → Opens (ahead (symbols_of l)) (all_nullable (symbols_of l)) f → Opens (begins c) (is_nullable c) (Node l f)
unfolding Opens spelled
node_opens c l f a (inl h) = inl (decided (is_nullable c) (λ e. cc (nonempty_is c l e a, h.0)), h.1)
node_opens c l f a (inr h) = inr (h.0, h.1, first_is c l h.0.kind a h.2, h.3)

cons_opens : (c : Nonterminal) (symbols : List Symbol) (t f : Tree) → Opens (begins c) (is_nullable c) t → Opens (ahead symbols) (all_nullable symbols) f →
    Opens (ahead (N c ∷ symbols)) (all_nullable (N c ∷ symbols)) (Cons t f)
unfolding Opens spelled ahead all_nullable
cons_opens c symbols t f (inr h) g = inr (
  h.0,
  h.1 ++ spelled f [],
  or_left (begins c h.0.kind) (is_nullable c && ahead symbols h.0.kind) h.2,
  λ j. ap (spelled t) (spelled_append f j) ∙ h.3 (spelled f [] ++ j) ∙ ap (λ z. h.0 ∷ z) (sym (append_assoc h.1 (spelled f []) j)),
)
cons_opens c symbols t f (inl h) (inl g) = inl (and_from (is_nullable c) (all_nullable symbols) h.0 g.0, λ j. h.1 (spelled f j) ∙ g.1 j)
cons_opens c symbols t f (inl h) (inr g) = inr (
  g.0,
  g.1,
  or_right (begins c g.0.kind) (is_nullable c && ahead symbols g.0.kind) (and_from (is_nullable c) (ahead symbols g.0.kind) h.0 g.2),
  λ j. h.1 (spelled f j) ∙ g.3 j,
)

nil_opens : Opens (ahead []) (all_nullable []) Nil
unfolding Opens spelled ahead all_nullable
nil_opens = inl (refl, λ j. refl)

leaf_opens : (s : Terminal) (symbols : List Symbol) (x : Token) (f : Tree) → is s x.kind ≡ true → Opens (ahead (T s ∷ symbols)) (all_nullable (T s ∷ symbols)) (Cons (Leaf x) f)
unfolding Opens spelled ahead all_nullable
leaf_opens s symbols x f h = inr (x, spelled f [], h, λ j. ap (λ z. x ∷ z) (spelled_append f j))

pub opens : (t : Tree) (form : Form) → Fits form t → Opens (begins_form form) (empty_form form) t
unfolding Fits begins_form empty_form
opens (Node l f) (One c) h = node_opens c l f h.0 (opens f (All (symbols_of l)) h.2)
opens Nil (All []) h = nil_opens
opens (Cons (Leaf x) f) (All (T s ∷ symbols)) h = leaf_opens s symbols x f h.0
opens (Cons t f) (All (N c ∷ symbols)) h = cons_opens c symbols t f (opens t (One c) h.0) (opens f (All symbols) h.1)
opens t (One c) h = absurd h
opens t (All []) h = absurd h
opens t (All (T s ∷ symbols)) h = absurd h
opens t (All (N c ∷ symbols)) h = absurd h
