-- Globals stand in the order of the tokens: what a step that reads a tree keeps.
use Rattle.std.proofs.Common.{◌≡◌, ◌≤◌, ◌<◌, ℕ, ◌+◌, zero, suc, List, [], ◌∷◌, ◌++◌, map, refl, sym, ap, subst, arith}
use Rattle.std.specs.Prelude.{slice_get, slice_index, Option, None, Some}
use Rattle.std.specs.List.Sorted.{IsStrictlyIncreasing}
use Rattle.c_lex.specs.declared.token.Token.{Token}
use Rattle.c_ast.specs.Productions as l
use Rattle.c_ast.specs.Productions.{Production}
use Rattle.c_ast.specs.Nonterminals as class
use Rattle.c_ast.specs.Grammar as grammar
use Rattle.c_ast.specs.Spelling.{spelled}
use Rattle.c_ast.specs.Tree.{Tree, Leaf, Node, Nil, Cons}
use Rattle.c_check_def.specs.State.{Global, State, changed_by, changed}

-- ---- numbers that increase

-- each number is at least this one, and below the next
abbrev pub IncreasesFrom : ℕ → List ℕ → Type 0
IncreasesFrom n [] = Unit {0}
IncreasesFrom n (x ∷ xs) = (n ≤ x) × IncreasesFrom (suc x) xs

pub from_less : (n m : ℕ) (xs : List ℕ) → n ≤ m → IncreasesFrom m xs → IncreasesFrom n xs
from_less n m [] le h = tt
from_less n m (x ∷ xs) le h = let first = h.0 in (omega (arith, le, first), h.1)

left_out : (n : ℕ) (xs : List ℕ) (x : ℕ) (ys : List ℕ) → IncreasesFrom n (xs ++ x ∷ ys) → IncreasesFrom n (xs ++ ys)
left_out n [] x ys h = let first = h.0 in from_less n (suc x) ys (omega (arith, first)) h.1
left_out n (y ∷ xs) x ys h = (h.0, left_out (suc y) xs x ys h.1)

pub increasing : (n : ℕ) (xs : List ℕ) → IncreasesFrom n xs → IsStrictlyIncreasing xs
increasing n [] h k within = absurd (omega (arith, within))
increasing n (x ∷ []) h k within = absurd (omega (arith, within))
increasing n (x ∷ y ∷ xs) h zero within = let next = h.1.0 in omega (arith, next)
increasing n (x ∷ y ∷ xs) h (suc k) within =
    subst (λ m. slice_index (y ∷ xs) k < slice_index (x ∷ y ∷ xs) m) {x = suc (k + 1)} {y = suc k + 1} (omega arith) (increasing (suc x) (y ∷ xs) h.1 k (omega (arith, within)))

-- ---- the globals so far, and the tokens to come

abbrev pub places : List Global → List ℕ
places gs = map (λ (g : Global). g.offset) gs

abbrev pub offsets : List Token → List ℕ
offsets ts = map (λ (x : Token). x.at) ts

-- The globals stand in order, and before the tokens to come.
pub record InOrder (s : State) (rest : List Token) : Type 0 where
  pub increases : IncreasesFrom 0 (places s.globals ++ offsets rest)

-- A step that reads this tree keeps that.
pub record KeepsOrder (t : Tree) (s u : State) : Type 0 where
  pub keeps : (rest : List Token) → InOrder s (spelled t rest) → InOrder u rest

passed : (t : Tree) (s : State) (rest : List Token) → InOrder s (spelled t rest) → InOrder s rest
unfolding spelled
passed (Leaf x) s rest h = record { increases = left_out 0 (places s.globals) x.at (offsets rest) h.increases }
passed (Node p children) s rest h = passed children s rest h
passed Nil s rest h = h
passed (Cons t ts) s rest h = passed ts s rest (passed t s (spelled ts rest) h)

moved : (s u : State) (rest : List Token) → places u.globals ≡ places s.globals → InOrder s rest → InOrder u rest
moved s u rest e h = record { increases = subst (λ ns. IncreasesFrom 0 (ns ++ offsets rest)) (sym e) h.increases }

module _ {t : Tree} {s : State} where
  -- nothing of the tree is read
  pub over : KeepsOrder t s s
  over = record { keeps = λ rest h. passed t s rest h }

  -- no global is added
  pub same : {u : State} → u.globals ≡ s.globals → KeepsOrder t s u
  same e = record { keeps = λ rest h. moved s _ rest (ap places e) (passed t s rest h) }

module _ {t : Tree} {r s u v : State} where
  -- before and after it no global is added
  pub between : s.globals ≡ r.globals → KeepsOrder t s u → v.globals ≡ u.globals → KeepsOrder t r v
  between before h after = record { keeps = λ rest o. moved u v rest (ap places after) (h.keeps rest (moved r s (spelled t rest) (ap places before) o)) }

module _ {t : Tree} {s u v : State} where
  -- after it the globals stand at the same places
  pub then_same : KeepsOrder t s u → places v.globals ≡ places u.globals → KeepsOrder t s v
  then_same h e = record { keeps = λ rest o. moved u v rest e (h.keeps rest o) }

  pub then_quiet : KeepsOrder t s u → v.globals ≡ u.globals → KeepsOrder t s v
  then_quiet h e = then_same h (ap places e)

module _ {a b : Tree} {s u v : State} where
  pub in_turn : KeepsOrder a s u → KeepsOrder b u v → KeepsOrder (Cons a b) s v
  unfolding spelled
  in_turn h k = record { keeps = λ rest o. k.keeps rest (h.keeps (spelled b rest) o) }

module _ {a b : Tree} {s u : State} where
  -- nothing of the first tree is read
  pub past : KeepsOrder b s u → KeepsOrder (Cons a b) s u
  past h = in_turn {a = a} {b = b} {s = s} {u = s} {v = u} over h

module _ {p : Production} {t : Tree} {s u : State} where
  pub node : KeepsOrder t s u → KeepsOrder (Node p t) s u
  unfolding spelled
  node h = record { keeps = h.keeps }

module _ {a b c d : Tree} {s u : State} where
  -- nothing of what follows is read
  pub ended : KeepsOrder (Cons a (Cons b c)) s u → KeepsOrder (Cons a (Cons b (Cons c d))) s u
  unfolding spelled
  ended h = record { keeps = λ rest o. passed d u rest (h.keeps (spelled d rest) o) }

module _ {a b c d e f : Tree} {p : Production} {s u v : State} where
  -- some stand in one node, with others
  pub grouped : KeepsOrder (Cons a (Cons b c)) s u → KeepsOrder d u v → KeepsOrder (Cons a (Cons (Node p (Cons b (Cons c (Cons d e)))) f)) s v
  unfolding spelled
  grouped h k = record {
    keeps = λ rest o. passed f v rest (passed e v (spelled f rest) (k.keeps (spelled e (spelled f rest)) (h.keeps (spelled d (spelled e (spelled f rest))) o)));
  }

-- ---- one more global

places_added : (gs : List Global) (g : Global) (n : ℕ) (ns : List ℕ) → g.offset ≡ n → places (gs ++ g ∷ []) ++ ns ≡ places gs ++ n ∷ ns
places_added [] g n ns e = ap (λ m. m ∷ ns) e
places_added (x ∷ gs) g n ns e = ap (λ ms. x.offset ∷ ms) (places_added gs g n ns e)

-- it stands at the token
pub added : (x : Token) (g : Global) (s : State) → g.offset ≡ x.at → KeepsOrder (Leaf x) s (record s { globals = s.globals ++ g ∷ [] })
unfolding spelled
added x g s e = record { keeps = λ rest h. record { increases = subst (IncreasesFrom 0) (sym (places_added s.globals g x.at (offsets rest) e)) h.increases } }

pub changed_places : (f : Global → Global) → ((g : Global) → (f g).offset ≡ g.offset) → (k : ℕ) (gs : List Global) → places (changed f k gs) ≡ places gs
changed_places f same k [] = refl
changed_places f same zero (g ∷ gs) = ap (λ n. n ∷ places gs) (same g)
changed_places f same (suc k) (g ∷ gs) = by_found (slice_get gs k) (changed_places f same k gs)
  where
    by_found : (o : Option Global) → places (changed_by f o k gs) ≡ places gs → places (changed_by f o (suc k) (g ∷ gs)) ≡ g.offset ∷ places gs
    by_found None e = refl
    by_found (Some a) e = ap (λ ns. g.offset ∷ ns) e

-- ---- the names that are declared, and string literals, are tokens

abbrev IsToken : Tree → Type 0
IsToken (Leaf x) = Unit {0}
IsToken t = ⊥

abbrev pub Named : Tree → Type 0
Named (Node l.Text (Cons x more)) = IsToken x × Named more
Named (Node l.Decl (Cons stars (Cons x more))) = IsToken x × Named more
Named (Node l.Declared (Cons stars (Cons x more))) = IsToken x × Named more
Named (Node p children) = Named children
Named (Cons t ts) = Named t × Named ts
Named t = Unit {0}

pub named : (f : grammar.Form) (t : Tree) → grammar.Fits f t → Named t
unfolding grammar.Fits grammar.symbols_of grammar.rule
named (grammar.One c) (Node l.Text (Cons (Leaf x) more)) h = (tt, named (grammar.All (grammar.N (class.Many l.MoreLiterals) ∷ [])) more h.2.1)
named (grammar.One c) (Node l.Text (Cons x more)) h = absurd (assumption)
named (grammar.One c) (Node l.Decl (Cons stars (Cons (Leaf x) more))) h =
    (tt, named (grammar.All (grammar.N (class.Many l.OpenDimensions) ∷ grammar.N (class.Opt l.Initialiser) ∷ [])) more h.2.1.1)
named (grammar.One c) (Node l.Decl (Cons stars (Cons x more))) h = absurd (assumption)
named (grammar.One c) (Node l.Declared (Cons stars (Cons (Leaf x) more))) h = (tt, named (grammar.All (grammar.N class.AfterName ∷ [])) more h.2.1.1)
named (grammar.One c) (Node l.Declared (Cons stars (Cons x more))) h = absurd (assumption)
named (grammar.One c) (Node p children) h = named (grammar.All (grammar.symbols_of p)) children h.2
named (grammar.All []) Nil h = tt
named (grammar.All (grammar.T s ∷ ss)) (Cons (Leaf x) children) h = (tt, named (grammar.All ss) children h.1)
named (grammar.All (grammar.N c ∷ ss)) (Cons t children) h = (named (grammar.One c) t h.0, named (grammar.All ss) children h.1)
named f t h = absurd h
