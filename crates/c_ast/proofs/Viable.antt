-- Where a token is refused, what stands before it is the beginning of a tree's spelling.
use Rattle.std.specs.Prelude.{◌≡◌, ◌⊎◌, ℕ, zero, suc, Bool, true, false, List, [], ◌∷◌, ◌++◌, drop, Option, Some, None, if◌then◌else◌}
use Rattle.std.proofs.Common.{refl, sym, ap, ◌∙◌, inl, inr, subst, append_assoc}
use Rattle.c_lex.specs.declared.token.Token.{Token}
use Rattle.c_ast.specs.Nonterminals.{Nonterminal}
use Rattle.c_ast.specs.Productions.{Production}
use Rattle.c_ast.specs.Terminals.{Terminal, is}
use Rattle.c_ast.specs.Tree.{Tree, Leaf, Node, Cons}
use Rattle.c_ast.specs.Spelling.{spelled}
use Rattle.c_ast.specs.Grammar.{Symbol, T, N, One, All, Fits, symbols_of}
use Rattle.c_ast.specs.PredictSets.{head, typed, start, next}
use Rattle.c_ast.specs.Reader.{ReadResult, Read, SyntaxError, OutOfFuel, and_then, production_of, token, one, children, begun, first, later, goes_on, turns, step, read}
use Rattle.c_ast.proofs.Bridges.{start_is}
use Rattle.c_ast.proofs.Trees.{fits_node, fits_leaf, fits_cons, else_fits_other, prefix_if_else, spelled_node, spelled_cons}
use Rattle.c_ast.proofs.lemmas.Spelling.{spelled_append}
use Rattle.c_ast.proofs.Samples.{some_tree, some_fits, some_row, some_row_fits}
use Rattle.c_ast.proofs.Sound.{Sound, Got, Stands, both, parts_sound, later_fits, later_stands, begun_sound, read_sound}

-- Up to k the tokens are the beginning of the spelling of a tree.
pub record Viable (c : Nonterminal) (ts k : List Token) : Type 0 where
  pub tree : Tree
  pub before : List Token
  pub more : List Token
  pub fits : Fits (One c) tree
  pub split : ts ≡ before ++ k
  pub spells : spelled tree [] ≡ before ++ more

pub record ViableParts (symbols : List Symbol) (ts k : List Token) : Type 0 where
  pub tree : Tree
  pub before : List Token
  pub more : List Token
  pub fits : Fits (All symbols) tree
  pub split : ts ≡ before ++ k
  pub spells : spelled tree [] ≡ before ++ more

abbrev pub ViableReader : (Nonterminal → List Token → ReadResult) → Type 0
ViableReader rd = (c : Nonterminal) (ts k : List Token) → rd c ts ≡ SyntaxError k → Viable c ts k

-- where a sequence fails, its first child fails, or what comes then
pub record FailsThen (o : ReadResult) (go : Tree → List Token → ReadResult) (k : List Token) : Type 0 where
  pub tree : Tree
  pub left : List Token
  pub first_is : o ≡ Read tree left
  pub then_is : go tree left ≡ SyntaxError k

failing : (o : ReadResult) (go : Tree → List Token → ReadResult) (k : List Token) → and_then o go ≡ SyntaxError k → (o ≡ SyntaxError k) ⊎ FailsThen o go k
failing (Read u j) go k e = inr (record { tree = u; left = j; first_is = refl; then_is = e })
failing (SyntaxError j) go k e = inl e
failing OutOfFuel go k e = absurd (cc e)

not_done : (t : Tree) (j k : List Token) → Read t j ≡ SyntaxError k → ⊥
not_done t j k e = cc e

token_fails : (s : Terminal) (ts k : List Token) → token s ts ≡ SyntaxError k → ts ≡ k
unfolding token
token_fails s [] k e = cc e
token_fails s (x ∷ ts) k e = go (is s x.kind) e
  where
    go : (b : Bool) → (if b then Read (Leaf x) ts else SyntaxError (x ∷ ts)) ≡ SyntaxError k → (x ∷ ts) ≡ k
    go true h = absurd (cc h)
    go false h = cc h

-- nothing of a sequence was read
nothing_read : (symbols : List Symbol) (ts k : List Token) → ts ≡ k → ViableParts symbols ts k
nothing_read symbols ts k e =
    record { tree = some_row symbols; before = []; more = spelled (some_row symbols) []; fits = some_row_fits symbols; split = e; spells = refl }

-- the first child of a sequence was begun
first_begun : (c : Nonterminal) (symbols : List Symbol) (ts k : List Token) → Viable c ts k → ViableParts (N c ∷ symbols) ts k
first_begun c symbols ts k v =
    record {
      tree = Cons v.tree (some_row symbols);
      before = v.before;
      more = v.more ++ spelled (some_row symbols) [];
      fits = fits_cons c symbols v.tree (some_row symbols) v.fits (some_row_fits symbols);
      split = v.split;
      spells = spelled_cons v.tree (some_row symbols) [] ∙ spelled_append v.tree (spelled (some_row symbols) []) ∙ ap (λ z. z ++ spelled (some_row symbols) []) v.spells
          ∙ append_assoc v.before v.more (spelled (some_row symbols) []);
    }

-- the first child of a sequence was read, and the others begun
first_read : (s : Symbol) (symbols : List Symbol) (ts : List Token) (t : Tree) (j k : List Token) → ts ≡ spelled t j → ((f : Tree) → Fits (All symbols) f → Fits (All (s ∷ symbols)) (Cons t f)) →
    ViableParts symbols j k → ViableParts (s ∷ symbols) ts k
first_read s symbols ts t j k e fits v =
    record {
      tree = Cons t v.tree;
      before = spelled t [] ++ v.before;
      more = v.more;
      fits = fits v.tree v.fits;
      split = e ∙ spelled_append t j ∙ ap (λ z. spelled t [] ++ z) v.split ∙ sym (append_assoc (spelled t []) v.before k);
      spells = spelled_cons t v.tree [] ∙ spelled_append t (spelled v.tree []) ∙ ap (λ z. spelled t [] ++ z) v.spells ∙ sym (append_assoc (spelled t []) v.before v.more);
    }

pub token_done : (s : Terminal) (ts : List Token) (t : Tree) (k : List Token) → token s ts ≡ Read t k → (x : Token) × (is s x.kind ≡ true) × (t ≡ Leaf x) × (ts ≡ x ∷ k)
unfolding token
token_done s [] t k e = absurd (cc e)
token_done s (x ∷ ts) t k e = go (is s x.kind) refl e
  where
    go : (b : Bool) → is s x.kind ≡ b → (if b then Read (Leaf x) ts else SyntaxError (x ∷ ts)) ≡ Read t k → (y : Token) × (is s y.kind ≡ true) × (t ≡ Leaf y) × ((x ∷ ts) ≡ y ∷ k)
    go true i h = let same : ts ≡ k = cc h in (x, i, cc h, ap (λ z. x ∷ z) same)
    go false i h = absurd (cc h)

token_read : (s : Terminal) (symbols : List Symbol) (ts : List Token) (t : Tree) (j k : List Token) → token s ts ≡ Read t j → ViableParts symbols j k → ViableParts (T s ∷ symbols) ts k
unfolding spelled
token_read s symbols ts t j k e v =
    let d = token_done s ts t j e in
    first_read (T s) symbols ts t j k (subst (λ (u : Tree). ts ≡ spelled u j) (sym d.2) d.3) (λ f h. subst (λ (u : Tree). Fits (All (T s ∷
    symbols)) (Cons u f)) (sym d.2) (fits_leaf s symbols d.0 f d.1 h)) v

pub parts_viable : (rd : Nonterminal → List Token → ReadResult) → Sound rd → ViableReader rd → (symbols : List Symbol) (ts k : List Token) → children rd symbols ts ≡ SyntaxError k →
    ViableParts symbols ts k
unfolding children one
parts_viable rd sound viable [] ts k e = absurd (cc e)
parts_viable rd sound viable (T s ∷ symbols) ts k e =
    go (failing (token s ts) (λ t k. and_then (children rd symbols k) (λ f j. Read (Cons t f) j)) k e) (parts_viable rd sound viable symbols)
  where
    go : (token s ts ≡ SyntaxError k) ⊎ FailsThen (token s ts) (λ t k. and_then (children rd symbols k) (λ f j. Read (Cons t f) j)) k → ((ts k : List Token) →
        children rd symbols ts ≡ SyntaxError k → ViableParts symbols ts k) → ViableParts (T s ∷ symbols) ts k
    go (inl h) again = nothing_read (T s ∷ symbols) ts k (token_fails s ts k h)
    go (inr h) again = inside (failing (children rd symbols h.left) (λ f j. Read (Cons h.tree f) j) k h.then_is)
      where
        inside : (children rd symbols h.left ≡ SyntaxError k) ⊎ FailsThen (children rd symbols h.left) (λ f j. Read (Cons h.tree f) j) k → ViableParts (T s ∷ symbols) ts k
        inside (inl g) = token_read s symbols ts h.tree h.left k h.first_is (again h.left k g)
        inside (inr g) = absurd (not_done (Cons h.tree g.tree) g.left k g.then_is)
parts_viable rd sound viable (N c ∷ symbols) ts k e =
    go (failing (rd c ts) (λ t k. and_then (children rd symbols k) (λ f j. Read (Cons t f) j)) k e) (parts_viable rd sound viable symbols)
  where
    go : (rd c ts ≡ SyntaxError k) ⊎ FailsThen (rd c ts) (λ t k. and_then (children rd symbols k) (λ f j. Read (Cons t f) j)) k → ((ts k : List Token) → children rd symbols ts ≡ SyntaxError k →
        ViableParts symbols ts k) → ViableParts (N c ∷ symbols) ts k
    go (inl h) again = first_begun c symbols ts k (viable c ts k h)
    go (inr h) again = inside (failing (children rd symbols h.left) (λ f j. Read (Cons h.tree f) j) k h.then_is) (sound c ts h.tree h.left h.first_is)
      where
        inside : (children rd symbols h.left ≡ SyntaxError k) ⊎ FailsThen (children rd symbols h.left) (λ f j. Read (Cons h.tree f) j) k → Got c ts h.tree h.left → ViableParts (N c ∷ symbols) ts k
        inside (inl g) s = first_read (N c) symbols ts h.tree h.left k s.spells (λ f i. fits_cons c symbols h.tree f s.fits i) (again h.left k g)
        inside (inr g) s = absurd (not_done (Cons h.tree g.tree) g.left k g.then_is)

-- ---- beginning

begun_viable : (rd : Nonterminal → List Token → ReadResult) → Sound rd → ViableReader rd → (c : Nonterminal) (ts k : List Token) (o : Option Production) → start c (head ts) (typed ts) ≡ o →
    begun rd o ts ≡ SyntaxError k → Viable c ts k
unfolding begun
begun_viable rd sound viable c ts k None e h =
    record { tree = some_tree c; before = []; more = spelled (some_tree c) []; fits = some_fits c; split = cc h; spells = refl }
begun_viable rd sound viable c ts k (Some l) e h = go (failing (children rd (symbols_of l) ts) (λ f k. Read (Node l f) k) k h)
  where
    go : (children rd (symbols_of l) ts ≡ SyntaxError k) ⊎ FailsThen (children rd (symbols_of l) ts) (λ f k. Read (Node l f) k) k → Viable c ts k
    go (inl g) =
        let v = parts_viable rd sound viable (symbols_of l) ts k g in
        let s = start_is c (head ts) (typed ts) l e in
        record {
          tree = Node l v.tree;
          before = v.before;
          more = v.more;
          fits = fits_node c l v.tree s.0 (else_fits_other l v.tree (prefix_if_else l s.1)) v.fits;
          split = v.split;
          spells = spelled_node l v.tree [] ∙ v.spells;
        }
    go (inr g) = absurd (not_done (Node l g.tree) g.left k g.then_is)

-- ---- going on

abbrev pub ViableTurns : (Nonterminal → List Token → ReadResult) → ℕ → Nonterminal → List Token → Type 0
ViableTurns rd n c k =
    (l : Production) (f : Tree) (ts : List Token) → Stands c l f ts → turns rd n c (Node l f) ts ≡ SyntaxError k → Viable c (spelled f ts) k

later_viable : (c : Nonterminal) (l m : Production) (f : Tree) (ts k : List Token) → Stands c l f ts → next c l (head ts) ≡ Some m → ViableParts (drop 1 (symbols_of m)) ts k →
    Viable c (spelled f ts) k
later_viable c l m f ts k s e v =
    record {
      tree = Node m (Cons (Node l f) v.tree);
      before = spelled f [] ++ v.before;
      more = v.more;
      fits = later_fits c l m f v.tree ts s e v.fits;
      split = spelled_append f ts ∙ ap (λ z. spelled f [] ++ z) v.split ∙ sym (append_assoc (spelled f []) v.before k);
      spells = spelled_node m (Cons (Node l f) v.tree) [] ∙ spelled_cons (Node l f) v.tree [] ∙ spelled_node l f (spelled v.tree []) ∙ spelled_append f (spelled v.tree [])
          ∙ ap (λ z. spelled f [] ++ z) v.spells ∙ sym (append_assoc (spelled f []) v.before v.more);
    }

goes_on_viable : (rd : Nonterminal → List Token → ReadResult) → Sound rd → ViableReader rd → (n : ℕ) (c : Nonterminal) (k : List Token) → ViableTurns rd n c k →
    (l : Production) (f : Tree) (ts : List Token) → Stands c l f ts → (o : Option Production) → next c l (head ts) ≡ o → goes_on rd o (Node l f) ts (turns rd n c) ≡ SyntaxError k →
    Viable c (spelled f ts) k
unfolding goes_on later
goes_on_viable rd sound viable n c k again l f ts s None e h = absurd (not_done (Node l f) ts k h)
goes_on_viable rd sound viable n c k again l f ts s (Some m) e h = go (failing (later rd m (Node l f) ts) (turns rd n c) k h)
  where
    go : (later rd m (Node l f) ts ≡ SyntaxError k) ⊎ FailsThen (later rd m (Node l f) ts) (turns rd n c) k → Viable c (spelled f ts) k
    go (inr g) =
        let d = both (children rd (drop 1 (symbols_of m)) ts) (λ g j. Read (Node m (Cons (Node l f) g)) j) g.tree g.left g.first_is in
        let p = parts_sound rd sound (drop 1 (symbols_of m)) ts d.tree d.left d.first_is in
        let i : turns rd n c (Node m (Cons (Node l f) d.tree)) d.left ≡ SyntaxError k = ap (λ (o : ReadResult). and_then o (turns rd n c)) d.then_is ∙ g.then_is in
        let v = again m (Cons (Node l f) d.tree) d.left (later_stands c l m f d.tree ts d.left s e p) i in
        subst (λ (us : List Token). Viable c us k) (spelled_cons (Node l f) d.tree d.left ∙ spelled_node l f (spelled d.tree d.left) ∙ ap (spelled f) (sym p.spells)) v
    go (inl g) = inside (failing (children rd (drop 1 (symbols_of m)) ts) (λ g j. Read (Node m (Cons (Node l f) g)) j) k g)
      where
        inside : (children rd (drop 1 (symbols_of m)) ts ≡ SyntaxError k) ⊎ FailsThen (children rd (drop 1 (symbols_of m)) ts) (λ g j. Read (Node m (Cons (Node l f) g)) j) k →
            Viable c (spelled f ts) k
        inside (inl i) = later_viable c l m f ts k s e (parts_viable rd sound viable (drop 1 (symbols_of m)) ts k i)
        inside (inr i) = absurd (not_done (Node m (Cons (Node l f) i.tree)) i.left k i.then_is)

turns_viable : (rd : Nonterminal → List Token → ReadResult) → Sound rd → ViableReader rd → (n : ℕ) (c : Nonterminal) (k : List Token) → ViableTurns rd n c k
unfolding turns production_of
turns_viable rd sound viable zero c k l f ts s e = absurd (cc e)
turns_viable rd sound viable (suc n) c k l f ts s e =
    goes_on_viable rd sound viable n c k (turns_viable rd sound viable n c k) l f ts s (next c l (head ts)) refl e

step_viable : (rd : Nonterminal → List Token → ReadResult) → Sound rd → ViableReader rd → (n : ℕ) (c : Nonterminal) (ts k : List Token) → step n rd c ts ≡ SyntaxError k → Viable c ts k
unfolding step first
step_viable rd sound viable n c ts k e = go (failing (first rd c ts) (turns rd (suc n) c) k e)
  where
    go : (first rd c ts ≡ SyntaxError k) ⊎ FailsThen (first rd c ts) (turns rd (suc n) c) k → Viable c ts k
    go (inl h) = begun_viable rd sound viable c ts k (start c (head ts) (typed ts)) refl h
    go (inr h) =
        let d = begun_sound rd sound c ts h.tree h.left (start c (head ts) (typed ts)) refl h.first_is in
        let i : turns rd (suc n) c (Node d.production d.children) h.left ≡ SyntaxError k = ap (λ (u : Tree). turns rd (suc n) c u h.left) d.is ∙ h.then_is in
        subst (λ (us : List Token). Viable c us k) (sym d.spells) (turns_viable rd sound viable (suc n) c k d.production d.children h.left d.stands i)

-- What stands before a refused token is the beginning of the spelling of a tree of the nonterminal.
pub read_viable : (n : ℕ) → ViableReader (read n)
unfolding read
read_viable zero c ts k e = absurd (cc e)
read_viable (suc n) c ts k e = step_viable (read n) (read_sound n) (read_viable n) n c ts k e
